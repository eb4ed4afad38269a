-- Laws of what calls bring.
use Rattle.std.specs.Prelude.{◌≡◌, ℕ, false, List, [], map, Contains, Some}
use Rattle.std.specs.List.Sorted.{IsStrictlySortedBy}
use Rattle.cil_base.specs.Lists.{Lists}
use Rattle.cil_syntax.specs.sexpr.Tree.{Node}
use Rattle.cil_syntax.specs.declared.program.Statement.{Statement}
use Rattle.cil_syntax.specs.declared.kind.Sign.TheVariants as signs
use Rattle.cil_syntax.specs.declared.term.Word.{Word}
use Rattle.cil_syntax.specs.Program.{IsNested, program_of}
use Rattle.cil_syntax.specs.Scopes.{ScopedWord}
use Rattle.cil_syntax.specs.Shapes.{Inner, unread}
use Rattle.cil_syntax.specs.Readings.{cell_of}
use Rattle.cil_syntax.specs.Slices.{AreWritten, EachText, EachTextIn}
use Rattle.cil_syntax.specs.Terms.{Term, Terms}
use Rattle.cil_faults.specs.Laws.{Outcome}
use Rattle.cil_syntax.specs.Written.{IsWritten, Written, is_macro, parameters_of, written_cmp}
use Rattle.cil_blocks.specs.Contents.{Standing, Stands, path_of, standing_cmp}
use Rattle.cil_blocks.specs.Laws.{HasNoFault}
use Rattle.cil_macros.specs.Calls.{IsPlaced, placed_cmp}
use Rattle.cil_macros.specs.ExpandFaults.{ExpandStep}
use Rattle.cil_macros.specs.Parameters.{cell_in, macro_parameters}
use Rattle.cil_macros.specs.Placed.{Placed, meaning, scope_of}

-- a law: a statement is placed once through each chain of blockinherits and calls
abbrev pub HaveOneInstance : Type 0
HaveOneInstance =
    (ss : List Statement) (standings : List Standing) → IsNested ss → HasNoFault (program_of ss)
    → ((s : Standing) → Contains standings s → Stands (program_of ss) s)
    → (p q : Placed) → IsPlaced (program_of ss) standings p → IsPlaced (program_of ss) standings q → path_of p.standing ≡ path_of q.standing → p ≡ q

-- a law: an argument of a call is kept whole. Whatever it is read as later, it reads as the node does from which it came
abbrev pub AreKept : Type 0
AreKept =
    (m : ℕ) (n : Node) (t : Term Word) (faults : List Inner) → (cell_of m n).read unread ≡ Some record { value = t; faults = faults }
    → (cell_in t ≡ cell_of m n) × (faults ≡ [])

-- a law: the parameters of a macro with their kinds are those whose names are compared where the macro is read
abbrev pub HaveTheirNames : Type 0
HaveTheirNames = (args : Terms Word) → map (λ p. p.name) (macro_parameters args) ≡ parameters_of args

-- a law: a word that names a macro is looked up in the scope of its place, in a body too, since no macro is in a body
abbrev pub HaveMacrosOfTheirPlace : Type 0
HaveMacrosOfTheirPlace =
    (ss : List Statement) (p : Placed) (w : Word) → IsNested ss → w.sign ≡ signs.Macros → scope_of (program_of ss) p w ≡ p.standing.scope

-- a law: in a policy without macros what stands is all that is placed, or there are too many statements
abbrev pub HaveFlatInstances : Type 0
HaveFlatInstances =
    (ws : List Written) (ss : List Standing) → IsStrictlySortedBy written_cmp ws → Lists standing_cmp (Stands ws) ss
    → ((w : Written) → Contains ws w → is_macro w.statement.keyword ≡ false) → Outcome (Lists placed_cmp (IsPlaced ws ss)) (ExpandStep ws ss)

-- a law: what a word of a placed statement means is made of words, names and strings that are written so in the modules
abbrev pub HaveWordsOfTexts : Type 0
HaveWordsOfTexts =
    (modules : List (List ℕ)) (ws : List Written) (ss : List Standing)
    → ((w : Written) → Contains ws w → IsWritten modules w) → ((s : Standing) → Contains ss s → Stands ws s)
    → (p : Placed) → IsPlaced ws ss p
    → EachTextIn (λ (w : Word). EachText (λ (v : ScopedWord). AreWritten modules v.at v.bytes) (AreWritten modules) (meaning ws p w)) (AreWritten modules)
    p.standing.statement.statement.args
