-- What the walk over the term of a constraint makes. No other crate needs these words.
use Rattle.std.specs.Prelude.{◌≡◌, ◌⊎◌, ◌↔◌, ◌≤◌, ℕ, false, Bool, true, List, [], ◌∷◌, ◌++◌, drop, length, map, take, Contains, Option, Some, None}
use Rattle.std.specs.Ordering.{nat_cmp}
use Rattle.std.specs.List.Sorted.{IsStrictlySortedBy}
use Rattle.cil_base.specs.Lists.{Lists}
use Rattle.cil_syntax.specs.declared.kind.Kind.{Kind}
use Rattle.cil_syntax.specs.declared.term.Op.{Op}
use Rattle.cil_syntax.specs.declared.term.Op.TheVariants as ops
use Rattle.cil_syntax.specs.declared.term.Term as rust
use Rattle.cil_syntax.specs.declared.term.Word.{Word}
use Rattle.cil_syntax.specs.Depths.{AllNest, below}
use Rattle.cil_syntax.specs.Forms.{is_class_list}
use Rattle.cil_syntax.specs.Said.{all_said, said_of}
use Rattle.cil_syntax.specs.Scopes.{ScopedWord}
use Rattle.cil_macros.specs.Item.{Item}
use Rattle.cil_classes.specs.names.Resolves.{all_wanted_in}
use Rattle.cil_classes.specs.names.Unresolved.{term_with, terms_with}
use Rattle.cil_classes.specs.known.DeclaredKnown.{Known}
use Rattle.cil_classes.specs.known.Known.{AreStanding, BeginWith, IsKnown, enabled_in, value_in, wanted_with}
use Rattle.cil_constraints.specs.declared.joins.Joins.{Joins}
use Rattle.cil_constraints.specs.declared.push.Standing.{Standing}
use Rattle.cil_constraints.specs.declared.step.Part.{Part}
use Rattle.cil_constraints.specs.declared.step.Side.{Side}
use Rattle.cil_constraints.specs.declared.step.Equality.{Equality}
use Rattle.cil_constraints.specs.declared.step.Relation.{Relation}
use Rattle.cil_constraints.specs.declared.step.Step.{Step}
use Rattle.cil_constraints.specs.declared.step.Step.TheVariants as steps
use Rattle.cil_constraints.specs.declared.variable.Variable.{Variable}
use Rattle.cil_constraints.specs.Numbered.{HasNumberAmong}
use Rattle.cil_constraints.specs.Pushed.{IsNothing, IsPut}
use Rattle.cil_constraints.specs.Contexts.{kind_of}
use Rattle.cil_constraints.specs.Expressions.{Expression}
use Rattle.cil_constraints.specs.Joins.{joined_by, joined_or, joins_of}
use Rattle.cil_constraints.specs.Saying.{all_said as all_asked, compared, leaf_of, leaves, listed, variable_in, with_operand, words_compared}

-- ---- sets of words

-- the members of a set were added to those of another: they rise if these did
pub record IsUnited (more : ℕ → Type 0) (old new : List ℕ) : Type 0 where
  pub rising : IsStrictlySortedBy nat_cmp old → IsStrictlySortedBy nat_cmp new
  pub members : (n : ℕ) → Contains new n ↔ (Contains old n ⊎ more n)

-- the values of what some terms ask for
abbrev pub all_meant : Known → (Word → ScopedWord) → ℕ → List rust.Term → List (Option ℕ)
all_meant k f m ts = map (value_in k) (all_wanted_in (terms_with f m ts))

-- the meanings begin with those of what some terms ask for
pub record AllBeginWith (k : Known) (f : Word → ScopedWord) (m : ℕ) (ts : List rust.Term) (words : List (Option ℕ)) : Type 0 where
  pub more : List (Option ℕ)
  pub are : words ≡ all_meant k f m ts ++ more

-- what is told of numbers, where these sets are those of the words of users, of roles or of types
abbrev pub ForSets : List (List ℕ) → (Known → (Word → ScopedWord) → Type 0) → ((Word → ScopedWord) → List ScopedWord) → List ℕ → List ℕ → Type 0
ForSets sets Begin listed_by old new =
    (k : Known) (xs : List Item) (names : Kind → List (List ℕ)) (part : Part) (f : Word → ScopedWord) → IsKnown k xs names → AreStanding k xs names (kind_of part) sets → Begin k f
    → IsUnited (HasNumberAmong xs (enabled_in k) names part (listed_by f)) old new

-- the numbers of a word were added, and nothing of another term
pub record IsWordAdded (sets : List (List ℕ)) (m : ℕ) (t : rust.Term) (words rest : List (Option ℕ)) (old new : List ℕ) : Type 0 where
  pub left : (f : Word → ScopedWord) → rest ≡ drop (length (wanted_with f (said_of m t))) words
  pub united : ForSets sets (λ k f. BeginWith k f (said_of m t) words) (λ f. leaf_of (term_with f m t)) old new

-- the numbers of the words that stand directly in some terms were added
abbrev pub AreWordsAdded : List (List ℕ) → ℕ → List rust.Term → List (Option ℕ) → List ℕ → List ℕ → Type 0
AreWordsAdded sets m ts words old new = ForSets sets (λ k f. AllBeginWith k f m ts words) (λ f. leaves (terms_with f m ts)) old new

-- what is there after the first i of them
pub record AreAddedUpTo (sets : List (List ℕ)) (m : ℕ) (ts : List rust.Term) (words rest : List (Option ℕ)) (i : ℕ) (old now : List ℕ) : Type 0 where
  pub begins : (k : Known) (f : Word → ScopedWord) → AllBeginWith k f m ts words → AllBeginWith k f m (drop i ts) rest
  pub united : ForSets sets (λ k f. AllBeginWith k f m ts words) (λ f. leaves (terms_with f m (take i ts))) old now

-- the numbers of the words of an operand were added
abbrev pub AreListedAdded : List (List ℕ) → ℕ → rust.Term → List (Option ℕ) → List ℕ → List ℕ → Type 0
AreListedAdded sets m t words old new =
    (ws : List ScopedWord) (f : Word → ScopedWord) → listed (term_with f m t) ≡ Some ws → (k : Known) (xs : List Item) (names : Kind → List (List ℕ)) (part : Part) → IsKnown k xs names
    → AreStanding k xs names (kind_of part) sets → BeginWith k f (said_of m t) words → IsUnited (HasNumberAmong xs (enabled_in k) names part ws) old new

-- the numbers of the words of an operand are those of a set
abbrev pub IsSetOf : List (List ℕ) → ℕ → rust.Term → List (Option ℕ) → List ℕ → Type 0
IsSetOf sets m t words set =
    (ws : List ScopedWord) (f : Word → ScopedWord) → listed (term_with f m t) ≡ Some ws → (k : Known) (xs : List Item) (names : Kind → List (List ℕ)) (part : Part) → IsKnown k xs names
    → AreStanding k xs names (kind_of part) sets → BeginWith k f (said_of m t) words → Lists nat_cmp (HasNumberAmong xs (enabled_in k) names part ws) set

-- ---- forms

-- of an operator and its operands
abbrev pub form_asked : Op → ℕ → List rust.Term → (Word → ScopedWord) → Option (Expression (List ScopedWord))
form_asked op m ts f = joined_or (joins_of op) (all_asked (terms_with f m ts)) (compared op (terms_with f m ts))

abbrev pub IsFormUnsaid : ℕ → Op → List rust.Term → Type 0
IsFormUnsaid m op ts = IsNothing (form_asked op m ts)

pub record IsFormAdded (sets : Standing) (m : ℕ) (op : Op) (ts : List rust.Term) (words rest : List (Option ℕ)) (old new : List Step) : Type 0 where
  pub plain : is_class_list op ≡ false
  pub put : IsPut sets (λ k f. AllBeginWith k f m ts words) (λ most. AllNest (below op most) (all_said m ts)) (form_asked op m ts) old new
  pub left : (f : Word → ScopedWord) → rest ≡ drop (length (all_wanted_in (terms_with f m ts))) words

-- of operands that are joined: they may nest one less deep than what joins them, as those of any operator
abbrev pub NestUnder : ℕ → List rust.Term → ℕ → Type 0
NestUnder m ts most = AllNest (below ops.Not most) (all_said m ts)

abbrev pub joined_asked : Joins → ℕ → List rust.Term → (Word → ScopedWord) → Option (Expression (List ScopedWord))
joined_asked joins m ts f = joined_by joins (all_asked (terms_with f m ts))

abbrev pub IsJoinedUnsaid : ℕ → Joins → List rust.Term → Type 0
IsJoinedUnsaid m joins ts = IsNothing (joined_asked joins m ts)

pub record IsJoinedAdded (sets : Standing) (m : ℕ) (joins : Joins) (ts : List rust.Term) (words rest : List (Option ℕ)) (old new : List Step) : Type 0 where
  pub put : IsPut sets (λ k f. AllBeginWith k f m ts words) (NestUnder m ts) (joined_asked joins m ts) old new
  pub left : (f : Word → ScopedWord) → rest ≡ drop (length (all_wanted_in (terms_with f m ts))) words

-- of a comparison
abbrev pub test_asked : Op → ℕ → List rust.Term → (Word → ScopedWord) → Option (Expression (List ScopedWord))
test_asked op m ts f = compared op (terms_with f m ts)

abbrev pub IsTestUnsaid : ℕ → Op → List rust.Term → Type 0
IsTestUnsaid m op ts = IsNothing (test_asked op m ts)

pub record IsTestAdded (sets : Standing) (m : ℕ) (op : Op) (ts : List rust.Term) (words rest : List (Option ℕ)) (old new : List Step) : Type 0 where
  pub plain : is_class_list op ≡ false
  pub put : IsPut sets (λ k f. AllBeginWith k f m ts words) (λ most. AllNest (below op most) (all_said m ts)) (test_asked op m ts) old new
  pub left : (f : Word → ScopedWord) → rest ≡ drop (length (all_wanted_in (terms_with f m ts))) words

-- whether something was put, or nothing is asked for
abbrev pub IsPutIf : Bool → Standing → (Known → (Word → ScopedWord) → Type 0) → ((Word → ScopedWord) → Option (Expression (List ScopedWord))) → List Step → List Step → Type 0
IsPutIf true sets Begin asks old new = IsPut sets Begin (λ most. 1 ≤ most) asks old new
IsPutIf false sets Begin asks old new = IsNothing asks

-- of the second operand of a comparison
abbrev pub operand_asked : Relation → Variable → ℕ → rust.Term → (Word → ScopedWord) → Option (Expression (List ScopedWord))
operand_asked relation v m t f = with_operand relation v (listed (term_with f m t)) (variable_in (term_with f m t))

-- of words
abbrev pub words_there : Relation → Variable → Option (List ScopedWord) → Option (Expression (List ScopedWord))
words_there relation v None = None
words_there relation v (Some words) = words_compared relation v words

-- of a part and a set, whose words are these
pub record IsInsidePut (sets : List (List ℕ)) (part : Part) (side : Side) (equality : Equality) (m : ℕ) (t : rust.Term) (words : List (Option ℕ)) (old new : List Step) : Type 0 where
  pub set : List ℕ
  pub behind : new ≡ old ++ steps.Inside part side equality set ∷ []
  pub is_set : IsSetOf sets m t words set
