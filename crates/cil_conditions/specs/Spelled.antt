-- Which tokens a condition has, by the section that numbers booleans. This project's profile.
use Rattle.std.specs.Prelude.{◌≡◌, ℕ, Bool, true, false, List, [], ◌∷◌, ◌++◌, Option, Some, None, slice_get}
use Rattle.cil_syntax.specs.declared.kind.Kind.TheVariants as kinds
use Rattle.cil_syntax.specs.declared.term.Op.{Op}
use Rattle.cil_syntax.specs.Scopes.{ScopedWord}
use Rattle.cil_syntax.specs.Terms.{Term, Leaf, Name, Form, Terms, nil, cons}
use Rattle.cil_known.specs.blocks.Contents.{Branch as SaidBranch}
use Rattle.cil_known.specs.macros.Item.{Item, OptSet}
use Rattle.cil_known.specs.names.Declarations.{Declared, Symbol, name_of}
use Rattle.cil_known.specs.Known.{IsNumbered}
use Rattle.cil_known.specs.Members.{StandsFor}
use Rattle.cil_conditions.specs.declared.branch.Branch.{Branch}
use Rattle.cil_conditions.specs.declared.token.Token.{Token}
use Rattle.cil_conditions.specs.declared.token.Token.TheVariants as tokens
use Rattle.cil_conditions.specs.Conditions.{Settings, op_of, turns}

-- a `not` in front of what it turns; a list of one expression leaves no trace
abbrev pub with_turn : Bool → List Token → List Token
with_turn true ts = tokens.Not ∷ ts
with_turn false ts = ts

module _ (xs : List Item) (s : OptSet) (booleans : List (List ℕ)) where
  abbrev mutual
    -- the tokens spell the condition
    pub Spells : Term ScopedWord → List Token → Type 0
    Spells (Leaf w) ts = (n : ℕ) × (b : Symbol) × StandsFor xs s kinds.Boolean w b × IsNumbered booleans b n × (ts ≡ tokens.Boolean n ∷ [])
    Spells (Name at name) ts = ⊥
    Spells (Form at op parts) ts = SpellsForm op parts ts

    pub SpellsForm : Op → Terms ScopedWord → List Token → Type 0
    SpellsForm op nil ts = ⊥
    SpellsForm op (cons a nil) ts = (turn : Bool) × (inner : List Token) × (turns op ≡ Some turn) × Spells a inner × (ts ≡ with_turn turn inner)
    SpellsForm op (cons a (cons b nil)) ts =
        (t : Token) × (first second : List Token) × (op_of t ≡ Some op) × Spells a first × Spells b second × (ts ≡ t ∷ (first ++ second))
    SpellsForm op (cons a (cons b (cons c more))) ts = ⊥

  -- the branch of a table is that of a statement
  abbrev pub IsBranchOf : Option SaidBranch → Option Branch → Type 0
  IsBranchOf None None = Unit {0}
  IsBranchOf None (Some r) = ⊥
  IsBranchOf (Some b) None = ⊥
  IsBranchOf (Some b) (Some r) = Spells b.0 r.condition × (r.value ≡ b.1)

-- each number has the setting of the boolean that it numbers
abbrev pub AreSameSettings : List (List ℕ) → (ℕ → Bool) → Settings → Type 0
AreSameSettings booleans on v = (n : ℕ) (b : Symbol) → IsNumbered booleans b n → on n ≡ v (name_of b)

-- a name has one number
abbrev pub HasOneNumber : List (List ℕ) → Type 0
HasOneNumber names = (n m : ℕ) (name : List ℕ) → slice_get names n ≡ Some name → slice_get names m ≡ Some name → n ≡ m

-- each declared boolean has a number
abbrev pub AreAllNumbered : List Item → OptSet → List (List ℕ) → Type 0
AreAllNumbered xs s booleans = (b : Symbol) → Declared xs s kinds.Boolean b → (n : ℕ) × IsNumbered booleans b n
