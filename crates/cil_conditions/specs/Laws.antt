-- Laws of conditions.
use Rattle.std.specs.Prelude.{◌≡◌, ◌↔◌, ℕ, Bool, true, List, Option}
use Rattle.cil_syntax.specs.Scopes.{ScopedWord}
use Rattle.cil_syntax.specs.Terms.{Term}
use Rattle.cil_known.specs.blocks.Contents.{Branch as SaidBranch}
use Rattle.cil_known.specs.macros.Item.{Item, OptSet}
use Rattle.cil_conditions.specs.declared.branch.Branch.{Branch}
use Rattle.cil_conditions.specs.declared.token.Token.{Token}
use Rattle.cil_conditions.specs.Active.{is_active}
use Rattle.cil_conditions.specs.Conditions.{HasTruth, IsChosen, IsSaid, NamesBooleans, Settings}
use Rattle.cil_conditions.specs.Spelled.{AreAllNumbered, AreSameSettings, HasOneNumber, IsBranchOf, Spells}
use Rattle.cil_conditions.specs.Truth.{truth}

-- a law: a condition has the value of the tokens that spell it
abbrev pub HasSpelledTruth : Type 0
HasSpelledTruth = (xs : List Item) (s : OptSet) (v : Settings) (booleans : List (List ℕ)) (on : ℕ → Bool) → AreSameSettings booleans on v
    → (t : Term ScopedWord) (ts : List Token) → Spells xs s booleans t ts → HasTruth xs s v t (truth on ts)

-- a law: a condition has one value
abbrev pub HasOneTruth : Type 0
HasOneTruth = (xs : List Item) (s : OptSet) (v : Settings) (t : Term ScopedWord) (a b : Bool) → HasTruth xs s v t a → HasTruth xs s v t b → a ≡ b

-- a law: a branch of a table is active where that of its statement is chosen
abbrev pub BranchesAgree : Type 0
BranchesAgree = (xs : List Item) (s : OptSet) (v : Settings) (booleans : List (List ℕ)) (on : ℕ → Bool) → AreSameSettings booleans on v
    → (k : Option SaidBranch) (r : Option Branch) → IsBranchOf xs s booleans k r → (is_active on r ≡ true) ↔ IsChosen xs s v k

-- a law: where each name has one number, a statement has one branch in a table
abbrev pub HasOneSpelling : Type 0
HasOneSpelling = (xs : List Item) (s : OptSet) (booleans : List (List ℕ)) → HasOneNumber booleans
    → (k : Option SaidBranch) (r q : Option Branch) → IsBranchOf xs s booleans k r → IsBranchOf xs s booleans k q → r ≡ q

-- a law: where each boolean has a number, a condition that names booleans is spelled by some tokens
abbrev pub SaidIsSpelled : Type 0
SaidIsSpelled = (xs : List Item) (s : OptSet) (booleans : List (List ℕ)) → AreAllNumbered xs s booleans
    → (t : Term ScopedWord) → NamesBooleans xs s t → (ts : List Token) × Spells xs s booleans t ts

-- a law: and tokens spell nothing else
abbrev pub SpelledIsSaid : Type 0
SpelledIsSaid = (xs : List Item) (s : OptSet) (booleans : List (List ℕ)) (t : Term ScopedWord) (ts : List Token) → Spells xs s booleans t ts → NamesBooleans xs s t

-- a law: what is chosen has a condition that names booleans
abbrev pub ChosenIsSaid : Type 0
ChosenIsSaid = (xs : List Item) (s : OptSet) (v : Settings) (k : Option SaidBranch) → IsChosen xs s v k → IsSaid xs s k
