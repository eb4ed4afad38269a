-- Laws of optionals: a larger set resolves more, so there is one greatest set, and modules have one policy.
use Rattle.std.specs.Prelude.{◌≡◌, ℕ, true, false, List, Contains}
use Rattle.cil_blocks.specs.Contents.{is_optional}
use Rattle.cil_macros.specs.Item.{Item, OptSet, nobody}
use Rattle.cil_names.specs.Resolves.{Wanted, is_judged, resolves}
use Rattle.cil_optionals.specs.declared.reason.Reason.{Reason}
use Rattle.cil_optionals.specs.declared.reason.Reason.TheVariants.{Missing}
use Rattle.cil_optionals.specs.Certificate.{Holds, IsRight, all_but, left_out}
use Rattle.cil_optionals.specs.First.{IsFirst}
use Rattle.cil_optionals.specs.Greatest.{IsGood, IsGreatest, LiesIn, OwnWord}
use Rattle.cil_optionals.specs.Policy.{ArePolicy}

-- a law: what resolves goes on to resolve where more optionals are in
abbrev pub KeepsResolving : Type 0
KeepsResolving = (xs : List Item) (s t : OptSet) (w : Wanted) → LiesIn s t → resolves xs s w ≡ true → resolves xs t w ≡ true

-- a law: the union of all good sets is good
abbrev pub UnionIsGood : Type 0
UnionIsGood = (xs : List Item) (g : OptSet) → IsGreatest xs g → IsGood xs g

-- a law: the enabled set of a right choice is the greatest
abbrev pub RightIsGreatest : Type 0
RightIsGreatest = (xs : List Item) (enabled : OptSet) (reasons : List Reason) → IsRight xs enabled reasons → IsGreatest xs enabled

-- a law: there is one greatest set
abbrev pub HasOneGreatest : Type 0
HasOneGreatest = (xs : List Item) (g h : OptSet) → IsGreatest xs g → IsGreatest xs h → g ≡ h

-- a law: modules have one policy
abbrev pub HasOnePolicy : Type 0
HasOnePolicy =
    (modules : List (List ℕ)) (xs ys : List Item) (s t : OptSet) → ArePolicy modules xs s → ArePolicy modules ys t → (xs ≡ ys) × (s ≡ t)

-- a law: where no statement is an optional, the greatest set is the empty one
abbrev pub FlatIsGreatest : Type 0
FlatIsGreatest = (xs : List Item) → ((x : Item) → Contains xs x → is_optional x.keyword ≡ false) → IsGreatest xs nobody

-- a law: an optional has one first reason, where the same are out
abbrev pub HasOneFirst : Type 0
HasOneFirst =
    (xs : List Item) (out : List ℕ) (q r : Reason) → left_out q ≡ left_out r → Holds xs out q → Holds xs out r → IsFirst xs out q → IsFirst xs out r → q ≡ r

-- a law: the word of a first reason is judged; it is no permission of a class that is missing
abbrev pub TellsJudged : Type 0
TellsJudged =
    (xs : List Item) (out : List ℕ) (o i j : ℕ) (w : Wanted) → IsFirst xs out (Missing o i j) → OwnWord xs o i j w → is_judged xs (all_but xs out) w ≡ true
