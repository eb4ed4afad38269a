-- What shows that a set of optionals is the greatest: a reason for each optional that is left out. This project's profile.
use Rattle.std.specs.Prelude.{◌≡◌, ℕ, true, false, ◌&&◌, ◌||◌, not, List, [], ◌∷◌, map}
use Rattle.cil_base.specs.Among.{among}
use Rattle.cil_macros.specs.Item.{Item, OptSet}
use Rattle.cil_names.specs.Resolves.{Wanted, resolves}
use Rattle.cil_optionals.specs.declared.reason.Reason.{Reason}
use Rattle.cil_optionals.specs.declared.reason.Reason.TheVariants.{Missing, ParentOut}
use Rattle.cil_optionals.specs.Greatest.{IsGood, OwnWord, Parent, is_optional_at}

-- the optional that a reason leaves out
abbrev pub left_out : Reason → ℕ
left_out (ParentOut o) = o
left_out (Missing o i j) = o

-- all optionals less these
abbrev pub all_but : List Item → List ℕ → OptSet
all_but xs out o = is_optional_at xs o && not (among out o)

-- a reason holds where these are out: the parent of the optional is one of them, or a word of an own statement of it does not
-- resolve in the set of all others
pub data Holds (xs : List Item) (out : List ℕ) : Reason → Type 0 where
  parent_out : (o p : ℕ) → Parent xs o p → among out p ≡ true → Holds xs out (ParentOut o)
  missing : (o i j : ℕ) (w : Wanted) → OwnWord xs o i j w → resolves xs (all_but xs out) w ≡ false → Holds xs out (Missing o i j)

-- each reason holds where these and those before it are out, and none leaves out what is out
pub data InOrder (xs : List Item) : List ℕ → List Reason → Type 0 where
  no_more : (out : List ℕ) → InOrder xs out []
  one_more : (out : List ℕ) (r : Reason) (rs : List Reason) → among out (left_out r) ≡ false → Holds xs out r
      → InOrder xs (left_out r ∷ out) rs → InOrder xs out (r ∷ rs)

-- the choice is right: the enabled set is good, and each other optional has one reason
pub record IsRight (xs : List Item) (enabled : OptSet) (reasons : List Reason) : Type 0 where
  pub good : IsGood xs enabled
  pub order : InOrder xs [] reasons
  -- the optionals are those that are enabled and those left out, and no optional is both
  pub each : (o : ℕ) → is_optional_at xs o ≡ (enabled o || among (map left_out reasons) o)
  pub apart : (o : ℕ) → (enabled o && among (map left_out reasons) o) ≡ false
