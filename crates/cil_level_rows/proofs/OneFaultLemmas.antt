-- What is wrong with levels by some ground is wrong by the one ground of the policy.
use Rattle.std.proofs.Common.{List, subst}
use Rattle.std.specs.Prelude.{Ok, Err}
use Rattle.cil_base.specs.Sorted.{lists_of}
use Rattle.cil_faults.specs.FaultOrder.{fault_cmp}
use Rattle.cil_faults.specs.Fails.{AreFaults}
use Rattle.cil_faults.specs.declared.failure.Failure.TheVariants.{Faults, NoMemory}
use Rattle.cil_faults.specs.declared.fault.Fault.{Fault}
use Rattle.cil_macros.specs.Item.{Item, OptSet}
use Rattle.cil_known.specs.declared.known.Known.{Known}
use Rattle.cil_known.specs.Known.{enabled_in}
use Rattle.cil_ranges.specs.declared.levels.Levels.{Levels}
use Rattle.cil_ranges.specs.Levels.{Ground}
use Rattle.cil_ranges.specs.Made.{IsAnswered}
use Rattle.cil_ranges.specs.Steps.{IsGround, LevelFault}
use Rattle.cil_ranges.proofs.GroundLemmas.{one_ground}
use Rattle.cil_level_rows.specs.Laws.{LevelsAnswer}
use Rattle.cil_level_rows.specs.Steps.{LevelStep}

module _ (xs : List Item) (s : OptSet) (g : Ground) (is : IsGround xs s g) where
  -- a fault of levels is one by this ground
  pub by_ground : (f : Fault) → LevelStep xs s f → LevelFault s g f
  by_ground f (h, too, wrong) = subst (λ k. LevelFault s k f) (one_ground xs s h g too is) wrong

  pub step_faults : (faults : List Fault) → AreFaults (LevelFault s g) faults → AreFaults (LevelStep xs s) faults
  step_faults faults are = record { listed = lists_of fault_cmp (LevelFault s g) (LevelStep xs s) faults (λ f wrong. (g, is, wrong)) by_ground are.listed; some = are.some }

-- the faults that are answered are all that there are
pub answered_faults : (k : Known) (xs : List Item) (faults : List Fault) → IsAnswered k xs (Err (Faults faults)) → AreFaults (LevelStep xs (enabled_in k)) faults
answered_faults k xs faults (g, is, are) = step_faults xs (enabled_in k) g is faults are

-- levels are answered where there are none
pub answered_levels : (k : Known) (xs : List Item) (l : Levels) → IsAnswered k xs (Ok l) → (f : Fault) → LevelStep xs (enabled_in k) f → ⊥
answered_levels k xs l (g, is, levels, none) f wrong = none f (by_ground xs (enabled_in k) g is f wrong)

-- in the form in which every step answers
pub levels_answer : LevelsAnswer
levels_answer k xs (Ok l) a = ((a.0, a.1, a.2), answered_levels k xs l a)
levels_answer k xs (Err (Faults faults)) a = answered_faults k xs faults a
levels_answer k xs (Err NoMemory) a = tt
