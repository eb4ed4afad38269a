use Rattle.cil_mls.specs.Names.{IsNamed}
use Rattle.cil_mls.specs.LevelTexts.{one_level, two_levels}
use Rattle.cil_mls.proofs.LevelLemmas.{no_high_level, no_level_at_all, no_low_level}
use Rattle.cil_mls.proofs.texts.range_in.Goals as goal

pub returns-in_err-level-in-None : goal.returns-in_err-level-in-None
returns-in_err-level-in-None c =
    rw c.from_residual.ensures (no_level_at_all (IsNamed c.args.sensitivities.now) (IsNamed c.args.categories.now) c.args.text.now c.in-None.ensures c.in_err-level-in-None.ensures)

pub returns-in_err-low-in-Some : goal.returns-in_err-low-in-Some
returns-in_err-low-in-Some c =
    rw c.from_residual-in_err-low-in-Some.ensures (no_low_level (IsNamed c.args.sensitivities.now) (IsNamed c.args.categories.now) c.args.text.now _ _ c.in-Some.ensures c.in_err-low-in-Some.ensures)

pub returns-in_err-high-in-Some : goal.returns-in_err-high-in-Some
returns-in_err-high-in-Some c =
    rw c.from_residual-in_err-high-in-Some.ensures (no_high_level (IsNamed c.args.sensitivities.now) (IsNamed c.args.categories.now) c.args.text.now _ _ c.in-Some.ensures c.in_err-high-in-Some.ensures)

pub returns-in_ok-level-in-None : goal.returns-in_ok-level-in-None
returns-in_ok-level-in-None c = one_level c.args.text.now _ c.in-None.ensures c.in_ok-level-in-None.ensures

pub returns-in_ok-high-in-Some : goal.returns-in_ok-high-in-Some
returns-in_ok-high-in-Some c = two_levels c.args.text.now _ _ _ _ c.in-Some.ensures c.in_ok-low-in-Some.ensures c.in_ok-high-in-Some.ensures
