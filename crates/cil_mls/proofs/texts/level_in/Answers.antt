use Rattle.cil_mls.specs.Names.{IsNamed}
use Rattle.cil_mls.proofs.LevelLemmas.{bare_level, full_level, no_bare, no_items, no_name}
use Rattle.cil_mls.proofs.texts.level_in.Goals as goal

pub returns-in_err-sensitivity-in-None : goal.returns-in_err-sensitivity-in-None
returns-in_err-sensitivity-in-None c =
    rw c.from_residual.ensures (no_bare (IsNamed c.args.sensitivities.now) (IsNamed c.args.categories.now) c.args.text.now c.in-None.ensures c.in_err-sensitivity-in-None.ensures)

pub returns-in_err-sensitivity-in-Some : goal.returns-in_err-sensitivity-in-Some
returns-in_err-sensitivity-in-Some c =
    rw c.from_residual-in_err-sensitivity-in-Some.ensures (no_name (IsNamed c.args.sensitivities.now) (IsNamed c.args.categories.now) c.args.text.now _ _ c.in-Some.ensures c.in_err-sensitivity-in-Some.ensures)

pub returns-in_err-categories-in-Some : goal.returns-in_err-categories-in-Some
returns-in_err-categories-in-Some c =
    rw c.from_residual-in_err-categories-in-Some.ensures (no_items (IsNamed c.args.sensitivities.now) (IsNamed c.args.categories.now) c.args.text.now _ _ c.in-Some.ensures c.in_err-categories-in-Some.ensures)

pub returns-in_ok-sensitivity-in-None : goal.returns-in_ok-sensitivity-in-None
returns-in_ok-sensitivity-in-None c =
    bare_level (IsNamed c.args.sensitivities.now) (IsNamed c.args.categories.now) c.args.text.now _ c.in-None.ensures c.in_ok-sensitivity-in-None.ensures c.none.ensures

pub returns-in_ok-categories-in-Some : goal.returns-in_ok-categories-in-Some
returns-in_ok-categories-in-Some c =
    full_level (IsNamed c.args.sensitivities.now) (IsNamed c.args.categories.now) c.args.text.now _ _ _ c.in-Some.ensures c.in_ok-sensitivity-in-Some.ensures c.in_ok-categories-in-Some.ensures
