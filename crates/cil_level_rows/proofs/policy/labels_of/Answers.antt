use Rattle.std.specs.Prelude.{Err}
use Rattle.cil_faults.proofs.RefusalLemmas.{refused}
use Rattle.cil_macros.specs.Items.{items_in}
use Rattle.cil_level_rows.proofs.OneFaultLemmas.{answered_levels, levels_answer}
use Rattle.cil_level_rows.proofs.policy.labels_of.Goals as goal

pub returns-in_err-levels : goal.returns-in_err-levels
returns-in_err-levels c =
    refused _ _ _ _ c.from_residual.ensures.1 (levels_answer c.args.known.now (items_in c.args.instances.now) (Err _) c.in_err-levels.ensures)

pub returns : goal.returns
returns c =
    let answered = c.in_ok-levels.ensures in (
      record { ground = answered.0; is_ground = answered.1; over = c.in_ok-labels.ensures answered.0 answered.1 answered.2 answered.3 },
      answered_levels c.args.known.now (items_in c.args.instances.now) c.in_ok-levels.levels answered,
    )
