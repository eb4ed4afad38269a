use Rattle.cil_syntax.specs.Program.{statement_of}
use Rattle.cil_names.specs.Worded.{is_worded}
use Rattle.cil_names.proofs.WordedLemmas.{one_flag}
use Rattle.cil_names.proofs.worded.worded.Goals as goal

pub loop-statement-preserved : goal.loop-statement-preserved
loop-statement-preserved c =
    one_flag (λ s. is_worded (statement_of s)) _ c.loop-statement.statement-index _ _ _ _ _ c.loop-statement-test.true c.statement-item.is c.loop-statement.invariant c.is_worded.ensures c.in_ok-push.ensures.items
