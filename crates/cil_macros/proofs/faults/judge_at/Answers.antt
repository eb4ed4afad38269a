use Rattle.std.proofs.Common.{◌++◌, ◌∙◌, ap}
use Rattle.cil_syntax.proofs.NodesJudged.{on_ok}
use Rattle.cil_blocks.specs.Contents.{first_word}
use Rattle.cil_macros.specs.CallFaults.{told}
use Rattle.cil_macros.proofs.faults.judge_at.Goals as goal

pub returns : goal.returns
returns c =
    on_ok c.report.result _ _
    (λ so p here. so p here ∙ ap (λ x. c.args.faults.now.items ++ told p.standing.space x (first_word p.standing.statement.statement.args)) (c.in_ok-wrong.ensures p here)) c.report.ensures
