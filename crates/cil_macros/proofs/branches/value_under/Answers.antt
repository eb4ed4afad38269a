use Rattle.std.proofs.Common.{◌∙◌, ap, sym}
use Rattle.cil_syntax.specs.Written as written
use Rattle.cil_syntax.specs.Written.{Written}
use Rattle.cil_blocks.specs.Branches.{branch_value}
use Rattle.cil_blocks.specs.Contents.{is_conditional}
use Rattle.cil_macros.specs.Walks.{written_in}
use Rattle.cil_macros.proofs.BranchLemmas.{branch_opener, other_opener}
use Rattle.cil_macros.proofs.branches.value_under.Goals as goal

pub returns-in_default : goal.returns-in_default
returns-in_default c = λ q p e f. other_opener (written_in c.args.spaces.now) q p (ap (λ (w : Written). is_conditional w.statement.keyword) (c.in_default.ensures q e))

pub returns-then-not-is_conditional : goal.returns-then-not-is_conditional
returns-then-not-is_conditional c = λ q p e f.
    other_opener (written_in c.args.spaces.now) q p
    (ap (λ (y : written.Statement). is_conditional y.keyword) (c.in-Some.ensures q e) ∙ sym c.is_conditional.ensures ∙ c.if-not-is_conditional.true)

pub returns : goal.returns
returns c = λ q p e f.
    branch_opener (written_in c.args.spaces.now) q p c.branch_value.result
    (ap (λ (y : written.Statement). is_conditional y.keyword) (c.in-Some.ensures q e) ∙ sym c.is_conditional.ensures ∙ c.if-not-is_conditional.false)
    (c.branch_value.ensures
    ∙ ap (λ (y : written.Statement). branch_value y.args c.spot_at.result) (sym (c.in-Some.ensures q e))
    ∙ ap (branch_value q.standing.statement.statement.args) (c.spot_at.ensures p f))
