use Rattle.std.proofs.lemmas.Result.{on_ok_weaker}
use Rattle.std.proofs.Common.{◌∙◌, ap}
use Rattle.cil_faults.specs.Namespaces.{qualified}
use Rattle.cil_blocks.specs.Namespaces.{space_at}
use Rattle.cil_declare.proofs.StatementLemmas.{fault_pushed, never_nameless}
use Rattle.cil_declare.proofs.clash.push_clash.Goals as goal

pub returns-in_default : goal.returns-in_default
returns-in_default c =
    absurd (never_nameless c.args.instances.now c.args.at c.args.row.now c.requires c.statement_there-statement.result.now c.statement_there-statement.ensures.is c.in_default.ensures)

pub returns : goal.returns
returns c =
    on_ok_weaker c.push_fault_in.result
    (λ push.
    fault_pushed c.args.instances.now c.args.at c.args.row.now c.requires c.statement_there-statement.result.now c.statement_there-statement.ensures.is c.in-Some.name.at _ _ _ _
    c.in-Some.ensures (c.in_ok-space.ensures ∙ ap (λ ss. qualified (space_at ss c.args.row.now.space)) c.namespaces.ensures.value) push)
    c.push_fault_in.ensures
