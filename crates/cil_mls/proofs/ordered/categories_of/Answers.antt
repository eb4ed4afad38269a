use Rattle.cil_faults.proofs.RefusalLemmas.{refused}
use Rattle.cil_faults.specs.declared.code.FaultCode.TheVariants as causes
use Rattle.cil_syntax.specs.declared.kind.Keyword.TheVariants as keywords
use Rattle.cil_syntax.specs.declared.kind.Kind.TheVariants as kinds
use Rattle.cil_attrs.specs.macros.Items.{items_in}
use Rattle.cil_attrs.specs.known.Known.{enabled_in}
use Rattle.cil_mls.specs.OrderParts.{IsOrderOf, SpaceFault}
use Rattle.cil_mls.proofs.OrderFaultLemmas.{aliases_refused, order_judged}
use Rattle.cil_mls.proofs.ordered.categories_of.Goals as goal

pub returns-in_err-order : goal.returns-in_err-order
returns-in_err-order c =
    let xs = items_in c.args.instances.now in
    let s = enabled_in c.args.known.now in
    refused (IsOrderOf xs s kinds.Category keywords.CategoryOrder c.args.sections.now.categories.items) (SpaceFault xs s kinds.Category keywords.CategoryOrder causes.CategoryOrder) _ _ c.from_residual.ensures.1
    (aliases_refused xs s kinds.Category keywords.CategoryOrder causes.CategoryOrder _ c.in_err-order.ensures)

pub returns : goal.returns
returns c =
    order_judged (items_in c.args.instances.now) (enabled_in c.args.known.now) kinds.Category keywords.CategoryOrder causes.CategoryOrder c.args.sections.now.categories.items _ c.in_ok-order.ensures.0 c.in_ok-order.ensures.1 _
    c.ordered.ensures
