use Rattle.std.proofs.Common.{◌∙◌}
use Rattle.std.specs.Ordering.{nat_cmp}
use Rattle.cil_base.specs.Lists.{text_cmp}
use Rattle.cil_blocks.specs.WrittenSpaces.{numbered_name}
use Rattle.cil_blocks.proofs.RunLemmas.{name_decides, number_decides}
use Rattle.cil_blocks.proofs.doubled.compare_written.Goals as goal

pub returns-then-is_ne : goal.returns-then-is_ne
returns-then-is_ne c nested =
    let key = numbered_name c.args.statements.now c.args.spaces.now.numbers in
    number_decides (key c.args.a) (key c.args.b) c.cmp-order.result (c.cmp-order.ensures ∙ λ i. nat_cmp (c.round.ensures i) (c.round-2.ensures i)) c.if-is_ne.ensures

pub returns : goal.returns
returns c nested =
    let key = numbered_name c.args.statements.now c.args.spaces.now.numbers in
    name_decides (key c.args.a) (key c.args.b) c.cmp-order.result (c.cmp-order.ensures ∙ λ i. nat_cmp (c.round.ensures i) (c.round-2.ensures i)) c.cmp.result c.if-is_ne.ensures
    (c.cmp.ensures ∙ λ i. text_cmp (c.name_at.ensures nested i) (c.name_at-2.ensures nested i))
