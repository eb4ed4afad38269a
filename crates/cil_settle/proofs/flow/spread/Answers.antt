use Rattle.std.specs.Prelude.{All}
use Rattle.std.proofs.Common.{arith, rules, subst, sym, length, ◌<◌}
use Rattle.std.proofs.lemmas.List.Elements.{All-filter}
use Rattle.std.proofs.lemmas.Grind.{common_steps}
use Rattle.std.specs.Prelude.{◌==◌}
use Rattle.cil_settle.specs.Settled.{leads_within}
use Rattle.cil_settle.specs.Spread.{IsBegun}
use Rattle.cil_settle.proofs.SpreadLemmas.{spread_begins, spread_goes_on, spread_ends, falls, read_at}
use Rattle.cil_settle.proofs.flow.spread.Goals as goal

pub loop-next-init : goal.loop-next-init
loop-next-init c = spread_begins c.args.edges.now c.args.masks.items c.in_ok-queue.queue.items (subst (λ l. IsBegun l c.in_ok-queue.queue.items (length l)) c.as_slice.ensures.value c.in_ok-queue.ensures)

pub index-mask-requires : goal.index-mask-requires
index-mask-requires c = let w : c.index-from.result.now < length c.loop-next.all.items = c.loop-next.invariant.within c.index-from.result.now (c.loop-next.next, omega arith, grind (arith, common_steps)) in search (rules, w)

pub join_all-requires : goal.join_all-requires
join_all-requires c =
    subst (λ n. All (leads_within n) c.leaving_from-row.result.now) (sym c.loop-next.invariant.len)
    (subst (All (leads_within (length c.args.masks.items))) (sym c.leaving_from-row.ensures) (All-filter (λ e. e.from == c.index-from.result.now) (leads_within (length c.args.masks.items)) c.args.edges.now c.requires.within))

pub loop-next-smaller : goal.loop-next-smaller
loop-next-smaller c = falls c.loop-next.all.items c.join_all.new.all.items c.loop-next.queue.items c.join_all.new.queue.items c.in_ok-join_all.ensures.joined.more c.loop-next.next (omega arith) c.in_ok-join_all.ensures.joined.behind c.in_ok-join_all.ensures.joined.len (c.in_ok-join_all.ensures.joined.small c.loop-next.invariant.small) c.in_ok-join_all.ensures.joined.room

pub loop-next-preserved : goal.loop-next-preserved
loop-next-preserved c =
    spread_goes_on c.args.edges.now c.args.masks.items c.loop-next.all.items c.loop-next.queue.items c.loop-next.next c.index-from.result.now c.index-mask.result.now c.leaving_from-row.result.now _ _ (omega arith) c.loop-next.invariant (grind (arith, common_steps)) (read_at c.loop-next.all.items c.index-from.result.now c.index-mask.result.now c.index-mask.ensures (c.loop-next.invariant.within c.index-from.result.now (c.loop-next.next, omega arith, grind (arith, common_steps)))) c.leaving_from-row.ensures c.in_ok-join_all.ensures.joined

pub returns : goal.returns
returns c = spread_ends c.args.edges.now c.args.masks.items c.loop-next.all.items c.loop-next.queue.items c.loop-next.next (omega arith) c.loop-next.invariant
