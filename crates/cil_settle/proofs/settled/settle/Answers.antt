use Rattle.std.specs.Prelude.{All, take, ◌==◌}
use Rattle.std.proofs.Common.{arith, rules, subst, sym, length}
use Rattle.std.proofs.lemmas.Grind.{common_steps}
use Rattle.std.proofs.lemmas.List.Elements.{All-filter}
use Rattle.cil_settle.specs.Settled.{hits, leads_within, needs}
use Rattle.cil_settle.specs.Walk.{IsAt, no_hits}
use Rattle.cil_settle.proofs.WalkLemmas.{walk_starts, walk_goes_on, walk_ends, go_on_at, none_walked, more_walked, room_for}
use Rattle.cil_settle.proofs.settled.settle.Goals as goal

pub loop-next-init : goal.loop-next-init
loop-next-init c = (walk_starts c.args.edges.now c.args.need.items c.in_ok-order.order.items (subst (λ l. IsAt (needs l) no_hits l c.in_ok-order.order.items) c.as_slice.ensures.value c.in_ok-order.ensures), sym (none_walked c.args.edges.now))

pub lower_all-requires : goal.lower_all-requires
lower_all-requires c =
    subst (λ n. All (leads_within n) c.leaving_from-row.result.now) (sym c.loop-next.invariant.0.len)
    (subst (All (leads_within (length c.args.need.items))) (sym c.leaving_from-row.ensures) (All-filter (λ e. e.from == c.index.result.now) (leads_within (length c.args.need.items)) c.args.edges.now c.requires.within))

pub overflow_add-lookups : goal.overflow_add-lookups
overflow_add-lookups c =
    let room = room_for c.args.edges.now _ _ (more_walked c.args.edges.now c.args.need.items c.loop-next.left.items c.loop-next.order.items c.lower_all.new.order.items c.in_ok-more.ensures.grows.0
    c.loop-next.next _ _ c.leaving_from-row.result.now c.index.result.now
    (omega arith) c.loop-next.invariant.0 c.in_ok-more.ensures.grows.1 (grind (arith, common_steps)) c.leaving_from-row.ensures c.loop-next.invariant.1 c.in_ok-more.ensures.lookups) in search rules

pub loop-next-preserved : goal.loop-next-preserved
loop-next-preserved c = (
  walk_goes_on c.args.edges.now c.args.need.items c.loop-next.left.items c.loop-next.order.items _ _ c.loop-next.next (omega arith) c.loop-next.invariant.0
      c.in_ok-more.ensures.grows c.in_ok-more.ensures.len
      (go_on_at c.args.edges.now c.args.need.items c.loop-next.order.items c.loop-next.next c.index.result.now c.leaving_from-row.result.now _ _ (grind (arith, common_steps)) c.leaving_from-row.ensures
      (c.in_ok-more.ensures.at (needs c.args.need.items) (hits c.args.edges.now (take c.loop-next.next c.loop-next.order.items)) c.loop-next.invariant.0.at)),
  more_walked c.args.edges.now c.args.need.items c.loop-next.left.items c.loop-next.order.items c.lower_all.new.order.items c.in_ok-more.ensures.grows.0 c.loop-next.next _ _ c.leaving_from-row.result.now c.index.result.now
      (omega arith) c.loop-next.invariant.0 c.in_ok-more.ensures.grows.1 (grind (arith, common_steps)) c.leaving_from-row.ensures c.loop-next.invariant.1 c.in_ok-more.ensures.lookups,
)

pub returns-clause-order : goal.returns-clause-order
returns-clause-order c = walk_ends c.args.edges.now c.args.need.items c.loop-next.left.items c.loop-next.order.items c.loop-next.next (omega arith) c.loop-next.invariant.0
