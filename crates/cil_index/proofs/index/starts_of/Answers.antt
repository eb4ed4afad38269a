use Rattle.std.proofs.Common.{arith, subst, sym}
use Rattle.cil_index.specs.Entries.{BeginAt}
use Rattle.cil_index.proofs.StartLemmas.{all_starts, before_next, no_starts, starts_more}
use Rattle.cil_index.proofs.index.starts_of.Goals as goal

pub loop-part-init : goal.loop-part-init
loop-part-init c = ((omega arith, λ k d below inside. absurd (omega (arith, below))), no_starts c.args.entries.now _ c.in_ok-starts.ensures.items)

pub loop-part-preserved : goal.loop-part-preserved
loop-part-preserved c = (
  (c.part_start-at.ensures.bound, before_next c.args.entries.now c.loop-part.part c.part_start-at.result c.part_start-at.ensures),
  starts_more c.args.entries.now c.loop-part.starts.items _ c.loop-part.part _ c.loop-part.invariant.1.0 c.loop-part.invariant.1.1
      (subst (BeginAt c.args.entries.now c.loop-part.part) (sym c.in_ok-short.ensures) c.part_start-at.ensures) c.in_ok-push.ensures.items,
)

pub returns : goal.returns
returns c = all_starts c.args.entries.now _ c.loop-part.part c.parts_of-parts.result c.loop-part-test.false c.parts_of-parts.ensures c.loop-part.invariant.1
