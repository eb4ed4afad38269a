use Rattle.std.proofs.Common.{sym}
use Rattle.cil_blocks.proofs.NumberLemmas.{inner_behind}
use Rattle.cil_blocks.proofs.SpelledLemmas.{name_more, names_ended, outer_within}
use Rattle.cil_blocks.proofs.spelled.names_in.Goals as goal

pub loop-space-smaller : goal.loop-space-smaller
loop-space-smaller c = inner_behind c.args.namespaces.now c.get.ensures.once c.loop-space.at c.in-Some.space (sym c.in-Some.ensures.space)

pub loop-space-preserved : goal.loop-space-preserved
loop-space-preserved c = (
  outer_within c.args.namespaces.now c.get.ensures.once c.loop-space.at c.in-Some.space c.loop-space.invariant.0 (sym c.in-Some.ensures.space),
  name_more c.args.namespaces.now c.get.ensures.once c.loop-space.at c.in-Some.space c.loop-space.names.items c.push.new.self.items c.as_slice.result _
      (sym c.in-Some.ensures.space) c.as_slice.ensures c.in_ok-push.ensures.items c.loop-space.invariant.1,
)

pub returns : goal.returns
returns c =
    names_ended c.args.namespaces.now c.get.ensures.once c.loop-space.at c.loop-space.names.items _ c.loop-space.invariant.0 (sym c.in_default.ensures.space) c.loop-space.invariant.1
