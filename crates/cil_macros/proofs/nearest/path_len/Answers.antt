use Rattle.std.proofs.Common.{arith}
use Rattle.cil_macros.proofs.NearestLemmas.{counted_all, counted_more}
use Rattle.cil_macros.proofs.nearest.path_len.Goals as goal

pub loop-inherit-preserved : goal.loop-inherit-preserved
loop-inherit-preserved c =
    let within = c.loop-inherit.invariant.0 in
    let low = c.in-Some.ensures.lower in (
      omega (arith, within, low),
      λ s is. let so = c.loop-inherit.invariant.1 s is in counted_more _ c.loop-inherit.place c.in-Some.inherit c.loop-inherit.count s so (c.in-Some.ensures.through so.by so.is),
    )

pub returns : goal.returns
returns c = λ s is. let so = c.loop-inherit.invariant.1 s is in counted_all _ c.loop-inherit.place c.loop-inherit.count s so (c.in_default.ensures.through so.by so.is)
