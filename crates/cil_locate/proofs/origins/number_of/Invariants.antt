use Rattle.std.proofs.Common.{◌-◌}
use Rattle.cil_locate.proofs.OriginLemmas.{IsBetween}
use Rattle.cil_locate.proofs.origins.number_of.Given as goal

abbrev pub invariant-loop-low : goal.invariant-loop-low
invariant-loop-low l = IsBetween l.modules l.text l.low l.high

abbrev pub decreases-loop-low : goal.decreases-loop-low
decreases-loop-low l = l.high - l.low
