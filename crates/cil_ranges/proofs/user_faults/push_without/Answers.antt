use Rattle.std.proofs.Common.{subst, sym}
use Rattle.cil_ranges.specs.Given.{AreWithout}
use Rattle.cil_ranges.proofs.user_faults.push_without.Goals as goal

pub returns : goal.returns
returns c = (c.as_slice.result.now, subst (AreWithout c.args.ranges.now) (sym c.as_slice.ensures.value) c.in_ok-flags.ensures, c.in_ok-push_declared.ensures)
