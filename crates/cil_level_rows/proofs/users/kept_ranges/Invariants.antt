use Rattle.std.specs.Prelude.{◌≡◌, length}
use Rattle.cil_level_rows.specs.KeptRanges.{AreKept}
use Rattle.cil_level_rows.proofs.users.kept_ranges.Given as goal

abbrev pub invariant-loop-d : goal.invariant-loop-d
invariant-loop-d l = (length l.kept.items ≡ l.count) × AreKept l.known l.ranges l.kept.items
