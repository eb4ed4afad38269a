use Rattle.std.proofs.Common.{◌≡◌, ◌-◌}
use Rattle.cil_format.specs.Ends.{last_of}
use Rattle.cil_format.specs.Format.{rising_at}
use Rattle.std.specs.Prelude.{None}
use Rattle.cil_format.proofs.Loops.{with_front}
use Rattle.cil_format.proofs.section.records_at.Given as goal

abbrev pub invariant-loop : goal.invariant-loop
invariant-loop g l =
    with_front l.records.items (rising_at g.S.Section.less (g.S.Section.format l.section).read (last_of l.last) (l.count - l.counter) l.rest)
    ≡ rising_at g.S.Section.less (g.S.Section.format l.section).read None l.count l.bytes
