use Rattle.std.proofs.Common.{◌≡◌, ◌-◌}
use Rattle.cil_format.specs.Format.{many_at}
use Rattle.cil_format.specs.Fields.{small}
use Rattle.cil_format.proofs.Loops.{with_front}
use Rattle.cil_format.proofs.sets.numbers_at.Given as goal

abbrev pub invariant-loop : goal.invariant-loop
invariant-loop l = with_front l.numbers.items (many_at (small l.limit).read (l.count - l.counter) l.rest) ≡ many_at (small l.limit).read l.count l.bytes
