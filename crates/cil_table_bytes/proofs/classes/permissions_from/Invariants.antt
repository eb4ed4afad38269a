use Rattle.std.proofs.Common.{◌≡◌, ◌-◌}
use Rattle.cil_format.specs.Format.{many_at}
use Rattle.cil_label_bytes.specs.Names.{permission}
use Rattle.cil_format.proofs.Loops.{with_front}
use Rattle.cil_table_bytes.proofs.classes.permissions_from.Given as goal

abbrev pub invariant-loop : goal.invariant-loop
invariant-loop l = with_front l.permissions.items (many_at permission.read (l.count - l.counter) l.rest) ≡ many_at permission.read l.count l.bytes
