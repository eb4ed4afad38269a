use Rattle.std.proofs.Common.{◌≡◌, ◌-◌, []}
use Rattle.cil_format.specs.Format.{each_at}
use Rattle.cil_format.proofs.Loops.{with_front}
use Rattle.cil_label_bytes.specs.Layout.{new_name}
use Rattle.cil_label_bytes.proofs.listings.names_at.Given as goal

abbrev pub invariant-loop : goal.invariant-loop
invariant-loop l =
    with_front l.names (each_at (λ done rest. (new_name done).read rest) l.names (l.count - l.counter) l.rest)
    ≡ each_at (λ done rest. (new_name done).read rest) [] l.count l.bytes
