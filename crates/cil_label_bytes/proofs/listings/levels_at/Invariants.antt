use Rattle.std.proofs.Common.{◌≡◌, ◌-◌, [], length}
use Rattle.cil_format.specs.Format.{each_at}
use Rattle.cil_format.proofs.Loops.{with_front}
use Rattle.cil_label_bytes.specs.Layout.{sensitivity, zipped}
use Rattle.cil_label_bytes.proofs.listings.levels_at.Given as goal

abbrev pub invariant-loop : goal.invariant-loop
invariant-loop l =
    (with_front (zipped l.names l.permitted.items) (each_at (λ done rest. (sensitivity l.categories done).read rest) (zipped l.names l.permitted.items) (l.count - l.counter) l.rest)
    ≡ each_at (λ done rest. (sensitivity l.categories done).read rest) [] l.count l.bytes)
    × (length l.names ≡ length l.permitted.items)
