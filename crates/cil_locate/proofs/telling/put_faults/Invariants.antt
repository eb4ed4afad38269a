use Rattle.std.specs.List.{flat_map}
use Rattle.std.proofs.Common.{take}
use Rattle.cil_server.specs.Streams.{Tells}
use Rattle.cil_locate.specs.Files.{IsLast}
use Rattle.cil_locate.specs.Located.{told_lines}
use Rattle.cil_locate.proofs.telling.put_faults.Given as goal

abbrev pub invariant-loop-told : goal.invariant-loop-told
invariant-loop-told g l =
    Tells l.fn.output l.output (flat_map (told_lines l.files l.faults) (take l.told-index l.order)) × IsLast l.files l.last
