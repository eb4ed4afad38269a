use Rattle.std.specs.List.{flat_map}
use Rattle.std.proofs.Common.{take}
use Rattle.cil_server.specs.Streams.{Tells}
use Rattle.cil_locate.specs.Files.{IsLast}
use Rattle.cil_locate.specs.Located.{note_at}
use Rattle.cil_locate.proofs.notes.put_notes.Given as goal

abbrev pub invariant-loop-told : goal.invariant-loop-told
invariant-loop-told g l =
    Tells l.fn.output l.output (flat_map (note_at l.files l.lines) (take l.told-index l.order)) × IsLast l.files l.last
