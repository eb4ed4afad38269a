use Rattle.std.specs.List.{flat_map}
use Rattle.std.proofs.Common.{length, take, ◌++◌}
use Rattle.cil_server.specs.Replies.{of_optional_line, ok_number}
use Rattle.cil_server.specs.Streams.{Tells}
use Rattle.cil_server.proofs.optional_replies.put_optionals.Given as goal

abbrev pub invariant-loop-line : goal.invariant-loop-line
invariant-loop-line g l =
    Tells l.fn.output l.output (ok_number (length l.lines) ++ flat_map of_optional_line (take l.line-index l.lines))
