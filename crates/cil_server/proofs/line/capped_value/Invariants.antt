use Rattle.std.proofs.Common.{take, ◌≤◌}
use Rattle.cil_server.specs.Asked.{value_of}
use Rattle.cil_server.specs.Views.{IsCapped}
use Rattle.cil_server.proofs.line.capped_value.Given as goal

abbrev pub invariant-loop-digit : goal.invariant-loop-digit
invariant-loop-digit l = record {
  most : l.value ≤ 67108865;
  capped : IsCapped (value_of (take l.digit-index l.digits)) l.value;
}
