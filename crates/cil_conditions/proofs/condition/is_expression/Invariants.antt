use Rattle.std.specs.Prelude.{◌↔◌, ◌+◌, ◌≤◌, drop}
use Rattle.cil_conditions.specs.Truth.{AreOperands, IsExpression}
use Rattle.cil_conditions.proofs.condition.is_expression.Given as goal

abbrev pub invariant-loop-token : goal.invariant-loop-token
invariant-loop-token l = record {
  same : IsExpression l.tokens ↔ AreOperands l.wanted (drop l.token-index l.tokens);
  bound : l.wanted ≤ l.token-index + 1;
}
