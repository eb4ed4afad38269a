use Rattle.std.specs.Prelude.{◌≡◌, ◌+◌, ◌*◌, take}
use Rattle.cil_rule_bytes.specs.Handed.{AreNamed}
use Rattle.cil_rule_bytes.proofs.named.named_from.Given as goal

abbrev pub invariant-loop-rule : goal.invariant-loop-rule
invariant-loop-rule l = (l.number ≡ l.first + 2 * l.rule-index) × AreNamed l.rows l.rules l.first (take l.rule-index l.rules) l.named.items
