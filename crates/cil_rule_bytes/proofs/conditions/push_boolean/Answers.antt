use Rattle.std.proofs.Common.{rules}
use Rattle.cil_rule_bytes.specs.Conditions.{boolean}
use Rattle.cil_rule_bytes.proofs.conditions.push_boolean.Goals as goal

pub returns : goal.returns
returns c = (boolean c.in_ok-number.number, search rules, c.in_ok-push.ensures.items)
