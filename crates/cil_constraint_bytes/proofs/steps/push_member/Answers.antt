use Rattle.std.proofs.Common.{rules}
use Rattle.cil_constraint_bytes.specs.Layout.{member_of}
use Rattle.cil_constraint_bytes.proofs.steps.push_member.Goals as goal

pub returns : goal.returns
returns c = (member_of (c.in_ok-variable.variable, (c.in_ok-op.op, c.in_ok-numbers.numbers)), search rules, search rules)
