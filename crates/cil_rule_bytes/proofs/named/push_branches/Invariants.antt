use Rattle.std.specs.Prelude.{◌≡◌, ◌++◌, take}
use Rattle.std.specs.List.{flat_map}
use Rattle.cil_rule_bytes.specs.Handed.{branches_in}
use Rattle.cil_rule_bytes.proofs.named.push_branches.Given as goal

abbrev pub invariant-loop-rule : goal.invariant-loop-rule
invariant-loop-rule l = l.rows.items ≡ l.fn.rows.items ++ flat_map branches_in (take l.rule-index l.rules)
