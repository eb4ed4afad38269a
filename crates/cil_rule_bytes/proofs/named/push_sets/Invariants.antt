use Rattle.std.specs.Prelude.{◌≡◌, ◌++◌, take}
use Rattle.std.specs.List.{flat_map}
use Rattle.cil_rule_bytes.specs.Handed.{sets_in}
use Rattle.cil_rule_bytes.proofs.named.push_sets.Given as goal

abbrev pub invariant-loop-rule : goal.invariant-loop-rule
invariant-loop-rule l = l.sets.items ≡ l.fn.sets.items ++ flat_map sets_in (take l.rule-index l.rules)
