use Rattle.std.specs.Prelude.{◌≡◌, ◌++◌, map, take}
use Rattle.cil_rules.specs.Behind.{rule_with}
use Rattle.cil_rules.proofs.statement.push_named.Given as goal

abbrev pub invariant-loop-one : goal.invariant-loop-one
invariant-loop-one l = l.out.items ≡ l.fn.out.items ++ map (rule_with l.instance l.branch l.source l.target) (take l.one-index l.masks)
