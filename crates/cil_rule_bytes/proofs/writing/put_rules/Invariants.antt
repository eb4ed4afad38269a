use Rattle.std.specs.Prelude.{ℕ, List, ◌++◌, length, take}
use Rattle.std.specs.Int.{w32, to_be_bytes}
use Rattle.std.specs.List.{flat_map}
use Rattle.cil_rule_bytes.specs.Spelled.{rule_bytes}
use Rattle.cil_rule_bytes.proofs.writing.put_rules.Given as goal

abbrev pub invariant-loop-place : goal.invariant-loop-place
invariant-loop-place g l =
    (before : List ℕ) → g.O.Out.holds l.fn.out before → g.O.Out.holds l.out ((before ++ to_be_bytes w32 (length l.rules)) ++ flat_map rule_bytes (take l.place l.rules))
