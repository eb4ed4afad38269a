use Rattle.std.proofs.Common.{◌≡◌, ℕ, List, length, map, take}
use Rattle.cil_rules.specs.Kept.{rule_named}
use Rattle.cil_index.specs.Kept.{rule_of}
use Rattle.cil_index.specs.Order.{AreWithin}
use Rattle.cil_index.specs.Sets.{AreNumbered}
use Rattle.cil_index.proofs.record.unsorted.Given as goal

abbrev pub invariant-loop-rule : goal.invariant-loop-rule
invariant-loop-rule l = (distinct named : List (List ℕ)) → l.itself ≡ length distinct → AreNumbered distinct named l.numbers
    → (map (rule_of l.branches distinct) l.records.items ≡ take l.rule-index (map (rule_named l.branches named) l.rules)) × AreWithin l.branches distinct l.records.items
