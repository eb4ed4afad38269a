-- Private words: the rules that are searched, in the order of the index.
use Rattle.std.specs.Prelude.{List, map}
use Rattle.cil_rules.specs.Rule.{Rule}
use Rattle.cil_index.specs.declared.asked.Searched.{Searched}
use Rattle.cil_index.specs.Kept.{rule_of}

abbrev pub rules_in : Searched → List Rule
rules_in s = map (rule_of s.branches.now s.sets.now) s.records.now
