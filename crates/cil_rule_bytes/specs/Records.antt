-- Rules as they were read. No other crate needs these words.
use Rattle.cil_index.specs.rules.Rule.{Target, Types, Itself}
use Rattle.cil_rule_bytes.specs.declared.rule.ReadTarget.{ReadTarget}
use Rattle.cil_rule_bytes.specs.declared.rule.ReadTarget.TheVariants as targets

abbrev pub target_of : ReadTarget → Target
target_of (targets.Types numbers) = Types numbers
target_of targets.Itself = Itself
