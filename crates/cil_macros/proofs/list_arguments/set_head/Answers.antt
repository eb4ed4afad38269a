use Rattle.std.proofs.Common.{◌∙◌, sym}
use Rattle.cil_macros.proofs.ListLemmas.{coded_one, coded_range, coded_two, coded_union}
use Rattle.cil_macros.proofs.list_arguments.set_head.Goals as goal

pub returns-then-has_one_operand : goal.returns-then-has_one_operand
returns-then-has_one_operand c = coded_one _ _ _ (sym c.has_one_operand.ensures ∙ c.if-has_one_operand.true)

pub returns-then-has_two_operands : goal.returns-then-has_two_operands
returns-then-has_two_operands c = coded_two _ _ _ (sym c.has_one_operand.ensures ∙ c.if-has_one_operand.false) (sym c.has_two_operands.ensures ∙ c.if-has_two_operands.true)

pub returns-then-begins_range : goal.returns-then-begins_range
returns-then-begins_range c =
    coded_range _ _ _ (sym c.has_one_operand.ensures ∙ c.if-has_one_operand.false) (sym c.has_two_operands.ensures ∙ c.if-has_two_operands.false) (sym c.begins_range.ensures ∙ c.if-begins_range.true)

pub returns : goal.returns
returns c =
    coded_union _ _ _ (sym c.has_one_operand.ensures ∙ c.if-has_one_operand.false) (sym c.has_two_operands.ensures ∙ c.if-has_two_operands.false) (sym c.begins_range.ensures ∙ c.if-begins_range.false)
