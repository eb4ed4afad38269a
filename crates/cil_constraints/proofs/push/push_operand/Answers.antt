use Rattle.std.proofs.Common.{sym, ◌∙◌}
use Rattle.cil_constraints.proofs.PushLemmas.{of_variable, of_words, one_way}
use Rattle.cil_constraints.proofs.push.push_operand.Goals as goal

pub push_words-requires : goal.push_words-requires
push_words-requires c = λ f. sym (c.is_listed.ensures f c.args.module) ∙ c.if-is_listed.true

pub returns-then-is_listed : goal.returns-then-is_listed
returns-then-is_listed c =
    one_way c.push_words.result (λ is p. of_words c.args.relation c.args.variable c.args.module c.args.operand.now is c.args.sets.now _ _ _ (λ f. sym (c.is_listed.ensures f c.args.module) ∙ c.if-is_listed.true) p)
    c.push_words.ensures

pub returns-else-is_listed : goal.returns-else-is_listed
returns-else-is_listed c =
    one_way c.push_variables.result
    (λ is p. of_variable c.args.relation c.args.variable c.args.module c.args.operand.now is c.args.sets.now _ _ _ c.variable_in.result (λ f. sym (c.is_listed.ensures f c.args.module) ∙ c.if-is_listed.false)
    (λ f. c.variable_in.ensures f c.args.module) (p c.args.sets.now)) c.push_variables.ensures
