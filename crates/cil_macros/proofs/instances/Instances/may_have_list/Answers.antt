use Rattle.std.proofs.Common.{◌≡◌, Bool, true, false, refl, sym, ◌∙◌}
use Rattle.std.specs.Prelude.{not}
use Rattle.cil_macros.proofs.ItemsThere.{named_words, said_words}
use Rattle.cil_macros.proofs.instances.Instances.may_have_list.Goals as goal

when_not : (b : Bool) → not b ≡ false → b ≡ true
when_not true e = refl
when_not false e = let f : true ≡ false = e in cc

pub returns-then-not-may_say_lists-clause-words : goal.returns-then-not-may_say_lists-clause-words
returns-then-not-may_say_lists-clause-words c = λ e. named_words c.args.self.now c.args.at c.statement_there.result.now c.statement_there.ensures.is (sym c.is_call.ensures ∙ c.if-is_call.false) (sym c.may_say_lists.ensures ∙ c.if-not-may_say_lists.true)

pub returns-clause-words : goal.returns-clause-words
returns-clause-words c = λ e. said_words c.args.self.now c.args.at c.statement_there.result.now c.statement_there.ensures.is (sym c.is_call.ensures ∙ c.if-is_call.false) (c.says_words.ensures (when_not c.says_words.result e))
