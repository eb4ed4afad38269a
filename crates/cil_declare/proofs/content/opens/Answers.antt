use Rattle.std.proofs.Common.{arith}
use Rattle.cil_declare.proofs.ContentLemmas.{apart, is_closes, is_opens, is_text, is_word, ops_tell}
use Rattle.cil_declare.proofs.content.opens.Goals as goal

pub returns-in-Word : goal.returns-in-Word
returns-in-Word c = λ ps. apart _ _ _ (is_word ps c.args.part.now _ c.in-Word.is) (λ e. omega (arith, e))

pub returns-in-Text : goal.returns-in-Text
returns-in-Text c = λ ps. apart _ _ _ (is_text ps c.args.part.now _ _ c.in-Text.is) (λ e. omega (arith, e))

pub returns-in-Opens : goal.returns-in-Opens
returns-in-Opens c = λ ps. ops_tell c.args.op c.in-Opens.other _ _ (is_opens ps c.args.part.now _ c.in-Opens.other c.in-Opens.is) c.is_same_op.ensures

pub returns-in-Closes : goal.returns-in-Closes
returns-in-Closes c = λ ps. apart _ _ _ (is_closes ps c.args.part.now c.in-Closes.is) (λ e. omega (arith, e))
