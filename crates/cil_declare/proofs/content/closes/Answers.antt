use Rattle.std.proofs.Common.{arith}
use Rattle.cil_declare.proofs.ContentLemmas.{apart, ends_tell, is_closes, is_opens, is_text, is_word}
use Rattle.cil_declare.proofs.content.closes.Goals as goal

pub returns-in-Word : goal.returns-in-Word
returns-in-Word c = λ ps. apart _ _ _ (is_word ps c.args.part.now _ c.in-Word.is) (λ e. omega (arith, e))

pub returns-in-Text : goal.returns-in-Text
returns-in-Text c = λ ps. apart _ _ _ (is_text ps c.args.part.now _ _ c.in-Text.is) (λ e. omega (arith, e))

pub returns-in-Opens : goal.returns-in-Opens
returns-in-Opens c = λ ps. apart _ _ _ (is_opens ps c.args.part.now _ _ c.in-Opens.is) (λ e. omega (arith, e))

pub returns-in-Closes : goal.returns-in-Closes
returns-in-Closes c = λ ps. ends_tell _ (is_closes ps c.args.part.now c.in-Closes.is)
