use Rattle.std.proofs.Common.{arith, refl, sym}
use Rattle.cil_declare.proofs.ContentLemmas.{apart, is_closes, is_opens, is_text, is_word, tells_of, texts_tell}
use Rattle.cil_declare.proofs.content.is_text.Goals as goal

pub returns-in-Word : goal.returns-in-Word
returns-in-Word c = λ ps. apart _ _ _ (is_word ps c.args.part.now _ c.in-Word.is) (λ e. omega (arith, e))

pub returns-in-Text : goal.returns-in-Text
returns-in-Text c = λ ps.
    texts_tell c.args.bytes.now c.in-Text.text _ _ (is_text ps c.args.part.now _ c.in-Text.text c.in-Text.is) (tells_of _ _ _ _ _ refl (sym c.as_slice.ensures) c.is_same_text.ensures)

pub returns-in-Opens : goal.returns-in-Opens
returns-in-Opens c = λ ps. apart _ _ _ (is_opens ps c.args.part.now _ _ c.in-Opens.is) (λ e. omega (arith, e))

pub returns-in-Closes : goal.returns-in-Closes
returns-in-Closes c = λ ps. apart _ _ _ (is_closes ps c.args.part.now c.in-Closes.is) (λ e. omega (arith, e))
