use Rattle.std.proofs.Common.{[]}
use Rattle.std.proofs.lemmas.Result.{on_ok_weaker}
use Rattle.cil_names.proofs.AskedPartLemmas.{closes_none, none_pushed, opens_none, text_none, word_pushed}
use Rattle.cil_names.proofs.asked_parts.push_word.Goals as goal

pub returns-in-Word : goal.returns-in-Word
returns-in-Word c =
    on_ok_weaker c.push_placed.result (λ push ps. word_pushed ps c.args.part.now c.args.words.now.items _ c.in-Word.word c.copied.result c.in-Word.is c.copied.ensures push)
    c.push_placed.ensures

pub returns-in-Text : goal.returns-in-Text
returns-in-Text c = λ ps. none_pushed ps c.args.part.now c.args.words.now.items [] (text_none ps c.args.part.now [] [] c.in-Text.field-0 c.in-Text.field-1 c.in-Text.is)

pub returns-in-Opens : goal.returns-in-Opens
returns-in-Opens c = λ ps. none_pushed ps c.args.part.now c.args.words.now.items [] (opens_none ps c.args.part.now [] [] c.in-Opens.field-0 c.in-Opens.field-1 c.in-Opens.is)

pub returns-in-Closes : goal.returns-in-Closes
returns-in-Closes c = λ ps. none_pushed ps c.args.part.now c.args.words.now.items [] (closes_none ps c.args.part.now [] [] c.in-Closes.is)
