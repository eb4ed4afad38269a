use Rattle.std.proofs.Common.{arith}
use Rattle.std.proofs.lemmas.Result.{IfOk-weaker}
use Rattle.cil_macros.specs.Items.{all_placed, scoped_by}
use Rattle.cil_declare.proofs.ContentLemmas.{apart, is_closes, is_opens, is_text, is_word, words_tell}
use Rattle.cil_declare.proofs.content.is_word.Goals as goal

pub returns-in-Word : goal.returns-in-Word
returns-in-Word c =
    let ps = all_placed c.args.instances.now in
    IfOk-weaker c.is_same_placed.result _ _
    (λ same tells. words_tell (scoped_by ps c.args.word.now) (scoped_by ps c.in-Word.other) _ same (is_word ps c.args.part.now c.in-Word.other c.in-Word.is) tells) c.is_same_placed.ensures

pub returns-in-Text : goal.returns-in-Text
returns-in-Text c = apart _ _ _ (is_text (all_placed c.args.instances.now) c.args.part.now _ _ c.in-Text.is) (λ e. omega (arith, e))

pub returns-in-Opens : goal.returns-in-Opens
returns-in-Opens c = apart _ _ _ (is_opens (all_placed c.args.instances.now) c.args.part.now _ _ c.in-Opens.is) (λ e. omega (arith, e))

pub returns-in-Closes : goal.returns-in-Closes
returns-in-Closes c = apart _ _ _ (is_closes (all_placed c.args.instances.now) c.args.part.now c.in-Closes.is) (λ e. omega (arith, e))
