use Rattle.std.proofs.Common.{ap, refl, sym, ◌∙◌}
use Rattle.std.proofs.lemmas.Result.{IfOk-weaker}
use Rattle.cil_macros.specs.Items.{all_placed}
use Rattle.cil_macros.specs.Listed.{text}
use Rattle.cil_names.specs.Declarations.{nowhere}
use Rattle.cil_declare.proofs.ContentLemmas.{is_closes, is_opens, is_text, is_word, tells_of}
use Rattle.cil_declare.proofs.content.is_same_part.Goals as goal

pub returns-in-Word : goal.returns-in-Word
returns-in-Word c =
    let ps = all_placed c.args.instances.now in
    IfOk-weaker c.is_word.result _ _ (λ same tells. tells_of same _ _ _ _ (is_word ps c.args.a.now c.in-Word.word c.in-Word.is) refl tells) c.is_word.ensures

pub returns-in-Text : goal.returns-in-Text
returns-in-Text c =
    let ps = all_placed c.args.instances.now in
    tells_of _ _ _ _ _ (is_text ps c.args.a.now _ c.in-Text.text c.in-Text.is ∙ ap (text nowhere) (sym c.as_slice.ensures)) refl (c.is_text.ensures ps)

pub returns-in-Opens : goal.returns-in-Opens
returns-in-Opens c =
    let ps = all_placed c.args.instances.now in tells_of _ _ _ _ _ (is_opens ps c.args.a.now _ c.in-Opens.op c.in-Opens.is) refl (c.opens.ensures ps)

pub returns-in-Closes : goal.returns-in-Closes
returns-in-Closes c = let ps = all_placed c.args.instances.now in tells_of _ _ _ _ _ (is_closes ps c.args.a.now c.in-Closes.is) refl (c.closes.ensures ps)
