use Rattle.std.proofs.Common.{◌∙◌, ap, sym}
use Rattle.std.specs.Prelude.{Some}
use Rattle.cil_macros.specs.Items.{is_text}
use Rattle.cil_macros.proofs.CallWordLemmas.{adds_no_string, adds_no_text, adds_word}
use Rattle.cil_macros.proofs.call_words.add_word.Goals as goal

pub returns-then-is_text : goal.returns-then-is_text
returns-then-is_text c =
    adds_no_text c.args.kind c.args.meant.now c.args.words.now.items (ap is_text (sym c.sign_of-sign.ensures) ∙ sym c.if-is_text.ensures)

pub returns-in_default : goal.returns-in_default
returns-in_default c = adds_no_string c.args.kind c.args.meant.now c.args.words.now.items c.in_default.is

pub returns : goal.returns
returns c =
    let m = c.args.meant.now in
    adds_word c.args.kind m c.args.words.now.items c.in-Some.place c.in-Some.is (ap is_text (sym c.sign_of-sign.ensures) ∙ sym c.if-is_text.ensures) _
    (c.asked_word.ensures ∙ (λ i. record { word = record { at = m.at; bytes = m.bytes; sign = c.sign_of-sign.ensures i }; scope = Some c.in-Some.place }))
    c.push.new.self.items c.in_ok-push.ensures.items
