use Rattle.std.proofs.Common.{◌∙◌, ap, sym}
use Rattle.std.specs.Prelude.{Some}
use Rattle.cil_macros.specs.Items.{is_text}
use Rattle.cil_macros.proofs.SaidPartLemmas.{pushes_no_string, pushes_no_text, pushes_word}
use Rattle.cil_macros.proofs.said_parts.push_word.Goals as goal

pub returns-then-is_text : goal.returns-then-is_text
returns-then-is_text c =
    pushes_no_text c.args.kind c.args.meant.now c.args.parts.now.items (ap is_text (sym c.sign_of-sign.ensures) ∙ sym c.if-is_text.ensures)

pub returns-in_default : goal.returns-in_default
returns-in_default c = pushes_no_string c.args.kind c.args.meant.now c.args.parts.now.items c.in_default.is

pub returns : goal.returns
returns c =
    let m = c.args.meant.now in
    pushes_word c.args.kind m c.args.parts.now.items c.in-Some.place c.in-Some.is (ap is_text (sym c.sign_of-sign.ensures) ∙ sym c.if-is_text.ensures) _
    (c.asked_word.ensures ∙ (λ i. record { word = record { at = m.at; bytes = m.bytes; sign = c.sign_of-sign.ensures i }; scope = Some c.in-Some.place }))
    c.push_part.new.parts.items c.in_ok-push_part.ensures
