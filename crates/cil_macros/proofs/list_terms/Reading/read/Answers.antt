use Rattle.std.proofs.Common.{◌≡◌, ◌++◌, ◌∷◌, [], ◌∙◌, ap, refl, subst, sym}
use Rattle.std.specs.Prelude.{Some, slice_get}
use Rattle.cil_syntax.specs.declared.term.Term.TheVariants as variants
use Rattle.cil_macros.specs.declared.list_terms.Reading.{Reading}
use Rattle.cil_macros.specs.Items.{scoped_by}
use Rattle.cil_macros.specs.Listed.{part_there, with_part, word as part_word}
use Rattle.cil_macros.specs.ListTerms.{AreRead}
use Rattle.cil_macros.proofs.ListTermLemmas.{text_read, word_read}
use Rattle.cil_macros.proofs.list_terms.Reading.read.Goals as goal

pub returns-in_ok-push-in-Word : goal.returns-in_ok-push-in-Word
returns-in_ok-push-in-Word c = λ ps xs m read there are.
    let new : Reading = record { level = c.push.new.self; outer = c.args.self.now.outer } in
    let here = there ∙ ap (λ x. Some (part_there ps x)) c.in-Word.is in
    subst (λ x. AreRead xs m new (with_part (part_there ps x) read)) (sym c.in-Word.is)
    (word_read xs m c.args.self.now new _ (scoped_by ps c.in-Word.word) read c.in_ok-push-in-Word.ensures.items refl
    (subst (λ n. slice_get xs n ≡ Some (part_word (scoped_by ps c.in-Word.word))) (sym c.in_ok-short-in-Word.ensures) here) are)

pub returns-in_ok-push-in-Text : goal.returns-in_ok-push-in-Text
returns-in_ok-push-in-Text c = λ ps xs m read there are.
    let new : Reading = record { level = c.push-in-Text.new.self; outer = c.args.self.now.outer } in
    subst (λ x. AreRead xs m new (with_part (part_there ps x) read)) (sym c.in-Text.is)
    (text_read xs m c.args.self.now new 0 c.in-Text.field-0 c.in-Text.bytes read
    (c.in_ok-push-in-Text.ensures.items ∙ ap (λ bytes. c.args.self.now.level.items ++ variants.Name 0 bytes ∷ []) (c.of-in-Text.ensures ∙ c.as_slice-in-Text.ensures)) refl are)

pub returns-in_ok-end-in-Opens : goal.returns-in_ok-end-in-Opens
returns-in_ok-end-in-Opens c = λ ps xs m read there are.
    subst (λ x. AreRead xs m c.end.new.self (with_part (part_there ps x) read)) (sym c.in-Opens.is) (c.in_ok-end-in-Opens.ensures xs m read are c.in-Opens.field-0)

pub returns-in_ok-begin-in-Closes : goal.returns-in_ok-begin-in-Closes
returns-in_ok-begin-in-Closes c = λ ps xs m read there are.
    subst (λ x. AreRead xs m c.begin.new.self (with_part (part_there ps x) read)) (sym c.in-Closes.is) (c.in_ok-begin-in-Closes.ensures xs m read are)
