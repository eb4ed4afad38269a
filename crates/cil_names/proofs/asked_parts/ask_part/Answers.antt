use Rattle.std.proofs.Common.{◌+◌, ◌++◌, ◌∙◌, ap, drop, refl, sym, take}
use Rattle.std.specs.List.{flat_map}
use Rattle.std.proofs.lemmas.List.{drop-drop}
use Rattle.cil_macros.specs.Listed.{parts_there}
use Rattle.cil_names.specs.Asked.{wanted_by}
use Rattle.cil_names.specs.AskedParts.{class_asked, parts_inside}
use Rattle.cil_names.proofs.AskedPartLemmas.{at_place, closes_asked, form_opened, list_opened, list_read, text_asked, word_asked}
use Rattle.cil_names.proofs.asked_parts.ask_part.Goals as goal

pub returns-in_ok-push_asked-in-Word-clause-asked : goal.returns-in_ok-push_asked-in-Word-clause-asked
returns-in_ok-push_asked-in-Word-clause-asked c = λ ps.
    word_asked ps c.index-parts-at.result (drop (c.args.at + 1) c.args.parts.now) c.args.asked.now.items c.in-Word.word c.copied.result _ c.in-Word.is c.copied.ensures c.in_ok-push_asked-in-Word.ensures
    ∙ at_place ps c.args.parts.now c.args.at _ _ _ c.requires c.index-parts-at.is

pub returns-in-Text-clause-asked : goal.returns-in-Text-clause-asked
returns-in-Text-clause-asked c = λ ps.
    text_asked ps c.index-parts-at.result (drop (c.args.at + 1) c.args.parts.now) c.args.asked.now.items c.in-Text.field-0 c.in-Text.field-1 c.in-Text.is
    ∙ at_place ps c.args.parts.now c.args.at _ _ _ c.requires c.index-parts-at.is

pub returns-in-Closes-clause-asked : goal.returns-in-Closes-clause-asked
returns-in-Closes-clause-asked c = λ ps.
    closes_asked ps c.index-parts-at.result (drop (c.args.at + 1) c.args.parts.now) c.args.asked.now.items c.in-Closes.is
    ∙ at_place ps c.args.parts.now c.args.at _ _ _ c.requires c.index-parts-at.is

pub returns-then-not-is_class_list-clause-asked : goal.returns-then-not-is_class_list-clause-asked
returns-then-not-is_class_list-clause-asked c = λ ps.
    form_opened ps c.index-parts-at.result (drop (c.args.at + 1) c.args.parts.now) c.args.asked.now.items c.in-Opens.field-0 c.in-Opens.op c.in-Opens.is
    (sym c.is_class_list.ensures.list ∙ c.if-not-is_class_list.true)
    ∙ at_place ps c.args.parts.now c.args.at _ _ _ c.requires c.index-parts-at.is

pub returns-in_ok-inside-in-Opens-clause-asked : goal.returns-in_ok-inside-in-Opens-clause-asked
returns-in_ok-inside-in-Opens-clause-asked c = λ ps.
    let rest = drop (c.args.at + 1) c.args.parts.now in
    let n = c.in_ok-inside-in-Opens.inside in
    list_opened ps c.index-parts-at.result rest c.args.asked.now.items c.in-Opens.field-0 c.in-Opens.op c.in-Opens.is (sym c.is_class_list.ensures.list ∙ c.if-not-is_class_list.false) _
    (list_read ps rest (take n rest) (drop (c.args.at + 1 + n) c.args.parts.now) n c.args.asked.now.items c.ask_list.new.asked.items
    (c.in_ok-inside-in-Opens.ensures.inside ps ∙ ap (λ xs. parts_inside 0 (parts_there ps xs)) c.behind.ensures) refl (sym (drop-drop n (c.args.at + 1) c.args.parts.now))
    (c.in_ok-inside-in-Opens.ensures.asked ps
    ∙ ap (λ xs. flat_map (wanted_by ps) c.args.asked.now.items ++ class_asked (parts_there ps (take n xs))) c.behind.ensures))
    ∙ at_place ps c.args.parts.now c.args.at _ _ _ c.requires c.index-parts-at.is
