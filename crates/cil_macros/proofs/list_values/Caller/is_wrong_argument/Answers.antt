use Rattle.std.proofs.Common.{◌∙◌, ap, sym}
use Rattle.std.specs.Prelude.{◌&&◌, codes}
use Rattle.std.specs.List.{list_any}
use Rattle.cil_syntax.specs.declared.term.Word.{Word}
use Rattle.cil_syntax.specs.Spelling.{same_bytes}
use Rattle.cil_faults.specs.Spots.{spot_at}
use Rattle.cil_macros.specs.ListPlaces.{is_wrong_part}
use Rattle.cil_macros.specs.Placed.{meaning}
use Rattle.cil_macros.specs.Puts.{bare_parts, is_of_sets}
use Rattle.cil_macros.specs.Walks.{written_in}
use Rattle.cil_macros.proofs.ListPlaceLemmas.{every_judged, list_judged, name_judged, string_judged, word_judged}
use Rattle.cil_macros.proofs.list_values.Caller.is_wrong_argument.Goals as goal

pub returns-then-is_every : goal.returns-then-is_every
returns-then-is_every c =
    let call = c.args.self.now in
    every_judged call.scene.now call.at call.«module» c.args.kind c.args.argument.now c.in-Leaf.word c.in-Leaf.is
    (sym c.if-is_every.true ∙ c.is_every.ensures ∙ ap (λ b. is_of_sets c.args.kind && same_bytes b (codes "all")) c.as_slice.ensures)

pub returns-else-is_every : goal.returns-else-is_every
returns-else-is_every c =
    let call = c.args.self.now in
    let own : Word = record { at = c.of.result; bytes = c.of-in-Leaf.result; sign = c.sign_of.result } in
    word_judged call.scene.now call.at call.«module» c.args.kind c.args.argument.now c.in-Leaf.word c.in-Leaf.is
    (sym c.if-is_every.false ∙ c.is_every.ensures ∙ ap (λ b. is_of_sets c.args.kind && same_bytes b (codes "all")) c.as_slice.ensures) own
    (λ i. record { at = c.of.ensures i; bytes = (c.of-in-Leaf.ensures ∙ c.as_slice-in-Leaf.ensures) i; sign = c.sign_of.ensures i }) c.is_wrong_word.result c.is_wrong_word.ensures

pub returns-in-Name : goal.returns-in-Name
returns-in-Name c =
    let call = c.args.self.now in
    name_judged call.scene.now call.at call.«module» c.args.kind c.args.argument.now c.in-Name.field-0 c.in-Name.field-1 c.in-Name.is

pub returns-then-not-may_be_list : goal.returns-then-not-may_be_list
returns-then-not-may_be_list c =
    let call = c.args.self.now in
    string_judged call.scene.now call.at call.«module» c.args.kind c.args.argument.now c.in-Form.field-1 c.in-Form.field-0 c.in-Form.items c.in-Form.is
    (sym c.if-not-may_be_list.true ∙ c.may_be_list.ensures)

pub returns-in_ok-push_items-in-Form : goal.returns-in_ok-push_items-in-Form
returns-in_ok-push_items-in-Form c =
    let call = c.args.self.now in
    let bt = spot_at call.«module» c.in-Form.field-1 in
    list_judged call.scene.now call.at call.«module» c.args.kind c.args.argument.now c.in-Form.field-1 c.in-Form.field-0 c.in-Form.items c.in-Form.is
    (sym c.if-not-may_be_list.false ∙ c.may_be_list.ensures) c.as_slice-in-Form.result.now c.as_slice-in-Form.ensures.value c.in_ok-push_items-in-Form.field-0
    (c.in_ok-push_items-in-Form.ensures.joined bt) c.new-parts.result.items c.push_items.new.parts.items c.new-parts.ensures.items (c.in_ok-push_items-in-Form.ensures.parts bt)
    c.has_wrong_part.result
    (λ p here. c.has_wrong_part.ensures p here ∙ ap (λ xs. list_any (is_wrong_part (meaning (written_in call.scene.now.spaces.now) p)) (bare_parts xs)) c.as_slice-in-Form-2.ensures.value)
