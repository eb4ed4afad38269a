use Rattle.std.proofs.Common.{◌∙◌, ap, sym}
use Rattle.cil_syntax.specs.Said.{all_said}
use Rattle.cil_syntax.specs.Written as written
use Rattle.cil_blocks.proofs.DoubledLemmas.{if_ok}
use Rattle.cil_macros.specs.Calls.{is_call}
use Rattle.cil_macros.specs.Listed.{parts_there}
use Rattle.cil_macros.specs.Macros.{all_standing}
use Rattle.cil_macros.specs.Scene.{placed_of_scene}
use Rattle.cil_macros.specs.Walks.{written_in}
use Rattle.cil_macros.proofs.ListMarkLemmas.{known_at}
use Rattle.cil_macros.proofs.SaidPartLemmas.{call_said, nothing_said, words_said}
use Rattle.cil_macros.proofs.said_parts.said_parts_at.Goals as goal

pub returns-in_default : goal.returns-in_default
returns-in_default c = λ p here lists.
    let s = c.args.scene.now in
    ap (parts_there (placed_of_scene s)) c.new.ensures.items ∙ nothing_said (written_in s.spaces.now) (all_standing s.spaces.now) p (c.in_default.ensures p here)

pub returns-then-is_call : goal.returns-then-is_call
returns-then-is_call c =
    let s = c.args.scene.now in
    if_ok _ _ c.call_parts.result
    (λ parts says p here lists.
    call_said (written_in s.spaces.now) (all_standing s.spaces.now) p (parts_there (placed_of_scene s) parts.items)
    (ap (λ (y : written.Statement). is_call y.keyword) (c.in-Some.ensures p here) ∙ sym c.is_call.ensures ∙ c.if-is_call.true)
    (says p here))
    c.call_parts.ensures

pub said_parts-requires : goal.said_parts-requires
said_parts-requires c = known_at c.args.scene.now c.args.openings.now c.requires.opened c.args.at c.requires.within

pub returns : goal.returns
returns c =
    let s = c.args.scene.now in
    let x = c.in-Some.statement.now in
    if_ok _ _ c.said_parts.result
    (λ parts says p here lists.
    let so = c.in-Some.ensures p here in
    words_said (written_in s.spaces.now) (all_standing s.spaces.now) p (parts_there (placed_of_scene s) parts.items) lists
    (ap (λ (y : written.Statement). is_call y.keyword) so ∙ sym c.is_call.ensures ∙ c.if-is_call.false)
    (all_said x.at.«module» c.as_slice.result.now) (ap (all_said x.at.«module») c.as_slice.ensures.value ∙ sym (ap (λ (y : written.Statement). y.args) so)) (says p here))
    c.said_parts.ensures
