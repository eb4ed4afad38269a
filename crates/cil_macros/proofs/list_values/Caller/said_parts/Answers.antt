use Rattle.std.proofs.Common.{◌++◌, ◌∙◌, ap}
use Rattle.cil_syntax.specs.Said.{all_said}
use Rattle.cil_macros.specs.Items.{said_by}
use Rattle.cil_macros.specs.Listed.{all_parts_of, parts_there}
use Rattle.cil_macros.specs.Placed.{all_filled}
use Rattle.cil_macros.specs.Puts.{bare, bare_parts, put_parts}
use Rattle.cil_macros.specs.Scene.{placed_of_scene}
use Rattle.cil_macros.specs.Walks.{written_in}
use Rattle.cil_macros.proofs.PutLemmas.{terms_put}
use Rattle.cil_macros.proofs.list_values.Caller.said_parts.Goals as goal

pub returns : goal.returns
returns c = λ p here.
    let call = c.args.self.now in
    let ps = placed_of_scene call.scene.now in
    let f = said_by (written_in call.scene.now.spaces.now) p in
    let ts = all_said call.«module» c.args.terms.now in
    c.in_ok-say.ensures p here
    ∙ ap (λ xs. parts_there ps xs ++ put_parts f (bare_parts c.as_slice.result.now)) c.new-parts.ensures.items
    ∙ ap (λ xs. put_parts f (bare_parts xs)) c.as_slice.ensures.value
    ∙ ap (put_parts f) (c.in_ok-push_terms.ensures ∙ ap (λ xs. bare_parts xs ++ all_parts_of (all_filled bare ts)) c.new-asked.ensures.items)
    ∙ terms_put f ts
