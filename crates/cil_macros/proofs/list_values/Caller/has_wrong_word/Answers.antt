use Rattle.std.proofs.Common.{◌∙◌, ap}
use Rattle.std.specs.List.{list_any}
use Rattle.cil_syntax.specs.Said.{all_said}
use Rattle.cil_macros.specs.ListPlaces.{is_wrong_part}
use Rattle.cil_macros.specs.Placed.{meaning}
use Rattle.cil_macros.specs.Puts.{bare_parts}
use Rattle.cil_macros.specs.Walks.{written_in}
use Rattle.cil_macros.proofs.ListPlaceLemmas.{by_parts}
use Rattle.cil_macros.proofs.list_values.Caller.has_wrong_word.Goals as goal

pub returns : goal.returns
returns c = λ p here.
    let call = c.args.self.now in
    let f = meaning (written_in call.scene.now.spaces.now) p in
    by_parts f (all_said call.«module» c.args.terms.now) c.new-parts.result.items c.push_terms.new.parts.items c.new-parts.ensures.items c.in_ok-push_terms.ensures c.has_wrong_part.result
    (c.has_wrong_part.ensures p here ∙ ap (λ xs. list_any (is_wrong_part f) (bare_parts xs)) c.as_slice.ensures.value)
