use Rattle.std.proofs.Common.{◌∙◌, List, [], ap, sym}
use Rattle.cil_blocks.specs.declared.places.Place.{Place}
use Rattle.cil_blocks.specs.Numbers.{with_numbers}
use Rattle.cil_blocks.specs.Places.{Reached, reached_at}
use Rattle.cil_blocks.specs.Placing.{numbers_left}
use Rattle.cil_blocks.proofs.PlaceLemmas.{chosen_is, none_chosen, none_left}
use Rattle.cil_blocks.proofs.places.Places.add_scope.Goals as goal

pub returns-in_default : goal.returns-in_default
returns-in_default c = λ r e. absurd (none_chosen c.self.inside.kept.items c.self.inside.which c.args.rank r (sym c.in_default.ensures) (rw (← c.self.view_is) at e))

pub returns : goal.returns
returns c = λ r e.
    let ss = c.args.namespaces.now in
    c.in_ok-add_chains.ensures ∙ c.in_ok-left.ensures ss
    ∙ ap (λ (ps : List Place). with_numbers c.args.scope.now (numbers_left ss (reached_at ps c.in-Some.which) [])) c.as_slice.ensures.value
    ∙ ap (λ (x : Reached). with_numbers c.args.scope.now (numbers_left ss x []))
    (chosen_is c.self.inside.kept.items c.self.inside.which c.args.rank c.in-Some.which r (sym c.in-Some.ensures) (rw (← c.self.view_is) at e))
    ∙ ap (with_numbers c.args.scope.now) (none_left ss r)
