use Rattle.std.proofs.Common.{rules, ◌≡◌, ◌∙◌, ap, sym}
use Rattle.std.specs.Prelude.{Some}
use Rattle.std.proofs.lemmas.Option.{slice_get-get_or}
use Rattle.cil_names.proofs.name_places.is_name_at.Goals as goal

pub returns-in-Some : goal.returns-in-Some
returns-in-Some c = λ t.
    let same : c.in-Some.known.now ≡ c.args.name.now = search (rules, t) in
    slice_get-get_or c.args.names.now c.args.place c.in-Some.known.now c.in-Some.ensures.lookup.3.0 ∙ ap Some (sym c.in-Some.ensures.lookup.1) ∙ ap Some same
