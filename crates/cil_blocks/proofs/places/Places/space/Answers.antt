use Rattle.std.specs.Prelude.{None, slice_get}
use Rattle.std.proofs.Common.{◌≡◌, ◌∙◌, rules, sym, ap}
use Rattle.cil_blocks.specs.Places.{reached_at}
use Rattle.cil_blocks.proofs.PlaceLemmas.{chosen, none_there}
use Rattle.cil_blocks.proofs.places.Places.space.Goals as goal

pub returns-in_err-which : goal.returns-in_err-which
returns-in_err-which c =
    let none : slice_get c.args.self.now c.args.rank ≡ None = rw (← c.self.view_is) (none_there c.self.inside.kept.items c.self.inside.which c.args.rank (sym c.get.ensures ∙ c.in_err-which.was)) in
    search (rules, none)

pub returns : goal.returns
returns c = (
  reached_at c.self.inside.kept.items c.in_ok-which.which,
  rw (← c.self.view_is) (chosen c.self.inside.kept.items c.self.inside.which c.args.rank c.in_ok-which.which (sym c.get.ensures ∙ c.in_ok-which.was)),
  c.space_of.ensures ∙ ap (λ ps. (reached_at ps c.in_ok-which.which).0) c.as_slice.ensures.value,
)
