use Rattle.std.proofs.Common.{ap, sym, ◌∙◌}
use Rattle.std.specs.Prelude.{slice_get}
use Rattle.cil_base.specs.Places.{in_range}
use Rattle.cil_names.specs.Entries.{listed}
use Rattle.cil_words.proofs.pairs.Pairs.owner.Goals as goal

pub one-requires : goal.one-requires
one-requires c = in_range c.as_slice-owners.result.now c.args.place c.in-Some.field-0 (sym c.in-Some.ensures)

pub returns-in-None : goal.returns-in-None
returns-in-None c = ap listed (c.in-None.ensures ∙ ap (λ l. slice_get l c.args.place) c.as_slice-owners.ensures.value)

pub returns-in-Some : goal.returns-in-Some
returns-in-Some c =
    c.one.ensures c.in-Some.field-0 (sym c.in-Some.ensures) ∙ ap listed (c.in-Some.ensures ∙ ap (λ l. slice_get l c.args.place) c.as_slice-owners.ensures.value)
