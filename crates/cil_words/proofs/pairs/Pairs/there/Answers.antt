use Rattle.std.proofs.Common.{ap, sym, ◌∙◌}
use Rattle.std.specs.Prelude.{slice_get}
use Rattle.cil_words.proofs.pairs.Pairs.there.Goals as goal

pub returns : goal.returns
returns c = record {
  owner = ap (λ l. slice_get l c.in-Some.place) (sym c.as_slice.ensures.value) ∙ c.is_owner.ensures c.if-not-is_owner.false;
  number_there = ap (λ l. slice_get l c.in-Some.place) (sym c.as_slice-2.ensures.value) ∙ c.is_number.ensures c.if-not-is_number.false;
}
