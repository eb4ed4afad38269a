use Rattle.std.proofs.Common.{sym, ◌∙◌, ap}
use Rattle.cil_attrs.specs.Evaluated.{is_held}
use Rattle.cil_attrs.proofs.EvaluatedLemmas.{by_members}
use Rattle.cil_attrs.proofs.held.holds.Goals as goal

pub returns-in-Set : goal.returns-in-Set
returns-in-Set c = sym (by_members c.in-Set.members c.args.item c.contains.result (c.contains.ensures.1, c.contains.ensures.0)) ∙ ap (is_held c.args.item) (sym c.in-Set.is)
