use Rattle.std.proofs.Common.{◌≡◌, drop}
use Rattle.std.specs.List.{list_any}
use Rattle.cil_macros.specs.declared.openings.Opening.{Opening}
use Rattle.cil_macros.proofs.list_places.have_lists.Given as goal

abbrev pub invariant-loop-opening : goal.invariant-loop-opening
invariant-loop-opening l = list_any (λ (o : Opening). o.lists) l.openings ≡ list_any (λ (o : Opening). o.lists) (drop l.opening-index l.openings)
