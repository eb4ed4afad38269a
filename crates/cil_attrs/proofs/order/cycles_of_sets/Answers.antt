use Rattle.std.proofs.Common.{sym, subst, length}
use Rattle.std.specs.Prelude.{All}
use Rattle.cil_settle.specs.Cycles.{AreOnCycles, Fall, HasNoCycle, IsWithin}
use Rattle.cil_attrs.proofs.OrderLemmas.{all_within, on_cycle, ranks_fall}
use Rattle.cil_attrs.proofs.order.cycles_of_sets.Goals as goal

pub cycles_of-requires-clause-within : goal.cycles_of-requires-clause-within
cycles_of-requires-clause-within c =
    subst (λ es. All (IsWithin (length c.args.held.now)) es) (sym c.as_slice.ensures.value) (all_within c.args.held.now c.args.givens.now c.in_ok-edges.edges.items c.in_ok-edges.ensures.same c.requires)

pub returns : goal.returns
returns c = record {
  on =
      on_cycle c.args.held.now c.args.givens.now c.in_ok-edges.edges.items c.in_ok-edges.ensures.same c.requires c.in_ok-cycles.cycles.on.items
      (subst (λ es. AreOnCycles es (length c.args.held.now) c.in_ok-cycles.cycles.on.items) c.as_slice.ensures.value c.in_ok-cycles.ensures.on);
  ranks =
      ranks_fall c.args.held.now c.args.givens.now c.in_ok-edges.edges.items c.in_ok-edges.ensures.same c.requires c.in_ok-cycles.cycles.ranks.items
      (subst (λ es. HasNoCycle es → Fall es c.in_ok-cycles.cycles.ranks.items) c.as_slice.ensures.value c.in_ok-cycles.ensures.ranks);
}
