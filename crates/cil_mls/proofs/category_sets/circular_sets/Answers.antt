use Rattle.std.proofs.Common.{List, ap, get_or, length, subst}
use Rattle.std.proofs.lemmas.List.Elements.{Contains-get_or}
use Rattle.std.specs.Prelude.{Contains}
use Rattle.cil_settle.specs.declared.edge.Edge.{Edge}
use Rattle.cil_settle.specs.Cycles.{AreOnCycles}
use Rattle.cil_attrs.specs.macros.Items.{items_in}
use Rattle.cil_mls.proofs.SetEdgeLemmas.{circular_is, edges_are_within}
use Rattle.cil_mls.proofs.category_sets.circular_sets.Goals as goal

pub cycles_of-requires-clause-within : goal.cycles_of-requires-clause-within
cycles_of-requires-clause-within c = λ i d below.
    let (sections, known) = c.requires.known in
    let es = c.as_slice.result.now in
    edges_are_within c.args.known.now (items_in c.args.instances.now) sections known c.means_what_it_names.ensures c.in_ok-edges.edges.items c.in_ok-edges.ensures.edges
    (length c.entries-entries.result.now) (ap length c.entries-entries.ensures.value) (get_or es i d) (subst (λ (l : List Edge). Contains l (get_or es i d)) c.as_slice.ensures.value (Contains-get_or es i d below))

pub returns : goal.returns
returns c =
    let (sections, known) = c.requires.known in
    circular_is c.args.known.now (items_in c.args.instances.now) sections known c.means_what_it_names.ensures c.in_ok-edges.edges.items c.in_ok-edges.ensures.edges
    (length c.entries-entries.result.now) c.in_ok-cycles.cycles.on.items (ap length c.entries-entries.ensures.value)
    (subst (λ (l : List Edge). AreOnCycles l (length c.entries-entries.result.now) c.in_ok-cycles.cycles.on.items) c.as_slice.ensures.value c.in_ok-cycles.ensures.on)
