use Rattle.std.specs.Prelude.{Contains}
use Rattle.std.specs.List.Sorted.{IsNonDecreasingBy}
use Rattle.std.proofs.Common.{List, ℕ, ap, get_or, length, subst, sym}
use Rattle.std.proofs.lemmas.List.Elements.{Contains-get_or}
use Rattle.std.proofs.lemmas.List.Sorted.{Contains-permutation, IsPermutation-sym}
use Rattle.cil_settle.specs.declared.edge.Edge.{Edge}
use Rattle.cil_macros.specs.Items.{items_in}
use Rattle.cil_mls.proofs.SetEdgeLemmas.{edges_are_within}
use Rattle.cil_levels.specs.declared.definitions.Definition.{Definition}
use Rattle.cil_levels.specs.Made.{AreInOrder, AreMade}
use Rattle.cil_levels.proofs.RankLemmas.{can_be_made, defined_too, falls, in_order}
use Rattle.cil_levels.proofs.values.with_sets.Goals as goal

pub cycles_of-requires-clause-within : goal.cycles_of-requires-clause-within
cycles_of-requires-clause-within c = λ i d below.
    let (sections, known) = c.requires.known in
    let es = c.as_slice.result.now in
    edges_are_within c.args.known.now (items_in c.args.instances.now) sections known c.means_what_it_names.ensures c.in_ok-edges.edges.items c.in_ok-edges.ensures.edges
    (length c.entries-entries.result.now) (ap length c.entries-entries.ensures.value) (get_or es i d) (subst (λ (l : List Edge). Contains l (get_or es i d)) c.as_slice.ensures.value (Contains-get_or es i d below))

pub made-requires-clause-can : goal.made-requires-clause-can
made-requires-clause-can c = λ x d.
    let all = c.in_ok-definitions.definitions.items in
    let ordered = c.ranked-ordered.result.items in
    can_be_made c.args.known.now c.args.instances.now all c.in_ok-definitions.ensures c.args.first.items c.requires.begun x
    (Contains-permutation ordered all x (IsPermutation-sym all ordered c.ranked-ordered.ensures.same) (subst (λ (l : List Definition). Contains l x) c.as_slice-3.ensures.value d))

pub made-requires-clause-order : goal.made-requires-clause-order
made-requires-clause-order c =
    let (sections, known) = c.requires.known in
    let k = c.args.known.now in
    let i = c.args.instances.now in
    let edges = c.in_ok-edges.edges.items in
    let ranks = c.in_ok-cycles.cycles.ranks.items in
    let fall = falls k (items_in i) sections known c.means_what_it_names.ensures edges c.in_ok-edges.ensures.edges c.requires.none ranks c.as_slice.result.now c.as_slice.ensures.value c.in_ok-cycles.ensures.ranks in
    subst (AreInOrder k i) (sym c.as_slice-3.ensures.value)
    (in_order k i (length (items_in i)) c.in_ok-definitions.definitions.items c.in_ok-definitions.ensures edges c.in_ok-edges.ensures.edges ranks fall c.ranked-ordered.result.items
    (subst (λ (l : List ℕ). IsNonDecreasingBy (λ (x : Definition). get_or l x.set 0) c.ranked-ordered.result.items) c.as_slice-2.ensures.value c.ranked-ordered.ensures.sorted) c.ranked-ordered.ensures.same)

pub returns-clause-made : goal.returns-clause-made
returns-clause-made c =
    let (sections, known) = c.requires.known in
    let k = c.args.known.now in
    let i = c.args.instances.now in
    let edges = c.in_ok-edges.edges.items in
    let ranks = c.in_ok-cycles.cycles.ranks.items in
    let ordered = c.ranked-ordered.result.items in
    record {
      all = ordered;
      defined = defined_too k i (length (items_in i)) c.in_ok-definitions.definitions.items ordered c.ranked-ordered.ensures.same c.in_ok-definitions.ensures;
      made = subst (λ (l : List Definition). AreMade k i c.args.count c.args.first.items l c.in_ok-helds.helds.items) c.as_slice-3.ensures.value c.in_ok-helds.ensures.made;
      edges = edges;
      lead = c.in_ok-edges.ensures.edges;
      ranks = ranks;
      fall = falls k (items_in i) sections known c.means_what_it_names.ensures edges c.in_ok-edges.ensures.edges c.requires.none ranks c.as_slice.result.now c.as_slice.ensures.value c.in_ok-cycles.ensures.ranks;
    }
