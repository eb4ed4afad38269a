use Rattle.std.proofs.Common.{List, subst, sym}
use Rattle.std.proofs.lemmas.List.Elements.{Contains-get_or}
use Rattle.cil_settle.specs.declared.edge.Edge.{Edge}
use Rattle.cil_attrs.specs.macros.Items.{items_in}
use Rattle.cil_mls.proofs.OrderingLemmas.{answers_so, edges_within}
use Rattle.cil_mls.proofs.PairLemmas.{LeadIn}
use Rattle.cil_mls.proofs.item_order.order_in.Goals as goal

pub order_of-requires : goal.order_of-requires
order_of-requires c = λ k d below.
    let (sections, are) = c.requires.numbered in
    let known = c.args.known.now in
    let edges = c.as_mut_slice.result.now in
    edges_within known (items_in c.args.instances.now) sections c.args.kind c.args.names.now c.args.standing.now are c.requires.section c.requires.apart c.args.keyword edges
    (subst (λ (es : List Edge). LeadIn known c.args.standing.now c.args.keyword (items_in c.args.instances.now) (items_in c.args.instances.now) es) (sym c.as_mut_slice.ensures.value) c.in_ok-edges.ensures)
    _ (Contains-get_or edges k d below)

pub returns : goal.returns
returns c =
    let (sections, are) = c.requires.numbered in
    let known = c.args.known.now in
    answers_so known (items_in c.args.instances.now) sections c.args.kind c.args.names.now c.args.standing.now are c.requires.section c.requires.apart c.args.keyword c.as_mut_slice.result.now
    (subst (λ (es : List Edge). LeadIn known c.args.standing.now c.args.keyword (items_in c.args.instances.now) (items_in c.args.instances.now) es) (sym c.as_mut_slice.ensures.value) c.in_ok-edges.ensures)
    (λ v. v.items) _ c.order_of.ensures.order
