use Rattle.std.proofs.Common.{List, subst}
use Rattle.cil_attrs.specs.names.Entry.{Entry}
use Rattle.cil_mls.specs.Pairs.{LeadMore}
use Rattle.cil_attrs.specs.macros.Items.{item_at, items_in}
use Rattle.cil_mls.specs.SetEdges.{IsSetEdge}
use Rattle.cil_mls.proofs.PairLemmas.{lead_as, no_more}
use Rattle.cil_mls.proofs.SetEdgeLemmas.{LeadsTo, its_edges, no_edges}
use Rattle.cil_mls.proofs.category_sets.push_set.Goals as goal

pub asks_words-requires-clause-set : goal.asks_words-requires-clause-set
asks_words-requires-clause-set c = c.in-Some.ensures.declares.declares.of_kind

pub returns-in_default : goal.returns-in_default
returns-in_default c =
    let xs = items_in c.args.instances.now in
    let x = item_at c.args.instances.now c.args.at in
    no_more c.args.edges.now.items (IsSetEdge c.args.known.now xs x) (no_edges c.args.known.now xs x c.in_default.ensures)

pub returns : goal.returns
returns c =
    let k = c.args.known.now in
    let xs = items_in c.args.instances.now in
    let x = item_at c.args.instances.now c.args.at in
    lead_as _ _ (LeadsTo k.lookup.names.now c.in-Some.set c.args.words.now) (IsSetEdge k xs x)
    (its_edges k xs x c.in-Some.set c.in-Some.ensures (c.asks_words.ensures c.if-not-asks_words.false) c.args.words.now c.requires.row)
    (subst (λ (es : List Entry). LeadMore c.args.edges.now.items c.push_named.new.edges.items (LeadsTo es c.in-Some.set c.args.words.now)) c.entries.ensures.value c.in_ok-push_named.ensures)
