use Rattle.std.specs.Prelude.{Option}
use Rattle.std.proofs.Common.{ℕ, subst}
use Rattle.cil_mls.specs.Pairs.{LeadMore}
use Rattle.cil_attrs.proofs.ToldLemmas.{taken_one}
use Rattle.cil_mls.proofs.SetEdgeLemmas.{LeadsBy, all_words, more_words, no_words}
use Rattle.cil_mls.proofs.category_sets.push_named.Goals as goal

pub loop-place-init : goal.loop-place-init
loop-place-init c = no_words c.args.entries.now c.args.set c.args.words.now c.args.edges.now.items

pub loop-place-preserved : goal.loop-place-preserved
loop-place-preserved c =
    let row = c.args.words.now in
    let place = c.loop-place.place in
    more_words c.args.entries.now c.args.set row place _ (taken_one row place _ c.loop-place-test.true c.index-words-place.is) _ _ _ c.loop-place.invariant
    (subst (λ (o : Option ℕ). LeadMore c.loop-place.edges.items c.push_edge.new.edges.items (LeadsBy c.args.entries.now c.args.set o)) c.entry.ensures c.in_ok-push_edge.ensures)

pub returns : goal.returns
returns c = all_words c.args.entries.now c.args.set c.args.words.now c.loop-place.place c.loop-place-test.false _ _ c.loop-place.invariant
