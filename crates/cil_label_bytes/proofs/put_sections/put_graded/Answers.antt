use Rattle.std.proofs.Common.{[], refl, ◌∙◌, arith}
use Rattle.cil_label_bytes.specs.Layout.{sensitivity}
use Rattle.cil_label_bytes.proofs.PutLemmas.{pair_put, pairs_put}
use Rattle.cil_label_bytes.proofs.put_sections.put_graded.Goals as goal

pub loop-at-preserved : goal.loop-at-preserved
loop-at-preserved c =
    pair_put (sensitivity 0 []).spell c.args.names.now c.args.permitted.now c.args.out.now.items c.loop-at.at c.as_slice.result.now _ _ _ c.loop-at.out.items c.put_text.new.out.items
    c.put_categories.new.out.items _ _ (omega (arith, c.loop-at-test.true, c.requires.first)) (omega (arith, c.loop-at-test.true, c.requires.second)) (c.as_slice.ensures ∙ c.index-names-at.is) refl refl
    c.loop-at.invariant c.in_ok-put_text.ensures c.in_ok-put_categories.ensures

pub returns : goal.returns
returns c =
    pairs_put (sensitivity 0 []).spell c.args.names.now c.args.permitted.now c.args.out.now.items c.loop-at.at c.loop-at.out.items (omega (arith, c.loop-at-test.false, c.requires.all)) c.loop-at.invariant
