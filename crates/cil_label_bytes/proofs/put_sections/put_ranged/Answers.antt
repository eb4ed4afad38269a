use Rattle.std.proofs.Common.{[], refl, ◌∙◌, arith}
use Rattle.cil_format.specs.Format.{both}
use Rattle.cil_label_bytes.specs.Layout.{range}
use Rattle.cil_label_bytes.specs.Names.{name}
use Rattle.cil_label_bytes.proofs.PutLemmas.{pair_put, pairs_put}
use Rattle.cil_label_bytes.proofs.put_sections.put_ranged.Goals as goal

pub loop-at-preserved : goal.loop-at-preserved
loop-at-preserved c =
    pair_put (both name (λ n. range 0 [])).spell c.args.names.now c.args.ranges.now c.args.out.now.items c.loop-at.at c.as_slice.result.now _ _ _ c.loop-at.out.items c.put_text.new.out.items
    c.put_range.new.out.items _ _ (omega (arith, c.loop-at-test.true, c.requires.first)) (omega (arith, c.loop-at-test.true, c.requires.second)) (c.as_slice.ensures ∙ c.index-names-at.is) refl refl
    c.loop-at.invariant c.in_ok-put_text.ensures c.in_ok-put_range.ensures

pub returns : goal.returns
returns c =
    pairs_put (both name (λ n. range 0 [])).spell c.args.names.now c.args.ranges.now c.args.out.now.items c.loop-at.at c.loop-at.out.items (omega (arith, c.loop-at-test.false, c.requires.all)) c.loop-at.invariant
