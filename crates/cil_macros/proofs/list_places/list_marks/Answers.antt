use Rattle.std.proofs.Common.{◌+◌, ◌∙◌, ap, arith, length, sym}
use Rattle.cil_macros.proofs.ListMarkLemmas.{all_wrong, none_wrong, one_more, without_lists}
use Rattle.cil_macros.proofs.list_places.list_marks.Goals as goal

pub returns-then-not-have_lists : goal.returns-then-not-have_lists
returns-then-not-have_lists c =
    without_lists c.args.scene.now c.args.openings.now c.requires (sym c.have_lists.ensures ∙ c.if-not-have_lists.true) c.new.result.items c.new.ensures.items

pub loop-rank-init : goal.loop-rank-init
loop-rank-init c =
    let s = c.args.scene.now in
    let l = c.len-many.ensures in
    let n = s.brought.now.entries.ok.0 in
    let m = ap length c.entries.ensures.same in
    none_wrong s c.args.openings.now c.requires c.in_ok-marks.marks.items (length c.entries.result.now + c.len-many.result) (c.in_ok-marks.ensures.items_if_clones_equal (λ y e. e)) (omega (arith, l, n, m))

pub loop-rank-preserved : goal.loop-rank-preserved
loop-rank-preserved c =
    one_more c.args.scene.now c.args.openings.now c.requires c.loop-rank.rank c.loop-rank.marks.items c.mark.new.marks.items c.loop-rank.invariant c.in_ok-mark.ensures

pub returns : goal.returns
returns c =
    let s = c.args.scene.now in
    let over = c.loop-rank-test.false in
    let l = c.len-many.ensures in
    let n = s.brought.now.entries.ok.0 in
    all_wrong s c.args.openings.now c.requires c.loop-rank.rank c.loop-rank.marks.items (omega (arith, over, l, n)) c.loop-rank.invariant.1
