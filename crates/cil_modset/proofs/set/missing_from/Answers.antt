use Rattle.std.proofs.Common.{◌≡◌, [], ◌∷◌, ◌++◌, ◌+◌, arith, take}
use Rattle.std.proofs.lemmas.List.{take_all, take_more}
use Rattle.cil_modset.specs.Faults.{AllBelow}
use Rattle.cil_modset.proofs.WalkLemmas.{passed_none, new_none, above_front, new_known, new_kept}
use Rattle.cil_modset.proofs.set.missing_from.Goals as goal
use Rattle.cil_modset.proofs.set.missing_from.Goals.{then-not-knows+in_ok-keep, else-not-knows}

pub loop-i-init : goal.loop-i-init
loop-i-init c = record {
  passed = rw c.new-walk.ensures.passed (passed_none _);
  new = rw c.new-walk.ensures.fresh (new_none _);
}

pub knows-requires : goal.knows-requires
knows-requires c = c.loop-i.invariant.passed.within

pub loop-i-preserved : goal.loop-i-preserved
loop-i-preserved c =
    let theirs = c.args.theirs.now in
    let i = c.loop-i.i in
    let above : AllBelow (take i theirs) c.get-text.result.now =
    rw c.get-text.ensures (above_front theirs i c.len-i-end.ensures.rising (omega arith)) in
    let more : take (i + 1) theirs ≡ take i theirs ++ c.get-text.result.now ∷ [] =
    rw c.get-text.ensures (take_more theirs i [] (omega arith)) in
    elim c.if-not-knows.branch [
      | then-not-knows+in_ok-keep w ↦ rw (w.walk-is, more) (record {
        passed = rw w.keep.ensures.passed (c.knows.ensures.passed (take i theirs) c.loop-i.invariant.passed above);
        new = rw (w.in_ok-keep.ensures.kept, c.knows.ensures.fresh) (new_kept _ _ _ _ c.loop-i.invariant.new
            (λ k. let yes = (c.knows.ensures.known (take i theirs) c.loop-i.invariant.passed above).1 k in cc (yes, w.if-not-knows.true)) above);
      })
      | else-not-knows w ↦ rw (w.walk-is, more) (record {
        passed = c.knows.ensures.passed (take i theirs) c.loop-i.invariant.passed above;
        new = rw c.knows.ensures.fresh (new_known _ _ _ _ c.loop-i.invariant.new
            ((c.knows.ensures.known (take i theirs) c.loop-i.invariant.passed above).0 w.if-not-knows.false));
      })
    ]

pub returns : goal.returns
returns c = rw (take_all c.loop-i.i c.args.theirs.now (omega arith)) at c.loop-i.invariant.new
