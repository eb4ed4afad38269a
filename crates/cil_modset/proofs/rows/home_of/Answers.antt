use Rattle.std.proofs.Common.{arith}
use Rattle.cil_modset.proofs.RowLemmas.{home_before, home_behind}
use Rattle.cil_modset.proofs.rows.home_of.Goals as goal

pub loop-home-preserved-then-begins_behind : goal.loop-home-preserved-then-begins_behind
loop-home-preserved-then-begins_behind c = record {
  some = omega arith;
  within = omega arith;
  before = c.loop-home.invariant.before;
  behind = home_behind _ _ c.index-rows-middle.result _ c.requires.order (omega arith) c.index-rows-middle.is
      (rw c.as_slice.ensures.value at (c.begins_behind.ensures.0 c.if-begins_behind.true));
}

pub loop-home-preserved : goal.loop-home-preserved
loop-home-preserved c = record {
  some = omega arith;
  within = omega arith;
  before = home_before _ _ c.index-rows-middle.result _ c.requires.order (omega arith) c.index-rows-middle.is
      (λ below. let yes = c.begins_behind.ensures.1 (rw c.as_slice.ensures.value below) in cc (yes, c.if-begins_behind.false));
  behind = c.loop-home.invariant.behind;
}
