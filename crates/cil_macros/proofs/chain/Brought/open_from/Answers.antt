use Rattle.std.proofs.Common.{◌≡◌, ap, arith, false, length, sym, true}
use Rattle.cil_macros.proofs.TurnLemmas.{all_in_turn, none_in_turn}
use Rattle.cil_macros.proofs.WalkLemmas.{all_reached, begun, gone_on, over_reached}
use Rattle.cil_macros.proofs.chain.Brought.open_from.Goals as goal

never : true ≡ false → ⊥
never e = cc

pub loop-at-init : goal.loop-at-init
loop-at-init c =
    let s = c.args.source.now.spaces.now in (
      omega arith,
      c.requires.brought,
      begun s c.requires.source.standings c.args.self.now.entries.items c.requires.empty,
      none_in_turn s c.args.self.now.entries.items c.args.self.now.bodies.items c.requires.bodiless,
    )

pub returns-then-standing-len-clause-all : goal.returns-then-standing-len-clause-all
returns-then-standing-len-clause-all c = λ e. absurd (never (sym e))

pub returns-then-standing-len-clause-many : goal.returns-then-standing-len-clause-many
returns-then-standing-len-clause-many c = λ e.
    let s = c.args.source.now.spaces.now in
    let h = c.if-standing-len.true in
    let l = ap length c.entries-standing.ensures.same in
    let m = c.len-in-loop-at.ensures in
    let n = c.loop-at.self.entries.ok in
    over_reached s c.requires.source.standings c.loop-at.at c.args.limit c.loop-at.self.entries.items (omega (arith, h, l, m, n)) c.loop-at.invariant.2

pub loop-at-preserved : goal.loop-at-preserved
loop-at-preserved c =
    let s = c.args.source.now.spaces.now in
    let h = c.loop-at-test.true in
    let few = c.if-standing-len.false in
    let l = ap length c.entries-standing.ensures.same in
    let m = c.len.ensures in
    let m2 = c.len-in-loop-at.ensures in
    let n = c.loop-at.self.entries.ok in (
      omega (arith, h, few, m, m2),
      c.in_ok-open.ensures.brought,
      gone_on s c.requires.source.standings c.loop-at.at c.loop-at.self.entries.items c.open.new.self.entries.items (omega (arith, h, l, m, n)) c.loop-at.invariant.2
          c.in_ok-open.ensures.opened,
      c.in_ok-open.ensures.turn,
    )

pub returns-clause-all : goal.returns-clause-all
returns-clause-all c = λ e.
    let s = c.args.source.now.spaces.now in
    let h = c.loop-at-test.false in
    let l = ap length c.entries-standing.ensures.same in
    let m = c.len.ensures in
    let n = c.loop-at.self.entries.ok in
    let most = c.loop-at.invariant.0 in
    record {
      brought = c.loop-at.invariant.1;
      turn = all_in_turn s c.loop-at.self.entries.items c.loop-at.self.bodies.items c.loop-at.at c.loop-at.invariant.1.bodies (omega (arith, h, l, m, n)) c.loop-at.invariant.3;
      all = all_reached s c.requires.source.standings c.loop-at.at c.loop-at.self.entries.items (omega (arith, h, l, m, n)) c.loop-at.invariant.2;
      few = omega (arith, h, l, m, n, most);
    }

pub returns-clause-many : goal.returns-clause-many
returns-clause-many c = λ e. absurd (never e)
