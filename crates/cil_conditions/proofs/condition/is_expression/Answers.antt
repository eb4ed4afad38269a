use Rattle.std.proofs.Common.{◌≡◌, ◌-◌, suc, arith, refl}
use Rattle.cil_conditions.proofs.ValueLemmas.{all_read, token_read, too_many}
use Rattle.cil_conditions.proofs.condition.is_expression.Goals as goal

pub returns-then-wanted-eq0 : goal.returns-then-wanted-eq0
returns-then-wanted-eq0 c = (
  (λ e. absurd (cc)),
  (λ is. absurd (too_many c.args.tokens.now c.loop-token.token-index c.loop-token.wanted c.if-wanted-eq0.true c.loop-token-test.true c.loop-token.invariant.same is)),
)

pub loop-token-preserved : goal.loop-token-preserved
loop-token-preserved c =
    let some = c.if-wanted-eq0.false in
    let more : c.loop-token.wanted ≡ suc (c.loop-token.wanted - 1) = omega (arith, some) in
    let most = c.wanted_behind-wanted.ensures.bound in
    let before = c.loop-token.invariant.bound in
    record {
      same = token_read c.args.tokens.now c.loop-token.token-index c.loop-token.wanted (c.loop-token.wanted - 1) c.wanted_behind-wanted.result _ _ more c.loop-token-test.true refl
          c.loop-token.invariant.same c.wanted_behind-wanted.ensures.value;
      bound = omega (arith, most, before, some);
    }

pub returns : goal.returns
returns c = all_read c.args.tokens.now c.loop-token.token-index c.loop-token.wanted c.loop-token-test.false c.loop-token.invariant.same
