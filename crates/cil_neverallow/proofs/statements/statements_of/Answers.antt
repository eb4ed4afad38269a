use Rattle.std.proofs.Common.{◌<◌, length, arith, subst}
use Rattle.std.specs.Prelude.{Contains}
use Rattle.cil_base.specs.Lists.{contains_none}
use Rattle.cil_macros.specs.Items.{item_at, items_in}
use Rattle.cil_neverallow.proofs.StatementLemmas.{all_kept, kept_more, none_kept, places_more}
use Rattle.cil_neverallow.proofs.statements.statements_of.Goals as goal

pub loop-at-init : goal.loop-at-init
loop-at-init c = record {
  up = omega arith;
  within = λ st c_. absurd (contains_none st (subst (λ l. Contains l st) c.new-kept.ensures c_));
  are = λ names known apart standing classes given. none_kept _ _ c.args.types.now (item_at c.args.instances.now) c.args.masks.now _ c.new-kept.ensures;
}

pub loop-at-preserved : goal.loop-at-preserved
loop-at-preserved c =
    let i = c.args.instances.now in
    let at = c.loop-at.at in
    let n = c.len-at-end.ensures.items in
    let t = c.loop-at-test.true in
    let within : at < length (items_in i) = omega (arith, t, n) in
    record {
      up = omega (arith, within);
      within = places_more _ _ at (length (items_in i)) within c.loop-at.invariant.within c.in_ok-add_at.ensures.places;
      are = λ names known apart standing classes given. kept_more _ _ c.args.types.now (item_at i) c.args.masks.now at _ _ (c.loop-at.invariant.are names known apart standing classes given)
          (c.in_ok-add_at.ensures.added names known apart standing classes given);
    }

pub returns-clause-within : goal.returns-clause-within
returns-clause-within c = c.loop-at.invariant.within

pub returns-clause-statements : goal.returns-clause-statements
returns-clause-statements c = λ names known apart standing classes given.
    let i = c.args.instances.now in
    let n = c.len-at-end.ensures.items in
    let f = c.loop-at-test.false in
    all_kept _ _ c.args.types.now (item_at i) c.args.masks.now c.loop-at.at (length (items_in i)) _ (omega (arith, n, f)) c.loop-at.invariant.up
    (c.loop-at.invariant.are names known apart standing classes given)
