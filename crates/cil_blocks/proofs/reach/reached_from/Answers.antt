use Rattle.std.proofs.Common.{◌<◌, arith, get_or, length, refl, sym, ◌∙◌, ap}
use Rattle.std.specs.Prelude.{None, slice_get}
use Rattle.std.specs.Option.{option_eq}
use Rattle.std.proofs.Math.Dec.{eqb}
use Rattle.indexmap.specs.IndexSet.{insert_key}
use Rattle.cil_blocks.specs.Seeds.{IsHanded, handed_to}
use Rattle.cil_base.specs.Places.{is_there}
use Rattle.cil_blocks.proofs.Reached.{all_opened, at_first, one_opened, same_those}
use Rattle.cil_blocks.proofs.reach.reached_from.Goals as goal

pub loop-at-init : goal.loop-at-init
loop-at-init c =
    at_first (IsHanded c.args.parts.now c.args.targets.now) c.args.seed c.insert.new.self.keys
    (c.in_ok-insert.ensures.keys ∙ ap (λ ks. insert_key (option_eq eqb) ks c.args.seed) c.new-reached.ensures.empty)

pub loop-at-preserved : goal.loop-at-preserved
loop-at-preserved c =
    let h = c.loop-at-test.true in
    let l = c.len.ensures.len in
    let same = ap length c.as_slice.ensures.keys in
    let inside : c.loop-at.at < length c.as_slice.result.now = omega (arith, h, l, same) in
    let body = get_or c.as_slice.result.now c.loop-at.at None in
    one_opened (IsHanded c.args.parts.now c.args.targets.now) c.args.seed c.loop-at.at c.loop-at.reached.keys (handed_to c.args.parts.now c.args.targets.now body) _ body
    (ap (λ xs. slice_get xs c.loop-at.at) (sym c.as_slice.ensures.keys) ∙ is_there c.as_slice.result.now c.loop-at.at None inside)
    (same_those (handed_to c.args.parts.now c.args.targets.now body) (handed_to c.args.parts.now c.args.targets.now body) refl)
    c.in_ok-hand_on.ensures c.loop-at.invariant

pub returns : goal.returns
returns c =
    let h = c.loop-at-test.false in
    let l = c.len.ensures.len in
    all_opened (IsHanded c.args.parts.now c.args.targets.now) c.args.seed c.loop-at.at c.loop-at.reached.keys (omega (arith, h, l)) c.loop-at.invariant
