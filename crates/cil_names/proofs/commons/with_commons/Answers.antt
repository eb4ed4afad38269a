use Rattle.std.proofs.Common.{arith, refl, get_or}
use Rattle.cil_base.specs.Places.{contains_at}
use Rattle.cil_names.proofs.SharedLemmas.{all_shared, none_shared, one_shared}
use Rattle.cil_names.proofs.commons.with_commons.Goals as goal

pub loop-one-init : goal.loop-one-init
loop-one-init c = none_shared c.args.lists.items c.requires.rising

pub loop-one-preserved : goal.loop-one-preserved
loop-one-preserved c = one_shared c.args.lists.items c.args.shared.now c.requires.apart c.loop-one.one-index _ _ _ _ c.loop-one-test.true refl c.loop-one.invariant c.in_ok-add_common.ensures

pub returns : goal.returns
returns c = all_shared c.args.lists.items c.args.shared.now c.requires.apart c.loop-one.one-index _ c.loop-one-test.false c.loop-one.invariant

pub add_common-requires-clause-class : goal.add_common-requires-clause-class
add_common-requires-clause-class c =
    let h = c.requires.apart.within (get_or c.args.shared.now c.loop-one.one-index (record { class = 0; common = 0 })) (contains_at c.args.shared.now c.loop-one.one-index _ (record { class = 0; common = 0 }) c.loop-one-test.true refl) in
    let n = c.loop-one.invariant.len in let k = h.0 in omega (arith, k, n)

pub add_common-requires-clause-common : goal.add_common-requires-clause-common
add_common-requires-clause-common c =
    let h = c.requires.apart.within (get_or c.args.shared.now c.loop-one.one-index (record { class = 0; common = 0 })) (contains_at c.args.shared.now c.loop-one.one-index _ (record { class = 0; common = 0 }) c.loop-one-test.true refl) in
    let n = c.loop-one.invariant.len in let k = h.1 in omega (arith, k, n)

pub add_common-requires-clause-apart : goal.add_common-requires-clause-apart
add_common-requires-clause-apart c =
    let there = contains_at c.args.shared.now c.loop-one.one-index (get_or c.args.shared.now c.loop-one.one-index (record { class = 0; common = 0 })) (record { class = 0; common = 0 }) c.loop-one-test.true refl in
    c.requires.apart.apart _ _ there there
