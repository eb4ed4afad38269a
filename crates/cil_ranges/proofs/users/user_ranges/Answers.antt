use Rattle.std.proofs.Common.{◌<◌, ◌∙◌, ap, arith, false, length}
use Rattle.cil_macros.specs.Items.{item_at, items_in}
use Rattle.cil_macros.proofs.ItemLemmas.{items_taken}
use Rattle.cil_ranges.proofs.UserLemmas.{all_given, all_same, more_up_to, none_up_to, same_length}
use Rattle.cil_ranges.proofs.users.user_ranges.Goals as goal

pub loop-at-init : goal.loop-at-init
loop-at-init c =
    let k = c.args.known.now in
    let count = ap length c.entries-count.ensures.value in
    let n = length c.entries-count.result.now in
    let differing = c.in_ok-vec.ensures.items_if_clones_equal (λ y h. h) in
    none_up_to k c.args.by.now (items_in c.args.instances.now) (record { ranges = c.in_ok-no_ranges.field-0; differing = c.in_ok-vec.field-0 })
    (record { of_ranges = c.in_ok-no_ranges.ensures.len ∙ count; of_differing = same_length n false c.in_ok-vec.field-0.items differing ∙ count })
    c.in_ok-no_ranges.ensures.none (all_same n false c.in_ok-vec.field-0.items differing)

pub give_at-requires-clause-room : goal.give_at-requires-clause-room
give_at-requires-clause-room c = c.loop-at.invariant.room

pub loop-at-preserved : goal.loop-at-preserved
loop-at-preserved c =
    let i = c.args.instances.now in
    let at = c.loop-at.at in
    let within : at < length (items_in i) = let t = c.loop-at-test.true in let n = c.len-at-end.ensures.items in omega (arith, t, n) in
    more_up_to c.args.known.now c.args.by.now (items_in i) at (item_at i at) (items_taken i at within) c.loop-at.all c.give_at.new.all c.in_ok-give_at.ensures.room c.in_ok-give_at.ensures.given c.loop-at.invariant

pub returns-clause-given : goal.returns-clause-given
returns-clause-given c = λ g items reads.
    let n = c.len-at-end.ensures.items in
    let f = c.loop-at-test.false in
    all_given c.args.known.now c.args.by.now (items_in c.args.instances.now) c.loop-at.at (omega (arith, f, n)) c.loop-at.all c.loop-at.invariant g items reads

pub returns-clause-room : goal.returns-clause-room
returns-clause-room c = c.loop-at.invariant.room
