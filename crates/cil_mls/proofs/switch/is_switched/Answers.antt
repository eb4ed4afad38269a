use Rattle.std.proofs.Common.{◌<◌, ◌∙◌, length, refl, sym, arith}
use Rattle.std.proofs.lemmas.Bool.{true≢false}
use Rattle.cil_base.specs.Places.{get_contains}
use Rattle.cil_attrs.specs.macros.Items.{item_at, items_in}
use Rattle.cil_attrs.proofs.macros_lemmas.ItemLemmas.{item_there, items_taken}
use Rattle.cil_attrs.specs.known.Known.{enabled_in}
use Rattle.cil_mls.proofs.SwitchLemmas.{none_at_first, none_switches, one_more, switched}
use Rattle.cil_mls.proofs.switch.is_switched.Goals as goal

pub loop-at-init : goal.loop-at-init
loop-at-init c = none_at_first (enabled_in c.args.known.now) c.args.on (items_in c.args.instances.now)

pub returns-then-switches_at : goal.returns-then-switches_at
returns-then-switches_at c =
    let i = c.args.instances.now in
    let at = c.loop-at.at in
    let within : at < length (items_in i) = let t = c.loop-at-test.true in let n = c.len-at-end.ensures.items in omega (arith, t, n) in (
      λ e. switched (items_in i) (enabled_in c.args.known.now) c.args.on (item_at i at) (get_contains (items_in i) at (item_at i at) (item_there i at within)) (sym c.switches_at.ensures ∙ c.if-switches_at.true),
      λ w. refl,
    )

pub loop-at-preserved : goal.loop-at-preserved
loop-at-preserved c =
    let i = c.args.instances.now in
    let at = c.loop-at.at in
    let within : at < length (items_in i) = let t = c.loop-at-test.true in let n = c.len-at-end.ensures.items in omega (arith, t, n) in
    one_more (enabled_in c.args.known.now) c.args.on (items_in i) at (item_at i at) (items_taken i at within) c.loop-at.invariant (sym c.switches_at.ensures ∙ c.if-switches_at.false)

pub returns : goal.returns
returns c =
    let n = c.len-at-end.ensures.items in
    let f = c.loop-at-test.false in (
      λ e. absurd (true≢false (sym e)),
      λ w. absurd (none_switches (enabled_in c.args.known.now) c.args.on (items_in c.args.instances.now) c.loop-at.at (omega (arith, f, n)) c.loop-at.invariant w),
    )
