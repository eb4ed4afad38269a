use Rattle.std.proofs.Common.{length, refl, subst, arith, ◌≡◌}
use Rattle.cil_conditions.specs.Bits.{IsSetTo}
use Rattle.cil_conditions.proofs.SettingLemmas.{set_more, set_none}
use Rattle.cil_conditions.proofs.settings.Settings.of.Goals as goal

pub loop-place-init : goal.loop-place-init
loop-place-init c = set_none c.args.values.now c.all_off-settings.result c.all_off-settings.ensures

pub loop-place-preserved : goal.loop-place-preserved
loop-place-preserved c = set_more c.args.values.now c.loop-place.place c.loop-place.settings c.set.new.self _ c.loop-place.invariant refl c.set.ensures.same c.set.ensures.others

pub returns : goal.returns
returns c = let e : c.loop-place.place ≡ length c.args.values.now = let past = c.loop-place-test.false in let within = c.loop-place.auto.place-end in omega (arith, past, within) in
    subst (λ n. IsSetTo c.args.values.now n c.loop-place.settings) e c.loop-place.invariant
