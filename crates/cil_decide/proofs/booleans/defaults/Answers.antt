use Rattle.std.specs.Prelude.{◌↔◌}
use Rattle.std.proofs.Common.{length, subst, arith, ◌≤◌}
use Rattle.std.proofs.lemmas.Option.{slice_get-get_or}
use Rattle.cil_tables.specs.conditions.Bits.{IsOn}
use Rattle.cil_decide.specs.Decides.{IsOnAtFirst}
use Rattle.cil_decide.proofs.BooleanLemmas.{all_on, none_on_yet, one_more_on}
use Rattle.cil_decide.proofs.booleans.defaults.Goals as goal

pub loop-place-init : goal.loop-place-init
loop-place-init c = none_on_yet c.booleans-booleans.result.now c.all_off-settings.result c.all_off-settings.ensures

pub loop-place-preserved : goal.loop-place-preserved
loop-place-preserved c =
    one_more_on c.booleans-booleans.result.now c.loop-place.place c.loop-place.settings c.set.new.self _ c.loop-place.invariant
    (slice_get-get_or c.booleans-booleans.result.now c.loop-place.place c.index-booleans-place.result c.loop-place-test.true) c.set.ensures.same c.set.ensures.others

pub returns : goal.returns
returns c =
    let over : length c.booleans-booleans.result.now ≤ c.loop-place.place = let past = c.loop-place-test.false in omega (arith, past) in
    λ n. subst (λ bs. IsOn c.loop-place.settings n ↔ IsOnAtFirst bs n) c.booleans-booleans.ensures.booleans
    (all_on c.booleans-booleans.result.now c.loop-place.place c.loop-place.settings c.loop-place.invariant over n)
