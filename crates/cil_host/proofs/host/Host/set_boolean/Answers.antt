use Rattle.std.proofs.Common.{refl, sym}
use Rattle.cil_avc.specs.decide_crate.Decides.{HasNoBoolean}
use Rattle.cil_host.proofs.QueryLemmas.{kept, loaded_fact}
use Rattle.cil_host.proofs.SettingLemmas.{boolean_set, names_rise}
use Rattle.cil_host.proofs.StateLemmas.{set_in}
use Rattle.cil_host.proofs.host.Host.set_boolean.Goals as goal

pub returns-in_default-boolean_named : goal.returns-in_default-boolean_named
returns-in_default-boolean_named g c =
    let answer = c.compiled_tables_answer.ensures _ _ (kept _ _ c.in-Some.is c.self.invariant.kept).compiles in (
      loaded_fact _ _ _ _ _ (sym c.self.view_is) c.in-Some.is (λ modules. HasNoBoolean modules c.args.name.now) (answer.no_boolean c.args.name.now c.in_default-boolean_named.ensures.none),
      refl,
    )

pub returns : goal.returns
returns g c =
    let compiles = (kept _ _ c.in-Some.is c.self.invariant.kept).compiles in
    let answer = c.compiled_tables_answer.ensures _ _ compiles in
    let number = c.in-Some-boolean_named.number in
    set_in _ _ _ c.set.new.self _ (sym c.self.view_is) c.in-Some.policy c.in-Some.is c.args.name.now c.args.value (answer.boolean c.args.name.now number c.in-Some-boolean_named.ensures.found)
    (boolean_set _ (names_rise _ _ compiles) c.self.inside.settings c.set.new.self number c.args.name.now c.args.value c.in-Some-boolean_named.ensures.found c.set.ensures.same
    c.set.ensures.others)
