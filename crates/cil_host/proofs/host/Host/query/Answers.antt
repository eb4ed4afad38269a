use Rattle.std.proofs.Common.{sym}
use Rattle.cil_host.specs.Machine.{LacksClass, LacksTarget}
use Rattle.cil_host.specs.Settings.{on_in}
use Rattle.cil_avc.specs.decide_crate.Decides.{ModulesDecide}
use Rattle.cil_host.proofs.QueryLemmas.{accepted_fact, kept, loaded_fact}
use Rattle.cil_host.proofs.SettingLemmas.{same_settings}
use Rattle.cil_host.proofs.host.Host.query.Goals as goal

pub returns-in_default-parse_context-clause-answer : goal.returns-in_default-parse_context-clause-answer
returns-in_default-parse_context-clause-answer g c =
    let answer = c.compiled_tables_answer.ensures _ _ (kept _ _ c.in-Some.is c.self.invariant.kept).compiles in
    loaded_fact _ _ _ _ _ (sym c.self.view_is) c.in-Some.is _ (answer.no_context c.args.source.now c.in_default-parse_context.ensures.none)

pub returns-in_default-parse_context-2-clause-answer : goal.returns-in_default-parse_context-2-clause-answer
returns-in_default-parse_context-2-clause-answer g c =
    let answer = c.compiled_tables_answer.ensures _ _ (kept _ _ c.in-Some.is c.self.invariant.kept).compiles in
    loaded_fact _ _ _ _ _ (sym c.self.view_is) c.in-Some.is (LacksTarget c.args.source.now c.args.target.now) (record {
      a_source = answer.context c.args.source.now _ c.in-Some-parse_context.ensures.found;
      no_target = answer.no_context c.args.target.now c.in_default-parse_context-2.ensures.none;
    })

pub returns-in_default-class_named-clause-answer : goal.returns-in_default-class_named-clause-answer
returns-in_default-class_named-clause-answer g c =
    let answer = c.compiled_tables_answer.ensures _ _ (kept _ _ c.in-Some.is c.self.invariant.kept).compiles in
    loaded_fact _ _ _ _ _ (sym c.self.view_is) c.in-Some.is (LacksClass c.args.source.now c.args.target.now c.args.class.now) (record {
      a_source = answer.context c.args.source.now _ c.in-Some-parse_context.ensures.found;
      a_target = answer.context c.args.target.now _ c.in-Some-parse_context-2.ensures.found;
      no_class = answer.no_class c.args.class.now c.in_default-class_named.ensures.none;
    })

pub returns-clause-answer : goal.returns-clause-answer
returns-clause-answer g c =
    let compiles = (kept _ _ c.in-Some.is c.self.invariant.kept).compiles in
    let answer = c.compiled_tables_answer.ensures _ _ compiles in
    accepted_fact _ _ _ _ _ (sym c.self.view_is) c.in-Some.is (λ a. ModulesDecide a.modules (on_in a.on) c.args.source.now c.args.target.now c.args.class.now c.lookup.result)
    (answer.decision _ _ (same_settings _ _ compiles c.self.inside.settings) c.args.source.now c.args.target.now c.args.class.now _ _ _ _ c.in-Some-parse_context.ensures.found c.in-Some-parse_context-2.ensures.found
    c.in-Some-class_named.ensures.found c.lookup.ensures.answer)
