use Rattle.std.proofs.Common.{List, ℕ}
use Rattle.cil_faults.specs.declared.failure.Failure.{Failure}
use Rattle.cil_macros.specs.Items.{items_in, namespaces_in}
use Rattle.cil_blocks.proofs.DoubledLemmas.{if_ok}
use Rattle.cil_tables.specs.declared.compiler.Compiled.{Compiled}
use Rattle.cil_tables.specs.CompileAnswer.{IsCompiled, IsCompiledOf, StandsIn}
use Rattle.cil_tables.specs.CompileRefusal.{CompileFails, ItemsFail}
use Rattle.cil_tables.proofs.CompileLemmas.{calls_fail, compiled_modules, handed_on, if_err, items_fail, its_items, its_names, whole_front}
use Rattle.cil_tables.proofs.PlainLemmas.{plain_names}
use Rattle.cil_tables.proofs.compiler.standing_policy.Goals as goal

pub placed_policy-requires : goal.placed_policy-requires
placed_policy-requires c = λ es entries.
    let i = c.in_ok-instances.instances in
    plain_names (namespaces_in i) (items_in i) es (its_names c.args.stands.now c.requires.standings c.requires.nested i c.in_ok-instances.ensures.0 c.called.ensures.placed) entries

pub returns-in_err-instances-clause-faults : goal.returns-in_err-instances-clause-faults
returns-in_err-instances-clause-faults c =
    let s = c.args.stands.now in
    handed_on (λ (failure : Failure). (modules : List (List ℕ)) → StandsIn modules s → CompileFails modules failure) _ _ c.from_residual.ensures.1
    (λ modules stands. calls_fail modules s stands _ c.in_err-instances.ensures)

pub returns-clause-faults : goal.returns-clause-faults
returns-clause-faults c =
    let s = c.args.stands.now in
    let i = c.in_ok-instances.instances in
    if_err (ItemsFail (items_in i)) (λ (failure : Failure). (modules : List (List ℕ)) → StandsIn modules s → CompileFails modules failure) c.placed_policy.result
    (λ failure fails modules stands. items_fail modules (items_in i) (its_items modules s stands i c.in_ok-instances.ensures.0 c.called.ensures.placed)
    (whole_front modules s stands c.in_ok-instances.ensures.1) failure fails)
    c.placed_policy.ensures.faults

pub returns-clause-compiled : goal.returns-clause-compiled
returns-clause-compiled c =
    let s = c.args.stands.now in
    let i = c.in_ok-instances.instances in
    if_ok (IsCompiledOf (items_in i)) (λ (compiled : Compiled). (modules : List (List ℕ)) → StandsIn modules s → IsCompiled modules compiled) c.placed_policy.result
    (λ compiled is modules stands. compiled_modules modules (items_in i) (its_items modules s stands i c.in_ok-instances.ensures.0 c.called.ensures.placed)
    (whole_front modules s stands c.in_ok-instances.ensures.1)
    (its_names s c.requires.standings c.requires.nested i c.in_ok-instances.ensures.0 c.called.ensures.placed)
    compiled is)
    c.placed_policy.ensures.compiled
