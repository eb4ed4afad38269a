use Rattle.std.proofs.Common.{[], arith, length, subst, sym}
use Rattle.std.specs.Prelude.{◌↔◌, Contains}
use Rattle.cil_faults.specs.declared.fault.Fault.{Fault}
use Rattle.cil_faults.proofs.RefusalLemmas.{answers_alike}
use Rattle.cil_macros.specs.Items.{item_at, items_in}
use Rattle.cil_neverallow.specs.Stated.{stated_of}
use Rattle.cil_neverallow.specs.Violations.{IsViolation}
use Rattle.cil_neverallow.proofs.ViolationLemmas.{all_back, all_there, no_violation, place_there, violations_more}
use Rattle.cil_neverallow.proofs.forbidden.compare.Goals as goal

pub get-statement-requires : goal.get-statement-requires
get-statement-requires c = let t = c.loop-number-test.true in let n = c.len-number-end.ensures in omega (arith, t, n)

pub push_one-requires-clause-statement : goal.push_one-requires-clause-statement
push_one-requires-clause-statement c =
    let t = c.loop-number-test.true in
    let n = c.len-number-end.ensures in
    place_there c.args.forbidden.now c.loop-number.number (length (items_in c.args.instances.now)) c.requires.forbidden (omega (arith, t, n)) (stated_of c.get-statement.result) c.get-statement.ensures

pub loop-number-init : goal.loop-number-init
loop-number-init c =
    subst (λ l. (f : Fault) → Contains l f ↔ IsViolation (item_at c.args.instances.now) c.args.view.now [] c.args.allowed.now f) (sym c.new-faults.ensures.items)
    (no_violation (item_at c.args.instances.now) c.args.view.now c.args.allowed.now)

pub loop-number-preserved : goal.loop-number-preserved
loop-number-preserved c =
    let t = c.loop-number-test.true in
    let n = c.len-number-end.ensures in
    violations_more (item_at c.args.instances.now) c.args.view.now c.args.forbidden.now c.args.allowed.now c.loop-number.number (stated_of c.get-statement.result) (omega (arith, t, n)) c.get-statement.ensures
    c.loop-number.faults.items c.push_one.new.faults.items c.loop-number.invariant c.in_ok-push_one.ensures

pub returns : goal.returns
returns c =
    let t = c.loop-number-test.false in
    let n = c.len-number-end.ensures in
    answers_alike _ (IsViolation (item_at c.args.instances.now) c.args.view.now c.args.forbidden.now c.args.allowed.now) (λ done. Unit {0})
    (all_there (item_at c.args.instances.now) c.args.view.now c.args.forbidden.now c.args.allowed.now c.loop-number.number c.loop-number.faults.items (omega (arith, t, n)) c.loop-number.invariant)
    (all_back (item_at c.args.instances.now) c.args.view.now c.args.forbidden.now c.args.allowed.now c.loop-number.number c.loop-number.faults.items (omega (arith, t, n)) c.loop-number.invariant)
    _ c.refuse.ensures.told
