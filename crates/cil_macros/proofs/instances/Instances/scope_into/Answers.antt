use Rattle.std.proofs.Common.{arith, subst, sym, ℕ}
use Rattle.std.specs.Prelude.{Option}
use Rattle.cil_macros.specs.Items.{all_placed, namespaces_in, scope_by}
use Rattle.cil_macros.specs.Walks.{IsScope}
use Rattle.cil_macros.proofs.PlacedLemmas.{scope_beyond, scope_nowhere, scope_placed}
use Rattle.cil_macros.proofs.instances.Instances.scope_into.Goals as goal

pub returns-in_default : goal.returns-in_default
returns-in_default c =
    subst (λ (o : Option ℕ). IsScope (namespaces_in c.args.self.now) (scope_by (all_placed c.args.self.now) o) c.clear.new.self) (sym c.in_default.is)
    (scope_nowhere c.args.self.now c.clear.new.self c.clear.ensures)

pub returns-then-place-len : goal.returns-then-place-len
returns-then-place-len c =
    let h = c.if-place-len.true in
    let l = c.len.ensures.places in
    subst (λ (o : Option ℕ). IsScope (namespaces_in c.args.self.now) (scope_by (all_placed c.args.self.now) o) c.clear-then-place-len.new.self) (sym c.in-Some.is)
    (scope_beyond c.args.self.now c.in-Some.place c.clear-then-place-len.new.self (omega (arith, h, l)) c.clear-then-place-len.ensures)

pub scope_at-requires-clause-standings : goal.scope_at-requires-clause-standings
scope_at-requires-clause-standings c = c.self.invariant.0.standings

pub scope_at-requires-clause-brought : goal.scope_at-requires-clause-brought
scope_at-requires-clause-brought c = c.self.invariant.0.brought

pub scope_at-requires-clause-within : goal.scope_at-requires-clause-within
scope_at-requires-clause-within c =
    let h = c.if-place-len.false in
    let l = rw (← c.self.view_is) at c.len.ensures.places in
    omega (arith, h, l)

pub returns : goal.returns
returns c =
    let h = c.if-place-len.false in
    let l = c.len.ensures.places in
    subst (λ (o : Option ℕ). IsScope (namespaces_in c.args.self.now) (scope_by (all_placed c.args.self.now) o) c.scope_at.new.scope) (sym c.in-Some.is)
    (scope_placed c.args.self.now c.in-Some.place c.scope_at.new.scope (omega (arith, h, l)) (rw (← c.self.view_is) c.in_ok-scope_at.ensures))
