use Rattle.std.proofs.Common.{◌∙◌, ap, arith, length, subst, sym}
use Rattle.cil_syntax.specs.Scopes.{Scope}
use Rattle.cil_blocks.specs.Places.{spaces_in}
use Rattle.cil_macros.specs.Placed.{Placed}
use Rattle.cil_macros.specs.Walks.{IsScope}
use Rattle.cil_macros.proofs.CallLemmas.{placed_there, stood_at}
use Rattle.cil_macros.proofs.ScopeLemmas.{standing_scope}
use Rattle.cil_macros.proofs.calls.scope_at.Goals as goal

pub returns-then-from-entries : goal.returns-then-from-entries
returns-then-from-entries c = λ p e.
    let s = c.args.spaces.now in
    let cs = c.args.brought.now.entries.items in
    let h = c.if-from-entries.true in
    let l = ap length c.entries.ensures.same in
    let near = c.scope_place-from.ensures.near in
    let within = c.requires.within in
    let (q, there) = placed_there s cs c.scope_place-from.result (omega (arith, near, within)) in
    let x = stood_at s cs c.scope_place-from.result (omega (arith, h, l)) q there in
    let (n, at, is) = standing_scope s c.requires.standings c.requires.namespaces cs c.scope_place-from.result x.0 x.1 in
    subst (λ (k : Scope). IsScope (spaces_in s) k c.scope_into.new.scope) (sym (c.scope_place-from.ensures.same p q e there ∙ ap (λ (r : Placed). r.standing.scope) x.2))
    (subst (IsScope (spaces_in s) x.0.scope) (sym (c.in_ok-scope_into.ensures n at)) is)

pub called_scope_at-requires-clause-behind : goal.called_scope_at-requires-clause-behind
called_scope_at-requires-clause-behind c =
    let behind = c.if-from-entries.false in
    let l = ap length c.entries.ensures.same in
    omega (arith, behind, l)

pub called_scope_at-requires-clause-within : goal.called_scope_at-requires-clause-within
called_scope_at-requires-clause-within c =
    let near = c.scope_place-from.ensures.near in
    let within = c.requires.within in
    omega (arith, near, within)

pub returns : goal.returns
returns c = λ p e.
    let s = c.args.spaces.now in
    let cs = c.args.brought.now.entries.items in
    let near = c.scope_place-from.ensures.near in
    let within = c.requires.within in
    let (q, there) = placed_there s cs c.scope_place-from.result (omega (arith, near, within)) in
    subst (λ (k : Scope). IsScope (spaces_in s) k c.called_scope_at.new.scope) (sym (c.scope_place-from.ensures.same p q e there)) (c.in_ok-called_scope_at.ensures q there)
