use Rattle.std.proofs.Common.{◌∙◌, ap, refl, sym}
use Rattle.std.specs.Prelude.{find}
use Rattle.cil_names.specs.Entries.{is_declared_at, is_in, scoped}
use Rattle.cil_names.specs.Sought.{could_name}
use Rattle.cil_names.proofs.CandidateLemmas.{could_name_none}
use Rattle.cil_names.proofs.ScopeLemmas.{asked_within, candidates_in, found_by, never, passed_by}
use Rattle.cil_names.proofs.look.resolve.Goals as goal

pub returns-then-is_some : goal.returns-then-is_some
returns-then-is_some c =
    let s = c.in-Some.sought in
    found_by (could_name c.args.namespaces.now c.args.entries.now c.args.word.now) c.asked_scope-from-items.result.now c.loop-from.from-index _ 0 c.loop-from-test.true refl
    (is_declared_at (is_in c.args.enabled.now) c.args.entries.now) c.loop-from.invariant c.where_declared-declared.result
    (c.where_declared-declared.ensures ∙ ap (find (is_declared_at (is_in c.args.enabled.now) c.args.entries.now)) c.named_in-named.ensures) (sym c.if-is_some.ensures)
    ∙ ap (find (is_declared_at (is_in c.args.enabled.now) c.args.entries.now)) (sym (candidates_in c.args.namespaces.now c.args.entries.now c.args.word.now c.args.scope.now s.path.global
    s.path.names.now c.in-Some.ensures.taken c.asked_scope-from-items.result.now c.asked_scope-from-items.ensures))

pub loop-from-preserved : goal.loop-from-preserved
loop-from-preserved c =
    passed_by (could_name c.args.namespaces.now c.args.entries.now c.args.word.now) c.asked_scope-from-items.result.now c.loop-from.from-index _ 0 c.loop-from-test.true refl
    (is_declared_at (is_in c.args.enabled.now) c.args.entries.now) c.loop-from.invariant c.where_declared-declared.result
    (c.where_declared-declared.ensures ∙ ap (find (is_declared_at (is_in c.args.enabled.now) c.args.entries.now)) c.named_in-named.ensures) (sym c.if-is_some.ensures)

pub returns : goal.returns
returns c =
    let s = c.in-Some.sought in
    never (could_name c.args.namespaces.now c.args.entries.now c.args.word.now) c.asked_scope-from-items.result.now c.loop-from.from-index c.loop-from-test.false
    (is_declared_at (is_in c.args.enabled.now) c.args.entries.now) c.loop-from.invariant
    ∙ ap (find (is_declared_at (is_in c.args.enabled.now) c.args.entries.now)) (sym (candidates_in c.args.namespaces.now c.args.entries.now c.args.word.now c.args.scope.now s.path.global
    s.path.names.now c.in-Some.ensures.taken c.asked_scope-from-items.result.now c.asked_scope-from-items.ensures))

pub returns-in_default : goal.returns-in_default
returns-in_default c =
    sym (ap (find (is_declared_at (is_in c.args.enabled.now) c.args.entries.now))
    (could_name_none c.args.namespaces.now c.args.entries.now (scoped c.args.namespaces.now c.args.scope.now c.args.word.now) c.in_default.ensures))

pub named_in-named-requires-clause-within : goal.named_in-named-requires-clause-within
named_in-named-requires-clause-within c =
    asked_within c.args.namespaces.now c.args.scope.now c.requires.within c.in-Some.sought.path.global c.asked_scope-from-items.result.now c.asked_scope-from-items.ensures c.loop-from.from-index
    c.loop-from-test.true

pub named_in-named-requires-clause-sought : goal.named_in-named-requires-clause-sought
named_in-named-requires-clause-sought c = c.in-Some.ensures

pub named_in-named-requires-clause-entries : goal.named_in-named-requires-clause-entries
named_in-named-requires-clause-entries c = c.requires.entries

pub seek-requires : goal.seek-requires
seek-requires c = c.requires.entries.rising
