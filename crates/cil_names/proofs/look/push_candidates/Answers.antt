use Rattle.std.proofs.Common.{◌∙◌, ◌++◌, ap, append-nil, arith, refl, sym}
use Rattle.cil_names.specs.Entries.{scoped}
use Rattle.cil_names.specs.Sought.{could_name}
use Rattle.cil_names.proofs.CandidateLemmas.{could_name_none}
use Rattle.cil_names.proofs.ScopeLemmas.{all_passed, asked_within, candidates_in, one_passed}
use Rattle.cil_names.proofs.look.push_candidates.Goals as goal

pub loop-from-preserved : goal.loop-from-preserved
loop-from-preserved c = (
  one_passed (could_name c.args.namespaces.now c.args.entries.now c.args.word.now) c.asked_scope-from-items.result.now c.loop-from.from-index _ 0 c.loop-from-test.true refl c.loop-from.found.items _
      c.loop-from.invariant.0 _ (c.in-Ok.ensures.found ∙ ap (λ l. c.loop-from.found.items ++ l) c.named_in-named.ensures),
  (let a = c.loop-from.invariant.1 in let b = c.in-Ok.ensures.none_lost in omega (arith, a, b)),
)

pub returns-clause-found : goal.returns-clause-found
returns-clause-found c =
    let s = c.in-Some.sought in
    all_passed (could_name c.args.namespaces.now c.args.entries.now c.args.word.now) c.asked_scope-from-items.result.now c.loop-from.from-index c.loop-from-test.false c.loop-from.found.items _
    c.loop-from.invariant.0
    ∙ ap (λ l. c.args.found.now.items ++ l)
    (sym (candidates_in c.args.namespaces.now c.args.entries.now c.args.word.now c.args.scope.now s.path.global s.path.names.now c.in-Some.ensures.taken c.asked_scope-from-items.result.now
    c.asked_scope-from-items.ensures))

pub returns-in_default-clause-found : goal.returns-in_default-clause-found
returns-in_default-clause-found c =
    let old = c.args.found.now.items in
    sym (ap (λ l. old ++ l) (could_name_none c.args.namespaces.now c.args.entries.now (scoped c.args.namespaces.now c.args.scope.now c.args.word.now) c.in_default.ensures) ∙ append-nil old)

pub named_in-named-requires-clause-within : goal.named_in-named-requires-clause-within
named_in-named-requires-clause-within c =
    asked_within c.args.namespaces.now c.args.scope.now c.requires.within c.in-Some.sought.path.global c.asked_scope-from-items.result.now c.asked_scope-from-items.ensures c.loop-from.from-index
    c.loop-from-test.true

pub named_in-named-requires-clause-sought : goal.named_in-named-requires-clause-sought
named_in-named-requires-clause-sought c = c.in-Some.ensures

pub named_in-named-requires-clause-entries : goal.named_in-named-requires-clause-entries
named_in-named-requires-clause-entries c = c.requires.entries

pub seek-requires : goal.seek-requires
seek-requires c = c.requires.entries.rising
