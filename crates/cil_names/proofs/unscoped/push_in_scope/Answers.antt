use Rattle.std.proofs.Common.{◌≡◌, ◌≤◌, ◌++◌, length, subst, sym}
use Rattle.std.specs.Prelude.{All, OnOk}
use Rattle.cil_names.specs.Entries.{candidates_of, scoped}
use Rattle.cil_names.proofs.unscoped.push_in_scope.Goals as goal

pub returns-in-Some-clause-found : goal.returns-in-Some-clause-found
returns-in-Some-clause-found c = subst (λ ds. OnOk c.push_listed.result (c.push_listed.new.found.items ≡ c.args.found.now.items ++ ds)) c.one_in.ensures c.push_listed.ensures.found

pub push_candidates-requires-clause-within : goal.push_candidates-requires-clause-within
push_candidates-requires-clause-within c = subst (All (λ k. k ≤ length c.args.namespaces.now)) (sym c.as_slice-numbers.ensures) c.requires.within

pub returns-clause-found : goal.returns-clause-found
returns-clause-found c =
    subst (λ ks. OnOk c.push_candidates.result (c.push_candidates.new.found.items ≡ c.args.found.now.items ++ candidates_of c.args.namespaces.now c.args.entries.now (scoped c.args.namespaces.now ks c.args.word.now)))
    c.as_slice-numbers.ensures c.push_candidates.ensures.found
