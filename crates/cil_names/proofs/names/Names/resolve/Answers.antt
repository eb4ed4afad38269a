use Rattle.std.specs.Prelude.{IfSome, Option, ◌<◌, ℕ, length}
use Rattle.std.proofs.Common.{rules, subst}
use Rattle.cil_names.specs.Entries.{IsAnswer, candidates_of, is_in, scoped}
use Rattle.cil_names.proofs.AnswerLemmas.{answer_is, found_within}
use Rattle.cil_names.proofs.names.Names.resolve.Goals as goal

pub returns-clause-names : goal.returns-clause-names
returns-clause-names c =
    λ xs entries.
    subst (IsAnswer c.args.namespaces.now xs c.args.self.now (is_in c.args.enabled.now) (scoped c.args.namespaces.now c.args.scope.now c.args.word.now))
    (search rules)
    (answer_is c.args.namespaces.now c.are_namespaces.ensures xs c.args.self.now entries (is_in c.args.enabled.now) (scoped c.args.namespaces.now c.args.scope.now c.args.word.now))

pub returns-clause-within : goal.returns-clause-within
returns-clause-within c =
    subst (λ (r : Option ℕ). IfSome r (λ d. d < length c.args.self.now)) (search rules)
    (found_within (is_in c.args.enabled.now) c.args.self.now (candidates_of c.args.namespaces.now c.args.self.now (scoped c.args.namespaces.now c.args.scope.now c.args.word.now)))
