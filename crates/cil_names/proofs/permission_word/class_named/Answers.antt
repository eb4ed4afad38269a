use Rattle.std.specs.Prelude.{IfSome, Option, ◌<◌, [], ℕ, length}
use Rattle.std.proofs.Common.{subst, sym}
use Rattle.cil_names.specs.Entries.{candidates_of, is_in, scoped}
use Rattle.cil_names.proofs.AnswerLemmas.{found_within}
use Rattle.cil_names.proofs.permission_word.class_named.Goals as goal

pub returns-clause-within : goal.returns-clause-within
returns-clause-within c =
    subst (λ (r : Option ℕ). IfSome r (λ d. d < length c.args.entries.now)) (sym c.resolve.ensures)
    (found_within (is_in []) c.args.entries.now (candidates_of c.args.namespaces.now c.args.entries.now (scoped c.args.namespaces.now c.args.scope.now c.args.class.now)))
