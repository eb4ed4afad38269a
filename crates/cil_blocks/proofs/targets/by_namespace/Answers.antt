use Rattle.std.proofs.Common.{rules, is_lt}
use Rattle.std.specs.Ordering.{nat_cmp}
use Rattle.std.specs.Prelude.{ℕ, Some}
use Rattle.std.proofs.lemmas.Cmp.{nat_cmp_total}
use Rattle.std.proofs.lemmas.Fn.{always_returns_same}
use Rattle.cil_base.specs.Paths.{same_by}
use Rattle.cil_blocks.specs.Numbers.{number_in}
use Rattle.cil_blocks.proofs.RunLemmas.{weak}
use Rattle.cil_blocks.proofs.targets.by_namespace.Goals as goal

pub returns-clause-sorted : goal.returns-clause-sorted
returns-clause-sorted c =
    c.sort_unstable_by.ensures.sorted (λ x y. is_lt (nat_cmp (number_in c.args.spaces.now.numbers (Some x)) (number_in c.args.spaces.now.numbers (Some y))))
    (weak (λ (b : ℕ). number_in c.args.spaces.now.numbers (Some b)) nat_cmp nat_cmp_total same_by)
    (always_returns_same _ _ _ (λ a r f' k. search rules))
