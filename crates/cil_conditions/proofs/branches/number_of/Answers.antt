use Rattle.std.specs.Prelude.{◌≡◌, Some, slice_get}
use Rattle.std.proofs.Common.{subst, sym}
use Rattle.cil_conditions.proofs.PlaceLemmas.{branch_at, branch_there, then_ok}
use Rattle.cil_conditions.proofs.branches.number_of.Goals as goal

pub unreachable-requires : goal.unreachable-requires
unreachable-requires c =
    branch_there c.args.rows.now c.args.branch.now c.requires.rising c.binary_search.result c.binary_search.ensures.bound c.binary_search.ensures.position c.in-Err.field-0 c.in-Err.is c.requires.there

pub returns : goal.returns
returns c =
    then_ok _ _ c.short.result
    (λ n same. subst (λ z. slice_get c.args.rows.now z ≡ Some c.args.branch.now) (sym same)
    (branch_at c.args.rows.now c.args.branch.now c.requires.rising c.binary_search.result c.binary_search.ensures.bound c.binary_search.ensures.position c.in-Ok.place c.in-Ok.is))
    c.short.ensures
