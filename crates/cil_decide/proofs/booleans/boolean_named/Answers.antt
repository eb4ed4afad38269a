use Rattle.std.proofs.Common.{rules}
use Rattle.std.proofs.lemmas.Fn.{always_returns_same}
use Rattle.cil_base.specs.Lists.{text_cmp}
use Rattle.cil_decide.proofs.BooleanLemmas.{boolean_searched, few_found, found_within}
use Rattle.cil_decide.proofs.booleans.boolean_named.Goals as goal

pub returns-in-Ok-clause-found : goal.returns-in-Ok-clause-found
returns-in-Ok-clause-found c =
    rw c.in-Ok.is at (boolean_searched c.args.tables.now c.booleans.result.now c.args.name.now c.binary_search_by-place.result c.booleans.ensures.orderly c.booleans.ensures.booleans
    c.binary_search_by-place.ensures.bound (c.binary_search_by-place.ensures.position (λ x. text_cmp x.name c.args.name.now) (always_returns_same _ _ _ (λ a r f' k. search rules))))

pub returns-in-Ok-clause-within : goal.returns-in-Ok-clause-within
returns-in-Ok-clause-within c =
    few_found c.args.tables.now c.booleans.result.now c.in-Ok.number c.booleans.ensures.orderly c.booleans.ensures.booleans
    (found_within _ _ _ c.in-Ok.is c.binary_search_by-place.ensures.bound)

pub returns-in-Err-clause-none : goal.returns-in-Err-clause-none
returns-in-Err-clause-none c =
    rw c.in-Err.is at (boolean_searched c.args.tables.now c.booleans.result.now c.args.name.now c.binary_search_by-place.result c.booleans.ensures.orderly c.booleans.ensures.booleans
    c.binary_search_by-place.ensures.bound (c.binary_search_by-place.ensures.position (λ x. text_cmp x.name c.args.name.now) (always_returns_same _ _ _ (λ a r f' k. search rules))))
