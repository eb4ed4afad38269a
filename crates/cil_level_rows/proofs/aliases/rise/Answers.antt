use Rattle.std.proofs.Common.{rules}
use Rattle.std.specs.Ordering.{is_lt}
use Rattle.std.proofs.lemmas.Cmp.{nat_list_cmp_total, on_total}
use Rattle.std.proofs.lemmas.Fn.{always_returns_same}
use Rattle.cil_mls.specs.declared.named.Named.{Named}
use Rattle.cil_mls.specs.Names.{name_of, named_cmp}
use Rattle.cil_mls.proofs.RisingLemmas.{rises_where_sorted, sorted_where_rises}
use Rattle.cil_level_rows.proofs.aliases.rise.Goals as goal

pub returns : goal.returns
returns c =
    let answer = c.is_sorted_by.ensures.cases (λ (a b : Named). is_lt (named_cmp a b)) (always_returns_same _ _ _ (λ a r f' k. search rules)) in
    let total = on_total name_of nat_list_cmp_total in
    (rises_where_sorted named_cmp total _ _ answer, sorted_where_rises named_cmp total _ _ answer)
