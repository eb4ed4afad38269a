use Rattle.std.proofs.Common.{rules}
use Rattle.std.specs.Ordering.{is_lt, on}
use Rattle.std.proofs.lemmas.Cmp.{on_total}
use Rattle.std.proofs.lemmas.Fn.{always_returns_same}
use Rattle.cil_names.specs.declared.entry.Entry.{Entry}
use Rattle.cil_names.specs.Entries.{by_name_cmp, key_of}
use Rattle.cil_names.proofs.OrderLemmas.{key_total}
use Rattle.cil_name_tests.proofs.RisingLemmas.{rises_where_sorted, sorted_where_rises}
use Rattle.cil_name_tests.proofs.made_names.rise.Goals as goal

pub returns : goal.returns
returns c =
    let answer = c.is_sorted_by.ensures.cases (λ (a b : Entry). is_lt (by_name_cmp (key_of a) (key_of b))) (always_returns_same _ _ _ (λ a r f' k. search rules)) in
    let total = on_total key_of key_total in
    (rises_where_sorted (on key_of by_name_cmp) total _ _ answer, sorted_where_rises (on key_of by_name_cmp) total _ _ answer)
