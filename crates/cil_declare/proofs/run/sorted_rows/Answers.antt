use Rattle.std.proofs.Common.{rules, is_lt}
use Rattle.std.proofs.lemmas.Fn.{always_returns_same}
use Rattle.cil_declare.specs.Rows.{row_key}
use Rattle.cil_names.specs.Entries.{by_name_cmp}
use Rattle.cil_declare.proofs.RunLemmas.{weak}
use Rattle.cil_declare.proofs.run.sorted_rows.Goals as goal

pub returns-clause-sorted : goal.returns-clause-sorted
returns-clause-sorted c =
    c.sort_unstable_by.ensures.sorted (λ x y. is_lt (by_name_cmp (row_key x) (row_key y))) weak (always_returns_same _ _ _ (λ a r f' k. search rules))
