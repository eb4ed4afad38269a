use Rattle.std.specs.Ordering.{eq_by_cmp}
use Rattle.std.proofs.Common.{rules, is_lt}
use Rattle.std.proofs.lemmas.Fn.{always_returns_same, dedup_same}
use Rattle.cil_labels.specs.Rows.{row_cmp}
use Rattle.cil_labels.proofs.RowLemmas.{rows_listed, weak}
use Rattle.cil_labels.proofs.index.listed.Goals as goal

pub returns : goal.returns
returns c =
    rows_listed c.args.rows.items _ _ c.sort_unstable_by.ensures.permutation
    (c.sort_unstable_by.ensures.sorted (λ x y. is_lt (row_cmp x y)) weak (always_returns_same _ _ _ (λ a r f' k. search rules)))
    (dedup_same _ (eq_by_cmp row_cmp) _ (λ x y b f' x' y' k. search rules) _ _ c.dedup_by.ensures.filtered)
