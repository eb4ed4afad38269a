-- The order of records: by numbers alone, and yet that of their rules.
use Rattle.std.specs.Prelude.{ℕ, ◌<◌, ◌≤◌, List, length, Contains}
use Rattle.std.specs.Cmp.{IsTotalOrder}
use Rattle.std.specs.Ordering.{nat_cmp, on, then_cmp}
use Rattle.std.specs.declared.cmp.Ordering.{Ordering}
use Rattle.std.proofs.lemmas.Cmp.{then_total, on_total, nat_cmp_total}
use Rattle.cil_rules.specs.conditions.Branch.{Branch}
use Rattle.cil_index.specs.declared.record.Record.{Record}

-- records compare by branch, source, target, class and mask, each a number
abbrev pub record_cmp : Record → Record → Ordering
record_cmp =
    then_cmp (then_cmp (then_cmp (then_cmp (on (λ r. r.branch) nat_cmp) (on (λ r. r.source) nat_cmp)) (on (λ r. r.target) nat_cmp)) (on (λ r. r.class) nat_cmp))
    (on (λ r. r.mask) nat_cmp)

-- any two records have an order
pub record_total : IsTotalOrder record_cmp
record_total =
    then_total (then_total (then_total (then_total (on_total (λ r. r.branch) nat_cmp_total) (on_total (λ r. r.source) nat_cmp_total)) (on_total (λ r. r.target) nat_cmp_total)) (on_total (λ r. r.class) nat_cmp_total))
    (on_total (λ r. r.mask) nat_cmp_total)

-- ---- numbers that stand for branches and sets

-- the numbers of a record are those of branches and sets that are there; the source itself has the number behind all sets
pub record IsWithin (branches : List Branch) (sets : List (List ℕ)) (r : Record) : Type 0 where
  pub branch : r.branch ≤ length branches
  pub source : r.source < length sets
  pub target : r.target ≤ length sets

abbrev pub AreWithin : List Branch → List (List ℕ) → List Record → Type 0
AreWithin branches sets rs = (r : Record) → Contains rs r → IsWithin branches sets r
