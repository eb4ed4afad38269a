-- What taking optionals out one by one keeps. No other crate needs these words.
use Rattle.std.specs.Prelude.{◌≡◌, ℕ, ◌<◌, Bool, true, false, List, Some, slice_get, take}
use Rattle.std.specs.List.{count_by}
use Rattle.cil_names.specs.declared.entry.Entry.{Entry}
use Rattle.cil_names.specs.Entries.{is_in}
use Rattle.cil_optionals.specs.declared.reason.Reason.{Reason}
use Rattle.cil_optionals.specs.Parts.{Part, is_step, is_well, left_after, names_one}

-- how many flags are set
unfoldable pub count_set : List Bool → ℕ
count_set flags = count_by (λ (flag : Bool). flag) flags

-- the flags are those of the optionals that these reasons leave, and each reason held when its optional was taken out
pub record IsTaken (ps : List Part) (es : List Entry) (flags : List Bool) (rs : List Reason) : Type 0 where
  pub left : (o : ℕ) → is_in flags o ≡ left_after ps rs o
  pub steps : (k : ℕ) (r : Reason) → slice_get rs k ≡ Some r
      → is_step ps (left_after ps (take k rs)) (names_one es (left_after ps (take k rs))) r ≡ true

-- all is well with the statement at a place
abbrev pub IsWellAt : List Part → List Entry → List Bool → ℕ → Type 0
IsWellAt ps es left at = (p : Part) → slice_get ps at ≡ Some p → is_well (is_in left) (names_one es (is_in left)) at p ≡ true

-- a reason to take out an optional now
abbrev pub IsReasonNow : List Part → List Entry → List Bool → Reason → Type 0
IsReasonNow ps es left r = is_step ps (is_in left) (names_one es (is_in left)) r ≡ true

-- a statement was judged: an optional was taken out, or all was well with the statement
pub record IsTurned (ps : List Part) (es : List Entry) (at : ℕ) (left0 left : List Bool) (taken : Bool) : Type 0 where
  pub fewer : taken ≡ true → count_set left < count_set left0
  pub same : taken ≡ false → left ≡ left0
  pub well : taken ≡ false → IsWellAt ps es left at

-- the first so many statements were judged
pub record IsPassed (ps : List Part) (es : List Entry) (n : ℕ) (left0 left : List Bool) (taken : Bool) : Type 0 where
  pub fewer : taken ≡ true → count_set left < count_set left0
  pub same : taken ≡ false → left ≡ left0
  pub well : taken ≡ false → (at : ℕ) → at < n → IsWellAt ps es left at
