-- For how long each optional and each declared name is there while the optionals of some reasons are taken out one by one. No
-- other crate needs these words.
use Rattle.std.specs.Prelude.{◌≡◌, ℕ, suc, ◌<◌, ◌≤◌, ◌==◌, Bool, true, cond, ltb, List, Some, get_or, length, set, slice_get, take}
use Rattle.std.specs.List.{list_any}
use Rattle.cil_macros.specs.Item.{OptSet}
use Rattle.cil_names.specs.declared.entry.Entry.{Entry}
use Rattle.cil_names.specs.Entries.{is_declared_at, is_in}
use Rattle.cil_optionals.specs.declared.reason.Reason.{Reason}
use Rattle.cil_optionals.specs.Parts.{Part, WordTest, is_step, is_well, left_after}

-- what is there after so many were taken out: what stays for longer
abbrev pub after : List ℕ → ℕ → OptSet
after times k o = ltb k (get_or times o 0)

-- a word names something after so many were taken out
abbrev pub names_after : List ℕ → ℕ → WordTest
names_after times k ds = list_any (after times k) ds

-- for as many steps each optional is left: 0 for what is no optional, and one more than there are reasons for what stays
abbrev pub AreTimes : List Part → List Reason → List ℕ → Type 0
AreTimes ps rs times = (k o : ℕ) → k ≤ length rs → after times k o ≡ left_after ps (take k rs) o

-- the same of the first so many of these reasons
pub record AreTimesUpTo (ps : List Part) (rs : List Reason) (n : ℕ) (times : List ℕ) : Type 0 where
  pub each : (k o : ℕ) → k ≤ n → after times k o ≡ left_after ps (take k rs) o
  -- each was taken out by one of them, or stays
  pub kept : (o : ℕ) → n < get_or times o 0 → get_or times o 0 ≡ suc (length rs)
  pub len : length times ≡ length ps

-- for as many steps each entry is declared, up to a greatest number
abbrev pub AreEntryTimes : List Entry → List ℕ → ℕ → List ℕ → Type 0
AreEntryTimes es times top entry_times = (k d : ℕ) → k < top → after entry_times k d ≡ is_declared_at (after times k) es d

-- the time at which an optional is taken out is noted, where it is there to the end so far
abbrev pub noted : ℕ → ℕ → ℕ → List ℕ → List ℕ
noted optional time top times = cond (get_or times optional 0 == top) (set times optional time) times

-- ---- what a check asks

abbrev pub AreSteps : List Part → List ℕ → List ℕ → List Reason → Type 0
AreSteps ps times entry_times rs = (k : ℕ) (r : Reason) → slice_get rs k ≡ Some r → is_step ps (after times k) (names_after entry_times k) r ≡ true

abbrev pub IsEnabledAfter : List ℕ → ℕ → List Bool → Type 0
IsEnabledAfter times steps flags = (o : ℕ) → is_in flags o ≡ after times steps o

abbrev pub AreWell : List Part → List ℕ → List ℕ → ℕ → Type 0
AreWell ps times entry_times steps = (at : ℕ) (p : Part) → slice_get ps at ≡ Some p → is_well (after times steps) (names_after entry_times steps) at p ≡ true
