-- The first reasons by the parts of statements, and the first words of optionals that name nothing. No other crate needs these words.
use Rattle.std.specs.Prelude.{◌≡◌, ◌<◌, ◌≤◌, ◌⊎◌, ℕ, suc, Bool, true, false, List, MatchOption, None, Option, Some, get_or, length, slice_get, take}
use Rattle.std.specs.Option.{option_map_or}
use Rattle.cil_macros.specs.Item.{OptSet}
use Rattle.cil_names.specs.declared.entry.Entry.{Entry}
use Rattle.cil_optionals.specs.declared.reason.Reason.{Reason}
use Rattle.cil_optionals.specs.declared.reason.Reason.TheVariants.{Missing}
use Rattle.cil_optionals.specs.Certificate.{left_out}
use Rattle.cil_optionals.specs.First.{ComesNoLater}
use Rattle.cil_optionals.specs.Parts.{Part, WordTest, holds_in, is_step, left_after, names_one, word_is_missing}
use Rattle.cil_optionals.specs.Times.{after, names_after}

-- no reason that holds of the same optional comes before this one
abbrev pub IsFirstIn : List Part → OptSet → WordTest → Reason → Type 0
IsFirstIn ps s names r = (q : Reason) → left_out q ≡ left_out r → holds_in ps s names q ≡ true → ComesNoLater r q

-- each reason is the first one of its optional where those before it have taken out their optionals
abbrev pub AreFirstIn : List Part → List Entry → List Reason → Type 0
AreFirstIn ps es rs = (k : ℕ) (r : Reason) → slice_get rs k ≡ Some r → IsFirstIn ps (left_after ps (take k rs)) (names_one es (left_after ps (take k rs))) r

-- ---- the first word of an optional

-- the j-th word of the i-th statement is a word of the optional that names nothing
abbrev pub misses : List Part → WordTest → ℕ → ℕ → ℕ → Bool
misses ps names o i j = option_map_or (word_is_missing names o j) (slice_get ps i) false

-- the reason tells the first word of the optional that names nothing, from this statement on
pub record IsFirstWord (ps : List Part) (names : WordTest) (o n : ℕ) (r : Reason) : Type 0 where
  pub instance : ℕ
  pub word : ℕ
  pub told : r ≡ Missing o instance word
  pub lacks : misses ps names o instance word ≡ true
  pub first : (i j : ℕ) → n ≤ i → misses ps names o i j ≡ true → (instance < i) ⊎ ((instance ≡ i) × (word ≤ j))

-- there is such a reason, or all words name something
abbrev pub IsFirstFrom : List Part → WordTest → ℕ → ℕ → Option Reason → Type 0
IsFirstFrom ps names o n r = MatchOption r ((i j : ℕ) → n ≤ i → misses ps names o i j ≡ true → ⊥) (IsFirstWord ps names o n)

-- the optional is taken out by this one of so many steps
abbrev pub GoesAt : List ℕ → ℕ → ℕ → ℕ → Type 0
GoesAt times steps o t = (get_or times o 0 ≡ suc t) × (t < steps)

-- for each optional that is taken out, by what is there when its turn comes
abbrev pub AreFirstWords : List Part → List ℕ → List ℕ → ℕ → ℕ → List (Option Reason) → Type 0
AreFirstWords ps times entry_times steps n words =
    (o t : ℕ) → GoesAt times steps o t → IsFirstFrom ps (names_after entry_times t) o n (get_or words o None)

-- ---- the reason that is told in place of another one

-- a reason of the same optional, which holds, and before which no other one comes
pub record IsToldFor (ps : List Part) (times entry_times : List ℕ) (k : ℕ) (old r : Reason) : Type 0 where
  pub same : left_out r ≡ left_out old
  pub step : is_step ps (after times k) (names_after entry_times k) r ≡ true
  pub first : IsFirstIn ps (after times k) (names_after entry_times k) r

-- the same, if the other one is that of this step
abbrev pub IsTold : List Part → List ℕ → List ℕ → ℕ → ℕ → Reason → Reason → Type 0
IsTold ps times entry_times steps k old r =
    GoesAt times steps (left_out old) k → is_step ps (after times k) (names_after entry_times k) old ≡ true → IsToldFor ps times entry_times k old r

-- the same of the first n of some reasons
pub record AreTold (ps : List Part) (times entry_times : List ℕ) (steps n : ℕ) (rs told : List Reason) : Type 0 where
  pub len : length told ≡ n
  pub each : (k : ℕ) (old r : Reason) → slice_get rs k ≡ Some old → slice_get told k ≡ Some r → IsTold ps times entry_times steps k old r
