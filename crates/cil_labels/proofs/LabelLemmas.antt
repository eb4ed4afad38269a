-- The label of a text by other words for the same: where names mean the same, and the same is permitted, a text has the same label.
use Rattle.std.specs.Prelude.{◌↔◌, ℕ, ◌<◌, List}
use Rattle.cil_mls.specs.declared.level.Level.{Level}
use Rattle.cil_mls.specs.LevelTexts.{AreItems, HasCategory, HasJust, IsItem, IsLevelText, IsRangeText, one, from_to, bare, with_items, one_level, two_levels}
use Rattle.cil_labels.specs.Labels.{IsLabel, IsSoundLevel, IsSoundRange, plain, levelled}

-- ---- items of categories

module _ (C D : List ℕ → ℕ → Type 0) (moved : (t : List ℕ) (n : ℕ) → C t n → D t n) where
  item_moved : (t : List ℕ) (a b : ℕ) → IsItem C t a b → IsItem D t a b
  item_moved t a b (one u x w p) = one t a w (moved t a p)
  item_moved t a b (from_to u l h x y part p q o) = from_to t l h a b part (moved l a p) (moved h b q) o

  items_moved : (t : List ℕ) → AreItems C t → AreItems D t
  items_moved t are part c = let it = are part c in (it.0, it.1, item_moved part it.0 it.1 it.2)

  category_moved : (t : List ℕ) (c : ℕ) → HasCategory C t c → HasCategory D t c
  category_moved t c h = record {
    part = h.part;
    is_part = h.is_part;
    first = h.first;
    last = h.last;
    is_item = item_moved h.part h.first h.last h.is_item;
    above = h.above;
    below = h.below;
  }

-- ---- levels and ranges

module _ (S T C D : List ℕ → ℕ → Type 0) (same_s : (t : List ℕ) (n : ℕ) → S t n ↔ T t n) (same_c : (t : List ℕ) (n : ℕ) → C t n ↔ D t n) where
  just_moved : (t : List ℕ) (l : Level) → HasJust C t l → HasJust D t l
  just_moved t l just c less = (
    λ i. category_moved C D (λ u n. (same_c u n).0) t c ((just c less).0 i),
    λ h. (just c less).1 (category_moved D C (λ u n. (same_c u n).1) t c h),
  )

  pub level_moved : (t : List ℕ) (l : Level) → IsLevelText S C t l → IsLevelText T D t l
  level_moved t l (bare u m w s none) = bare t l w ((same_s t l.sensitivity).0 s) none
  level_moved t l (with_items u n i m part s are just) =
      with_items t n i l part ((same_s n l.sensitivity).0 s) (items_moved C D (λ v k. (same_c v k).0) i are) (just_moved i l just)

  pub range_moved : (t : List ℕ) (low high : Level) → IsRangeText S C t low high → IsRangeText T D t low high
  range_moved t low high (one_level u l w is) = one_level t low w (level_moved t low is)
  range_moved t low high (two_levels u f r l h part a b) = two_levels t f r low high part (level_moved f low a) (level_moved r high b)

-- ---- labels

module _ (On Other : Type 0) (same_on : On ↔ Other)
    (S T C D : List ℕ → ℕ → Type 0) (same_s : (t : List ℕ) (n : ℕ) → S t n ↔ T t n) (same_c : (t : List ℕ) (n : ℕ) → C t n ↔ D t n)
    (P Q : ℕ → ℕ → Type 0) (same_p : (n c : ℕ) → c < 1024 → P n c ↔ Q n c) where
  sound_moved : (l : Level) → IsSoundLevel On S C P l → IsSoundLevel Other T D Q l
  sound_moved l s = record { words = s.words; permitted = λ c less i. (same_p l.sensitivity c less).0 (s.permitted c less i) }

  range_sound : (low high : Level) → IsSoundRange On S C P low high → IsSoundRange Other T D Q low high
  range_sound low high s = record { of_low = sound_moved low s.of_low; of_high = sound_moved high s.of_high; dominates = s.dominates }

  pub label_moved : (text kind : List ℕ) (low high : Level) → IsLabel On S C P text kind low high → IsLabel Other T D Q text kind low high
  label_moved text kind low high (plain k off w) = plain text (λ on. off (same_on.1 on)) w
  label_moved text kind low high (levelled t k range l h on part is sound) =
      levelled text kind range low high (same_on.0 on) part (range_moved S T C D same_s same_c range low high is) (range_sound low high sound)
