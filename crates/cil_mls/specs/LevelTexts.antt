-- The texts of levels and ranges, whatever names mean. The SELinux Notebook, "Security Context" and "Multi-Level Security and
-- Multi-Category Security"; which names can be written is this project's profile.
use Rattle.std.specs.Prelude.{◌≡◌, ◌↔◌, ℕ, ◌<◌, ◌≤◌, ◌==◌, false, List, ◌∷◌, ◌++◌, All, Contains}
use Rattle.std.specs.List.{slice_split}
use Rattle.cil_mls.specs.declared.level.Level.{Level}
use Rattle.cil_mls.specs.Dominance.{IsIn}

-- no byte is this one
abbrev pub IsWithout : ℕ → List ℕ → Type 0
IsWithout byte = All (λ b. (b == byte) ≡ false)

-- what is before the first such byte, and what is behind it
pub record IsParted (byte : ℕ) (text first rest : List ℕ) : Type 0 where
  pub whole : text ≡ first ++ byte ∷ rest
  pub without : IsWithout byte first

-- the parts between commas
abbrev pub items_of : List ℕ → List (List ℕ)
items_of = slice_split (λ b. b == 44)

-- over what names mean: which of them stand for which category
module _ (IsCategory : List ℕ → ℕ → Type 0) where
  -- an item is a name, or two with a dot between them, of which the second is not before the first: the categories from the
  -- one number to the other
  pub data IsItem : List ℕ → ℕ → ℕ → Type 0 where
    one : (text : List ℕ) (c : ℕ) → IsWithout 46 text → IsCategory text c → IsItem text c c
    from_to : (text low high : List ℕ) (c d : ℕ) → IsParted 46 text low high → IsCategory low c → IsCategory high d → c ≤ d → IsItem text c d

  -- each part between commas is an item
  abbrev pub AreItems : List ℕ → Type 0
  AreItems text = (part : List ℕ) → Contains (items_of text) part → (c : ℕ) × (d : ℕ) × IsItem part c d

  -- some item has the category
  pub record HasCategory (text : List ℕ) (c : ℕ) : Type 0 where
    pub part : List ℕ
    pub is_part : Contains (items_of text) part
    pub first : ℕ
    pub last : ℕ
    pub is_item : IsItem part first last
    pub above : first ≤ c
    pub below : c ≤ last

  -- the level has exactly the categories of the items
  abbrev pub HasJust : List ℕ → Level → Type 0
  HasJust text l = (c : ℕ) → c < 1024 → IsIn l c ↔ HasCategory text c

-- and which of them stand for which sensitivity
module _ (IsSensitivity IsCategory : List ℕ → ℕ → Type 0) where
  -- the text is that of the level: the name of its sensitivity, or that name, a colon and the items that its categories are
  pub data IsLevelText : List ℕ → Level → Type 0 where
    bare : (text : List ℕ) (l : Level) → IsWithout 58 text → IsSensitivity text l.sensitivity → ((c : ℕ) → c < 1024 → IsIn l c → ⊥) → IsLevelText text l
    with_items : (text name items : List ℕ) (l : Level) → IsParted 58 text name items → IsSensitivity name l.sensitivity → AreItems IsCategory items
        → HasJust IsCategory items l → IsLevelText text l

  -- the text is that of the range from the one level to the other: one level that is both, or two, parted at the first hyphen
  pub data IsRangeText : List ℕ → Level → Level → Type 0 where
    one_level : (text : List ℕ) (l : Level) → IsWithout 45 text → IsLevelText text l → IsRangeText text l l
    two_levels : (text first rest : List ℕ) (low high : Level) → IsParted 45 text first rest → IsLevelText first low → IsLevelText rest high
        → IsRangeText text low high
