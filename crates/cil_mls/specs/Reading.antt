-- How the items of a level are read, one by one. No other crate needs these words.
use Rattle.std.specs.Prelude.{◌≡◌, ◌↔◌, ◌⊎◌, ℕ, ◌<◌, ◌≤◌, true, List}
use Rattle.cil_mls.specs.Bits.{in_words}
use Rattle.cil_mls.specs.LevelTexts.{AreItems, HasCategory, IsItem}

module _ (Category : List ℕ → ℕ → Type 0) where
  -- the words gain exactly the categories of the item
  pub record GainsItem (old new : List ℕ) (item : List ℕ) : Type 0 where
    pub first : ℕ
    pub last : ℕ
    pub is_item : IsItem Category item first last
    pub gains : (c : ℕ) → c < 1024 → (in_words new c ≡ true) ↔ ((in_words old c ≡ true) ⊎ ((first ≤ c) × (c ≤ last)))

  -- the text is no item
  abbrev pub IsNoItem : List ℕ → Type 0
  IsNoItem item = (c d : ℕ) → IsItem Category item c d → ⊥

  -- the words have exactly the categories of the items
  pub record AreJust (items : List ℕ) (words : List ℕ) : Type 0 where
    pub are_items : AreItems Category items
    pub just : (c : ℕ) → c < 1024 → (in_words words c ≡ true) ↔ HasCategory Category items c

  -- the items that are left: with what the words have, they have what all items have
  pub record IsLeft (items words rest : List ℕ) : Type 0 where
    pub all : AreItems Category rest → AreItems Category items
    pub some : AreItems Category items → AreItems Category rest
    pub has : (c : ℕ) → c < 1024 → HasCategory Category items c → (in_words words c ≡ true) ⊎ HasCategory Category rest c
    pub words_in : (c : ℕ) → c < 1024 → in_words words c ≡ true → HasCategory Category items c
    pub rest_in : (c : ℕ) → c < 1024 → HasCategory Category rest c → HasCategory Category items c
