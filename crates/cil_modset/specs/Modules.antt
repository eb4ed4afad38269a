-- What a set of modules holds, given by the one list of its texts in byte order.
use Rattle.std.specs.Prelude.{◌≡◌, ℕ, ◌<◌, ◌≤◌, ◌↔◌, ◌⊎◌, List, [], length, Contains, map, slice_index_or}
use Rattle.std.specs.Global.{Vec}
use Rattle.std.specs.declared.cmp.Ordering.TheVariants.{Less}
use Rattle.std.specs.List.Sorted.{IsStrictlySortedBy}
use Rattle.cil_base.specs.Lists.{text_cmp}
use Rattle.cil_sexpr.specs.Text.{IsReadable}

-- one text comes before another: the first byte that differs decides, and a text comes before those that it begins
abbrev pub IsBelow : List ℕ → List ℕ → Type 0
IsBelow a b = text_cmp a b ≡ Less

-- each text is before those after it, so none is in the list twice
abbrev pub IsRising : List (List ℕ) → Type 0
IsRising = IsStrictlySortedBy text_cmp

-- the list of a set of readable texts
pub record AreModules (texts : List (List ℕ)) : Type 0 where
  pub rising : IsRising texts
  pub readable : (text : List ℕ) → Contains texts text → IsReadable text

-- three lists of sets: the third set has what the first or the second has, and nothing else
pub record IsUnion (a b both : List (List ℕ)) : Type 0 where
  pub first : IsRising a
  pub second : IsRising b
  pub rising : IsRising both
  pub members : (text : List ℕ) → Contains both text ↔ (Contains a text ⊎ Contains b text)

-- the module of a number
abbrev pub module_of : List (List ℕ) → ℕ → List ℕ
module_of texts i = slice_index_or texts i []

-- the texts in memory, as lists of bytes
abbrev pub texts_of : List (Vec ℕ) → List (List ℕ)
texts_of vectors = map (λ v. v.items) vectors

-- where a text has its place in a rising list that lacks it
pub record IsPlaceOf (texts : List (List ℕ)) (text : List ℕ) (place : ℕ) : Type 0 where
  pub within : place ≤ length texts
  pub before : (k : ℕ) → k < place → IsBelow (module_of texts k) text
  pub behind : (k : ℕ) → place ≤ k → k < length texts → IsBelow text (module_of texts k)
