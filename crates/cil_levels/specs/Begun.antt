-- What declared names hold before sets of categories have what their declarations say. No other crate needs these words.
use Rattle.std.specs.Prelude.{◌≡◌, ◌<◌, ℕ, Bool, true, false, List, [], ◌∷◌, Some, get_or, length, slice_get}
use Rattle.cil_syntax.specs.declared.kind.Kind.{Kind}
use Rattle.cil_syntax.specs.declared.kind.Kind.TheVariants as kinds
use Rattle.cil_macros.specs.Item.{Item}
use Rattle.cil_names.specs.declared.entry.Entry.{Entry}
use Rattle.cil_known.specs.declared.known.Known.{Known}
use Rattle.cil_mls.specs.Ordering.{AreNumbered}
use Rattle.cil_mls.specs.declared.expression.Held.{Held}
use Rattle.cil_mls.specs.declared.expression.Held.TheVariants.{Nothing, Category, Set}
use Rattle.cil_mls.specs.Bits.{in_words}
use Rattle.cil_mls.specs.SetEdges.{is_set_at}

-- no number is in the row twice
abbrev pub AreOnce : List ℕ → Type 0
AreOnce row = (i j n : ℕ) → slice_get row i ≡ Some n → slice_get row j ≡ Some n → i ≡ j

-- at each number of the row is its place in the row
abbrev pub AreInverse : List ℕ → List ℕ → Type 0
AreInverse row places = (i n : ℕ) → slice_get row i ≡ Some n → get_or places n 0 ≡ i

-- at first a set holds a set of no categories, and any other name the place of the one category for which words stand that mean it
abbrev pub IsBegun : List Entry → (standing : List (List ℕ)) → (places : List ℕ) → ℕ → Held → Type 0
IsBegun es standing places d Nothing = (is_set_at es d ≡ false) × (get_or standing d [] ≡ [])
IsBegun es standing places d (Category c) = (is_set_at es d ≡ false) × (n : ℕ) × (get_or standing d [] ≡ n ∷ []) × (get_or places n 0 ≡ c)
IsBegun es standing places d (Set set) = (is_set_at es d ≡ true) × (get_or standing d [] ≡ []) × ((c : ℕ) → in_words set.words c ≡ false)

-- a name that stands for nothing holds at first a set of no categories if it is a set, and nothing if not
abbrev pub IsNoneAs : (is_set : Bool) → Held → Type 0
IsNoneAs is_set Nothing = is_set ≡ false
IsNoneAs is_set (Category c) = ⊥
IsNoneAs is_set (Set set) = (is_set ≡ true) × ((c : ℕ) → in_words set.words c ≡ false)

-- so each name does
pub record AreBegun (es : List Entry) (standing : List (List ℕ)) (places : List ℕ) (helds : List Held) : Type 0 where
  pub len : length helds ≡ length es
  pub each : (d : ℕ) → d < length es → IsBegun es standing places d (get_or helds d Nothing)

-- the same for some numbers and places
pub record IsBegunBy (es : List Entry) (helds : List Held) : Type 0 where
  pub standing : List (List ℕ)
  pub places : List ℕ
  pub begun : AreBegun es standing places helds

-- the same for what words stand for, and for the places of categories in their order
pub record AreFirst (k : Known) (xs : List Item) (sections : Kind → List (List ℕ)) (names : List (List ℕ)) (order : List ℕ) (helds : List Held) : Type 0 where
  pub standing : List (List ℕ)
  pub places : List ℕ
  pub numbered : AreNumbered k xs sections kinds.Category names standing
  pub inverse : AreInverse order places
  pub begun : AreBegun k.lookup.names.now standing places helds
