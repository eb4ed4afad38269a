-- Sets of categories that get what one declaration after another says. No other crate needs these words.
use Rattle.std.specs.Prelude.{◌≡◌, ◌↔◌, ℕ, ◌<◌, ◌≤◌, Bool, false, ◌&&◌, ◌||◌, ◌==◌, List, Contains, Option, Some, get_or, length, slice_get}
use Rattle.std.specs.List.{list_any}
use Rattle.cil_settle.specs.declared.edge.Edge.{Edge}
use Rattle.cil_settle.specs.Cycles.{Fall, Leads}
use Rattle.cil_syntax.specs.declared.kind.Kind.TheVariants as kinds
use Rattle.cil_syntax.specs.Scopes.{ScopedWord}
use Rattle.cil_syntax.specs.Table.{entry_of}
use Rattle.cil_syntax.specs.Terms.{Terms, nil, cons}
use Rattle.cil_macros.specs.Item.{all_words_in}
use Rattle.cil_macros.specs.Items.{Kept, item_at, items_in}
use Rattle.cil_known.specs.declared.known.Known.{Known}
use Rattle.cil_known.specs.Known.{meant_in}
use Rattle.cil_mls.specs.declared.categories.Categories.{Categories}
use Rattle.cil_mls.specs.declared.expression.Held.{Held}
use Rattle.cil_mls.specs.declared.expression.Held.TheVariants.{Nothing, Set}
use Rattle.cil_mls.specs.Bits.{in_words}
use Rattle.cil_mls.specs.SetEdges.{DeclaresJust, DeclaresSet, IsSetEdgeIn}
use Rattle.cil_mls.specs.Values.{in_term, is_held}
use Rattle.cil_levels.specs.declared.definitions.Definition.{Definition}

-- what is said is two terms, the second of which has the category
abbrev pub in_second : {L : Type 0} → List Held → (count : ℕ) → (L → Option ℕ) → ℕ → Terms L → Bool
in_second helds count meaning c nil = false
in_second helds count meaning c (cons a nil) = false
in_second helds count meaning c (cons a (cons e nil)) = in_term helds count meaning c e
in_second helds count meaning c (cons a (cons e (cons d rest))) = false

-- the name of this number holds the category
abbrev pub held_at : List Held → ℕ → ℕ → Bool
held_at helds d c = is_held c (get_or helds d Nothing)

-- it holds a set
abbrev pub IsSetIn : List Held → ℕ → Type 0
IsSetIn helds d = (set : Categories) × (get_or helds d Nothing ≡ Set set)

-- one set has got more
pub record IsGained (old new : List Held) (d : ℕ) (more : Categories) : Type 0 where
  pub len : length new ≡ length old
  pub is_set : IsSetIn new d
  pub others : (e : ℕ) → (e ≡ d → ⊥) → get_or new e Nothing ≡ get_or old e Nothing
  pub gained : (c : ℕ) → c < 1024 → held_at new d c ≡ (held_at old d c || in_words more.words c)

-- a set stays a set, and any other name holds what it held
abbrev pub IsKept : (old new : Held) → Type 0
IsKept (Set set) new = (more : Categories) × (new ≡ Set more)
IsKept old new = new ≡ old

-- the declaration is that of a set, by a statement that is there
pub record CanBeMade (i : Kept) (helds : List Held) (x : Definition) : Type 0 where
  pub within : x.at < length (items_in i)
  pub is_set : IsSetIn helds x.set
  pub declares : Contains (entry_of (item_at i x.at).keyword).declares kinds.CategorySet

-- ---- declarations of sets

module _ (k : Known) (i : Kept) where
  -- these are the declarations of sets among so many statements
  pub record AreDefined (n : ℕ) (all : List Definition) : Type 0 where
    pub each : (d : Definition) → Contains all d → (d.at < n) × DeclaresJust k (items_in i) (item_at i d.at) d.set
    pub every : (at set : ℕ) → at < n → DeclaresSet k (items_in i) (item_at i at) set → Contains all (record { set = set; at = at })

  -- no word of the statement means the name
  abbrev pub LeavesOut : Definition → ℕ → Type 0
  LeavesOut x d = (w : ScopedWord) → Contains (all_words_in (item_at i x.at).args) w → meant_in k w ≡ Some d → ⊥

  -- no declaration names its own set, nor one that a later declaration gives something
  abbrev pub AreInOrder : List Definition → Type 0
  AreInOrder all = (m n : ℕ) (x y : Definition) → slice_get all m ≡ Some x → slice_get all n ≡ Some y → m ≤ n → LeavesOut x y.set

  -- the declaration gives its set the category, where there are so many
  abbrev pub says_of : List Held → ℕ → ℕ → Definition → Bool
  says_of helds count c x = in_second helds count (meant_in k) c (item_at i x.at).args

  abbrev pub is_made_by : List Held → ℕ → ℕ → ℕ → Definition → Bool
  is_made_by helds count d c x = (x.set == d) && says_of helds count c x

  -- one declaration has given its set what it says
  pub record IsGivenMore (count : ℕ) (old new : List Held) (x : Definition) : Type 0 where
    pub len : length new ≡ length old
    pub is_set : IsSetIn new x.set
    pub others : (e : ℕ) → (e ≡ x.set → ⊥) → get_or new e Nothing ≡ get_or old e Nothing
    pub gained : (c : ℕ) → c < 1024 → held_at new x.set c ≡ (held_at old x.set c || says_of old count c x)

  -- each set has what it had at first, and what these give it by what all names hold
  pub record AreMade (count : ℕ) (first : List Held) (all : List Definition) (helds : List Held) : Type 0 where
    pub len : length helds ≡ length first
    pub kept : (d : ℕ) → IsKept (get_or first d Nothing) (get_or helds d Nothing)
    pub made : (d c : ℕ) → c < 1024 → held_at helds d c ≡ (held_at first d c || list_any (is_made_by helds count d c) all)

  -- the sets have what all their declarations say, and ranks fall from each to those that it names
  pub record AreSetsMade (count : ℕ) (first helds : List Held) : Type 0 where
    pub all : List Definition
    pub defined : AreDefined (length (items_in i)) all
    pub made : AreMade count first all helds
    pub edges : List Edge
    pub lead : (a b : ℕ) → Leads edges a b ↔ IsSetEdgeIn k (items_in i) a b
    pub ranks : List ℕ
    pub fall : Fall edges ranks
