-- What statements say that names of levels and of ranges stand for, by the numbers of entries. No other crate needs these words.
use Rattle.std.specs.Prelude.{◌≡◌, ◌⊎◌, ◌<◌, ℕ, List, Option, Some, None, get_or}
use Rattle.cil_faults.specs.declared.spot.Spot.{Spot}
use Rattle.cil_syntax.specs.declared.kind.Kind.{Kind}
use Rattle.cil_syntax.specs.Scopes.{ScopedWord}
use Rattle.cil_syntax.specs.Terms.{Term, Name, nil, cons}
use Rattle.cil_macros.specs.Item.{Item}
use Rattle.cil_macros.specs.Items.{Kept, item_at, items_in}
use Rattle.cil_known.specs.declared.known.Known.{Known}
use Rattle.cil_ranges.specs.DeclaredEntries.{DeclaresEntry}

-- what a term says: a level, or a range
module _ {X : Type 0} (Says : Term ScopedWord → X → Type 0) where
  -- the statement says a name and a term that says this
  pub record SaysBehind (x : Item) (v : X) : Type 0 where
    pub at : Spot
    pub name : List ℕ
    pub declared : Term ScopedWord
    pub says : x.args ≡ cons (Name at name) (cons declared nil)
    pub of_declared : Says declared v

  module _ (k : Known) (xs : List Item) (kind : Kind) where
    -- the statement declares what has this entry, as this
    pub record DeclaresAs (x : Item) (d : ℕ) (v : X) : Type 0 where
      pub entry : DeclaresEntry k xs kind x d
      pub behind : SaysBehind x v

    -- the entries have what they had, and what the statement declares one as
    pub record NamesMore (old new : List (Option X)) (x : Item) : Type 0 where
      pub each : (d : ℕ) (v : X) → get_or new d None ≡ Some v → (get_or old d None ≡ Some v) ⊎ DeclaresAs x d v
      pub stays : (d : ℕ) (v : X) → get_or old d None ≡ Some v → (u : X) × (get_or new d None ≡ Some u)
      pub every : (d : ℕ) (v : X) → DeclaresAs x d v → (u : X) × (get_or new d None ≡ Some u)

    -- each entry has something just where a statement declares it as something: one that declares it as this
    pub record AreNamed (table : List (Option X)) : Type 0 where
      pub each : (d : ℕ) (v : X) → get_or table d None ≡ Some v → (x : Item) × DeclaresAs x d v
      pub every : (x : Item) (d : ℕ) (v : X) → DeclaresAs x d v → (u : X) × (get_or table d None ≡ Some u)

  -- the same of the statements before a place
  pub record AreNamedBefore (k : Known) (i : Kept) (kind : Kind) (at : ℕ) (table : List (Option X)) : Type 0 where
    pub each : (d : ℕ) (v : X) → get_or table d None ≡ Some v → (x : Item) × DeclaresAs k (items_in i) kind x d v
    pub every : (b d : ℕ) (v : X) → b < at → DeclaresAs k (items_in i) kind (item_at i b) d v → (u : X) × (get_or table d None ≡ Some u)
