-- The entries of one name, whatever their namespaces, and the one entry of a name. This project's profile.
use Rattle.std.specs.Prelude.{◌≡◌, ◌<◌, ◌≤◌, ℕ, true, false, List, [], Some, slice_get}
use Rattle.std.specs.declared.cmp.Ordering.{Ordering}
use Rattle.std.specs.Ordering.{nat_cmp, on, then_cmp}
use Rattle.cil_base.specs.Lists.{text_cmp}
use Rattle.cil_syntax.specs.declared.kind.Kind.{Kind}
use Rattle.cil_syntax.specs.declared.kind.Sign.{Sign}
use Rattle.cil_syntax.specs.declared.term.Word.{Word}
use Rattle.cil_syntax.specs.Scopes.{Scope, ScopedWord, asked}
use Rattle.cil_syntax.specs.Kinds.{is_wanted}
use Rattle.cil_names.specs.declared.entry.Entry.{Entry}
use Rattle.cil_names.specs.declared.namesakes.Namesakes.{Namesakes}
use Rattle.cil_syntax.specs.NameSpaces.{rank}

-- a name of a name space, whatever its namespace
pub record RankedName : Type 0 where
  pub name : List ℕ
  pub rank : ℕ

abbrev pub ranked_name : Entry → RankedName
ranked_name e = record { name = e.name; rank = rank e.kind }

-- by the name, then by the name space
abbrev pub ranked_cmp : RankedName → RankedName → Ordering
ranked_cmp = then_cmp (on (λ (k : RankedName). k.name) text_cmp) (on (λ (k : RankedName). k.rank) nat_cmp)

-- the entry of this number has this name in this name space
abbrev pub IsNamedAt : List Entry → RankedName → ℕ → Type 0
IsNamedAt es k d = (e : Entry) × (slice_get es d ≡ Some e) × (ranked_name e ≡ k)

-- the kinds that are wanted are of the name space at this place among all
abbrev pub IsOfRank : Sign → ℕ → Type 0
IsOfRank sign r = (kind : Kind) → is_wanted sign kind ≡ true → rank kind ≡ r

-- the entry of this number is of a wanted kind and in the namespace of this number
abbrev pub IsWantedIn : List Entry → ℕ → Sign → ℕ → Type 0
IsWantedIn es k sign d = (e : Entry) × (slice_get es d ≡ Some e) × (e.space ≡ k) × (is_wanted sign e.kind ≡ true)

-- the entry of this number is the only one of a wanted kind under this name, in all namespaces
pub record IsSole (es : List Entry) (name : List ℕ) (sign : Sign) (d : ℕ) : Type 0 where
  pub entry : Entry
  pub at : slice_get es d ≡ Some entry
  pub named : entry.name ≡ name
  pub only : (m : ℕ) (e : Entry) → slice_get es m ≡ Some e → e.name ≡ name → is_wanted sign e.kind ≡ true → m ≡ d

-- behind the entry of the first number those of this name go on up to another number, which has another name
pub record IsEnd (es : List Entry) (k : RankedName) (first end : ℕ) : Type 0 where
  pub later : first < end
  pub inside : (m : ℕ) → first ≤ m → m < end → IsNamedAt es k m
  pub other : IsNamedAt es k end → ⊥

-- the entries of this name in this name space are those of these numbers, and there is one
pub record AreRanked (es : List Entry) (k : RankedName) (n : Namesakes) : Type 0 where
  pub some : n.first < n.end
  pub inside : (m : ℕ) → n.first ≤ m → m < n.end → IsNamedAt es k m
  pub all : (m : ℕ) → IsNamedAt es k m → (n.first ≤ m) × (m < n.end)

-- the entries of these numbers have this name, and those of a wanted kind under it are among them
pub record AreNamesakes (es : List Entry) (name : List ℕ) (sign : Sign) (n : Namesakes) : Type 0 where
  pub named : (m : ℕ) (e : Entry) → slice_get es m ≡ Some e → n.first ≤ m → m < n.end → e.name ≡ name
  pub all : (m : ℕ) (e : Entry) → slice_get es m ≡ Some e → e.name ≡ name → is_wanted sign e.kind ≡ true → (n.first ≤ m) × (m < n.end)
  pub one_rank : (a b : Kind) → is_wanted sign a ≡ true → is_wanted sign b ≡ true → rank a ≡ rank b

-- a word in a scope
abbrev pub in_scope : Scope → Word → ScopedWord
in_scope scope w = record { at = w.at; bytes = w.bytes; sign = w.sign; scope = scope }

-- the word has no dot, and the entry of this number is the only one of a wanted kind under its name
pub record IsSoleOf (es : List Entry) (w : Word) (d : ℕ) : Type 0 where
  pub name : List ℕ
  pub plain : asked w.bytes ≡ record { global = false; inner = []; name = name }
  pub sole : IsSole es name w.sign d
