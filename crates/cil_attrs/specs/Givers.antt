-- What one statement gives a set. No other crate needs these words.
use Rattle.std.specs.Prelude.{◌≡◌, ◌⊎◌, ◌↔◌, ◌<◌, Contains, ℕ, Bool, true, false, ◌&&◌, List, Option, Some, None, length, slice_get}
use Rattle.cil_syntax.specs.declared.kind.Keyword.{Keyword}
use Rattle.cil_syntax.specs.declared.term.Word.{Word}
use Rattle.cil_syntax.specs.Forms.{word_and_term}
use Rattle.cil_syntax.specs.Scopes.{ScopedWord}
use Rattle.cil_syntax.specs.Terms.{Term}
use Rattle.cil_known.specs.macros.Item.{Item, is_enabled, replaced}
use Rattle.cil_known.specs.macros.Items.{Kept, item_at, items_in, may_say_lists, says_as_written, word_at}
use Rattle.cil_known.specs.names.Resolves.{is_mapping}
use Rattle.cil_known.specs.names.Entry.{Entry}
use Rattle.cil_known.specs.declared.known.Known.{Known}
use Rattle.cil_known.specs.names.Declarations.{Symbol}
use Rattle.cil_known.specs.names.Entries.{is_declared_in}
use Rattle.cil_known.specs.Known.{enabled_in, meant_by}
use Rattle.cil_known.specs.names.Symbols.{symbol_of}
use Rattle.cil_known.specs.Spaces.{Sets, SpaceOf, any_sets, is_same_symbol, names}
use Rattle.cil_attrs.specs.declared.giver.SetKind.{SetKind}
use Rattle.cil_attrs.specs.declared.giver.SpaceKinds.{SpaceKinds}
use Rattle.cil_attrs.specs.declared.making.Given.{Given}
use Rattle.cil_attrs.specs.Holding.{is_kind}
use Rattle.cil_attrs.specs.Made.{said}

-- ---- name spaces

-- the kind of sets is this one
pub record IsSets (r : SetKind) (j : Sets) : Type 0 where
  pub kind : j.kind ≡ r.kind
  pub giving : (w : Keyword) → (j.giving w ≡ true) ↔ (w ≡ r.giving)

abbrev pub AreSets : Option SetKind → Option Sets → Type 0
AreSets None None = Unit {0}
AreSets None (Some j) = ⊥
AreSets (Some r) None = ⊥
AreSets (Some r) (Some j) = IsSets r j

-- the name space is this one
pub record HasKinds (r : SpaceKinds) (which : SpaceOf) : Type 0 where
  pub item : which.item ≡ r.item
  pub aliases : AreSets r.aliases which.aliases
  pub attributes : AreSets r.attributes which.attributes

-- statements of this keyword say what is written, each word as a word, and ask for the words of their terms
pub record SaysItsTerms (keyword : Keyword) : Type 0 where
  pub written : says_as_written keyword ≡ true
  pub named : may_say_lists keyword ≡ false
  pub plain : is_mapping keyword ≡ false

-- so do the statements that give members
abbrev pub is_written : Option SetKind → Type 0
is_written None = Unit {0}
is_written (Some r) = SaysItsTerms r.giving

abbrev pub AreWritten : SpaceKinds → Type 0
AreWritten r = is_written r.aliases × is_written r.attributes

-- ---- a statement

module _ (k : Known) (xs : List Item) (which : SpaceOf) where
  -- the set that a word names, as the first word of a statement of this keyword
  abbrev pub is_giving_as : Keyword → ScopedWord → Symbol → Bool
  is_giving_as keyword w a = any_sets which (λ j. j.giving keyword && names xs (enabled_in k) j.kind w a)

  abbrev pub NamesNoSet : Keyword → ScopedWord → Type 0
  NamesNoSet keyword w = (a : Symbol) → is_giving_as keyword w a ≡ false

  pub record IsNamedSet (keyword : Keyword) (w : ScopedWord) (d : ℕ) : Type 0 where
    pub entry : Entry
    pub at : slice_get k.lookup.names.now d ≡ Some entry
    pub live : is_declared_in (enabled_in k) entry ≡ true
    pub of_kind : any_sets which (λ j. is_kind entry.kind j.kind) ≡ true
    pub names_it : (a : Symbol) → is_giving_as keyword w a ≡ is_same_symbol (symbol_of k.lookup.namespaces.now entry) a

  -- the statement gives no set anything: it is not enabled, or it names no set of those to which it could give something
  abbrev pub GivesNothing : Item → Type 0
  GivesNothing x = (a : Symbol) (w : ScopedWord) (e : Term ScopedWord) → is_enabled (enabled_in k) x ≡ true → word_and_term x.args ≡ Some (w, e) → is_giving_as x.keyword w a ≡ false

  -- the statement gives a set the value of an expression
  pub record IsGift (x : Item) (f : Word → ScopedWord) (g : Given) : Type 0 where
    pub word : ScopedWord
    pub says : word_and_term x.args ≡ Some (word, replaced (λ at. at) f (said g))
    pub enabled : is_enabled (enabled_in k) x ≡ true
    pub set : IsNamedSet x.keyword word g.set
    pub words : g.words.now ≡ meant_by k f (said g)

  -- ---- all statements

  -- what some statements give: each of these is what one of them gives, the one at its place, and each statement gives nothing, or one
  -- of these
  pub record AreGifts (i : Kept) (done : List Item) (givens : List Given) : Type 0 where
    pub there : (g : Given) → Contains givens g → (g.at < length (items_in i)) × IsGift (item_at i g.at) (word_at i g.at) g
    pub each : (g : Given) → Contains givens g → (x : Item) × Contains done x × IsGift x (word_at i g.at) g
    pub all : (x : Item) → Contains done x → GivesNothing x ⊎ ((g : Given) × Contains givens g × IsGift x (word_at i g.at) g × (x ≡ item_at i g.at))
