-- What each statement gives, to which class permission or permission of a class map. No other crate needs these words.
use Rattle.std.specs.Prelude.{◌≡◌, ◌⊎◌, ℕ, true, List, Contains, MatchOption, None, Option}
use Rattle.cil_syntax.specs.declared.kind.Keyword.TheVariants as keywords
use Rattle.cil_syntax.specs.declared.kind.Kind.{Kind}
use Rattle.cil_syntax.specs.declared.kind.Kind.TheVariants as kinds
use Rattle.cil_syntax.specs.declared.term.Word.{Word}
use Rattle.cil_syntax.specs.Forms.{leaf_of, rule_form}
use Rattle.cil_syntax.specs.Said.{said_of}
use Rattle.cil_syntax.specs.Scopes.{ScopedWord}
use Rattle.cil_syntax.specs.Terms.{Term, Leaf, Terms, nil, cons}
use Rattle.cil_macros.specs.Item.{Item, OptSet, is_enabled}
use Rattle.cil_macros.specs.Items.{Kept, item_at, word_at}
use Rattle.cil_macros.specs.ListTerms.{IsAlike}
use Rattle.cil_known.specs.declared.known.Known.{Known}
use Rattle.cil_known.specs.Known.{BeginWith, IsKnown, enabled_in, row_in}
use Rattle.cil_known.specs.Members.{StandsFor}
use Rattle.cil_names.specs.Unresolved.{term_with}
use Rattle.cil_classes.specs.declared.assigned.Given.{Given}
use Rattle.cil_classes.specs.declared.givens.Giving.{Giving}
use Rattle.cil_classes.specs.declared.nodes.Node.{Node}
use Rattle.cil_classes.specs.declared.row.Class.{Class}
use Rattle.cil_classes.specs.Given.{Holder, mapped, named}
use Rattle.cil_classes.specs.Nodes.{IsNodeIn, StandsAs}
use Rattle.cil_classes.specs.Parts.{IsPartIn}
use Rattle.cil_classes.specs.Tied.{IsThere}

-- ---- forms of statements

-- a word and one term behind it, as a classpermissionset has them
abbrev pub IsSet : Terms Word → Term Word → Type 0
IsSet args t = (w : Word) × (args ≡ cons (Leaf w) (cons t nil))

-- two words and one term behind them, as a classmapping has them
abbrev pub IsMapping : Terms Word → Term Word → Type 0
IsMapping args t = (w : Word) × (q : Word) × (args ≡ cons (Leaf w) (cons (Leaf q) (cons t nil)))

-- the terms are no rule, or the second is no word
abbrev pub IsNoMapping : Terms Word → Type 0
IsNoMapping args =
    (rule_form args ≡ None) ⊎ ((w : Word) × (middle : Term Word) × (t : Term Word) × (args ≡ cons (Leaf w) (cons middle (cons t nil))) × (leaf_of middle ≡ None))

-- ---- what statements give

-- to whom, and the class permission that gives it
pub record Gift : Type 0 where
  pub holder : Holder
  pub term : Term ScopedWord

-- the statement gives the holder what the class permission gives
abbrev pub IsGivenBy : List Item → OptSet → Item → Holder → Term ScopedWord → Type 0
IsGivenBy xs s x (named n) cp =
    (word : ScopedWord) × (x.keyword ≡ keywords.ClassPermissionSet) × (x.args ≡ cons (Leaf word) (cons cp nil)) × StandsFor xs s kinds.ClassPermission word n
IsGivenBy xs s x (mapped m r) cp =
    (word : ScopedWord) × (permission : ScopedWord) × (x.keyword ≡ keywords.ClassMapping) × (x.args ≡ cons (Leaf word) (cons (Leaf permission) (cons cp nil)))
    × StandsFor xs s kinds.ClassMap word m × (permission.bytes ≡ r)

-- the enabled statement gives it to one that is there
pub record GivesTo (xs : List Item) (s : OptSet) (x : Item) (g : Gift) : Type 0 where
  pub enabled : is_enabled s x ≡ true
  pub there : IsThere xs s g.holder
  pub given : IsGivenBy xs s x g.holder g.term

-- an enabled classmapping, which may have a list where a word is written
pub record IsListed (s : OptSet) (x : Item) : Type 0 where
  pub enabled : is_enabled s x ≡ true
  pub keyword : x.keyword ≡ keywords.ClassMapping

-- what the statement gives, by numbers: the node of its holder, its term, whatever the places of its lists, and meanings that begin
-- with those of the term's words
pub record IsGivingOf (k : Known) (xs : List Item) (f : Word → ScopedWord) (x : Item) (r : Giving) : Type 0 where
  pub gift : Gift
  pub by : GivesTo xs (enabled_in k) x gift
  pub only : (g : Gift) → GivesTo xs (enabled_in k) x g → g ≡ gift
  pub node : StandsAs k.lookup.namespaces.now k.lookup.names.now k.permissions.now r.node gift.holder
  pub term : IsAlike gift.term (term_with f r.«module» r.term.now)
  pub begin : BeginWith k f (said_of r.«module» r.term.now) r.words.now

-- what the statement at a place gives, if it gives something, where the words mean what its own do. It is a record, so that a
-- contract does not write out what the statement is
pub record IsGivingAt (k : Known) (i : Kept) (at : ℕ) (words : List (Option ℕ)) (giving : Option Giving) : Type 0 where
  pub is : (xs : List Item) (names : Kind → List (List ℕ)) → IsKnown k xs names → words ≡ row_in k (item_at i at)
      → MatchOption giving ((g : Gift) → GivesTo xs (enabled_in k) (item_at i at) g → ⊥) (IsGivingOf k xs (word_at i at) (item_at i at))

-- the node is that of the holder
abbrev pub IsNodeFor : Known → Gift → Node → Type 0
IsNodeFor k g n = StandsAs k.lookup.namespaces.now k.lookup.names.now k.permissions.now n g.holder

-- what a statement gives, goes to the node of the holder
abbrev pub IsGivenFor : Known → List Item → List Class → List Node → Gift → Given → Type 0
IsGivenFor k xs rows nodes g given = IsNodeIn k nodes given.to g.holder × IsPartIn k xs rows nodes given.part g.term

-- each holder to which some statement gives something has a node
abbrev pub HaveNodes : Known → List Item → List Node → Type 0
HaveNodes k xs nodes = (x : Item) (g : Gift) → Contains xs x → GivesTo xs (enabled_in k) x g → (n : Node) × Contains nodes n × IsNodeFor k g n
