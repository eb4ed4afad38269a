-- The pairs that statements join, by numbers: users with roles, roles with types, and roles with those to which they may change. This
-- project's profile.
use Rattle.std.specs.Prelude.{ℕ, List, ◌≡◌, ◌↔◌, Contains, true}
use Rattle.cil_syntax.specs.declared.kind.Keyword.{Keyword}
use Rattle.cil_syntax.specs.declared.kind.Kind.{Kind}
use Rattle.cil_tables.specs.declared.tables.Link.{Link}
use Rattle.cil_known.specs.Says.{AreJoined}
use Rattle.cil_names.specs.Declarations.{Symbol}
use Rattle.cil_macros.specs.Item.{Item, OptSet, is_enabled}
use Rattle.cil_known.specs.Known.{IsNumbered}
use Rattle.cil_syntax.specs.Terms.{Leaf, nil, cons}
use Rattle.cil_syntax.specs.Scopes.{ScopedWord}
use Rattle.cil_known.specs.Members.{StandsFor}

-- the numbers of two symbols that an enabled statement joins
pub record IsLink (xs : List Item) (s : OptSet) (keyword : Keyword) (holder_kind held_kind : Kind) (holders helds : List (List ℕ)) (link : Link) : Type 0 where
  pub holder : Symbol
  pub held : Symbol
  pub joined : AreJoined xs s keyword holder_kind held_kind holder held
  pub holder_number : IsNumbered holders holder link.holder
  pub held_number : IsNumbered helds held link.held

-- the numbers of the two symbols that one enabled statement joins
pub record LinkBy (xs : List Item) (s : OptSet) (keyword : Keyword) (holder_kind held_kind : Kind) (holders helds : List (List ℕ)) (x : Item) (link : Link) : Type 0 where
  pub holder_word : ScopedWord
  pub held_word : ScopedWord
  pub holder : Symbol
  pub held : Symbol
  pub enabled : is_enabled s x ≡ true
  pub is_keyword : x.keyword ≡ keyword
  pub says : x.args ≡ cons (Leaf holder_word) (cons (Leaf held_word) nil)
  pub has_holder : StandsFor xs s holder_kind holder_word holder
  pub has_held : StandsFor xs s held_kind held_word held
  pub holder_number : IsNumbered holders holder link.holder
  pub held_number : IsNumbered helds held link.held

-- it joins nothing
abbrev pub JoinsNothing : List Item → OptSet → Keyword → (holder_kind held_kind : Kind) → (holders helds : List (List ℕ)) → Item → Type 0
JoinsNothing xs s keyword holder_kind held_kind holders helds x = (l : Link) → LinkBy xs s keyword holder_kind held_kind holders helds x l → ⊥

-- it joins each of these numbers with each of those
abbrev pub JoinsAll : List Item → OptSet → Keyword → (holder_kind held_kind : Kind) → (holders helds : List (List ℕ)) → Item → (some others : List ℕ) → Type 0
JoinsAll xs s keyword holder_kind held_kind holders helds x some others =
    (l : Link) → LinkBy xs s keyword holder_kind held_kind holders helds x l ↔ (Contains some l.holder × Contains others l.held)

-- these are the links of some of the statements
abbrev pub AreJoinedBy : List Item → OptSet → Keyword → (holder_kind held_kind : Kind) → (holders helds : List (List ℕ)) → List Item → List Link → Type 0
AreJoinedBy xs s keyword holder_kind held_kind holders helds done links =
    (l : Link) → Contains links l ↔ ((x : Item) × Contains done x × LinkBy xs s keyword holder_kind held_kind holders helds x l)
