-- Laws of the name spaces.
use Rattle.std.specs.Prelude.{◌≡◌, ◌⊎◌, ◌↔◌, Option, Some, true}
use Rattle.cil_syntax.specs.declared.kind.Kind.{Kind}
use Rattle.cil_syntax.specs.declared.kind.Kind.TheVariants as kinds
use Rattle.cil_syntax.specs.declared.kind.Sign.{Sign}
use Rattle.cil_syntax.specs.Kinds.{is_wanted}
use Rattle.cil_syntax.specs.NameSpaces.{name_space}
use Rattle.cil_syntax.specs.Shapes.{close, item, looked_up}
use Rattle.cil_syntax.specs.Table.{entry_of}
use Rattle.cil_known.specs.Numbers.{has_section}
use Rattle.cil_attrs.specs.declared.giver.SetKind.{SetKind}
use Rattle.cil_attrs.specs.declared.giver.SpaceKinds.{SpaceKinds}
use Rattle.cil_attrs.specs.Givers.{AreWritten}
use Rattle.cil_attrs.specs.NameSpaces.{is_kind_of}

-- the name space has such sets, and they are of this kind
abbrev pub AreOfKind : Option SetKind → Kind → Type 0
AreOfKind sets kind = (a : SetKind) × (sets ≡ Some a) × (kind ≡ a.kind)

-- the kind is that of the items, of the aliases or of the attributes
abbrev pub IsOfKind : SpaceKinds → Kind → Type 0
IsOfKind r kind = (kind ≡ r.item) ⊎ (AreOfKind r.aliases kind ⊎ AreOfKind r.attributes kind)

-- sets of categories are of the name space of categories, and stand apart from its items and aliases: what they hold rests on the order
-- of these
abbrev pub StandsApart : SpaceKinds → Kind → Type 0
StandsApart r kind = (r.item ≡ kinds.Category) × (kind ≡ kinds.CategorySet)

-- a law: each symbol of a name space is an item, an alias or an attribute, and just one of these, or stands apart; no other symbol is one
pub record IsWhole (r : SpaceKinds) : Type 0 where
  pub each : (kind : Kind) → (name_space kind ≡ name_space r.item) ↔ (IsOfKind r kind ⊎ StandsApart r kind)
  pub item_or_alias : AreOfKind r.aliases r.item → ⊥
  pub item_or_attribute : AreOfKind r.attributes r.item → ⊥
  pub alias_or_attribute : (kind : Kind) → AreOfKind r.aliases kind → AreOfKind r.attributes kind → ⊥

-- a law: a word that an alias statement takes as its target may name a symbol of the same name space alone
abbrev pub AliasesStay : SpaceKinds → Type 0
AliasesStay r =
    (a : SetKind) → r.aliases ≡ Some a → (first target : Sign) → (entry_of a.giving).row ≡ item (looked_up first) (item (looked_up target) close) → (kind : Kind)
    → is_wanted target kind ≡ true → name_space kind ≡ name_space r.item

-- a law: a word of this sign may name a symbol of each kind of the name space, and of no other kind
abbrev pub IsSignOf : SpaceKinds → Sign → Type 0
IsSignOf r sign = (kind : Kind) → is_wanted sign kind ≡ is_kind_of r kind

-- by these laws the sets of a name space are made. No other crate needs this word
pub record IsSpace (r : SpaceKinds) (sign : Sign) : Type 0 where
  pub whole : IsWhole r
  pub wanted : IsSignOf r sign
  pub written : AreWritten r
  pub numbered : has_section r.item ≡ true
