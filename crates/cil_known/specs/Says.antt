-- What the enabled statements of a policy say. CIL Reference Guide, "roletype", "userrole".
use Rattle.std.specs.Prelude.{◌≡◌, true, List, Contains}
use Rattle.cil_syntax.specs.declared.kind.Keyword.{Keyword}
use Rattle.cil_syntax.specs.declared.kind.Kind.{Kind}
use Rattle.cil_syntax.specs.Terms.{Leaf, Terms, nil, cons}
use Rattle.cil_names.specs.Declarations.{Symbol}
use Rattle.cil_names.specs.macros.Item.{Item, OptSet, is_enabled}
use Rattle.cil_syntax.specs.Scopes.{ScopedWord}
use Rattle.cil_known.specs.Members.{StandsFor}

-- an enabled statement with this first word says this
pub record Says (xs : List Item) (s : OptSet) (keyword : Keyword) (args : Terms ScopedWord) : Type 0 where
  pub item : Item
  pub is_item : Contains xs item
  pub enabled : is_enabled s item ≡ true
  pub is_keyword : item.keyword ≡ keyword
  pub says : item.args ≡ args

-- two symbols that an enabled statement joins: a user and its role, or a role and its type
pub record AreJoined (xs : List Item) (s : OptSet) (keyword : Keyword) (holder_kind held_kind : Kind) (holder held : Symbol) : Type 0 where
  pub holder_word : ScopedWord
  pub held_word : ScopedWord
  pub statement : Says xs s keyword (cons (Leaf holder_word) (cons (Leaf held_word) nil))
  pub has_holder : StandsFor xs s holder_kind holder_word holder
  pub has_held : StandsFor xs s held_kind held_word held
