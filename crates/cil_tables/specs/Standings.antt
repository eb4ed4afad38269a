-- What the words of users, roles and types stand for, by numbers. No other crate needs these words.
use Rattle.std.specs.Prelude.{ℕ, List}
use Rattle.cil_syntax.specs.declared.kind.Kind.{Kind}
use Rattle.cil_syntax.specs.declared.kind.Kind.TheVariants as kinds
use Rattle.cil_macros.specs.Item.{Item}
use Rattle.cil_known.specs.declared.known.Known.{Known}
use Rattle.cil_known.specs.Known.{AreStanding, HaveMembers}
use Rattle.cil_known.specs.Members.{space_of}
use Rattle.cil_level_rows.specs.attrs.Members.{AreMembers}
use Rattle.cil_tables.specs.declared.standings.AllMembers.{AllMembers}
use Rattle.cil_tables.specs.declared.standings.Standings.{Standings}

module _ (k : Known) (xs : List Item) (names : Kind → List (List ℕ)) where
  pub record AreAllMembers (m : AllMembers) : Type 0 where
    pub users : AreMembers k xs names (space_of kinds.User) m.users
    pub roles : AreMembers k xs names (space_of kinds.Role) m.roles
    pub types : AreMembers k xs names (space_of kinds.Type_) m.types

  pub record AllStand (s : Standings) : Type 0 where
    pub users : AreStanding k xs names kinds.User s.users.items
    pub roles : AreStanding k xs names kinds.Role s.roles.items
    pub types : AreStanding k xs names kinds.Type_ s.types.items
    pub aliases : HaveMembers k xs names kinds.Type_ s.types.items
