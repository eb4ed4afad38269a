-- Name spaces: kinds whose names have to differ. CIL Reference Guide, the sections on each declaring statement; that the
-- kinds of one name space share their names is this project's profile.
use Rattle.std.specs.Prelude.{ℕ}
use Rattle.cil_syntax.specs.declared.kind.Kind.{Kind}
use Rattle.cil_syntax.specs.declared.kind.Kind.TheVariants as kinds
use Rattle.cil_syntax.specs.declared.name_space.NameSpace.{NameSpace}
use Rattle.cil_syntax.specs.declared.name_space.NameSpace.TheVariants as name_spaces

abbrev pub name_space : Kind → NameSpace
name_space kinds.Type_ = name_spaces.Types
name_space kinds.TypeAlias = name_spaces.Types
name_space kinds.TypeAttribute = name_spaces.Types
name_space kinds.Role = name_spaces.Roles
name_space kinds.RoleAttribute = name_spaces.Roles
name_space kinds.User = name_spaces.Users
name_space kinds.UserAttribute = name_spaces.Users
name_space kinds.Class = name_spaces.Classes
name_space kinds.ClassMap = name_spaces.Classes
name_space kinds.Block = name_spaces.Blocks
name_space kinds.Macro = name_spaces.Blocks
name_space kinds.Common = name_spaces.Commons
name_space kinds.ClassPermission = name_spaces.ClassPermissions
name_space kinds.Boolean = name_spaces.Booleans
name_space kinds.Sensitivity = name_spaces.Sensitivities
name_space kinds.SensitivityAlias = name_spaces.Sensitivities
name_space kinds.Category = name_spaces.Categories
name_space kinds.CategoryAlias = name_spaces.Categories
name_space kinds.CategorySet = name_spaces.Categories
name_space kinds.Level = name_spaces.Levels
name_space kinds.LevelRange = name_spaces.LevelRanges

-- the place of a name space among all
abbrev pub rank_in : NameSpace → ℕ
rank_in name_spaces.Types = 0
rank_in name_spaces.Roles = 1
rank_in name_spaces.Users = 2
rank_in name_spaces.Classes = 3
rank_in name_spaces.Blocks = 4
rank_in name_spaces.Commons = 5
rank_in name_spaces.ClassPermissions = 6
rank_in name_spaces.Booleans = 7
rank_in name_spaces.Sensitivities = 8
rank_in name_spaces.Categories = 9
rank_in name_spaces.Levels = 10
rank_in name_spaces.LevelRanges = 11

-- the number of the name space of a kind
abbrev pub rank : Kind → ℕ
rank kind = rank_in (name_space kind)
