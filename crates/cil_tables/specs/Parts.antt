-- The table that some parts make.
use Rattle.cil_tables.specs.declared.tables.TableParts.{TableParts}
use Rattle.cil_tables.specs.Table.{Table}

abbrev pub table_of : TableParts → Table
table_of p = record {
  levels = p.levels;
  users = p.users;
  roles = p.roles;
  types = p.types;
  type_aliases = p.type_aliases.items;
  classes = p.classes.items;
  booleans = p.booleans.items;
  user_roles = p.user_roles;
  role_types = p.role_types;
  role_allows = p.role_allows;
  rules = p.rules;
  constraints = p.constraints.items;
}
