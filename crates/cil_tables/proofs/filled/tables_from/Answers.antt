use Rattle.std.proofs.Common.{subst, sym}
use Rattle.std.specs.List.Sorted.{IsStrictlySortedBy}
use Rattle.cil_base.specs.Lists.{text_cmp}
use Rattle.cil_tables.proofs.filled.tables_from.Goals as goal

pub invariant_of-result : goal.invariant_of-result
invariant_of-result c = record {
  users = subst (IsStrictlySortedBy text_cmp) (sym c.from_vec.ensures) c.requires.users;
  roles = subst (IsStrictlySortedBy text_cmp) (sym c.from_vec-2.ensures) c.requires.roles;
  types = subst (IsStrictlySortedBy text_cmp) (sym c.from_vec-3.ensures) c.requires.types;
  type_aliases = c.requires.type_aliases;
  classes = c.requires.classes;
  booleans = c.requires.booleans;
  few_booleans = c.requires.few_booleans;
  each_class = c.requires.each_class;
  user_roles = c.requires.user_roles;
  role_types = c.requires.role_types;
  role_allows = c.requires.role_allows;
  constraints = c.requires.constraints;
}

pub returns : goal.returns
returns c = λ i. record {
  levels = c.args.levels;
  users = c.from_vec.ensures i;
  roles = c.from_vec-2.ensures i;
  types = c.from_vec-3.ensures i;
  type_aliases = c.args.filled.given.type_aliases.items;
  classes = c.args.classes.rows.items;
  booleans = c.args.filled.booleans.items;
  user_roles = c.args.filled.given.user_roles;
  role_types = c.args.filled.given.role_types;
  role_allows = c.args.filled.given.role_allows;
  rules = c.args.filled.given.rules;
  constraints = c.args.filled.given.constraints.items;
}
