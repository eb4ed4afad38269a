use Rattle.std.proofs.Common.{List, ap, arith, inl, inr, length, refl, subst, sym}
use Rattle.std.proofs.lemmas.List.{length-map}
use Rattle.std.specs.List.Sorted.{IsStrictlySortedBy}
use Rattle.cil_base.specs.Lists.{text_cmp}
use Rattle.cil_syntax.specs.declared.kind.Kind.TheVariants as kinds
use Rattle.cil_macros.specs.Items.{items_in}
use Rattle.cil_names.specs.Entries.{is_in}
use Rattle.cil_known.specs.Numbers.{AreApart, AreNumbers, names_of}
use Rattle.cil_classes.specs.declared.row.Class.{Class}
use Rattle.cil_tables.specs.Compiled.{AreConstraints, AreRules, IsTable}
use Rattle.cil_tables.specs.declared.tables.Boolean.{Boolean}
use Rattle.cil_classes.specs.ClassRows.{AreClasses}
use Rattle.cil_classes.specs.Row.{AreOrderlyRows}
use Rattle.cil_known.specs.Known.{AreKnown}
use Rattle.cil_tables.specs.CompileRefusal.{LaterFail}
use Rattle.cil_tables.proofs.CompileLemmas.{forbidden_fail, handed_on, levels_first}
use Rattle.cil_tables.proofs.JoinLemmas.{table_of}
use Rattle.cil_tables.proofs.NamedLemmas.{classes_are, classes_given, classes_rise, names_are, rows_orderly}
use Rattle.cil_tables.proofs.compiler.tables_of.Goals as goal

pub judged_sets-requires-clause-namespaces : goal.judged_sets-requires-clause-namespaces
judged_sets-requires-clause-namespaces c = c.requires.namespaces

pub judged_sets-requires-clause-shared : goal.judged_sets-requires-clause-shared
judged_sets-requires-clause-shared c = c.requires.shared

pub judged_sets-requires-clause-table : goal.judged_sets-requires-clause-table
judged_sets-requires-clause-table c = c.requires.table

pub judged_sets-requires-clause-known : goal.judged_sets-requires-clause-known
judged_sets-requires-clause-known c =
    let known : AreKnown c.args.lookup.now.namespaces.now (items_in c.args.instances.now) c.args.lookup.now.names.now (is_in c.args.lookup.now.enabled.now) (names_of c.in_ok-numbering.numbering.sections) c.as_slice.result.now c.args.permissions.now =
    record {
      namespaces = c.are_namespaces.ensures;
      entries = c.requires.entries;
      numbered = subst (AreNumbers c.args.lookup.now.namespaces.now c.args.lookup.now.names.now (is_in c.args.lookup.now.enabled.now) (names_of c.in_ok-numbering.numbering.sections)) (sym c.as_slice.ensures.value) c.in_ok-numbering.ensures.numbers;
      permissions = c.requires.permissions;
    } in
    known

pub judged_sets-requires-clause-numbers : goal.judged_sets-requires-clause-numbers
judged_sets-requires-clause-numbers c = c.as_slice.ensures.value

pub judged_sets-requires-clause-apart : goal.judged_sets-requires-clause-apart
judged_sets-requires-clause-apart c = subst (AreApart c.args.lookup.now.names.now (is_in c.args.lookup.now.enabled.now)) (sym c.as_slice.ensures.value) (c.in_ok-numbering.ensures.apart c.requires.plain)

pub labels_of-requires-clause-namespaces : goal.labels_of-requires-clause-namespaces
labels_of-requires-clause-namespaces c = c.requires.namespaces

pub labels_of-requires-clause-orders : goal.labels_of-requires-clause-orders
labels_of-requires-clause-orders c = c.in_ok-judged.ensures.0.1.1.1

pub labels_of-requires-clause-none : goal.labels_of-requires-clause-none
labels_of-requires-clause-none c = λ f o. c.in_ok-judged.ensures.1 f (inr (inr (inr o)))

pub labels_of-requires-clause-known : goal.labels_of-requires-clause-known
labels_of-requires-clause-known c =
    let known : AreKnown c.args.lookup.now.namespaces.now (items_in c.args.instances.now) c.args.lookup.now.names.now (is_in c.args.lookup.now.enabled.now) (names_of c.in_ok-numbering.numbering.sections) c.as_slice.result.now c.args.permissions.now =
    record {
      namespaces = c.are_namespaces.ensures;
      entries = c.requires.entries;
      numbered = subst (AreNumbers c.args.lookup.now.namespaces.now c.args.lookup.now.names.now (is_in c.args.lookup.now.enabled.now) (names_of c.in_ok-numbering.numbering.sections)) (sym c.as_slice.ensures.value) c.in_ok-numbering.ensures.numbers;
      permissions = c.requires.permissions;
    } in
    known

pub labels_of-requires-clause-numbers : goal.labels_of-requires-clause-numbers
labels_of-requires-clause-numbers c = subst (AreApart c.args.lookup.now.names.now (is_in c.args.lookup.now.enabled.now)) (sym c.as_slice.ensures.value) (c.in_ok-numbering.ensures.apart c.requires.plain)

pub labels_of-requires-clause-table : goal.labels_of-requires-clause-table
labels_of-requires-clause-table c = c.requires.table

pub labels_of-requires-clause-apart : goal.labels_of-requires-clause-apart
labels_of-requires-clause-apart c = c.requires.clashes

pub fill_sections-requires-clause-namespaces : goal.fill_sections-requires-clause-namespaces
fill_sections-requires-clause-namespaces c = c.requires.namespaces

pub fill_sections-requires-clause-ordered : goal.fill_sections-requires-clause-ordered
fill_sections-requires-clause-ordered c = c.requires.entries.ordered

pub fill_sections-requires-clause-table : goal.fill_sections-requires-clause-table
fill_sections-requires-clause-table c = c.requires.table

pub fill_sections-requires-clause-known : goal.fill_sections-requires-clause-known
fill_sections-requires-clause-known c =
    let known : AreKnown c.args.lookup.now.namespaces.now (items_in c.args.instances.now) c.args.lookup.now.names.now (is_in c.args.lookup.now.enabled.now) (names_of c.in_ok-numbering.numbering.sections) c.as_slice.result.now c.args.permissions.now =
    record {
      namespaces = c.are_namespaces.ensures;
      entries = c.requires.entries;
      numbered = subst (AreNumbers c.args.lookup.now.namespaces.now c.args.lookup.now.names.now (is_in c.args.lookup.now.enabled.now) (names_of c.in_ok-numbering.numbering.sections)) (sym c.as_slice.ensures.value) c.in_ok-numbering.ensures.numbers;
      permissions = c.requires.permissions;
    } in
    known

pub fill_sections-requires-clause-apart : goal.fill_sections-requires-clause-apart
fill_sections-requires-clause-apart c = subst (AreApart c.args.lookup.now.names.now (is_in c.args.lookup.now.enabled.now)) (sym c.as_slice.ensures.value) (c.in_ok-numbering.ensures.apart c.requires.plain)

pub fill_sections-requires-clause-stand : goal.fill_sections-requires-clause-stand
fill_sections-requires-clause-stand c = c.in_ok-judged.ensures.0.1.0

pub fill_sections-requires-clause-classes : goal.fill_sections-requires-clause-classes
fill_sections-requires-clause-classes c =
    subst (AreClasses (items_in c.args.instances.now) (is_in c.args.lookup.now.enabled.now) c.in_ok-numbering.numbering.sections.classes.items) (sym c.as_slice-rows.ensures.value)
    (classes_are c.args.lookup.now.namespaces.now (items_in c.args.instances.now) c.args.lookup.now.names.now c.requires.entries (is_in c.args.lookup.now.enabled.now) c.in_ok-numbering.numbering.sections c.in_ok-numbering.numbering.numbers.items c.in_ok-numbering.ensures.numbers (c.in_ok-numbering.ensures.apart c.requires.plain) c.args.permissions.now c.requires.permissions c.in_ok-judged.judged.first.rows.items c.in_ok-judged.ensures.0.0)

pub fill_sections-requires-clause-rows : goal.fill_sections-requires-clause-rows
fill_sections-requires-clause-rows c = subst AreOrderlyRows (sym c.as_slice-rows.ensures.value)
    (rows_orderly c.args.lookup.now.namespaces.now (items_in c.args.instances.now) c.args.lookup.now.names.now c.requires.entries (is_in c.args.lookup.now.enabled.now) c.in_ok-numbering.numbering.sections c.in_ok-numbering.numbering.numbers.items c.in_ok-numbering.ensures.numbers (c.in_ok-numbering.ensures.apart c.requires.plain) c.args.permissions.now c.requires.permissions c.in_ok-judged.judged.first.rows.items c.in_ok-judged.ensures.0.0 (λ f e. c.in_ok-judged.ensures.1 f (inl e)))

pub tables_from-requires : goal.tables_from-requires
tables_from-requires c =
    let filled = c.in_ok-filled.ensures.0 in
    let given = filled.given in
    record {
      users = (c.in_ok-numbering.ensures.numbers.lists kinds.User refl).rising;
      roles = (c.in_ok-numbering.ensures.numbers.lists kinds.Role refl).rising;
      types = (c.in_ok-numbering.ensures.numbers.lists kinds.Type_ refl).rising;
      booleans = subst (IsStrictlySortedBy text_cmp) (sym filled.booleans) (c.in_ok-numbering.ensures.numbers.lists kinds.Boolean refl).rising;
      few_booleans =
          let few = c.in_ok-judged.ensures.0.1.1.0 in
          let len = length-map c.in_ok-filled.filled.booleans.items (λ (b : Boolean). b.name) in
          let same = ap length filled.booleans in
          omega (arith, few, len, same);
      classes = classes_rise c.args.lookup.now.namespaces.now (items_in c.args.instances.now) c.args.lookup.now.names.now c.requires.entries (is_in c.args.lookup.now.enabled.now) c.in_ok-numbering.numbering.sections c.in_ok-numbering.numbering.numbers.items c.in_ok-numbering.ensures.numbers (c.in_ok-numbering.ensures.apart c.requires.plain) c.args.permissions.now c.requires.permissions c.in_ok-judged.judged.first.rows.items c.in_ok-judged.ensures.0.0;
      type_aliases = given.type_aliases.rising;
      user_roles = given.user_roles.rising;
      role_types = given.role_types.rising;
      role_allows = given.role_allows.rising;
      constraints = given.constraints.rising;
      each_class = rows_orderly c.args.lookup.now.namespaces.now (items_in c.args.instances.now) c.args.lookup.now.names.now c.requires.entries (is_in c.args.lookup.now.enabled.now) c.in_ok-numbering.numbering.sections c.in_ok-numbering.numbering.numbers.items c.in_ok-numbering.ensures.numbers (c.in_ok-numbering.ensures.apart c.requires.plain) c.args.permissions.now c.requires.permissions c.in_ok-judged.judged.first.rows.items c.in_ok-judged.ensures.0.0 (λ f e. c.in_ok-judged.ensures.1 f (inl e));
    }

pub returns-in_err-levels-clause-faults : goal.returns-in_err-levels-clause-faults
returns-in_err-levels-clause-faults c =
    handed_on (LaterFail (items_in c.args.instances.now) (is_in c.args.lookup.now.enabled.now)) _ _ c.from_residual-in_err-levels.ensures.1
    (levels_first (items_in c.args.instances.now) (is_in c.args.lookup.now.enabled.now) c.in_ok-judged.ensures.1 _ c.in_err-levels.ensures)

pub returns-in_err-filled-clause-faults : goal.returns-in_err-filled-clause-faults
returns-in_err-filled-clause-faults c =
    handed_on (LaterFail (items_in c.args.instances.now) (is_in c.args.lookup.now.enabled.now)) _ _ c.from_residual-in_err-filled.ensures.1
    (forbidden_fail (items_in c.args.instances.now) (is_in c.args.lookup.now.enabled.now) c.in_ok-judged.ensures.1 c.in_ok-levels.ensures.1 _ c.in_err-filled.ensures)

pub returns-clause-tables : goal.returns-clause-tables
returns-clause-tables c =
    let names = names_are c.args.lookup.now.namespaces.now (items_in c.args.instances.now) c.args.lookup.now.names.now c.requires.entries (is_in c.args.lookup.now.enabled.now) in
    let filled = c.in_ok-filled.ensures.0 in
    let given = filled.given in (
      subst (IsTable (items_in c.args.instances.now) (is_in c.args.lookup.now.enabled.now)) (sym c.tables_from.ensures)
          (table_of (items_in c.args.instances.now) (is_in c.args.lookup.now.enabled.now) (names_of c.in_ok-numbering.numbering.sections) _ _ _ _ c.in_ok-judged.judged.first.rows.items c.in_ok-filled.filled.booleans.items _ _ _ _ _ _
          refl refl refl
          (names kinds.User _ (c.in_ok-numbering.ensures.numbers.lists kinds.User refl)) (names kinds.Role _ (c.in_ok-numbering.ensures.numbers.lists kinds.Role refl))
          (names kinds.Type_ _ (c.in_ok-numbering.ensures.numbers.lists kinds.Type_ refl))
          (names kinds.Boolean _ (c.in_ok-numbering.ensures.numbers.lists kinds.Boolean refl)) filled.booleans filled.defaults given.type_aliases
          (classes_given c.args.lookup.now.namespaces.now (items_in c.args.instances.now) c.args.lookup.now.names.now c.requires.entries (is_in c.args.lookup.now.enabled.now) c.in_ok-numbering.numbering.sections c.in_ok-numbering.numbering.numbers.items c.in_ok-numbering.ensures.numbers (c.in_ok-numbering.ensures.apart c.requires.plain) c.args.permissions.now c.requires.permissions c.in_ok-judged.judged.first.rows.items c.in_ok-judged.ensures.0.0)
          given.user_roles given.role_types given.role_allows
          (subst (λ (rows : List Class). AreRules (items_in c.args.instances.now) (is_in c.args.lookup.now.enabled.now) (names_of c.in_ok-numbering.numbering.sections kinds.Type_) rows (names_of c.in_ok-numbering.numbering.sections kinds.Boolean) c.in_ok-filled.filled.given.rules)
          c.as_slice-rows.ensures.value given.rules)
          (subst (λ (rows : List Class). AreConstraints (items_in c.args.instances.now) (is_in c.args.lookup.now.enabled.now) (names_of c.in_ok-numbering.numbering.sections) rows c.in_ok-filled.filled.given.constraints.items)
          c.as_slice-rows.ensures.value given.constraints)
          c.in_ok-levels.ensures.0),
      inr (c.in_ok-judged.ensures.1, inr (c.in_ok-levels.ensures.1, inr (c.in_ok-filled.ensures.1, refl))),
    )
