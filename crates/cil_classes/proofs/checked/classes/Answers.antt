use Rattle.std.proofs.Common.{List, refl, subst, sym, ℕ}
use Rattle.cil_base.specs.Lists.{Lists, text_cmp}
use Rattle.cil_macros.specs.Items.{items_in}
use Rattle.cil_names.specs.Entries.{is_in}
use Rattle.cil_syntax.specs.declared.kind.Kind.TheVariants as kinds
use Rattle.cil_classes.specs.Faults.{IsClassName}
use Rattle.cil_classes.proofs.LimitLemmas.{class_names_are}
use Rattle.cil_classes.proofs.checked.classes.Goals as goal

pub check_classes-requires-clause-names : goal.check_classes-requires-clause-names
check_classes-requires-clause-names c =
    subst (λ (names : List (List ℕ)). Lists text_cmp (IsClassName (is_in c.args.lookup.now.enabled.now) (items_in c.args.instances.now)) names) (sym c.as_slice-names.ensures.value)
    (class_names_are c.args.lookup.now.namespaces.now (items_in c.args.instances.now) c.args.lookup.now.names.now c.requires.entries (is_in c.args.lookup.now.enabled.now) c.args.numbering.now.sections.classes.items
    (c.requires.numbers.lists kinds.Class refl))

pub check_classes-requires-clause-asked : goal.check_classes-requires-clause-asked
check_classes-requires-clause-asked c = record { namespaces = c.requires.namespaces; entries = c.requires.entries; permissions = c.requires.permissions }

pub check_classes-requires-clause-shared : goal.check_classes-requires-clause-shared
check_classes-requires-clause-shared c = c.requires.shared

pub returns : goal.returns
returns c = (c.in_ok-rows.ensures, c.in_ok-check_classes.ensures.1)
