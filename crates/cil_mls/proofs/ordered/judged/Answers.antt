use Rattle.std.proofs.Common.{refl}
use Rattle.cil_faults.proofs.BothLemmas.{answers_both}
use Rattle.cil_syntax.specs.declared.kind.Kind.TheVariants as kinds
use Rattle.cil_attrs.specs.macros.Items.{items_in}
use Rattle.cil_attrs.specs.known.Known.{enabled_in}
use Rattle.cil_attrs.specs.known.Numbers.{names_of}
use Rattle.cil_attrs.proofs.FaultLemmas.{names_are}
use Rattle.cil_mls.proofs.ordered.judged.Goals as goal

pub check_category_sets-sets-requires-clause-known : goal.check_category_sets-sets-requires-clause-known
check_category_sets-sets-requires-clause-known c = (names_of c.args.sections.now, c.requires.known)

pub returns : goal.returns
returns c =
    let k = c.args.known.now in
    let xs = items_in c.args.instances.now in
    let names = names_of c.args.sections.now in
    let few = c.check_limits-few.ensures xs (enabled_in k) (names_are k xs names c.requires.known kinds.Sensitivity refl) (names_are k xs names c.requires.known kinds.Category refl) in
    answers_both _ _ _ _ _ _ _ c.together.ensures c.both_orders-rows.ensures
    (answers_both _ _ _ _ _ _ _ c.together-others.ensures c.check_mls-on.ensures (answers_both _ _ _ _ _ _ _ c.together-checked.ensures few c.check_category_sets-sets.ensures))
