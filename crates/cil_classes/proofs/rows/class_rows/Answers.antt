use Rattle.std.proofs.Common.{ℕ, List, subst}
use Rattle.std.proofs.lemmas.Result.{IfOk-from_err, IfOk-weaker}
use Rattle.cil_names.specs.Entries.{is_in}
use Rattle.cil_classes.specs.ClassRows.{AreListed}
use Rattle.cil_classes.proofs.ClassRowLemmas.{rows_are}
use Rattle.cil_classes.proofs.rows.class_rows.Goals as goal

pub returns : goal.returns
returns c =
    IfOk-weaker c.rows_of.result _ _
    (λ rows are.
    rows_are c.args.lookup.now.namespaces.now c.args.lookup.now.names.now (is_in c.args.lookup.now.enabled.now) c.args.numbering.now.sections c.args.numbering.now.numbers.items
    c.requires.numbers c.in_ok-places.places.items c.args.permissions.now _ c.in_ok-places.ensures.entries
    (subst (λ (ns : List (List ℕ)). AreListed ns c.in_ok-places.places.items c.args.permissions.now rows.items) c.as_slice-names.ensures.value
    (subst (λ (ps : List ℕ). AreListed c.as_slice-names.result.now ps c.args.permissions.now rows.items) c.as_slice.ensures.value are)))
    c.rows_of.ensures

pub returns-in_err-places : goal.returns-in_err-places
returns-in_err-places c = IfOk-from_err c.from_residual.result _ c.from_residual.ensures.0
