use Rattle.std.proofs.Common.{◌≡◌, Ok, arith, ap, sym, subst, ◌∙◌}
use Rattle.std.proofs.lemmas.Result.{err_from_is_err_and}
use Rattle.cil_tables.specs.Table.{IsOrderly}
use Rattle.cil_table_bytes.specs.Layout.{IsCanonical}
use Rattle.cil_table_bytes.specs.Parts.{read_by}
use Rattle.cil_table_bytes.proofs.Proper.{orderly}
use Rattle.cil_table_bytes.proofs.TableLaws.{found, no_fault, read_again}
use Rattle.cil_table_bytes.proofs.reading.decode.Goals as goal

pub returns-in_err-read-clause-only : goal.returns-in_err-read-clause-only
returns-in_err-read-clause-only c = λ t canonical.
    let p = err_from_is_err_and c.from_residual.result c.from_residual.ensures.1 in
    rw (p.1, p.2) (no_fault c.args.bytes.now t c.in_err-read.field-0.0 canonical.0 canonical.1 c.in_err-read.ensures)

pub of-requires : goal.of-requires
of-requires c =
    let read = c.in_ok-read.read in
    subst IsOrderly (sym c.parts_of.ensures) (orderly (read_by read) (found c.args.bytes.now (read_by read) (λ i. omega (arith, c.type_inv.bytes i)) c.in_ok-read.ensures).0)

pub returns-clause-found : goal.returns-clause-found
returns-clause-found c =
    let read = c.in_ok-read.read in
    subst (IsCanonical c.args.bytes.now) (sym (c.of.ensures ∙ c.parts_of.ensures)) (found c.args.bytes.now (read_by read) (λ i. omega (arith, c.type_inv.bytes i)) c.in_ok-read.ensures)

pub returns-clause-only : goal.returns-clause-only
returns-clause-only c = λ t canonical.
    sym (read_again c.args.bytes.now t canonical.0 canonical.1) ∙ c.in_ok-read.ensures ∙ ap Ok (sym (c.of.ensures ∙ c.parts_of.ensures))
