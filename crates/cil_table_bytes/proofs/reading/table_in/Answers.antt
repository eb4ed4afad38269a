use Rattle.std.proofs.Common.{sym, ◌∙◌}
use Rattle.std.proofs.lemmas.Result.{err_from_is_err_and}
use Rattle.cil_table_bytes.specs.Parts.{read_by}
use Rattle.cil_table_bytes.proofs.Failures.{sections_fail, trailing, whole}
use Rattle.cil_table_bytes.proofs.reading.table_in.Goals as goal

pub returns-in_err-read : goal.returns-in_err-read
returns-in_err-read c =
    let p = err_from_is_err_and c.from_residual-in_err-read.result c.from_residual-in_err-read.ensures.1 in
    rw (p.1, p.2) (sections_fail c.in_ok-are_on.are_on c.args.bytes.now c.in_ok-are_on.rest.now c.in_ok-are_on.ensures c.in_err-read.field-0.0 c.in_err-read.ensures)

pub returns-then-is_empty : goal.returns-then-is_empty
returns-then-is_empty c =
    whole c.in_ok-are_on.are_on c.args.bytes.now c.in_ok-are_on.rest.now c.in_ok-are_on.ensures (read_by c.in_ok-read.read) c.in_ok-read.rest.now c.in_ok-read.ensures
    (sym c.is_empty.ensures ∙ c.if-is_empty.true)

pub returns : goal.returns
returns c =
    trailing c.in_ok-are_on.are_on c.args.bytes.now c.in_ok-are_on.rest.now c.in_ok-are_on.ensures (read_by c.in_ok-read.read) c.in_ok-read.rest.now c.in_ok-read.ensures
    (sym c.is_empty.ensures ∙ c.if-is_empty.false)
