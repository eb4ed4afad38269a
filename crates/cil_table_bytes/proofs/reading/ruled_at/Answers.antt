use Rattle.std.proofs.lemmas.Result.{err_from_is_err_and}
use Rattle.cil_table_bytes.specs.Parts.{named_by}
use Rattle.cil_table_bytes.proofs.Failures.{constraints_fail, ruled_read}
use Rattle.cil_table_bytes.proofs.reading.ruled_at.Goals as goal

pub returns-in_err-constraints : goal.returns-in_err-constraints
returns-in_err-constraints c =
    let p = err_from_is_err_and c.from_residual-in_err-constraints.result c.from_residual-in_err-constraints.ensures.1 in
    rw (p.1, p.2)
    (constraints_fail c.args.setting.are_on c.args.setting.users (named_by c.args.named.now) c.args.bytes.now c.in_ok-rules.rest.now c.in_ok-rules.rules c.in_ok-rules.ensures
    c.in_err-constraints.field-0.0 c.in_err-constraints.ensures)
