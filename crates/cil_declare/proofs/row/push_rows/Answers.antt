use Rattle.std.proofs.lemmas.Result.{on_ok_weaker}
use Rattle.cil_declare.proofs.StatementLemmas.{kind_missing, name_missing, row_pushed}
use Rattle.cil_declare.proofs.row.push_rows.Goals as goal

pub returns-in_default : goal.returns-in_default
returns-in_default c =
    kind_missing c.args.instances.now c.args.at c.requires c.statement_there-statement.result.now c.statement_there-statement.ensures.is _ c.in_default.ensures

pub returns-in_default-declared_name : goal.returns-in_default-declared_name
returns-in_default-declared_name c =
    name_missing c.args.instances.now c.args.at c.requires c.statement_there-statement.result.now c.statement_there-statement.ensures.is _ c.in-Some.ensures _ c.in_default-declared_name.ensures

pub returns : goal.returns
returns c =
    on_ok_weaker c.push_row.result
    (λ push.
    row_pushed c.args.instances.now c.args.at c.requires c.statement_there-statement.result.now c.statement_there-statement.ensures.is _ c.in-Some.ensures c.in-Some-declared_name.name.at _ _ _ _ _
    c.space.ensures c.in-Some-declared_name.ensures c.of.ensures push)
    c.push_row.ensures
