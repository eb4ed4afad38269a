use Rattle.cil_optionals.proofs.DeclareLemmas.{declares_one, no_kind, no_name}
use Rattle.cil_optionals.proofs.counts.declares.Goals as goal

pub returns-in_default : goal.returns-in_default
returns-in_default c = no_kind c.args.instances.now c.args.at c.statement_there-statement.result.now c.statement_there-statement.ensures.is c.in_default.ensures

pub returns-in_default-declared_name : goal.returns-in_default-declared_name
returns-in_default-declared_name c =
    no_name c.args.instances.now c.args.at c.statement_there-statement.result.now c.statement_there-statement.ensures.is _ c.in-Some.ensures c.in_default-declared_name.ensures

pub returns : goal.returns
returns c =
    declares_one c.args.instances.now c.args.at c.statement_there-statement.result.now c.statement_there-statement.ensures.is _ c.in-Some.ensures c.in-Some-declared_name._name.at _
    c.in-Some-declared_name.ensures
