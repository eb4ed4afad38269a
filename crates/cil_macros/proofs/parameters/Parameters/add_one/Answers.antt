use Rattle.cil_macros.proofs.ServingLemmas.{added, known, unserved}
use Rattle.cil_macros.proofs.parameters.Parameters.add_one.Goals as goal

pub returns-in_default : goal.returns-in_default
returns-in_default c =
    unserved c.args.number c.args.before c.args.parameter.now.kind c.args.parameter.now.name.at c.args.parameter.now.name.bytes c.args.self.now c.in_default.ensures

pub returns-then-contains_key : goal.returns-then-contains_key
returns-then-contains_key c =
    known c.args.number c.args.before c.args.parameter.now.kind c.args.parameter.now.name.at c.args.parameter.now.name.bytes c.in-Some.place c.in-Some.ensures c.args.self.now
    c.if-contains_key.ensures

pub returns : goal.returns
returns c =
    added c.args.number c.args.before c.args.parameter.now.kind c.args.parameter.now.name.at c.args.parameter.now.name.bytes c.in-Some.place c.in-Some.ensures c.args.self.now
    (record { numbers = c.insert.new.self }) c.if-contains_key.ensures c.in_ok-insert.ensures.updates.0
