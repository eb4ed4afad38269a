use Rattle.cil_macros.specs.Items.{item_at}
use Rattle.cil_neverallow.specs.Stated.{stated_of}
use Rattle.cil_neverallow.proofs.MeetLemmas.{no_statement}
use Rattle.cil_neverallow.proofs.ViolationLemmas.{no_one}
use Rattle.cil_neverallow.proofs.forbidden.push_one.Goals as goal

pub returns-then-not-may_meet : goal.returns-then-not-may_meet
returns-then-not-may_meet c =
    no_one (item_at c.args.instances.now) c.args.view.now (stated_of c.args.statement.now) c.args.allowed.now c.args.faults.now.items
    (no_statement c.args.view.now (stated_of c.args.statement.now) c.args.allowed.now c.args.index.now.allow c.requires.index (c.may_meet.ensures c.if-not-may_meet.true))
