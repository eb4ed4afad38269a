use Rattle.cil_macros.specs.Items.{item_at}
use Rattle.cil_neverallow.specs.Stated.{stated_of}
use Rattle.cil_neverallow.proofs.ViolationLemmas.{no_pair, one_pair}
use Rattle.cil_neverallow.proofs.forbidden.push_pair.Goals as goal

pub returns-in_default : goal.returns-in_default
returns-in_default c = no_pair (item_at c.args.instances.now) c.args.view.now (stated_of c.args.statement.now) (stated_of c.args.other.now) c.args.faults.now.items c.in_default.ensures

pub returns : goal.returns
returns c =
    one_pair (item_at c.args.instances.now) c.args.view.now (stated_of c.args.statement.now) (stated_of c.args.other.now) c.args.faults.now.items c.push_told.new.faults.items c.in-Some.overlap
    c.in-Some.ensures c.in_ok-push_told.ensures
