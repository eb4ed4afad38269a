use Rattle.cil_macros.specs.Items.{item_at}
use Rattle.cil_macros.specs.Listed.{all_parts_of}
use Rattle.cil_macros.specs.ListTerms.{numbered}
use Rattle.cil_constraints.proofs.statement.push_listed.Goals as goal

pub returns : goal.returns
returns c =
    let x = item_at c.args.instances.now c.args.at in
    c.in_ok-push_stated.ensures x (numbered (all_parts_of x.args)) (c.in_ok-terms.ensures c.statement_there-statement.result.now.at.«module»)
