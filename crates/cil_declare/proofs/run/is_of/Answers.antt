use Rattle.cil_macros.specs.Items.{placed_at}
use Rattle.cil_macros.proofs.ItemLemmas.{placed_there}
use Rattle.cil_macros.proofs.PlacedLemmas.{is_place}
use Rattle.cil_declare.proofs.run.is_of.Goals as goal

pub statement-requires : goal.statement-requires
statement-requires c = is_place c.args.instances.now c.args.at c.requires

pub returns : goal.returns
returns c = λ same.
    let i = c.args.instances.now in
    (c.statement.result, c.is_at.ensures.0 same, c.statement.ensures (placed_at i c.args.at) (placed_there i c.args.at c.requires))
