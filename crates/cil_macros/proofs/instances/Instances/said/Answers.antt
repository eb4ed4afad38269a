use Rattle.std.proofs.Common.{◌∙◌}
use Rattle.cil_macros.specs.Items.{all_placed, placed_at}
use Rattle.cil_macros.proofs.PlacedLemmas.{is_place, placed_so, said_so}
use Rattle.cil_macros.proofs.instances.Instances.said.Goals as goal

pub meaning-requires : goal.meaning-requires
meaning-requires c = is_place c.args.self.now c.args.at c.requires

pub returns-clause-says : goal.returns-clause-says
returns-clause-says c =
    c.said_of_meaning.ensures.says (all_placed c.args.self.now)
    ∙ said_so c.args.self.now c.args.at c.args.word.now _ (c.meaning.ensures.says (placed_at c.args.self.now c.args.at) (placed_so c.args.self.now c.args.at (is_place c.args.self.now c.args.at c.requires)))

pub returns-clause-whole : goal.returns-clause-whole
returns-clause-whole c = c.said_of_meaning.ensures.whole (all_placed c.args.self.now) c.meaning.ensures.whole
