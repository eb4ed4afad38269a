use Rattle.std.proofs.Common.{◌∙◌}
use Rattle.cil_macros.specs.Items.{all_placed}
use Rattle.cil_macros.proofs.PlacedLemmas.{is_place, placed_so, word_so}
use Rattle.cil_macros.specs.Items.{placed_at}
use Rattle.cil_macros.proofs.instances.Instances.word.Goals as goal

pub meaning-meant-requires : goal.meaning-meant-requires
meaning-meant-requires c = is_place c.args.self.now c.args.at c.requires

pub returns : goal.returns
returns c =
    c.word_meant.ensures (all_placed c.args.self.now)
    ∙ word_so c.args.self.now c.args.at c.args.word.now _ (c.meaning-meant.ensures.says (placed_at c.args.self.now c.args.at) (placed_so c.args.self.now c.args.at (is_place c.args.self.now c.args.at c.requires)))
