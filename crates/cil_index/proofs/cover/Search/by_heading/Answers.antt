use Rattle.cil_rules.specs.conditions.Bits.{is_on}
use Rattle.cil_index.specs.Searched.{rules_in}
use Rattle.cil_index.proofs.CoverLemmas.{one_run}
use Rattle.cil_index.proofs.cover.Search.by_heading.Goals as goal

pub returns-clause-all : goal.returns-clause-all
returns-clause-all c =
    one_run (is_on c.args.self.now.settings.now) (rules_in c.args.self.now.searched.now) c.args.self.now.aims.now c.args.self.now.asked.now c.args.self.now.index.now c.requires.search.aims c.args.heading c.bounds-bounds.result c.bounds-bounds.ensures
    c.first_of-several.result c.of_several.result c.first_of-several.ensures.same c.first_of-several.ensures.below c.of_several.ensures.all
