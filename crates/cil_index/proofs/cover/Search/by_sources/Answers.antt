use Rattle.std.proofs.Common.{get_or}
use Rattle.std.proofs.lemmas.List.{get_or_default}
use Rattle.cil_rules.specs.conditions.Bits.{is_on}
use Rattle.cil_index.specs.Found.{IsAmongSeveral}
use Rattle.cil_index.specs.Searched.{rules_in}
use Rattle.cil_index.proofs.CoverLemmas.{all_sources, joined_source, none_joined}
use Rattle.cil_index.proofs.cover.Search.by_sources.Goals as goal

pub by_heading-mask-requires-clause-known : goal.by_heading-mask-requires-clause-known
by_heading-mask-requires-clause-known c =
    c.requires.has (get_or c.args.numbers.now c.loop-number.number-index 0) (c.loop-number.number-index, c.loop-number-test.true, get_or_default _ _ _ _ c.loop-number-test.true)

pub loop-number-init : goal.loop-number-init
loop-number-init c = none_joined (is_on c.args.self.now.settings.now) (rules_in c.args.self.now.searched.now) (IsAmongSeveral c.args.self.now.aims.now) c.args.self.now.asked.now c.args.self.now.index.now c.args.numbers.now

pub loop-number-preserved : goal.loop-number-preserved
loop-number-preserved c =
    joined_source (is_on c.args.self.now.settings.now) (rules_in c.args.self.now.searched.now) (IsAmongSeveral c.args.self.now.aims.now) c.args.self.now.asked.now c.args.self.now.index.now c.args.numbers.now c.loop-number.number-index _ c.loop-number.mask c.by_heading-mask.result c.loop-number-test.true (get_or_default _ _ _ _ c.loop-number-test.true)
    c.loop-number.invariant c.by_heading-mask.ensures.sound c.by_heading-mask.ensures.all

pub returns-clause-sound : goal.returns-clause-sound
returns-clause-sound c = c.loop-number.invariant.sound

pub returns-clause-all : goal.returns-clause-all
returns-clause-all c = all_sources (is_on c.args.self.now.settings.now) (rules_in c.args.self.now.searched.now) (IsAmongSeveral c.args.self.now.aims.now) c.args.self.now.asked.now c.args.self.now.index.now c.args.numbers.now c.loop-number.number-index c.loop-number.mask c.loop-number-test.false c.loop-number.invariant
