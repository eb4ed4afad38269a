use Rattle.std.proofs.Common.{◌≤◌, length, subst}
use Rattle.cil_rules.specs.conditions.Bits.{is_on}
use Rattle.cil_index.specs.Found.{IsAmongSeveral}
use Rattle.cil_index.specs.Searched.{rules_in}
use Rattle.cil_index.proofs.CoverLemmas.{joined_next, joined_to, none_joined_from}
use Rattle.cil_index.proofs.cover.Search.by_large.Goals as goal

pub loop-number-init : goal.loop-number-init
loop-number-init c = none_joined_from (is_on c.args.self.now.settings.now) (rules_in c.args.self.now.searched.now) (IsAmongSeveral c.args.self.now.aims.now) c.args.self.now.asked.now c.args.self.now.index.now c.args.self.now.searched.now.memberships.now.first_large

pub loop-number-preserved : goal.loop-number-preserved
loop-number-preserved c =
    joined_next (is_on c.args.self.now.settings.now) (rules_in c.args.self.now.searched.now) (IsAmongSeveral c.args.self.now.aims.now) c.args.self.now.asked.now c.args.self.now.index.now c.args.self.now.searched.now.memberships.now.first_large c.loop-number.mask c.by_heading-mask.result
    c.loop-number.number c.loop-number.invariant c.by_heading-mask.ensures.sound c.by_heading-mask.ensures.all

pub returns-clause-sound : goal.returns-clause-sound
returns-clause-sound c = c.loop-number.invariant.sound

pub returns-clause-all : goal.returns-clause-all
returns-clause-all c =
    joined_to (is_on c.args.self.now.settings.now) (rules_in c.args.self.now.searched.now) (IsAmongSeveral c.args.self.now.aims.now) c.args.self.now.asked.now c.args.self.now.index.now c.args.self.now.searched.now.memberships.now.first_large c.loop-number.number
    (length c.args.self.now.searched.now.sets.now) c.loop-number.mask (subst (λ k. k ≤ c.loop-number.number) c.count-number-end.ensures c.loop-number-test.false) c.loop-number.invariant
