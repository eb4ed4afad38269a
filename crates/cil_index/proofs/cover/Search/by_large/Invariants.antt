use Rattle.cil_rules.specs.conditions.Bits.{is_on}
use Rattle.cil_index.specs.Found.{IsAmongSeveral}
use Rattle.cil_index.specs.Searched.{rules_in}
use Rattle.cil_index.proofs.CoverLemmas.{AreJoinedFrom}
use Rattle.cil_index.proofs.cover.Search.by_large.Given as goal

abbrev pub invariant-loop-number : goal.invariant-loop-number
invariant-loop-number l = AreJoinedFrom (is_on l.self.settings.now) (rules_in l.self.searched.now) (IsAmongSeveral l.self.aims.now) l.self.asked.now l.self.index.now l.self.searched.now.memberships.now.first_large l.number l.mask
