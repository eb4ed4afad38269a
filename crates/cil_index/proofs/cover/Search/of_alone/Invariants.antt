use Rattle.cil_rules.specs.conditions.Bits.{is_on}
use Rattle.cil_index.specs.Found.{IsTheAlone}
use Rattle.cil_index.specs.Searched.{rules_in}
use Rattle.cil_index.proofs.CoverLemmas.{IsJoined}
use Rattle.cil_index.proofs.cover.Search.of_alone.Given as goal

abbrev pub invariant-loop-at : goal.invariant-loop-at
invariant-loop-at l = IsJoined (is_on l.self.settings.now) (rules_in l.self.searched.now) (IsTheAlone l.self.aims.now) l.self.asked.now l.self.index.now l.fn.bounds.start l.at l.mask
