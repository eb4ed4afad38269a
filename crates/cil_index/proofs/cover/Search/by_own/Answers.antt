use Rattle.std.proofs.Common.{ℕ, subst}
use Rattle.std.specs.Prelude.{Contains}
use Rattle.cil_rules.specs.conditions.Bits.{is_on}
use Rattle.cil_index.specs.Searched.{rules_in}
use Rattle.cil_index.specs.Found.{HandOver, IsAmongSeveral}
use Rattle.cil_index.proofs.cover.Search.by_own.Goals as goal

pub by_sources-requires-clause-has : goal.by_sources-requires-clause-has
by_sources-requires-clause-has c = λ n has. c.requires.memberships.noted n c.args.self.now.asked.now.source (subst (λ l. Contains l n) c.of_type.ensures has)

pub returns-clause-all : goal.returns-clause-all
returns-clause-all c = subst (λ l. HandOver (is_on c.args.self.now.settings.now) (rules_in c.args.self.now.searched.now) (IsAmongSeveral c.args.self.now.aims.now) c.args.self.now.asked.now c.args.self.now.index.now (λ (n : ℕ). Contains l n) c.by_sources.result) c.of_type.ensures c.by_sources.ensures.all
