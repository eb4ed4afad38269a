use Rattle.cil_rules.specs.conditions.Bits.{is_on}
use Rattle.cil_index.specs.Searched.{rules_in}
use Rattle.std.proofs.Common.{arith, subst, ◌+◌, ◌≡◌}
use Rattle.cil_rules.proofs.classes_lemmas.BitLemmas.{none_set}
use Rattle.cil_index.specs.Found.{Hands, IsAmongSeveral}
use Rattle.cil_index.proofs.CoverLemmas.{none_behind}
use Rattle.cil_index.proofs.cover.Search.by_alone.Goals as goal

pub returns-then-self-room-clause-sound : goal.returns-then-self-room-clause-sound
returns-then-self-room-clause-sound c = λ bit set. absurd (none_set bit set)

pub returns-then-self-room-clause-all : goal.returns-then-self-room-clause-all
returns-then-self-room-clause-all c = λ n is.
    let past = c.if-self-room.true in
    let size = c.room.ensures in
    none_behind (is_on c.args.self.now.settings.now) (rules_in c.args.self.now.searched.now) (IsAmongSeveral c.args.self.now.aims.now) c.args.self.now.asked.now c.args.self.now.index.now n 0 (omega (arith, is, past, size))

pub returns-clause-all : goal.returns-clause-all
returns-clause-all c = λ n is.
    let same : c.args.self.now.asked.now.source + 1 ≡ n = omega (arith, is) in
    subst (λ k. Hands (is_on c.args.self.now.settings.now) (rules_in c.args.self.now.searched.now) (IsAmongSeveral c.args.self.now.aims.now) c.args.self.now.asked.now c.args.self.now.index.now k c.by_heading.result) same c.by_heading.ensures.all
