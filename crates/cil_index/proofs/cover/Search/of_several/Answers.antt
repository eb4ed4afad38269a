use Rattle.std.proofs.Common.{arith, get_or, subst, sym, ◌+◌, ◌≡◌, ◌∙◌}
use Rattle.std.proofs.lemmas.List.{get_or_default}
use Rattle.cil_rules.specs.conditions.Bits.{is_on}
use Rattle.cil_index.specs.Found.{IsAmongSeveral}
use Rattle.cil_index.specs.Searched.{rules_in}
use Rattle.cil_index.proofs.CoverLemmas.{IsJoined, joined_all, joined_more, joined_pass, joined_up_to}
use Rattle.cil_index.proofs.cover.Search.of_several.Goals as goal
use Rattle.cil_index.proofs.cover.Search.of_several.Goals.{in-Read, in-Pass}

pub loop-at-preserved : goal.loop-at-preserved
loop-at-preserved c =
    let before = c.loop-at-test.true in
    let within = c.requires.within in
    let there : c.index.result.now ≡ get_or c.args.self.now.index.now.aims.items c.loop-at.at 0 = c.index.ensures ∙ get_or_default c.args.self.now.index.now.aims.items c.loop-at.at _ 0 (omega (arith, before, within)) in
    elim c.match-step.branch [
      | in-Read w ↦
          subst (IsJoined (is_on c.args.self.now.settings.now) (rules_in c.args.self.now.searched.now) (IsAmongSeveral c.args.self.now.aims.now) c.args.self.now.asked.now c.args.self.now.index.now c.args.bounds.start (c.loop-at.at + 1)) (sym w.mask-is)
          (joined_more (is_on c.args.self.now.settings.now) (rules_in c.args.self.now.searched.now) (IsAmongSeveral c.args.self.now.aims.now) c.args.self.now.asked.now c.args.self.now.index.now c.args.bounds.start c.loop-at.at c.loop-at.mask
          w.mask_at-mask.result w.mask_at-mask.ensures c.loop-at.invariant)
      | in-Pass w ↦
          subst (IsJoined (is_on c.args.self.now.settings.now) (rules_in c.args.self.now.searched.now) (IsAmongSeveral c.args.self.now.aims.now) c.args.self.now.asked.now c.args.self.now.index.now c.args.bounds.start (c.loop-at.at + 1)) (sym w.mask-is)
          (joined_pass (is_on c.args.self.now.settings.now) (rules_in c.args.self.now.searched.now) (IsAmongSeveral c.args.self.now.aims.now) c.args.self.now.asked.now c.args.self.now.index.now c.args.bounds.start c.loop-at.at c.loop-at.mask
          (λ among. w.in-Pass.ensures (subst (IsAmongSeveral c.args.self.now.aims.now) (sym there) among)) c.loop-at.invariant)
    ]

pub returns-in-End-clause-all : goal.returns-in-End-clause-all
returns-in-End-clause-all c =
    let before = c.loop-at-test.true in
    let within = c.requires.within in
    let past = c.in-End.ensures in
    let there : c.index.result.now ≡ get_or c.args.self.now.index.now.aims.items c.loop-at.at 0 = c.index.ensures ∙ get_or_default c.args.self.now.index.now.aims.items c.loop-at.at _ 0 (omega (arith, before, within)) in
    joined_up_to (is_on c.args.self.now.settings.now) (rules_in c.args.self.now.searched.now) (IsAmongSeveral c.args.self.now.aims.now) c.args.self.now.asked.now c.args.self.now.index.now c.args.bounds.start c.args.bounds.to c.loop-at.at _ c.loop-at.mask
    c.requires.rising c.loop-at.auto.at (omega (arith, past, there)) (λ aim among. among.high) c.loop-at.invariant

pub returns-clause-all : goal.returns-clause-all
returns-clause-all c =
    joined_all (is_on c.args.self.now.settings.now) (rules_in c.args.self.now.searched.now) (IsAmongSeveral c.args.self.now.aims.now) c.args.self.now.asked.now c.args.self.now.index.now c.args.bounds.start c.args.bounds.to c.loop-at.at c.loop-at.mask
    c.loop-at-test.false c.loop-at.invariant
