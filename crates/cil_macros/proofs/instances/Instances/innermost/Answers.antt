use Rattle.std.proofs.Common.{◌∙◌, length, subst}
use Rattle.cil_macros.specs.Items.{Kept, all_placed, items_in}
use Rattle.cil_macros.specs.Nesting.{AreInnermost}
use Rattle.cil_macros.specs.Rounds.{AreNested}
use Rattle.cil_macros.proofs.NestingLemmas.{innermost_there, round_there}
use Rattle.cil_macros.proofs.RoundLemmas.{all_nested}
use Rattle.cil_macros.proofs.instances.Instances.innermost.Goals as goal

pub returns-clause-value : goal.returns-clause-value
returns-clause-value c =
    let i = c.args.self.now in
    c.innermost_at.ensures.value (all_placed i)
    (subst (λ (v : Kept). AreInnermost (all_placed v) (length (all_placed v)) c.self.inside.innermost) c.self.view_is c.self.invariant.2)
    ∙ innermost_there i c.args.at

pub returns-clause-round : goal.returns-clause-round
returns-clause-round c =
    let i = c.args.self.now in
    round_there i (subst (λ (v : Kept). AreNested (items_in v)) c.self.view_is (all_nested c.self.inside.spaces.now c.self.inside.brought c.self.invariant.0)) c.args.at
    c.innermost_at.result
    (c.innermost_at.ensures.value (all_placed i)
    (subst (λ (v : Kept). AreInnermost (all_placed v) (length (all_placed v)) c.self.inside.innermost) c.self.view_is c.self.invariant.2)
    ∙ innermost_there i c.args.at)
