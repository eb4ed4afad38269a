use Rattle.std.proofs.Common.{ap, subst, ◌∙◌, ◌++◌, ◌∷◌, []}
use Rattle.std.specs.Prelude.{Contains}
use Rattle.cil_index.proofs.RisingLemmas.{rise_more}
use Rattle.cil_index.proofs.rising.Rising.push.Goals as goal

pub invariant_of-self-2 : goal.invariant_of-self-2
invariant_of-self-2 c =
    rise_more c.self.inside.numbers.items _ c.args.number c.self.invariant (λ n has. c.requires n (subst (λ l. Contains l n) c.self.view_is has)) c.in_ok-push.ensures.items

pub returns : goal.returns
returns c = c.in_ok-push.ensures.items ∙ ap (λ z. z ++ c.args.number ∷ []) c.self.view_is
