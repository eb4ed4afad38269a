use Rattle.std.proofs.Common.{sym, ◌∙◌}
use Rattle.cil_constraints.proofs.PushLemmas.{inside_put}
use Rattle.cil_constraints.proofs.push.push_words.Goals as goal

pub returns-in_ok-push_part-in-PartOf : goal.returns-in_ok-push_part-in-PartOf
returns-in_ok-push_part-in-PartOf c =
    inside_put c.args.relation c.args.variable c.args.module c.args.operand.now c.in-PartOf.part c.in-PartOf.side c.in-PartOf.is c.args.sets.now c.in-Some.equality c.args.words.now _ _
    (sym c.equality_of.ensures ∙ c.in-Some.is) (λ f. c.requires f) c.in_ok-push_part-in-PartOf.ensures
