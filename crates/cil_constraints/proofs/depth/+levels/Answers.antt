use Rattle.std.proofs.Common.{sym, ◌∙◌}
use Rattle.cil_constraints.proofs.DepthLemmas.{from_and, from_first, from_inside, from_levels, from_not, from_or, from_parts, no_level, no_step}
use Rattle.cil_constraints.proofs.depth.+levels.Goals as goal

pub behind_one-returns-then-most-eq0 : goal.behind_one-returns-then-most-eq0
behind_one-returns-then-most-eq0 t c = no_level c.args.steps.now c.args.most c.if-most-eq0.true

pub behind_one-returns-in-empty : goal.behind_one-returns-in-empty
behind_one-returns-in-empty t c = no_step c.args.steps.now c.args.most c.in-empty.len_below

pub behind_one-returns-in-Not : goal.behind_one-returns-in-Not
behind_one-returns-in-Not t c =
    from_not c.args.most c.if-most-eq0.false c.args.steps.now _ c.step-item.result c.in-len1-up.len_at_least (sym c.step-item.is) (λ rest. rest.now) c.behind_one.result (sym c.in-Not.is) c.behind_one.ensures

pub behind_one-returns-in-And : goal.behind_one-returns-in-And
behind_one-returns-in-And t c =
    from_and c.args.most c.if-most-eq0.false c.args.steps.now _ c.step-item.result c.in-len1-up.len_at_least (sym c.step-item.is) (λ rest. rest.now) c.behind_two.result (sym c.in-And.is) c.behind_two.ensures

pub behind_one-returns-in-Or : goal.behind_one-returns-in-Or
behind_one-returns-in-Or t c =
    from_or c.args.most c.if-most-eq0.false c.args.steps.now _ c.step-item.result c.in-len1-up.len_at_least (sym c.step-item.is) (λ rest. rest.now) c.behind_two-in-Or.result (sym c.in-Or.is) c.behind_two-in-Or.ensures

pub behind_one-returns-in-Compared : goal.behind_one-returns-in-Compared
behind_one-returns-in-Compared t c = from_parts c.args.most c.if-most-eq0.false c.args.steps.now _ c.in-len1-up.len_at_least _ _ (sym c.step-item.is ∙ c.in-Compared.is)

pub behind_one-returns-in-Ranked : goal.behind_one-returns-in-Ranked
behind_one-returns-in-Ranked t c = from_levels c.args.most c.if-most-eq0.false c.args.steps.now _ c.in-len1-up.len_at_least _ _ (sym c.step-item.is ∙ c.in-Ranked.is)

pub behind_one-returns-in-Inside : goal.behind_one-returns-in-Inside
behind_one-returns-in-Inside t c = from_inside c.args.most c.if-most-eq0.false c.args.steps.now _ c.in-len1-up.len_at_least _ _ _ _ (sym c.step-item.is ∙ c.in-Inside.is)

pub behind_two-returns : goal.behind_two-returns
behind_two-returns t c =
    from_first c.args.steps.now c.args.most c.in-Some.rest.now (rw c.in-Some.is at c.behind_one.ensures) (λ rest. rest.now) c.behind_one-2.result c.behind_one-2.ensures
