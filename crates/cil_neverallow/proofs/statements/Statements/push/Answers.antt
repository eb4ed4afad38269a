use Rattle.std.proofs.Common.{◌∙◌, ◌++◌, ◌∷◌, [], ap, subst, sym}
use Rattle.cil_neverallow.specs.Stated.{AreRunsIn}
use Rattle.cil_neverallow.proofs.StatementLemmas.{pushed_in, pushed_view, still_in}
use Rattle.cil_neverallow.proofs.statements.Statements.push.Goals as goal

pub invariant_of-self : goal.invariant_of-self
invariant_of-self c = subst (λ z. AreRunsIn z c.self.inside.runs.items) (sym c.in_err-extend_from_slice.ensures.items) c.self.invariant

pub invariant_of-self-in_err-push : goal.invariant_of-self-in_err-push
invariant_of-self-in_err-push c =
    subst (λ z. AreRunsIn z c.push.new.self.items) (sym c.in_ok-extend_from_slice.ensures.items)
    (subst (AreRunsIn _) (sym c.in_err-push.ensures.items) (still_in c.self.inside.rules.items c.args.rules.now c.self.inside.runs.items c.self.invariant))

pub invariant_of-self-2 : goal.invariant_of-self-2
invariant_of-self-2 c =
    pushed_in c.self.inside.rules.items c.args.rules.now c.extend_from_slice.new.self.items c.self.inside.runs.items c.push.new.self.items c.args.place c.len-from.result c.len-to.result c.self.invariant
    c.in_ok-extend_from_slice.ensures.items (c.len-from.ensures ∙ c.self.inside.rules.ok.0) (c.len-to.ensures ∙ c.extend_from_slice.new.self.ok.0) c.in_ok-push.ensures.items

pub returns : goal.returns
returns c =
    pushed_view c.self.inside.rules.items c.args.rules.now c.extend_from_slice.new.self.items c.self.inside.runs.items c.push.new.self.items c.args.place c.len-from.result c.len-to.result c.self.invariant
    c.in_ok-extend_from_slice.ensures.items (c.len-from.ensures ∙ c.self.inside.rules.ok.0) (c.len-to.ensures ∙ c.extend_from_slice.new.self.ok.0) c.in_ok-push.ensures.items
    ∙ ap (λ l. l ++ record { place = c.args.place; rules = c.args.rules.now } ∷ []) c.self.view_is
