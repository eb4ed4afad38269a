use Rattle.std.proofs.Common.{◌∙◌, ◌<◌, List, ap, length, subst, sym}
use Rattle.cil_base.specs.Places.{contains_at}
use Rattle.cil_neverallow.specs.Stated.{IsRunIn, Stated, stated_at}
use Rattle.cil_neverallow.proofs.StatementLemmas.{run_at, same_run, within_view}
use Rattle.cil_neverallow.proofs.statements.Statements.get.Goals as goal

pub rules_in-requires : goal.rules_in-requires
rules_in-requires c =
    let within = within_view c.self.inside.rules.items c.self.inside.runs.items c.args.number (subst (λ (l : List Stated). c.args.number < length l) (sym c.self.view_is) c.requires) in
    subst (λ l. IsRunIn l c.index-run.result.now) (sym c.as_slice.ensures.value)
    (c.self.invariant c.index-run.result.now (contains_at c.self.inside.runs.items c.args.number c.index-run.result.now c.index-run.result.now within c.index-run.ensures))

pub returns : goal.returns
returns c =
    let within = within_view c.self.inside.rules.items c.self.inside.runs.items c.args.number (subst (λ (l : List Stated). c.args.number < length l) (sym c.self.view_is) c.requires) in
    same_run c.self.inside.rules.items c.as_slice.result.now c.index-run.result.now c.rules_in.result.now c.as_slice.ensures.value c.rules_in.ensures
    ∙ run_at c.self.inside.rules.items c.self.inside.runs.items c.args.number c.index-run.result.now within c.index-run.ensures
    ∙ ap (λ (l : List Stated). stated_at l c.args.number) c.self.view_is
