use Rattle.std.proofs.Common.{sym, ◌∙◌}
use Rattle.cil_known.specs.Known.{enabled_in}
use Rattle.cil_ranges.specs.Walked.{space_in}
use Rattle.cil_ranges.proofs.WalkLemmas.{as_categories, as_level, as_levels, done, is_nothing, nothing_wrong}
use Rattle.cil_ranges.proofs.walk.push_own.Goals as goal

pub returns-in-Level : goal.returns-in-Level
returns-in-Level c = done c.push_unpermitted.result (λ adds k g f us at op is. adds k g f us at op (as_level c.args.op (sym c.in-Level.ensures) op is)) c.push_unpermitted.ensures

pub returns-in-Levels : goal.returns-in-Levels
returns-in-Levels c = done c.push_turned.result (λ adds k g f us at op is. adds k g f us at op (as_levels c.args.op (sym c.in-Levels.ensures) op is)) c.push_turned.ensures

pub returns-in-Categories : goal.returns-in-Categories
returns-in-Categories c = done c.push_backwards.result (λ adds k g f us at op is. adds k g f us at op (as_categories c.args.op (sym c.in-Categories.ensures) op is)) c.push_backwards.ensures

pub returns-in-Nothing : goal.returns-in-Nothing
returns-in-Nothing c = λ k g f us at op is judges o.
    let (a, b, d) = is_nothing c.args.op (sym c.in-Nothing.ensures) in
    nothing_wrong (enabled_in k) g (space_in c.args.walk.now) c.args.faults.now.items at op us (λ e. a (sym is ∙ e)) (λ e. b (sym is ∙ e)) (λ e. d (sym is ∙ e))
