use Rattle.std.proofs.Common.{sym, ◌∙◌}
use Rattle.cil_labels.proofs.SoundLemmas.{levels_label, levels_only, no_levels, no_sound, plain_found, plain_only}
use Rattle.cil_labels.proofs.labels.Labels.label_of.Goals as goal

pub returns-then-not-are_on-clause-found : goal.returns-then-not-are_on-clause-found
returns-then-not-are_on-clause-found c =
    plain_found c.args.self.now c.args.text.now (λ on. absurd (let a = c.are_on.ensures in let b = c.if-not-are_on.true in cc)) c.plain.result c.plain.ensures

pub returns-then-not-are_on-clause-only : goal.returns-then-not-are_on-clause-only
returns-then-not-are_on-clause-only c =
    plain_only c.args.self.now c.args.text.now (λ on. absurd (let a = c.are_on.ensures in let b = c.if-not-are_on.true in cc)) c.plain.result c.plain.ensures

pub returns-in_default-clause-only : goal.returns-in_default-clause-only
returns-in_default-clause-only c = no_levels c.args.self.now c.args.text.now (sym c.are_on.ensures ∙ c.if-not-are_on.false) c.in_default.ensures

pub returns-in_default-sound_range-clause-only : goal.returns-in_default-sound_range-clause-only
returns-in_default-sound_range-clause-only c =
    no_sound c.args.self.now c.args.text.now (sym c.are_on.ensures ∙ c.if-not-are_on.false) _ _ c.in-Some.ensures c.in_default-sound_range.ensures

pub returns-clause-found : goal.returns-clause-found
returns-clause-found c =
    levels_label c.args.self.now c.args.text.now (sym c.are_on.ensures ∙ c.if-not-are_on.false) _ _ c.in-Some.ensures _ _ c.in-Some-sound_range.ensures

pub returns-clause-only : goal.returns-clause-only
returns-clause-only c =
    levels_only c.args.self.now c.args.text.now (sym c.are_on.ensures ∙ c.if-not-are_on.false) _ _ c.in-Some.ensures _ _ c.in-Some-sound_range.ensures
