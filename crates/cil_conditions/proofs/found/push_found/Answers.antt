use Rattle.std.proofs.Common.{◌∙◌, ap, subst, sym}
use Rattle.std.proofs.lemmas.Bool.{true≢false}
use Rattle.cil_known.specs.blocks.Contents.{is_conditional}
use Rattle.cil_known.proofs.macros_lemmas.ItemsThere.{keyword_there}
use Rattle.cil_conditions.specs.Gathered.{AreFound}
use Rattle.cil_conditions.proofs.FoundLemmas.{condition_spelled, condition_unsaid, found_more, found_skipped, no_condition}
use Rattle.cil_conditions.proofs.found.push_found.Goals as goal

pub returns-then-not-is_conditional : goal.returns-then-not-is_conditional
returns-then-not-is_conditional c = λ old.
    let i = c.args.instances.now in
    let s = c.statement_there-statement.result.now in
    found_skipped i c.args.known.now c.args.at c.args.found.now.items old
    (λ is. absurd (true≢false (sym is ∙ ap is_conditional (keyword_there i c.args.at s c.statement_there-statement.ensures.is) ∙ sym c.is_conditional.ensures ∙ c.if-not-is_conditional.true)))

pub returns-in_default : goal.returns-in_default
returns-in_default c = λ old.
    let i = c.args.instances.now in
    let s = c.statement_there-statement.result.now in
    found_skipped i c.args.known.now c.args.at c.args.found.now.items old
    (λ is names known. no_condition i c.args.known.now c.args.at s c.statement_there-statement.ensures.is c.in_default.ensures names)

pub returns-in_default-2 : goal.returns-in_default-2
returns-in_default-2 c = λ old.
    let i = c.args.instances.now in
    let s = c.statement_there-statement.result.now in
    found_skipped i c.args.known.now c.args.at c.args.found.now.items old
    (λ is names known. condition_unsaid i c.args.known.now c.args.at s c.statement_there-statement.ensures.is c.in-Some.term.now c.in-Some.ensures
    (sym c.is_conditional.ensures ∙ c.if-not-is_conditional.false) c.args.words.now c.requires.row (rw c.in_default-2.is at c.in_ok-condition.ensures) names known)

pub returns : goal.returns
returns c = λ old.
    let i = c.args.instances.now in
    let k = c.args.known.now in
    let s = c.statement_there-statement.result.now in
    subst (AreFound i k _) (sym c.in_ok-push.ensures.items)
    (found_more i k c.args.at c.args.found.now.items old c.in_ok-both.both (ap (λ f. f.at) c.in_ok-both.ensures)
    (condition_spelled i k c.args.at s c.statement_there-statement.ensures.is c.in-Some.term.now c.in-Some.ensures
    (sym c.is_conditional.ensures ∙ c.if-not-is_conditional.false) c.args.words.now c.requires.row c.in-Some-2.condition (rw c.in-Some-2.is at c.in_ok-condition.ensures) c.in_ok-both.both c.in_ok-both.ensures))
