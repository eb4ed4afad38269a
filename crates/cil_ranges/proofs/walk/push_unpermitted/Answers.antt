use Rattle.std.proofs.Common.{◌++◌, ◌∷◌, [], ◌∙◌, ap, subst, sym}
use Rattle.cil_faults.specs.Reported.{fault_at}
use Rattle.cil_faults.specs.declared.code.FaultCode.TheVariants as causes
use Rattle.cil_syntax.specs.Scopes.{ScopedWord}
use Rattle.cil_syntax.specs.Terms.{Form}
use Rattle.cil_known.specs.Known.{enabled_in}
use Rattle.cil_ranges.specs.LevelFaults.{TermFault}
use Rattle.cil_ranges.specs.Reading.{HaveMore}
use Rattle.cil_ranges.specs.Walked.{placed_in, space_in}
use Rattle.cil_ranges.proofs.WalkLemmas.{done, level_none, level_one, named_second, plain_read}
use Rattle.cil_ranges.proofs.walk.push_unpermitted.Goals as goal

pub returns-then-not-is_unpermitted : goal.returns-then-not-is_unpermitted
returns-then-not-is_unpermitted c = λ k g f us at op is judges o.
    let read = plain_read k f (placed_in c.args.walk.now) c.args.terms.now us c.args.ahead.now at op o (sym (c.if-not-are_plain.ensures 0)) in
    let items = c.args.faults.now.items in
    let none = level_none (enabled_in k) g (space_in c.args.walk.now) items items at us (c.if-not-is_unpermitted.ensures k g 0 f us o.words judges read) in
    subst (λ z. HaveMore items items (λ h. TermFault (enabled_in k) g (space_in c.args.walk.now) h (Form at z us))) (sym is) none

pub returns : goal.returns
returns c =
    done c.push_told.result
    (λ told k g f us at op is judges o.
    let items = c.args.faults.now.items in
    let read = plain_read k f (placed_in c.args.walk.now) c.args.terms.now us c.args.ahead.now at op o (sym (c.if-not-are_plain.ensures 0)) in
    let (w, wrong) = c.if-not-is_unpermitted.ensures k g 0 f us o.words judges read in
    let there = c.in-Some.ensures (placed_in c.args.walk.now) at op w _ (named_second k f (placed_in c.args.walk.now) c.args.terms.now us c.args.ahead.now at op o w wrong.rest wrong.says) in
    let push = told ∙ ap (λ z. items ++ fault_at causes.LevelCategory c.in-Some.there.now.word.at (space_in c.args.walk.now) z ∷ []) c.as_slice.ensures
    ∙ ap (λ (z : ScopedWord). items ++ fault_at causes.LevelCategory z.at (space_in c.args.walk.now) z.bytes ∷ []) there in
    let one = level_one (enabled_in k) g (space_in c.args.walk.now) items c.push_told.new.faults.items at us w wrong push in
    subst (λ z. HaveMore items c.push_told.new.faults.items (λ h. TermFault (enabled_in k) g (space_in c.args.walk.now) h (Form at z us))) (sym is) one)
    c.push_told.ensures
