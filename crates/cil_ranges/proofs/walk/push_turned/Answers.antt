use Rattle.std.proofs.Common.{sym, subst}
use Rattle.cil_syntax.specs.Terms.{Form}
use Rattle.cil_known.specs.Known.{enabled_in}
use Rattle.cil_ranges.specs.LevelFaults.{TermFault}
use Rattle.cil_ranges.specs.Reading.{HaveMore}
use Rattle.cil_ranges.specs.Walked.{placed_in, space_in}
use Rattle.cil_ranges.proofs.WalkLemmas.{done, levels_none, levels_one, plain_read}
use Rattle.cil_ranges.proofs.walk.push_turned.Goals as goal

pub returns-then-not-is_turned : goal.returns-then-not-is_turned
returns-then-not-is_turned c = λ k g f us at op is judges o.
    let read = plain_read k f (placed_in c.args.walk.now) c.args.terms.now us c.args.ahead.now at op o (sym (c.if-not-are_plain.ensures 0)) in
    let items = c.args.faults.now.items in
    let none = levels_none (enabled_in k) g (space_in c.args.walk.now) items items at us (c.if-not-is_turned.ensures k g 0 f us o.words judges.measures judges.levels read) in
    subst (λ z. HaveMore items items (λ h. TermFault (enabled_in k) g (space_in c.args.walk.now) h (Form at z us))) (sym is) none

pub returns : goal.returns
returns c =
    done c.push_order.result
    (λ told k g f us at op is judges o.
    let items = c.args.faults.now.items in
    let read = plain_read k f (placed_in c.args.walk.now) c.args.terms.now us c.args.ahead.now at op o (sym (c.if-not-are_plain.ensures 0)) in
    let one = levels_one (enabled_in k) g (space_in c.args.walk.now) items c.push_order.new.faults.items at us (c.if-not-is_turned.ensures k g 0 f us o.words judges.measures judges.levels read) (told at op _ o.says) in
    subst (λ z. HaveMore items c.push_order.new.faults.items (λ h. TermFault (enabled_in k) g (space_in c.args.walk.now) h (Form at z us))) (sym is) one)
    c.push_order.ensures
