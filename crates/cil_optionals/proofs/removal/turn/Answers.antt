use Rattle.std.specs.Prelude.{set, false, true}
use Rattle.std.proofs.Common.{subst, sym}
use Rattle.cil_optionals.specs.Parts.{parts_in}
use Rattle.cil_optionals.specs.Removals.{IsTaken, IsTurned}
use Rattle.cil_optionals.proofs.RemovalLemmas.{reason_now, taken_one, turned_none, turned_some}
use Rattle.cil_optionals.proofs.removal.turn.Goals as goal

pub returns-in_default-clause-turned : goal.returns-in_default-clause-turned
returns-in_default-clause-turned c =
    turned_none (parts_in c.args.parts.now) c.args.entries.now c.args.at c.args.left.now.items c.as_slice.result.now _ c.as_slice.ensures.value c.in_ok-reason.ensures c.in_default.is

pub returns-clause-steps : goal.returns-clause-steps
returns-clause-steps c =
    let ps = parts_in c.args.parts.now in
    let es = c.args.entries.now in
    let flags = c.args.left.now.items in
    let now = reason_now ps es c.args.at flags c.as_slice.result.now _ c.in-Some.reason c.as_slice.ensures.value c.in_ok-reason.ensures c.in-Some.is in
    subst (λ o. IsTaken ps es (set flags o false) c.push.new.self.items) (sym c.left_out.ensures)
    (subst (IsTaken ps es _) (sym c.in_ok-push.ensures.items) (taken_one ps es flags c.args.reasons.now.items c.in-Some.reason c.requires now))

pub returns-clause-turned : goal.returns-clause-turned
returns-clause-turned c =
    let ps = parts_in c.args.parts.now in
    let es = c.args.entries.now in
    let flags = c.args.left.now.items in
    let now = reason_now ps es c.args.at flags c.as_slice.result.now _ c.in-Some.reason c.as_slice.ensures.value c.in_ok-reason.ensures c.in-Some.is in
    subst (λ o. IsTurned ps es c.args.at flags (set flags o false) true) (sym c.left_out.ensures) (turned_some ps es c.args.at flags c.in-Some.reason now)
