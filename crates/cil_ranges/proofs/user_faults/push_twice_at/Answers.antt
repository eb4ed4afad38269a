use Rattle.std.proofs.Common.{sym, subst}
use Rattle.cil_macros.specs.Items.{item_at, items_in}
use Rattle.cil_ranges.specs.Given.{IsGivenThere, IsGiving}
use Rattle.cil_ranges.proofs.UserFaultLemmas.{not_twice, nothing_twice, told_twice}
use Rattle.cil_ranges.proofs.UserLemmas.{gives_one}
use Rattle.cil_ranges.proofs.WalkLemmas.{done}
use Rattle.cil_ranges.proofs.user_faults.push_twice_at.Goals as goal

pub returns-in_default : goal.returns-in_default
returns-in_default c = λ g items reads.
    let x = item_at c.args.instances.now c.args.at in
    nothing_twice c.args.known.now g c.args.differing.now x c.args.faults.now.items c.args.faults.now.items (subst (IsGiving c.args.known.now g x) c.in_default.is (c.in_ok-giving.ensures.gives g items reads))

pub returns-then-not-is_flagged : goal.returns-then-not-is_flagged
returns-then-not-is_flagged c = λ g items reads.
    let k = c.args.known.now in
    let i = c.args.instances.now in
    let x = item_at i c.args.at in
    let v = c.in-Some.giving in
    let gives = subst (IsGiving k g x) c.in-Some.is (c.in_ok-giving.ensures.gives g items reads) in
    not_twice k g c.args.differing.now x c.args.faults.now.items c.args.faults.now.items v gives
    (λ d r h. (gives_one k (items_in i) c.requires.known.0 c.requires.known.1 c.means_what_it_names.ensures g items x c.args.by.now reads d v.user r v.range h gives).0) (sym c.if-not-is_flagged.ensures)

pub push_twice_there-requires-clause-gives : goal.push_twice_there-requires-clause-gives
push_twice_there-requires-clause-gives c = (subst (IsGivenThere c.args.known.now (item_at c.args.instances.now c.args.at)) c.in-Some.is c.in_ok-giving.ensures.there).gives

pub returns : goal.returns
returns c =
    done c.push_twice_there.result
    (λ push g items reads.
    let k = c.args.known.now in
    let i = c.args.instances.now in
    let x = item_at i c.args.at in
    let v = c.in-Some.giving in
    let gives = subst (IsGiving k g x) c.in-Some.is (c.in_ok-giving.ensures.gives g items reads) in
    told_twice k g c.args.differing.now x c.args.faults.now.items c.push_twice_there.new.faults.items v gives
    (λ d r h. (gives_one k (items_in i) c.requires.known.0 c.requires.known.1 c.means_what_it_names.ensures g items x c.args.by.now reads d v.user r v.range h gives).0) (sym c.if-not-is_flagged.ensures) push)
    c.push_twice_there.ensures
