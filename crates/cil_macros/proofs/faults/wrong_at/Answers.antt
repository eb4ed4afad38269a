use Rattle.cil_macros.specs.Brings.{is_marked}
use Rattle.cil_macros.specs.Macros.{all_standing}
use Rattle.cil_macros.specs.Walks.{written_in}
use Rattle.cil_macros.proofs.CallLemmas.{is_meant, macro_below, not_meant, placed_there}
use Rattle.cil_macros.proofs.FaultLemmas.{nothing_wrong, this_wrong}
use Rattle.cil_macros.proofs.faults.wrong_at.Goals as goal

pub comes_again-requires-clause-standing : goal.comes_again-requires-clause-standing
comes_again-requires-clause-standing c =
    let s = c.args.source.now.spaces.now in
    let p = placed_there s c.args.brought.now.entries.items c.args.at c.requires.within in
    macro_below s c.args.brought.now.entries.items _ c.in-Some.called (is_meant s c.args.brought.now.entries.items c.args.at c.in_ok-called.field-0 c.in-Some.called c.in-Some.is c.in_ok-called.ensures.meant p.0 p.1)

pub has_arguments-requires-clause-standing : goal.has_arguments-requires-clause-standing
has_arguments-requires-clause-standing c =
    let s = c.args.source.now.spaces.now in
    let p = placed_there s c.args.brought.now.entries.items c.args.at c.requires.within in
    macro_below s c.args.brought.now.entries.items _ c.in-Some.called (is_meant s c.args.brought.now.entries.items c.args.at c.in_ok-called.field-0 c.in-Some.called c.in-Some.is c.in_ok-called.ensures.meant p.0 p.1)

pub returns-in_default : goal.returns-in_default
returns-in_default c = λ p e.
    let s = c.args.source.now.spaces.now in
    nothing_wrong (written_in s) (all_standing s) (is_marked c.args.marks.now c.args.at) (is_marked c.args.lists.now c.args.at) p c.has_mark-list.result c.is_misplaced-misplaced.result
    (not_meant s c.args.brought.now.entries.items c.args.at c.in_ok-called.field-0 c.in_default.is c.in_ok-called.ensures.meant p e) c.has_mark-list.ensures
    (c.is_misplaced-misplaced.ensures p e)

pub returns : goal.returns
returns c = λ p e.
    let s = c.args.source.now.spaces.now in
    let m = is_meant s c.args.brought.now.entries.items c.args.at c.in_ok-called.field-0 c.in-Some.called c.in-Some.is c.in_ok-called.ensures.meant p e in
    this_wrong (written_in s) (all_standing s) (is_marked c.args.marks.now c.args.at) (is_marked c.args.lists.now c.args.at) p m.called c.comes_again.result c.has_arguments.result
    c.is_misplaced-misplaced.result c.has_mark-list.result c.is_unfit.result m.is (c.comes_again.ensures p m.called e m.at) (c.has_arguments.ensures p m.called e m.at m.is) c.has_mark-list.ensures
    c.is_unfit.ensures
    (c.is_misplaced-misplaced.ensures p e)
