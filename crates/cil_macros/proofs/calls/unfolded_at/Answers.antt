use Rattle.cil_macros.specs.Macros.{all_standing}
use Rattle.cil_macros.specs.Walks.{written_in}
use Rattle.cil_macros.proofs.CallLemmas.{again, is_meant, is_unfolded, macro_below, not_meant, placed_there, uncalled, unfit}
use Rattle.cil_macros.proofs.calls.unfolded_at.Goals as goal

pub returns-in_default-clause-unfolded : goal.returns-in_default-clause-unfolded
returns-in_default-clause-unfolded c = λ p e.
    let s = c.args.source.now.spaces.now in
    uncalled (written_in s) (all_standing s) p (not_meant s c.args.brought.now.entries.items c.args.at c.in_ok-called.field-0 c.in_default.is c.in_ok-called.ensures.meant p e)

pub comes_again-requires-clause-standing : goal.comes_again-requires-clause-standing
comes_again-requires-clause-standing c =
    let s = c.args.source.now.spaces.now in
    let p = placed_there s c.args.brought.now.entries.items c.args.at c.requires.within in
    macro_below s c.args.brought.now.entries.items _ c.in-Some.called (is_meant s c.args.brought.now.entries.items c.args.at c.in_ok-called.field-0 c.in-Some.called c.in-Some.is c.in_ok-called.ensures.meant p.0 p.1)

pub returns-then-comes_again-clause-unfolded : goal.returns-then-comes_again-clause-unfolded
returns-then-comes_again-clause-unfolded c = λ p e.
    let s = c.args.source.now.spaces.now in
    let m = is_meant s c.args.brought.now.entries.items c.args.at c.in_ok-called.field-0 c.in-Some.called c.in-Some.is c.in_ok-called.ensures.meant p e in
    again (written_in s) (all_standing s) p m.called m.is (c.if-comes_again.ensures p m.called e m.at)

pub has_arguments-requires-clause-standing : goal.has_arguments-requires-clause-standing
has_arguments-requires-clause-standing c =
    let s = c.args.source.now.spaces.now in
    let p = placed_there s c.args.brought.now.entries.items c.args.at c.requires.within in
    macro_below s c.args.brought.now.entries.items _ c.in-Some.called (is_meant s c.args.brought.now.entries.items c.args.at c.in_ok-called.field-0 c.in-Some.called c.in-Some.is c.in_ok-called.ensures.meant p.0 p.1)

pub returns-then-not-has_arguments-clause-unfolded : goal.returns-then-not-has_arguments-clause-unfolded
returns-then-not-has_arguments-clause-unfolded c = λ p e.
    let s = c.args.source.now.spaces.now in
    let m = is_meant s c.args.brought.now.entries.items c.args.at c.in_ok-called.field-0 c.in-Some.called c.in-Some.is c.in_ok-called.ensures.meant p e in
    unfit (written_in s) (all_standing s) p m.called m.is (c.if-not-has_arguments.ensures p m.called e m.at m.is)

pub returns-clause-unfolded : goal.returns-clause-unfolded
returns-clause-unfolded c = λ p e.
    let s = c.args.source.now.spaces.now in
    let m = is_meant s c.args.brought.now.entries.items c.args.at c.in_ok-called.field-0 c.in-Some.called c.in-Some.is c.in_ok-called.ensures.meant p e in
    is_unfolded (written_in s) (all_standing s) p m.called c.in-Some.called m m.is (c.if-comes_again.ensures p m.called e m.at) (c.if-not-has_arguments.ensures p m.called e m.at m.is)
