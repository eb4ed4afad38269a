use Rattle.cil_names.proofs.SoleLemmas.{at_got, decides_wanted, none_wanted, other_space}
use Rattle.cil_names.proofs.by_name.is_wanted_in.Goals as goal

pub returns-in_default : goal.returns-in_default
returns-in_default c = none_wanted c.args.entries.now c.args.place c.args.space c.args.sign c.in_default.ensures.lookup.3

pub returns-then-entry-space : goal.returns-then-entry-space
returns-then-entry-space c =
    other_space c.args.entries.now c.args.place c.in-Some.entry.now
    (at_got c.args.entries.now c.args.place c.in-Some.entry.now c.in-Some.ensures.lookup.3.0 c.in-Some.ensures.lookup.1) c.args.space c.args.sign c.if-entry-space.true

pub returns : goal.returns
returns c =
    decides_wanted c.args.entries.now c.args.place c.in-Some.entry.now
    (at_got c.args.entries.now c.args.place c.in-Some.entry.now c.in-Some.ensures.lookup.3.0 c.in-Some.ensures.lookup.1) c.args.space c.args.sign c.if-entry-space.false
    c.wants.result c.wants.ensures
