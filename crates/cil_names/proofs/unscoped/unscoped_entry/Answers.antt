use Rattle.std.proofs.lemmas.Option.{slice_get_within}
use Rattle.cil_names.proofs.UnscopedLemmas.{in_every_scope}
use Rattle.cil_names.proofs.unscoped.unscoped_entry.Goals as goal

pub returns-clause-candidate : goal.returns-clause-candidate
returns-clause-candidate c =
    let there = c.is_wanted_in.ensures.0 c.if-not-is_wanted_in.false in
    in_every_scope c.args.entries.now c.args.word.now c.in-Some.place c.in-Some.ensures there.0 there.1 there.2 there.3

pub returns-clause-within : goal.returns-clause-within
returns-clause-within c =
    let there = c.is_wanted_in.ensures.0 c.if-not-is_wanted_in.false in slice_get_within c.args.entries.now c.in-Some.place there.0 there.1
