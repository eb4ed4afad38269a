use Rattle.cil_index.proofs.CoverLemmas.{held_as_noted}
use Rattle.cil_index.proofs.matches.holds.Goals as goal

pub has-requires-clause-noted : goal.has-requires-clause-noted
has-requires-clause-noted c = c.notes.ensures.0 c.if-notes.true

pub returns-then-notes : goal.returns-then-notes
returns-then-notes c = held_as_noted c.args.searched.now.sets.now c.args.searched.now.memberships.now c.args.set c.args.number c.has.result c.requires (c.notes.ensures.0 c.if-notes.true) c.has.ensures
