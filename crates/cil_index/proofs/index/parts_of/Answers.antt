use Rattle.std.proofs.Common.{sym}
use Rattle.cil_index.proofs.StartLemmas.{last_room, no_entry}
use Rattle.cil_index.proofs.index.parts_of.Goals as goal

pub returns-in-Some : goal.returns-in-Some
returns-in-Some c = last_room c.args.entries.now c.in-Some.entry.now c.requires (sym c.in-Some.ensures.value)

pub returns-in-None : goal.returns-in-None
returns-in-None c = λ e has. absurd (no_entry c.args.entries.now (sym c.in-None.ensures.value) e has)
