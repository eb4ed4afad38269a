use Rattle.std.proofs.Common.{refl, sym}
use Rattle.cil_base.proofs.AtPlace.{at_place, past_end}
use Rattle.cil_words.proofs.number_lists.number_at.Goals as goal

pub returns-in-Some : goal.returns-in-Some
returns-in-Some c = sym (at_place c.args.numbers.now c.args.numbers.now c.args.place refl c.in-Some.number.now c.in-Some.ensures.lookup.3.0 c.in-Some.ensures.lookup.1)

pub returns-in-None : goal.returns-in-None
returns-in-None c = sym (past_end c.args.numbers.now c.args.numbers.now c.args.place refl c.in-None.ensures.lookup.3)
