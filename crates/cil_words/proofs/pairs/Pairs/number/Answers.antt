use Rattle.std.proofs.Common.{ap, sym, ◌∙◌}
use Rattle.std.specs.Prelude.{Some}
use Rattle.cil_base.proofs.AtPlace.{at_place, past_end}
use Rattle.cil_words.proofs.pairs.Pairs.number.Goals as goal

pub returns-in-Some : goal.returns-in-Some
returns-in-Some c =
    ap Some c.entry.ensures
    ∙ sym (at_place c.deref.result.now c.args.self.now.places.items c.args.place c.deref.ensures.value c.in-Some.number.now c.in-Some.ensures.lookup.3.0 c.in-Some.ensures.lookup.1)

pub returns-in-None : goal.returns-in-None
returns-in-None c = sym (past_end c.deref.result.now c.args.self.now.places.items c.args.place c.deref.ensures.value c.in-None.ensures.lookup.3)
