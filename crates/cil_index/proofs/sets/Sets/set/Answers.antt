use Rattle.std.proofs.Common.{sym}
use Rattle.cil_index.proofs.SetLemmas.{empty_is, one_is, past_is, several_is}
use Rattle.cil_index.proofs.sets.Sets.set.Goals as goal

pub returns-then-number-eq0 : goal.returns-then-number-eq0
returns-then-number-eq0 c = sym (empty_is _ _ _ c.self.view_is c.args.number c.if-number-eq0.true)

pub returns-then-number-ones : goal.returns-then-number-ones
returns-then-number-ones c = sym (one_is _ _ _ c.self.view_is c.args.number c.if-number-eq0.false c.if-number-ones.true)

pub returns-in-Some : goal.returns-in-Some
returns-in-Some c =
    let found = c.in-Some.ensures.lookup in
    several_is _ c.deref.result.now _ (rw c.deref.ensures.value c.self.view_is) c.args.number c.in-Some.set.now c.if-number-ones.false found.3.0 found.1

pub returns-in-None : goal.returns-in-None
returns-in-None c = past_is _ c.deref.result.now _ (rw c.deref.ensures.value c.self.view_is) c.args.number c.if-number-ones.false c.in-None.ensures.lookup.3
