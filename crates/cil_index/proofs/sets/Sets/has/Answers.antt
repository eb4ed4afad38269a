use Rattle.cil_index.proofs.SetLemmas.{empty_has, none_has, one_has, other_has}
use Rattle.cil_index.proofs.sets.Sets.has.Goals as goal

pub returns-then-set-eq0 : goal.returns-then-set-eq0
returns-then-set-eq0 c = empty_has _ _ _ c.self.view_is c.args.set c.args.number c.if-set-eq0.true

pub returns-then-set-ones : goal.returns-then-set-ones
returns-then-set-ones c = one_has _ _ _ c.self.view_is c.args.set c.args.number c.if-set-eq0.false c.if-set-ones.true

pub returns-in-Some : goal.returns-in-Some
returns-in-Some c =
    let found = c.in-Some.ensures.lookup in
    other_has _ c.deref.result.now _ (rw c.deref.ensures.value c.self.view_is) c.args.set c.args.number c.in-Some.set.now c.contains.result c.if-set-ones.false found.3.0 found.1 c.contains.ensures

pub returns-in-None : goal.returns-in-None
returns-in-None c = none_has _ c.deref.result.now _ (rw c.deref.ensures.value c.self.view_is) c.args.set c.args.number c.if-set-ones.false c.in-None.ensures.lookup.3
