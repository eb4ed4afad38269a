use Rattle.cil_modset.proofs.WalkLemmas.{new_modules, new_apart, new_union, union_modules}
use Rattle.cil_modset.proofs.set.ModuleSetJoin.merge.Goals as goal

pub add_all-requires-clause-apart : goal.add_all-requires-clause-apart
add_all-requires-clause-apart c = new_apart _ _ _ c.in_ok-fresh.ensures

pub invariant_of-self-2 : goal.invariant_of-self-2
invariant_of-self-2 c = union_modules _ _ _ c.self.invariant (new_modules _ _ _ c.in_ok-fresh.ensures c.other.invariant) c.in_ok-added.ensures.union

pub returns-clause-joined : goal.returns-clause-joined
returns-clause-joined c =
    rw (← c.self.view_is, ← c.other.view_is)
    (new_union _ _ _ _ c.in_ok-fresh.ensures c.other.invariant.rising c.in_ok-added.ensures.union)
