use Rattle.std.proofs.Common.{refl, subst, sym}
use Rattle.std.specs.Prelude.{Contains}
use Rattle.cil_index.proofs.GatherLemmas.{moved}
use Rattle.cil_index.proofs.NumberLemmas.{empty_number, sets_listed, sets_rise}
use Rattle.cil_index.proofs.sets.sorted.Goals as goal

pub invariant_of-result : goal.invariant_of-result
invariant_of-result c =
    let listed = sets_listed _ _ _ c.sort_unstable.ensures.permutation c.sort_unstable.ensures.sorted c.dedup.ensures.filtered in
    (λ set has. c.gathered.invariant set ((listed.members set).0 has), listed.rising)

pub returns-clause-rising : goal.returns-clause-rising
returns-clause-rising c =
    let listed = sets_listed _ _ _ c.sort_unstable.ensures.permutation c.sort_unstable.ensures.sorted c.dedup.ensures.filtered in
    sets_rise c.gathered.inside.ones _ (λ set has. c.gathered.invariant set ((listed.members set).0 has)) listed.rising

pub returns-clause-empty : goal.returns-clause-empty
returns-clause-empty c = empty_number c.gathered.inside.ones _ _ refl _ refl

pub returns-clause-all : goal.returns-clause-all
returns-clause-all c = λ set has.
    let listed = sets_listed _ _ _ c.sort_unstable.ensures.permutation c.sort_unstable.ensures.sorted c.dedup.ensures.filtered in
    moved c.gathered.inside.ones c.gathered.inside.several.items _ (λ x d. (listed.members x).1 d) set (subst (λ z. Contains z set) (sym c.gathered.view_is) has)
