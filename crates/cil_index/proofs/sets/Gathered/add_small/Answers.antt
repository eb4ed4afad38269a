use Rattle.std.proofs.Common.{arith, subst, sym, [], ◌∷◌, ◌+◌}
use Rattle.std.specs.Prelude.{Contains}
use Rattle.cil_index.specs.Sets.{all_sets}
use Rattle.cil_index.proofs.GatherLemmas.{empty_in, grows, nothing, one_in, single}
use Rattle.cil_index.proofs.sets.Gathered.add_small.Goals as goal

pub returns-in_default-clause-added : goal.returns-in_default-clause-added
returns-in_default-clause-added c =
    subst (λ z. Contains c.args.self.now z) (sym (nothing c.args.set.now c.in_default.ensures))
    (subst (λ z. Contains z []) c.self.view_is (empty_in c.self.inside.several.items c.self.inside.ones))

pub returns-then-ones-number-clause-stays : goal.returns-then-ones-number-clause-stays
returns-then-ones-number-clause-stays c = λ set has.
    let below = c.if-ones-number.true in
    grows c.self.inside.several.items c.self.inside.ones (c.in-Some.number + 1) (omega (arith, below)) set (subst (λ z. Contains z set) (sym c.self.view_is) has)

pub returns-then-ones-number-clause-added : goal.returns-then-ones-number-clause-added
returns-then-ones-number-clause-added c =
    subst (Contains (all_sets (c.in-Some.number + 1) c.self.inside.several.items)) (sym (single c.args.set.now c.in-Some.number c.requires c.in-Some.ensures.member))
    (one_in c.self.inside.several.items (c.in-Some.number + 1) c.in-Some.number (omega arith))

pub returns-else-ones-number-clause-added : goal.returns-else-ones-number-clause-added
returns-else-ones-number-clause-added c =
    let above = c.if-ones-number.false in
    subst (λ z. Contains c.args.self.now z) (sym (single c.args.set.now c.in-Some.number c.requires c.in-Some.ensures.member))
    (subst (λ z. Contains z (c.in-Some.number ∷ [])) c.self.view_is (one_in c.self.inside.several.items c.self.inside.ones c.in-Some.number (omega (arith, above))))
