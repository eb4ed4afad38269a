use Rattle.std.proofs.Common.{subst, sym}
use Rattle.std.specs.Prelude.{Contains}
use Rattle.cil_index.proofs.GatherLemmas.{moved, pushed, pushed_there, there_behind}
use Rattle.cil_index.proofs.sets.Gathered.add.Goals as goal

pub returns-clause-stays : goal.returns-clause-stays
returns-clause-stays c = λ set has.
    moved c.self.inside.ones c.self.inside.several.items _ (pushed _ _ c.in_ok-same.same c.in_ok-push.ensures.items) set (subst (λ z. Contains z set) (sym c.self.view_is) has)

pub returns-clause-added : goal.returns-clause-added
returns-clause-added c =
    there_behind c.self.inside.ones _ c.args.set.now
    (subst (Contains c.push.new.self.items) c.in_ok-same.ensures (pushed_there c.self.inside.several.items c.push.new.self.items c.in_ok-same.same c.in_ok-push.ensures.items))
