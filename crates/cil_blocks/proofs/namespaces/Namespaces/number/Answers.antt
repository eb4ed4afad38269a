use Rattle.std.proofs.Common.{◌∷◌, ◌+◌, subst}
use Rattle.cil_blocks.specs.Namespaces.{IsNumber, Key, spaces_of}
use Rattle.cil_blocks.proofs.NamespaceKeys.{inserted, number_found}
use Rattle.cil_blocks.proofs.NamespaceLemmas.{stays}
use Rattle.cil_blocks.proofs.namespaces.Namespaces.number.Goals as goal

pub invariant_of-self-2 : goal.invariant_of-self-2
invariant_of-self-2 c =
    let within = rw (← c.self.view_is) at c.requires in
    (inserted c.self.inside.keys.keys c.insert_full.new.self.keys (c.args.outer, c.args.name) c.in_ok-place.ensures.keys c.self.invariant within).are

pub returns-clause-grown : goal.returns-clause-grown
returns-clause-grown c =
    let within = rw (← c.self.view_is) at c.requires in
    rw (← c.self.view_is) ((inserted c.self.inside.keys.keys c.insert_full.new.self.keys (c.args.outer, c.args.name) c.in_ok-place.ensures.keys c.self.invariant within).grown)

pub returns-clause-numbered : goal.returns-clause-numbered
returns-clause-numbered c =
    let v : Key = (c.args.outer, c.args.name) in
    let within = rw (← c.self.view_is) at c.requires in
    let put = inserted c.self.inside.keys.keys c.insert_full.new.self.keys v c.in_ok-place.ensures.keys c.self.invariant within in
    let (k, at, same) = c.in_ok-place.ensures.stored in
    let is = number_found c.insert_full.new.self.keys v k c.in_ok-place.place put.are at same in
    let outer = stays _ _ c.args.outer put.grown within in
    rw (← c.self.view_is) (rw c.number_at.ensures (subst (λ n. IsNumber (spaces_of c.insert_full.new.self.keys) (c.args.name.now ∷ n) (c.in_ok-place.place + 1)) outer is))

pub returns-clause-once : goal.returns-clause-once
returns-clause-once c =
    let within = rw (← c.self.view_is) at c.requires in
    (inserted c.self.inside.keys.keys c.insert_full.new.self.keys (c.args.outer, c.args.name) c.in_ok-place.ensures.keys c.self.invariant within).are
