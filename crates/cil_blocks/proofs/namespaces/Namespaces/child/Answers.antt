use Rattle.std.proofs.Common.{rules, get_or, sym}
use Rattle.std.proofs.lemmas.List.Quantifiers.{position-Some}
use Rattle.cil_base.specs.Places.{is_there}
use Rattle.cil_blocks.specs.Namespaces.{Key}
use Rattle.cil_blocks.proofs.NamespaceKeys.{has_none, number_found, same_key}
use Rattle.cil_blocks.proofs.NamespaceLemmas.{child_missing}
use Rattle.cil_blocks.proofs.namespaces.Namespaces.child.Goals as goal

pub returns : goal.returns
returns c =
    let v : Key = (c.args.outer, c.args.name) in
    let ks = c.self.inside.keys.keys in
    let p = position-Some (same_key v) ks c.in_ok-place.place v (sym c.in_ok-place.ensures.index) in
    rw (← c.self.view_is) (rw c.number_at.ensures (number_found ks v (get_or ks c.in_ok-place.place v) c.in_ok-place.place c.self.invariant (is_there ks c.in_ok-place.place v p.0) p.1))

pub returns-in_err-place : goal.returns-in_err-place
returns-in_err-place c =
    let v : Key = (c.args.outer, c.args.name) in
    let within = rw (← c.self.view_is) at c.requires in
    let none = child_missing _ c.self.invariant c.args.outer c.args.name.now within (has_none c.self.inside.keys.keys v (sym c.in_err-place.ensures.found)) in
    rw (← c.self.view_is) (search (rules, none))
