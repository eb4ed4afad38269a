use Rattle.std.specs.Prelude.{Contains}
use Rattle.std.proofs.Common.{Bool, List, inl, inr, subst, sym}
use Rattle.cil_base.specs.Lists.{contains_none}
use Rattle.cil_faults.specs.declared.code.FaultCode.TheVariants as causes
use Rattle.cil_faults.specs.declared.fault.Fault.{Fault}
use Rattle.cil_faults.proofs.RefusalLemmas.{answers_alike}
use Rattle.cil_syntax.specs.declared.kind.Kind.TheVariants as kinds
use Rattle.cil_attrs.specs.macros.Items.{items_in}
use Rattle.cil_attrs.specs.known.Known.{enabled_in}
use Rattle.cil_attrs.specs.Targets.{IsToldIn}
use Rattle.cil_mls.specs.CategorySets.{CircularSet}
use Rattle.cil_mls.proofs.SetEdgeLemmas.{told_back, told_there}
use Rattle.cil_mls.proofs.category_sets.check_category_sets.Goals as goal

pub returns : goal.returns
returns c =
    let k = c.args.known.now in
    let xs = items_in c.args.instances.now in
    let (sections, known) = c.requires.known in
    let flags = c.in_ok-circular.circular.items in
    let faults = c.push_declared.new.faults.items in
    answers_alike (Contains faults) (CircularSet xs (enabled_in k)) (λ done. Unit {0})
    (λ f is. elim ((c.in_ok-push_declared.ensures f).0 is) [
      | inl old ↦ absurd (contains_none f (subst (λ (l : List Fault). Contains l f) c.new-faults.ensures.items old))
      | inr t ↦
          told_there k xs known.entries flags c.in_ok-circular.ensures f
          (subst (λ (fs : List Bool). IsToldIn k.lookup.namespaces.now k.lookup.names.now xs (enabled_in k) kinds.CategorySet causes.SetCycle fs f) c.as_slice.ensures.value t)
    ])
    (λ f h. (c.in_ok-push_declared.ensures f).1
    (inr (subst (λ (fs : List Bool). IsToldIn k.lookup.namespaces.now k.lookup.names.now xs (enabled_in k) kinds.CategorySet causes.SetCycle fs f) (sym c.as_slice.ensures.value)
    (told_back k xs known.entries flags c.in_ok-circular.ensures f h))))
    c.refuse.result c.refuse.ensures.told
