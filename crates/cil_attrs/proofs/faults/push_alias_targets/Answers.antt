use Rattle.std.specs.Prelude.{◌⊎◌, ◌↔◌, Contains, ℕ, List, Option, map, not}
use Rattle.std.specs.Option.{is_some}
use Rattle.std.proofs.Common.{◌<◌, ◌∙◌, ap, length, subst, sym}
use Rattle.cil_faults.specs.declared.code.FaultCode.TheVariants as causes
use Rattle.cil_faults.specs.declared.fault.Fault.{Fault}
use Rattle.cil_known.specs.macros.Items.{items_in}
use Rattle.cil_known.specs.names.Entry.{Entry}
use Rattle.cil_known.specs.Known.{enabled_in}
use Rattle.cil_attrs.specs.Targets.{AreLast, HasOther, IsToldAmong, IsToldIn}
use Rattle.cil_attrs.proofs.AliasLemmas.{alias_says, alias_told, alias_within}
use Rattle.cil_attrs.proofs.SpaceLemmas.{alias_wanted, alias_written}
use Rattle.cil_attrs.proofs.faults.push_alias_targets.Goals as goal

pub steps_of-requires-clause-written : goal.steps_of-requires-clause-written
steps_of-requires-clause-written c = alias_written c.args.space.now c.args.sign c.requires.space c.args.aliases c.requires.aliases

pub push_open-requires-clause-wanted : goal.push_open-requires-clause-wanted
push_open-requires-clause-wanted c = alias_wanted c.args.space.now c.args.sign c.requires.space c.args.aliases c.requires.aliases

pub lasts_of-requires : goal.lasts_of-requires
lasts_of-requires c = λ s d.
    let k = c.args.known.now in
    let i = c.args.instances.now in
    let steps = c.in_ok-steps.steps.items in
    let (names, sections, which, policy) = c.requires.known in
    subst (λ (es : List Entry). s.alias < length es) (sym c.entries.ensures.value)
    (alias_within k i c.args.space.now c.args.sign c.requires.space names sections which policy c.args.aliases c.requires.aliases steps
    (λ j is. c.in_ok-steps.ensures sections j policy.known is) s (subst (λ xs. Contains xs s) c.as_slice.ensures.value d))

pub push_twice-requires-clause-within : goal.push_twice-requires-clause-within
push_twice-requires-clause-within c = λ s d.
    let k = c.args.known.now in
    let i = c.args.instances.now in
    let steps = c.in_ok-steps.steps.items in
    let (names, sections, which, policy) = c.requires.known in
    subst (λ n. s.alias < n) (sym (ap length c.as_slice-4.ensures.value ∙ c.in_ok-lasts.ensures.len ∙ ap length c.entries.ensures.value))
    (alias_within k i c.args.space.now c.args.sign c.requires.space names sections which policy c.args.aliases c.requires.aliases steps
    (λ j is. c.in_ok-steps.ensures sections j policy.known is) s (subst (λ xs. Contains xs s) c.as_slice-3.ensures.value d))

pub push_twice-requires-clause-said : goal.push_twice-requires-clause-said
push_twice-requires-clause-said c = λ s d.
    let k = c.args.known.now in
    let i = c.args.instances.now in
    let steps = c.in_ok-steps.steps.items in
    let (names, sections, which, policy) = c.requires.known in
    alias_says k i c.args.space.now c.args.sign c.requires.space names sections which policy c.args.aliases c.requires.aliases steps
    (λ j is. c.in_ok-steps.ensures sections j policy.known is) s (subst (λ xs. Contains xs s) c.as_slice-3.ensures.value d)

pub returns : goal.returns
returns c = λ names sections which policy.
    let k = c.args.known.now in
    let i = c.args.instances.now in
    let steps = c.in_ok-steps.steps.items in
    let lasts = c.in_ok-lasts.lasts.items in
    let old = c.args.faults.now.items in
    let middle = c.push_open.new.faults.items in
    let new = c.push_twice.new.faults.items in
    alias_told k i c.args.space.now c.args.sign c.requires.space names sections which policy c.args.aliases c.requires.aliases steps
    (λ j is. c.in_ok-steps.ensures sections j policy.known is) lasts
    (subst (λ ss. AreLast ss lasts) c.as_slice.ensures.value c.in_ok-lasts.ensures.lasts) (c.in_ok-lasts.ensures.len ∙ ap length c.entries.ensures.value) old middle new
    (subst
    (λ ls. (f : Fault) → Contains middle f
    ↔ (Contains old f ⊎ IsToldIn k.lookup.namespaces.now k.lookup.names.now (items_in i) (enabled_in k) c.args.aliases.kind causes.AliasOpen (map (λ (o : Option ℕ). not (is_some o)) ls) f))
    c.as_slice-2.ensures.value c.in_ok-push_open.ensures)
    (subst (λ ls. (f : Fault) → Contains new f ↔ (Contains middle f ⊎ IsToldAmong i (HasOther steps ls) steps f)) c.as_slice-4.ensures.value
    (subst (λ ss. (f : Fault) → Contains new f ↔ (Contains middle f ⊎ IsToldAmong i (HasOther ss c.as_slice-4.result.now) ss f)) c.as_slice-3.ensures.value c.in_ok-push_twice.ensures))
