use Rattle.std.specs.Prelude.{length}
use Rattle.std.proofs.Common.{◌≡◌, ◌≤◌, List, ◌∷◌, ◌++◌, ◌∙◌, [], ap, subst, sym}
use Rattle.cil_known.specs.macros.blocks.Space.{Space}
use Rattle.cil_known.specs.macros.blocks.Namespaces.{space_at}
use Rattle.cil_faults.specs.Reported.{fault_at, spelled_fault}
use Rattle.cil_faults.specs.Namespaces.{qualified}
use Rattle.cil_known.specs.macros.Items.{item_at, items_in}
use Rattle.cil_known.specs.names.Entries.{is_in}
use Rattle.cil_attrs.specs.Targets.{IsToldAt}
use Rattle.cil_attrs.proofs.ToldLemmas.{nothing_more, one_more}
use Rattle.cil_attrs.proofs.declared.push_declared_at.Goals as goal

pub spelled-requires : goal.spelled-requires
spelled-requires c = subst (λ ss. c.space.result ≤ length ss) (sym c.namespaces.ensures.value) c.space.ensures.within

pub returns-in_default : goal.returns-in_default
returns-in_default c = nothing_more c.args.faults.now.items _ (c.in_default.ensures c.args.code)

pub returns : goal.returns
returns c =
    let x = item_at c.args.instances.now c.args.at in
    let name = c.in-Some.name in
    let space : c.in_ok-space.space ≡ qualified x.space =
    c.in_ok-space.ensures ∙ ap qualified (ap (λ (ss : List Space). space_at ss c.space.result) c.namespaces.ensures.value ∙ c.space.ensures.is) in
    let told : c.push_fault_in.new.faults.items ≡ c.args.faults.now.items ++ fault_at c.args.code name.at x.space name.bytes.now ∷ [] =
    c.in_ok-push_fault_in.ensures ∙ ap (λ s. c.args.faults.now.items ++ spelled_fault c.args.code name.at s name.bytes.now ∷ []) space in
    one_more c.args.faults.now.items c.push_fault_in.new.faults.items _
    (IsToldAt c.args.lookup.now.namespaces.now c.args.lookup.now.names.now (items_in c.args.instances.now) (is_in c.args.lookup.now.enabled.now) c.args.told.now.kind c.args.code c.args.told.now.flags.now x) told (c.in-Some.ensures c.args.code)
