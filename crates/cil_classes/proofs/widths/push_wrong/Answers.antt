use Rattle.std.specs.Prelude.{length}
use Rattle.std.proofs.Common.{◌≡◌, ◌≤◌, List, ◌∷◌, ◌++◌, ◌∙◌, [], ap, subst, sym}
use Rattle.std.proofs.lemmas.Result.{IfOk-from_err, on_ok_weaker}
use Rattle.cil_macros.specs.blocks.Space.{Space}
use Rattle.cil_macros.specs.blocks.Namespaces.{space_at}
use Rattle.cil_faults.specs.Reported.{fault_at, spelled_fault}
use Rattle.cil_faults.specs.Namespaces.{qualified}
use Rattle.cil_macros.specs.Items.{item_at, items_in}
use Rattle.cil_names.specs.Entries.{is_in}
use Rattle.cil_classes.specs.Commons.{cause_of}
use Rattle.cil_classes.specs.Widths.{IsWrong}
use Rattle.cil_classes.proofs.WidthLemmas.{none_more, one_more}
use Rattle.cil_classes.proofs.widths.push_wrong.Goals as goal

pub wrong_at-requires-clause-asked : goal.wrong_at-requires-clause-asked
wrong_at-requires-clause-asked c = c.requires.asked

pub wrong_at-requires-clause-twice : goal.wrong_at-requires-clause-twice
wrong_at-requires-clause-twice c = c.requires.twice

pub wrong_at-requires-clause-within : goal.wrong_at-requires-clause-within
wrong_at-requires-clause-within c = c.requires.within

pub spelled-requires : goal.spelled-requires
spelled-requires c = subst (λ ss. c.space.result ≤ length ss) (sym c.namespaces.ensures.value) c.space.ensures.within

pub returns-in_default : goal.returns-in_default
returns-in_default c =
    let s = is_in c.args.lookup.now.enabled.now in
    record { is = none_more c.args.faults.now.items (IsWrong s (items_in c.args.instances.now) (item_at c.args.instances.now c.args.at)) (rw c.in_default.is at c.in_ok-wrong.ensures.is) }

pub returns : goal.returns
returns c =
    let x = item_at c.args.instances.now c.args.at in
    let w = c.in-Some.wrong in
    let s = is_in c.args.lookup.now.enabled.now in
    let space : c.in_ok-space.space ≡ qualified x.space =
    c.in_ok-space.ensures ∙ ap qualified (ap (λ (ss : List Space). space_at ss c.space.result) c.namespaces.ensures.value ∙ c.space.ensures.is) in
    on_ok_weaker c.push_fault_in.result
    (λ one.
    let told : c.push_fault_in.new.faults.items ≡ c.args.faults.now.items ++ fault_at (cause_of w.wide) w.at x.space w.bytes.now ∷ [] =
    one ∙ ap (λ z. c.args.faults.now.items ++ spelled_fault c.cause_of-code.result w.at z w.bytes.now ∷ []) space
    ∙ ap (λ k. c.args.faults.now.items ++ fault_at k w.at x.space w.bytes.now ∷ []) c.cause_of-code.ensures in
    record { is = one_more c.args.faults.now.items c.push_fault_in.new.faults.items _ (IsWrong s (items_in c.args.instances.now) x) told (rw c.in-Some.is at c.in_ok-wrong.ensures.is) })
    c.push_fault_in.ensures

pub returns-in_err-space : goal.returns-in_err-space
returns-in_err-space c = IfOk-from_err c.from_residual-in_err-space.result _ c.from_residual-in_err-space.ensures.0

pub returns-in_err-wrong : goal.returns-in_err-wrong
returns-in_err-wrong c = IfOk-from_err c.from_residual.result _ c.from_residual.ensures.0
