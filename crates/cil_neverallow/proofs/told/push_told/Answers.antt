use Rattle.std.specs.Prelude.{length}
use Rattle.std.proofs.Common.{◌≡◌, ◌≤◌, List, ◌∷◌, ◌++◌, ◌∙◌, [], ap, subst, sym}
use Rattle.cil_macros.specs.blocks.Space.{Space}
use Rattle.cil_macros.specs.blocks.Namespaces.{space_at}
use Rattle.cil_faults.specs.declared.code.FaultCode.TheVariants as causes
use Rattle.cil_faults.specs.declared.spot.Spot.{Spot}
use Rattle.cil_faults.specs.Reported.{spelled_fault}
use Rattle.cil_faults.specs.Namespaces.{qualified}
use Rattle.cil_syntax.specs.Written.{Statement as Said}
use Rattle.cil_macros.specs.Items.{item_at}
use Rattle.cil_neverallow.specs.Violations.{told_by}
use Rattle.cil_neverallow.proofs.told.push_told.Goals as goal

pub spelled-requires : goal.spelled-requires
spelled-requires c = subst (λ ss. c.space.result ≤ length ss) (sym c.namespaces.ensures.value) c.space.ensures.within

pub returns : goal.returns
returns c =
    let i = c.args.instances.now in
    let x = item_at i c.args.place in
    let v = c.args.view.now in
    let at : c.statement_there-2.result.now.at ≡ x.at = ap (λ (t : Said). t.at) c.statement_there-2.ensures.is in
    let other : c.statement_there.result.now.at ≡ (item_at i c.args.other).at = ap (λ (t : Said). t.at) c.statement_there.ensures.is in
    let space : c.in_ok-space.space ≡ qualified x.space =
    c.in_ok-space.ensures ∙ ap qualified (ap (λ (ss : List Space). space_at ss c.space.result) c.namespaces.ensures.value ∙ c.space.ensures.is) in
    let word : c.as_slice.result.now ≡ told_by v (item_at i c.args.other).at c.args.overlap.now =
    c.as_slice.ensures.value ∙ c.in_ok-word.ensures ∙ ap (λ (z : Spot). told_by v z c.args.overlap.now) other in
    c.in_ok-push_fault_in.ensures ∙ (λ j. c.args.faults.now.items ++ spelled_fault causes.NeverAllow (at j) (space j) (word j) ∷ [])
