use Rattle.std.specs.Prelude.{All}
use Rattle.std.proofs.Common.{length, refl, subst, sym, ◌∙◌}
use Rattle.cil_base.specs.Records.{AreRecordsOf}
use Rattle.cil_macros.specs.Items.{items_in}
use Rattle.cil_known.specs.Known.{enabled_in}
use Rattle.std.proofs.lemmas.Result.{IfOk-from_err}
use Rattle.cil_classes.specs.Assigned.{IsWithin}
use Rattle.cil_classes.specs.Givings.{GivesTo, HaveNodes, IsGivenFor}
use Rattle.cil_classes.specs.Held.{AreHeld}
use Rattle.cil_classes.specs.Parts.{AreNodes}
use Rattle.cil_classes.proofs.HeldLemmas.{all_assigned, to_nodes}
use Rattle.cil_classes.proofs.held.given_permissions.Goals as goal

pub held_of-requires : goal.held_of-requires
held_of-requires c =
    let (names, known, classes) = c.requires.known in
    let k = c.args.known.now in
    let xs = items_in c.args.instances.now in
    let same = c.as_slice.ensures.value in
    let recorded = c.in_ok-givens.ensures names known c.requires.apart classes (subst (AreNodes k) (sym same) (c.in_ok-nodes.ensures.nodes names known))
    (subst (HaveNodes k xs) (sym same) (c.in_ok-nodes.ensures.all names known)) in
    let given = subst (λ ns. AreRecordsOf (GivesTo xs (enabled_in k)) (IsGivenFor k xs c.args.classes.now ns) xs c.in_ok-givens.givens.items) same recorded in
    subst (All (IsWithin c.len.result)) (sym c.as_slice-2.ensures.value)
    (subst (λ n. All (IsWithin n) c.in_ok-givens.givens.items) (sym (c.len.ensures ∙ c.in_ok-nodes.nodes.ok.0)) (to_nodes k xs names known c.args.classes.now c.in_ok-nodes.nodes.items c.in_ok-nodes.ensures.rising
    c.in_ok-givens.givens.items given))

pub returns : goal.returns
returns c =
    let (names, known, classes) = c.requires.known in
    let k = c.args.known.now in
    let xs = items_in c.args.instances.now in
    let same = c.as_slice.ensures.value in
    let are_nodes = c.in_ok-nodes.ensures.nodes names known in
    let recorded = c.in_ok-givens.ensures names known c.requires.apart classes (subst (AreNodes k) (sym same) are_nodes) (subst (HaveNodes k xs) (sym same) (c.in_ok-nodes.ensures.all names known)) in
    let given = subst (λ ns. AreRecordsOf (GivesTo xs (enabled_in k)) (IsGivenFor k xs c.args.classes.now ns) xs c.in_ok-givens.givens.items) same recorded in
    all_assigned k xs names known c.args.classes.now c.in_ok-nodes.nodes.items c.in_ok-nodes.ensures.rising c.in_ok-givens.givens.items given _ refl are_nodes
    (subst (λ gs. AreHeld gs (length c.in_ok-nodes.nodes.items) c.in_ok-held.held.items) c.as_slice-2.ensures.value
    (subst (λ n. AreHeld c.as_slice-2.result.now n c.in_ok-held.held.items) (c.len.ensures ∙ c.in_ok-nodes.nodes.ok.0) c.in_ok-held.ensures))

pub returns-in_err-nodes : goal.returns-in_err-nodes
returns-in_err-nodes c = IfOk-from_err c.from_residual.result _ c.from_residual.ensures.0

pub returns-in_err-givens : goal.returns-in_err-givens
returns-in_err-givens c = IfOk-from_err c.from_residual-in_err-givens.result _ c.from_residual-in_err-givens.ensures.0

pub returns-in_err-held : goal.returns-in_err-held
returns-in_err-held c = IfOk-from_err c.from_residual-in_err-held.result _ c.from_residual-in_err-held.ensures.0
