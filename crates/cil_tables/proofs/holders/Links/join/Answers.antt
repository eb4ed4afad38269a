use Rattle.std.proofs.Common.{◌∙◌, get_or, subst, sym, take}
use Rattle.std.specs.List.Sorted.{IsStrictlySortedBy}
use Rattle.std.proofs.lemmas.List.{take_all, take_more}
use Rattle.cil_base.specs.Lists.{Lists}
use Rattle.cil_tables.specs.Table.{link_cmp}
use Rattle.cil_tables.proofs.HolderLemmas.{AreWith, no_holders, one_holder, rises}
use Rattle.cil_tables.proofs.holders.Links.join.Goals as goal

pub loop-holder-init : goal.loop-holder-init
loop-holder-init c = no_holders _ _ (subst (IsStrictlySortedBy link_cmp) c.self.view_is (rises 0 _ c.self.invariant))

pub loop-holder-preserved : goal.loop-holder-preserved
loop-holder-preserved c =
    let items = c.as_slice-holder-items.result.now in
    let i = c.loop-holder.holder-index in
    subst (λ hs. Lists link_cmp (AreWith c.args.self.now hs c.args.helds.now) c.unite.new.self) (sym (take_more items i 0 c.loop-holder-test.true))
    (one_holder c.args.self.now c.loop-holder.self c.unite.new.self (take i items) c.args.helds.now (get_or items i 0) c.loop-holder.invariant c.in_ok-unite.ensures)

pub returns : goal.returns
returns c =
    let items = c.as_slice-holder-items.result.now in
    subst (λ hs. Lists link_cmp (AreWith c.args.self.now hs c.args.helds.now) c.loop-holder.self)
    (take_all c.loop-holder.holder-index items c.loop-holder-test.false ∙ c.as_slice-holder-items.ensures.value ∙ c.in_ok-all.ensures) c.loop-holder.invariant
