use Rattle.std.proofs.Common.{◌≡◌, ◌⊎◌, Contains, [], set, ◌∙◌, subst}
use Rattle.std.specs.Ordering.{nat_cmp}
use Rattle.std.proofs.lemmas.List.{get_or_read}
use Rattle.cil_base.specs.Lists.{Lists}
use Rattle.cil_tables.specs.Table.{link_cmp}
use Rattle.cil_tables.specs.Holders.{links_from}
use Rattle.cil_tables.proofs.HolderLemmas.{link_added}
use Rattle.cil_tables.proofs.holders.Links.add.Goals as goal

pub returns : goal.returns
returns c =
    let rows = c.reach.new.rows.items in
    let link = c.args.link in
    let row = c.add.new.self in
    let within = c.in_ok-reach.ensures.reached in
    let value = get_or_read rows link.holder c.index_mut.result.now within c.index_mut.ensures.value [] in
    let added = subst (λ old. Lists nat_cmp (λ v. Contains old v ⊎ (v ≡ link.held)) row) value c.in_ok-add.ensures.added in
    subst (λ old. Lists link_cmp (λ l. Contains old l ⊎ (l ≡ link)) (links_from 0 (set rows link.holder row))) (c.in_ok-reach.ensures.links ∙ c.self.view_is)
    (link_added rows link row within added (c.in_ok-reach.ensures.rising c.self.invariant))
