use Rattle.std.proofs.Common.{rules}
use Rattle.std.proofs.lemmas.Fn.{always_returns_same}
use Rattle.std.proofs.lemmas.Cmp.{nat_list_cmp_total}
use Rattle.std.proofs.lemmas.Map.Lookups.{exact_bytes}
use Rattle.cil_base.specs.Lists.{text_cmp}
use Rattle.cil_mls.specs.Names.{name_of}
use Rattle.cil_base.proofs.SearchLemmas.{answered_by, searched}
use Rattle.cil_mls.proofs.named.found_at.Goals as goal

pub returns : goal.returns
returns c =
    answered_by _ _ _ _ c.ok.ensures.value (searched name_of text_cmp nat_list_cmp_total exact_bytes c.args.names.now c.args.name.now c.binary_search_by.result c.requires c.binary_search_by.ensures.bound
    (c.binary_search_by.ensures.position (λ e. text_cmp (name_of e) c.args.name.now) (always_returns_same _ _ _ (λ a r f' k. search rules))))
