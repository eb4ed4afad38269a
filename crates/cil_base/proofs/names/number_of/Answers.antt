use Rattle.std.proofs.Common.{rules}
use Rattle.std.proofs.lemmas.Fn.{always_returns_same}
use Rattle.cil_base.specs.Lists.{text_cmp}
use Rattle.cil_base.proofs.SearchLemmas.{answered}
use Rattle.cil_base.proofs.NameSearches.{name_searched}
use Rattle.cil_base.proofs.names.number_of.Goals as goal

pub returns : goal.returns
returns c =
    let both = answered _ _ _ _ c.ok.ensures.value (name_searched c.args.names.now c.args.name.now c.binary_search_by.result c.requires c.binary_search_by.ensures.bound
    (c.binary_search_by.ensures.position (λ x. text_cmp x c.args.name.now) (always_returns_same _ _ _ (λ a r f' k. search rules)))) in
    record { found = both.0; none = both.1 }
