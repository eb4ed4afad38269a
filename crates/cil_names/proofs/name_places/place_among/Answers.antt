use Rattle.std.proofs.Common.{rules}
use Rattle.std.proofs.lemmas.Fn.{always_returns_same}
use Rattle.std.proofs.lemmas.Cmp.{nat_list_cmp_total}
use Rattle.std.proofs.lemmas.Map.Lookups.{exact_bytes}
use Rattle.cil_base.specs.Lists.{text_cmp}
use Rattle.cil_names.proofs.NamePlaceLemmas.{place_found}
use Rattle.cil_base.proofs.SearchLemmas.{answered_by, searched}
use Rattle.cil_names.proofs.name_places.place_among.Goals as goal

pub returns : goal.returns
returns c =
    place_found c.args.names.now c.args.name.now c.ok.result
    (answered_by _ _ _ _ c.ok.ensures.value (searched (λ x. x) text_cmp nat_list_cmp_total exact_bytes c.args.names.now c.args.name.now c.binary_search_by.result c.requires c.binary_search_by.ensures.bound
    (c.binary_search_by.ensures.position (λ x. text_cmp x c.args.name.now) (always_returns_same _ _ _ (λ a r f' k. search rules)))))
