use Rattle.std.proofs.Common.{rules}
use Rattle.std.proofs.lemmas.Fn.{always_returns_same}
use Rattle.cil_names.specs.Entries.{Key, by_name_cmp, key_of}
use Rattle.cil_names.proofs.OrderLemmas.{one_key, key_total}
use Rattle.cil_base.proofs.SearchLemmas.{answered_by, searched}
use Rattle.cil_names.proofs.by_name.place_of.Goals as goal

pub returns : goal.returns
returns c =
    let k : Key = record { space = c.args.space; name = c.args.name.now; rank = c.args.rank } in
    answered_by _ _ _ _ c.ok.ensures.value (searched key_of by_name_cmp key_total one_key c.args.entries.now k c.binary_search_by.result c.requires c.binary_search_by.ensures.bound
    (c.binary_search_by.ensures.position (λ e. by_name_cmp (key_of e) k) (always_returns_same _ _ _ (λ a r f' k. search rules))))
