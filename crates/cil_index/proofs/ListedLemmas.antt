-- The rule at a place of the table, by its record.
use Rattle.std.specs.Prelude.{Some, map, slice_get}
use Rattle.std.proofs.Common.{◌≡◌, ℕ, ◌<◌, List, length, get_or, sym, ◌∙◌, ap, arith}
use Rattle.std.proofs.lemmas.List.{get_or-map, get_or_default, length-map}
use Rattle.cil_base.proofs.AtPlace.{made_at}
use Rattle.cil_rules.specs.conditions.Branch.{Branch}
use Rattle.cil_rules.specs.Kept.{branch_named}
use Rattle.cil_rules.specs.Rule.{Rule}
use Rattle.cil_index.specs.declared.listed.ListedRule.{ListedRule}
use Rattle.cil_index.specs.declared.record.Record.{Record}
use Rattle.cil_index.specs.Kept.{rule_of, target_at}
use Rattle.cil_index.specs.Layout.{IsOrder, in_order, no_record}
use Rattle.cil_index.specs.Listed.{branch_listed, members_of, rule_listed, target_listed}
use Rattle.cil_index.specs.Sets.{set_of}
use Rattle.cil_index.proofs.LayoutLemmas.{order_long}

module _ (f : Record → Rule) (records : List Record) (order : List ℕ) (place : ℕ) (within : place < length (map f (in_order records order))) where
  -- the order has this place too
  pub in_the_order : place < length order
  in_the_order = let long = order_long f records order in omega (arith, within, long)

  module _ (is : IsOrder records order) (at : ℕ) (here : at ≡ get_or order place at) where
    pub record_within : at < length records
    record_within = is.within at (place, in_the_order, sym here)

    -- what is made of the record there is the rule at the place
    pub rule_is : (r : Record) → r ≡ get_or records at r → slice_get (map f (in_order records order)) place ≡ Some (f r)
    rule_is r there =
        let inside = in_the_order in
        let long = length-map order (λ n. get_or records n no_record) in
        let read : get_or (in_order records order) place r ≡ get_or records at no_record =
        get_or-map (λ n. get_or records n no_record) order place at r inside ∙ ap (λ n. get_or records n no_record) (sym here) in
        made_at f (in_order records order) place r (omega (arith, inside, long)) (there ∙ get_or_default records at r no_record record_within ∙ sym read)

-- what is handed up stands for what its record keeps
pub same_rule : (branches : List Branch) (sets : List (List ℕ)) (r : Record) (listed : ListedRule) → branch_listed listed.branch ≡ branch_named branches r.branch
    → members_of listed.source ≡ set_of sets r.source → target_listed listed.target ≡ target_at sets r.target → listed.class ≡ r.class → listed.mask ≡ r.mask
    → rule_of branches sets r ≡ rule_listed listed
same_rule branches sets r listed branch source target class_ mask =
    sym (λ i. record { branch = branch i; source = source i; target = target i; class = class_ i; mask = mask i })
