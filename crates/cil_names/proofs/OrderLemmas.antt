-- Orders by several fields: two values that tie are one.
use Rattle.std.proofs.Common.{◌≡◌}
use Rattle.std.specs.Cmp.{IsTotalOrder}
use Rattle.std.specs.declared.cmp.Ordering.TheVariants.{Equal}
use Rattle.std.proofs.lemmas.Cmp.{then_total, on_total, nat_cmp_total, nat_list_cmp_total}
use Rattle.std.proofs.lemmas.Map.Lookups.{exact_bytes}
use Rattle.cil_base.specs.Paths.{both_equal, same_by}
use Rattle.cil_names.specs.Entries.{Key, by_name_cmp}
use Rattle.cil_names.specs.Soles.{RankedName, ranked_cmp}

pub key_total : IsTotalOrder by_name_cmp
key_total =
    then_total (then_total (on_total (λ (k : Key). k.name) nat_list_cmp_total) (on_total (λ (k : Key). k.rank) nat_cmp_total)) (on_total (λ (k : Key). k.space) nat_cmp_total)

same_key : (a b : Key) → a.space ≡ b.space → a.name ≡ b.name → a.rank ≡ b.rank → a ≡ b
same_key a b p q r = λ i. record { space = p i; name = q i; rank = r i }

pub one_key : (a b : Key) → by_name_cmp a b ≡ Equal → a ≡ b
one_key a b e =
    let (front, last) = both_equal _ _ e in
    let (first, second) = both_equal _ _ front in
    same_key a b (same_by _ _ last) (exact_bytes _ _ first) (same_by _ _ second)

pub ranked_total : IsTotalOrder ranked_cmp
ranked_total = then_total (on_total (λ (k : RankedName). k.name) nat_list_cmp_total) (on_total (λ (k : RankedName). k.rank) nat_cmp_total)

same_ranked : (a b : RankedName) → a.name ≡ b.name → a.rank ≡ b.rank → a ≡ b
same_ranked a b p q = λ i. record { name = p i; rank = q i }

pub one_ranked : (a b : RankedName) → ranked_cmp a b ≡ Equal → a ≡ b
one_ranked a b e = let (first, last) = both_equal _ _ e in same_ranked a b (exact_bytes _ _ first) (same_by _ _ last)
