-- Names, and the places for which they stand.
use Rattle.std.specs.Prelude.{◌≡◌, ℕ, ◌<◌, List, All, Some, slice_get}
use Rattle.std.specs.List.Sorted.{IsStrictlySortedBy}
use Rattle.std.proofs.Common.{get_or, sym, ◌∙◌, ap, subst, arith}
use Rattle.std.proofs.lemmas.Cmp.{nat_list_cmp_total}
use Rattle.std.proofs.lemmas.List.Elements.{All-get_or}
use Rattle.std.proofs.lemmas.Map.Lookups.{exact_bytes}
use Rattle.cil_base.specs.Lists.{text_cmp}
use Rattle.cil_base.specs.Places.{get_at, get_contains, get_so}
use Rattle.cil_mls.specs.declared.named.Named.{Named}
use Rattle.cil_base.specs.Found.{IsFound, IsMissing}
use Rattle.cil_mls.specs.Names.{IsNamed, name_of, named_cmp}
use Rattle.cil_base.proofs.SearchLemmas.{one_number}

-- where no item of the list has the name, it stands for nothing
pub none_named : (names : List Named) (text : List ℕ) → IsMissing name_of names text → (n : ℕ) → IsNamed names text n → ⊥
none_named names text none n is = let p = get_at names is.row is.is_row in none p.0 is.row p.2 is.named

-- a name that is found stands for the place beside it
pub is_named : (names : List Named) (text : List ℕ) (k : ℕ) (d : Named) → IsFound name_of names text k → IsNamed names text (get_or names k d).place
is_named names text k d f = record { row = f.item; is_row = get_contains names k f.item f.at; named = f.has_key; placed = ap (λ x. x.place) (sym (get_so names k f.item d f.at)) }

-- a name stands for one place
pub named_once : (names : List Named) → IsStrictlySortedBy named_cmp names → (text : List ℕ) (n m : ℕ) → IsNamed names text n → IsNamed names text m → n ≡ m
named_once names up text n m a b =
    let p = get_at names a.row a.is_row in
    let q = get_at names b.row b.is_row in
    let k : p.0 ≡ q.0 = one_number name_of text_cmp nat_list_cmp_total exact_bytes names p.0 q.0 a.row b.row up p.2 q.2 (a.named ∙ sym b.named) in
    let same : Some a.row ≡ Some b.row = sym p.2 ∙ ap (slice_get names) k ∙ q.2 in
    let row : a.row ≡ b.row = cc in
    sym a.placed ∙ ap (λ x. x.place) row ∙ b.placed

-- it is below the count
pub named_within : (names : List Named) (most : ℕ) → All (λ (x : Named). x.place < most) names → (text : List ℕ) (n : ℕ) → IsNamed names text n → n < most
named_within names most few text n a =
    let p = get_at names a.row a.is_row in
    let l = All-get_or (λ (x : Named). x.place < most) names p.0 a.row p.1 few in
    let row = get_so names p.0 a.row a.row p.2 in
    let e = a.placed in
    let m : a.row.place < most = subst (λ (x : Named). x.place < most) row l in
    omega (arith, m, e)
