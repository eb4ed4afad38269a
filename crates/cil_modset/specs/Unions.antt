-- The laws of union.
use Rattle.std.specs.Prelude.{◌≡◌, ℕ, List, Contains}
use Rattle.std.proofs.Common.{inl, inr}
use Rattle.std.specs.Cmp.Lexicographic.{nat_list_cmp_total}
use Rattle.cil_base.specs.Lists.{text_cmp, same_members}
use Rattle.cil_modset.specs.Modules.{IsUnion, IsRising}

same_union : (xs ys : List (List ℕ)) → IsRising xs → IsRising ys → ((t : List ℕ) → Contains xs t → Contains ys t)
    → ((t : List ℕ) → Contains ys t → Contains xs t) → xs ≡ ys
same_union = same_members text_cmp nat_list_cmp_total

-- two sets have one union, in whichever order they are taken
pub union_commutes : (a b c d : List (List ℕ)) → IsUnion a b c → IsUnion b a d → c ≡ d
union_commutes a b c d p q =
    same_union c d p.rising q.rising
    (λ t h. (q.members t).1 (elim ((p.members t).0 h) [ inl x ↦ inr x | inr y ↦ inl y ]))
    (λ t h. (p.members t).1 (elim ((q.members t).0 h) [ inl x ↦ inr x | inr y ↦ inl y ]))

-- two sets have one union
pub union_one : (a b c d : List (List ℕ)) → IsUnion a b c → IsUnion a b d → c ≡ d
union_one a b c d p q =
    same_union c d p.rising q.rising (λ t h. (q.members t).1 ((p.members t).0 h)) (λ t h. (p.members t).1 ((q.members t).0 h))

-- three sets have one union, whichever two come first
pub union_associates : (a b c ab bc left right : List (List ℕ)) → IsUnion a b ab → IsUnion ab c left → IsUnion b c bc
    → IsUnion a bc right → left ≡ right
union_associates a b c ab bc left right p q r s =
    same_union left right q.rising s.rising
    (λ t h. (s.members t).1 (elim ((q.members t).0 h) [
      | inl x ↦ elim ((p.members t).0 x) [ inl y ↦ inl y | inr y ↦ inr ((r.members t).1 (inl y)) ]
      | inr x ↦ inr ((r.members t).1 (inr x))
    ]))
    (λ t h. (q.members t).1 (elim ((s.members t).0 h) [
      | inl x ↦ inl ((p.members t).1 (inl x))
      | inr x ↦ elim ((r.members t).0 x) [ inl y ↦ inl ((p.members t).1 (inr y)) | inr y ↦ inr y ]
    ]))

-- the union of a set with itself is that set
pub union_with_itself : (a b : List (List ℕ)) → IsUnion a a b → b ≡ a
union_with_itself a b p =
    same_union b a p.rising p.first (λ t h. elim ((p.members t).0 h) [ inl x ↦ x | inr x ↦ x ]) (λ t h. (p.members t).1 (inl h))
