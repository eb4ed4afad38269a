-- Of items of which no two are equal in an order, those with some property have a sorted list.
use Rattle.std.specs.Prelude.{◌≡◌, ◌⊎◌, List, [], ◌∷◌, Contains}
use Rattle.std.specs.declared.cmp.Ordering.{Ordering}
use Rattle.std.specs.declared.cmp.Ordering.TheVariants.{Less, Equal, Greater}
use Rattle.std.specs.Ordering.{ordering_reverse}
use Rattle.std.specs.Cmp.{IsTotalOrder}
use Rattle.std.specs.List.Sorted.{IsStrictlySortedBy}
use Rattle.std.proofs.Common.{refl, sym, ap, subst, ◌∙◌, inl, inr}
use Rattle.cil_base.specs.Decided.{Decided}
use Rattle.cil_base.specs.Lists.{Lists, all_at, contains_cases, contains_here, contains_later, contains_none}
use Rattle.cil_base.specs.Rising.{all_from}

module _ {X : Type 0} (order : X → X → Ordering) (total : IsTotalOrder order) where
  place : Ordering → X → X → List X → List X → List X
  place Less r s ss rest = r ∷ s ∷ ss
  place Equal r s ss rest = s ∷ rest
  place Greater r s ss rest = s ∷ rest

  insert : X → List X → List X
  insert r [] = r ∷ []
  insert r (s ∷ ss) = place (order r s) r s ss (insert r ss)

  placed_has : (o : Ordering) (r s x : X) (ss rest : List X) → (Contains rest x → (r ≡ x) ⊎ Contains ss x) → Contains (place o r s ss rest) x → (r ≡ x) ⊎ Contains (s ∷ ss) x
  unfolding place
  placed_has Less r s x ss rest on c = contains_cases x r (s ∷ ss) c
  placed_has Equal r s x ss rest on c = elim (contains_cases x s rest c) [
    | inl e ↦ inr (subst (Contains (s ∷ ss)) e (contains_here s ss))
    | inr d ↦ elim (on d) [ inl e ↦ inl e | inr b ↦ inr (contains_later x s ss b) ]
  ]
  placed_has Greater r s x ss rest on c = elim (contains_cases x s rest c) [
    | inl e ↦ inr (subst (Contains (s ∷ ss)) e (contains_here s ss))
    | inr d ↦ elim (on d) [ inl e ↦ inl e | inr b ↦ inr (contains_later x s ss b) ]
  ]

  insert_has : (r x : X) (ss : List X) → Contains (insert r ss) x → (r ≡ x) ⊎ Contains ss x
  unfolding insert
  insert_has r x [] c = contains_cases x r [] c
  insert_has r x (s ∷ ss) c = placed_has (order r s) r s x ss (insert r ss) (insert_has r x ss) c

  placed_keeps : (o : Ordering) (r s x : X) (ss rest : List X) → (Contains ss x → Contains rest x) → Contains (s ∷ ss) x → Contains (place o r s ss rest) x
  unfolding place
  placed_keeps Less r s x ss rest on c = contains_later x r (s ∷ ss) c
  placed_keeps Equal r s x ss rest on c = elim (contains_cases x s ss c) [ inl e ↦ subst (Contains (s ∷ rest)) e (contains_here s rest) | inr d ↦ contains_later x s rest (on d) ]
  placed_keeps Greater r s x ss rest on c = elim (contains_cases x s ss c) [ inl e ↦ subst (Contains (s ∷ rest)) e (contains_here s rest) | inr d ↦ contains_later x s rest (on d) ]

  insert_keeps : (r x : X) (ss : List X) → Contains ss x → Contains (insert r ss) x
  unfolding insert
  insert_keeps r x [] c = absurd (contains_none x c)
  insert_keeps r x (s ∷ ss) c = placed_keeps (order r s) r s x ss (insert r ss) (insert_keeps r x ss) c

  placed_own : (o : Ordering) (r s : X) (ss rest : List X) → Contains rest r → Contains (place o r s ss rest) r
  unfolding place
  placed_own Less r s ss rest c = contains_here r (s ∷ ss)
  placed_own Equal r s ss rest c = contains_later r s rest c
  placed_own Greater r s ss rest c = contains_later r s rest c

  insert_own : (r : X) (ss : List X) → Contains (insert r ss) r
  unfolding insert
  insert_own r [] = contains_here r []
  insert_own r (s ∷ ss) = placed_own (order r s) r s ss (insert r ss) (insert_own r ss)

  placed_rises : (o : Ordering) (r s : X) (ss : List X) → order r s ≡ o → (o ≡ Equal → ⊥) → IsStrictlySortedBy order (s ∷ ss) → IsStrictlySortedBy order (insert r ss)
      → IsStrictlySortedBy order (place o r s ss (insert r ss))
  unfolding place IsStrictlySortedBy
  placed_rises Less r s ss e differ up rest = ((e, all_from (λ z. order r z ≡ Less) ss (λ z c. total.trans r s z e (all_at (λ z. order s z ≡ Less) ss z up.0 c))), up)
  placed_rises Equal r s ss e differ up rest = absurd (differ refl)
  placed_rises Greater r s ss e differ up rest =
      let below : order s r ≡ Less = total.antisymm s r ∙ ap ordering_reverse e in (
        all_from (λ z. order s z ≡ Less) (insert r ss) (λ z c. elim (insert_has r z ss c) [
          | inl same ↦ subst (λ z. order s z ≡ Less) same below
          | inr d ↦ all_at (λ z. order s z ≡ Less) ss z up.0 d
        ]),
        rest,
      )

  insert_rises : (r : X) (ss : List X) → IsStrictlySortedBy order ss → ((s : X) → Contains ss s → order r s ≡ Equal → ⊥) → IsStrictlySortedBy order (insert r ss)
  unfolding insert IsStrictlySortedBy
  insert_rises r [] up differ = (tt, tt)
  insert_rises r (s ∷ ss) up differ =
      placed_rises (order r s) r s ss refl (differ s (contains_here s ss)) up (insert_rises r ss up.1 (λ z c. differ z (contains_later z s ss c)))

  -- no two are equal
  abbrev pub NoneEqual : List X → Type 0
  NoneEqual [] = Unit {0}
  NoneEqual (r ∷ rs) = ((s : X) → Contains rs s → order r s ≡ Equal → ⊥) × NoneEqual rs

  module _ (P : X → Type 0) (decided : (x : X) → Decided (P x)) where
    abbrev Those : List X → X → Type 0
    Those rs x = Contains rs x × P x

    pub sorted_those : (rs : List X) → NoneEqual rs → (ss : List X) × Lists order (Those rs) ss
    unfolding IsStrictlySortedBy
    sorted_those [] apart = ([], record { rising = tt; members = λ x. ((λ c. absurd (contains_none x c)), (λ c. absurd (contains_none x c.0))) })
    sorted_those (r ∷ rs) apart =
        let (ss, is) = sorted_those rs apart.1 in
        elim (decided r) [
          | inl has ↦ (
            insert r ss,
            record {
              rising = insert_rises r ss is.rising (λ s c. apart.0 s ((is.members s).0 c).0);
              members = λ x. (
                (λ c. elim (insert_has r x ss c) [
                  | inl e ↦ (subst (Contains (r ∷ rs)) e (contains_here r rs), subst P e has)
                  | inr d ↦ let m = (is.members x).0 d in (contains_later x r rs m.0, m.1)
                ]),
                (λ m. elim (contains_cases x r rs m.0) [
                  | inl e ↦ subst (Contains (insert r ss)) e (insert_own r ss)
                  | inr d ↦ insert_keeps r x ss ((is.members x).1 (d, m.1))
                ]),
              );
            },
          )
          | inr not_it ↦ (
            ss,
            record {
              rising = is.rising;
              members = λ x. (
                (λ c. let m = (is.members x).0 c in (contains_later x r rs m.0, m.1)),
                (λ m. elim (contains_cases x r rs m.0) [
                  | inl e ↦ absurd (not_it (subst P (sym e) m.1))
                  | inr d ↦ (is.members x).1 (d, m.1)
                ]),
              );
            },
          )
        ]
