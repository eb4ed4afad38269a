-- The records of some statements, with those of one statement more.
use Rattle.std.specs.Prelude.{Some}
use Rattle.std.proofs.Common.{◌≡◌, ℕ, ◌+◌, ◌≤◌, List, [], ◌∷◌, ◌++◌, length, take, sym, subst, inl, inr}
use Rattle.std.proofs.lemmas.List.{take_all}
use Rattle.std.proofs.lemmas.List.Elements.{Contains-append_left, Contains-append_right, Contains-append_cases}
use Rattle.cil_base.specs.Lists.{contains_here, contains_cases, contains_none}
use Rattle.cil_base.specs.Records.{AreRecordsOf, IsRecordOf}

module _ {X K Y : Type 0} (asked : X → K → Type 0) (gives : K → Y → Type 0) where
  pub no_records : AreRecordsOf asked gives [] []
  no_records = record {
    each = λ x k c a. absurd (contains_none x c);
    only = λ y c. absurd (contains_none y c);
  }

  without : (xs : List X) (x : X) (ys : List Y) → AreRecordsOf asked gives xs ys → ((k : K) → asked x k → ⊥) → AreRecordsOf asked gives (xs ++ x ∷ []) ys
  without xs x ys r none = record {
    each = λ z k c a. elim (Contains-append_cases xs (x ∷ []) z c) [
      | inl d ↦ r.each z k d a
      | inr d ↦ elim (contains_cases z x [] d) [
        | inl e ↦ absurd (none k (subst (λ w. asked w k) (sym e) a))
        | inr n ↦ absurd (contains_none z n)
      ]
    ];
    only = λ y c. let o = r.only y c in (o.0, o.1, Contains-append_left xs (x ∷ []) o.0 o.2, o.3, o.4);
  }

  with : (xs : List X) (x : X) (ys : List Y) (y : Y) → AreRecordsOf asked gives xs ys → IsRecordOf asked gives x (Some y)
      → AreRecordsOf asked gives (xs ++ x ∷ []) (ys ++ y ∷ [])
  with xs x ys y r is = record {
    each = λ z k c a. elim (Contains-append_cases xs (x ∷ []) z c) [
      | inl d ↦ let s = r.each z k d a in (s.0, s.1, Contains-append_left ys (y ∷ []) s.0 s.2)
      | inr d ↦ elim (contains_cases z x [] d) [
        | inl e ↦ (y, is.1 k (subst (λ w. asked w k) (sym e) a), Contains-append_right ys (y ∷ []) y (contains_here y []))
        | inr n ↦ absurd (contains_none z n)
      ]
    ];
    only = λ v c. elim (Contains-append_cases ys (y ∷ []) v c) [
      | inl d ↦ let o = r.only v d in (o.0, o.1, Contains-append_left xs (x ∷ []) o.0 o.2, o.3, o.4)
      | inr d ↦ elim (contains_cases v y [] d) [
        | inl e ↦ (x, is.0.0, Contains-append_right xs (x ∷ []) x (contains_here x []), is.0.1, subst (gives is.0.0) e (is.1 is.0.0 is.0.1))
        | inr n ↦ absurd (contains_none v n)
      ]
    ];
  }

  module _ (xs : List X) (i : ℕ) (x : X) (taken : take (i + 1) xs ≡ take i xs ++ x ∷ []) (old : List Y) (so_far : AreRecordsOf asked gives (take i xs) old) where
    -- a statement without a case has no record
    pub none_more : ((k : K) → asked x k → ⊥) → AreRecordsOf asked gives (take (i + 1) xs) old
    none_more none = subst (λ zs. AreRecordsOf asked gives zs old) (sym taken) (without (take i xs) x old so_far none)

    -- another has one
    pub record_more : (y : Y) (new : List Y) → IsRecordOf asked gives x (Some y) → new ≡ old ++ y ∷ [] → AreRecordsOf asked gives (take (i + 1) xs) new
    record_more y new one push =
        subst (AreRecordsOf asked gives (take (i + 1) xs)) (sym push)
        (subst (λ zs. AreRecordsOf asked gives zs (old ++ y ∷ [])) (sym taken) (with (take i xs) x old y so_far one))

  pub all_records : (xs : List X) (i : ℕ) (ys : List Y) → AreRecordsOf asked gives (take i xs) ys → length xs ≤ i → AreRecordsOf asked gives xs ys
  all_records xs i ys r over = subst (λ zs. AreRecordsOf asked gives zs ys) (take_all i xs over) r
