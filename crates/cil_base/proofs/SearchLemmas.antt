-- Search by halving in a rising list: what std's search answers, for any key of the items and any total order of the
-- keys.
use Rattle.std.proofs.Common.{◌≡◌, ℕ, zero, suc, ◌<◌, ◌≤◌, List, [], ◌∷◌, length, get_or, refl, sym, ◌∙◌, ap, subst, inl, inr, arith}
use Rattle.std.specs.Prelude.{Option, Some, IfSome, IfNone, Result, Ok, Err, MatchOption, MatchResult, slice_get}
use Rattle.std.specs.Result.{result_ok}
use Rattle.std.specs.declared.cmp.Ordering.{Ordering}
use Rattle.std.specs.declared.cmp.Ordering.TheVariants.{Less, Equal, Greater}
use Rattle.std.specs.Ordering.{on, ordering_index}
use Rattle.std.specs.Cmp.{IsTotalOrder}
use Rattle.std.specs.List.Sorted.{IsBinarySearchResult, IsNonDecreasingBy, IsPartitionPoint, IsSearchInRange, IsStrictlySortedBy}
use Rattle.std.proofs.lemmas.Bool.{cases_lt}
use Rattle.std.proofs.lemmas.List.Elements.{Contains-get_or}
use Rattle.std.proofs.lemmas.Option.{slice_get_within, slice_get-get_or, get_or_from_slice_get}
use Rattle.cil_base.specs.Lists.{all_at, not_below_itself}
use Rattle.cil_base.specs.Paths.{its_own}
use Rattle.cil_base.specs.Found.{IsFound, IsMissing}

module _ {X : Type 0} where
  -- one item comes before each of those with greater numbers
  pub rising_at : (order : X → X → Ordering) (xs : List X) (i j : ℕ) (d : X) → IsStrictlySortedBy order xs → i < j → j < length xs
      → order (get_or xs i d) (get_or xs j d) ≡ Less
  unfolding IsStrictlySortedBy
  rising_at order [] i j d up less within = absurd (omega (arith, within))
  rising_at order (x ∷ xs) i zero d up less within = absurd (omega arith)
  rising_at order (x ∷ xs) zero (suc j) d up less within =
      all_at (λ y. order x y ≡ Less) xs (get_or xs j d) up.0 (Contains-get_or xs j d (omega arith))
  rising_at order (x ∷ xs) (suc i) (suc j) d up less within = rising_at order xs i j d up.1 (omega arith) (omega arith)

module _ {X K : Type 0} (key : X → K) (order : K → K → Ordering) (total : IsTotalOrder order) (exact : (a b : K) → order a b ≡ Equal → a ≡ b) where
  -- the item of an earlier number is not above where the later one is not
  pair_rises : (a b k : K) (o p : Ordering) → order a k ≡ o → order b k ≡ p → order a b ≡ Less → ordering_index o ≤ ordering_index p
  pair_rises a b k Less p e f less = omega arith
  pair_rises a b k Equal Equal e f less = omega arith
  pair_rises a b k Equal Greater e f less = omega arith
  pair_rises a b k Greater Greater e f less = omega arith
  pair_rises a b k Equal Less e f less = let below = total.trans a b k less f in absurd (cc (below, e))
  pair_rises a b k Greater Less e f less = let below = total.trans a b k less f in absurd (cc (below, e))
  pair_rises a b k Greater Equal e f less = let below = ap (order a) (sym (exact b k f)) ∙ less in absurd (cc (below, e))

  answers_rise : (xs : List X) (k : K) → IsStrictlySortedBy (on key order) xs → IsNonDecreasingBy (λ x. ordering_index (order (key x) k)) xs
  answers_rise xs k up i j d le within =
      elim (cases_lt i j) [
        | inl less ↦ pair_rises (key (get_or xs i d)) (key (get_or xs j d)) k _ _ refl refl (rising_at (on key order) xs i j d up less within)
        | inr ge ↦ let same : i ≡ j = omega arith in rw same (omega arith)
      ]

  -- two numbers whose items have one key are one
  pub one_number : (xs : List X) (m n : ℕ) (x y : X) → IsStrictlySortedBy (on key order) xs → slice_get xs m ≡ Some x → slice_get xs n ≡ Some y
      → key x ≡ key y → m ≡ n
  one_number xs m n x y up e f same =
      let at_m : get_or xs m x ≡ x = get_or_from_slice_get xs m x x e in
      let at_n : get_or xs n x ≡ y = get_or_from_slice_get xs n y x f in
      elim (cases_lt m n) [
        | inl less ↦ let below = rising_at (on key order) xs m n x up less (slice_get_within xs n y f) in
            absurd (not_below_itself order total (key y) (ap (λ w. order w (key y)) (sym same ∙ ap key (sym at_m)) ∙ ap (order (key (get_or xs m x))) (ap key (sym at_n)) ∙ below))
        | inr ge ↦ elim (cases_lt n m) [
          | inl less ↦ let below = rising_at (on key order) xs n m x up less (slice_get_within xs m x e) in
              absurd (not_below_itself order total (key x) (ap (λ w. order w (key x)) (same ∙ ap key (sym at_n)) ∙ ap (order (key (get_or xs n x))) (ap key (sym at_m)) ∙ below))
          | inr le ↦ omega arith
        ]
      ]

  found : (xs : List X) (k : K) (n : ℕ) (d : X) → IsStrictlySortedBy (on key order) xs → n < length xs
      → order (key (get_or xs n d)) k ≡ Equal → IsFound key xs k n
  found xs k n d up within e = record {
    item = get_or xs n d;
    at = slice_get-get_or xs n d within;
    has_key = exact _ _ e;
    only = λ m x is has. one_number xs m n x (get_or xs n d) up is (slice_get-get_or xs n d within) (has ∙ sym (exact _ _ e));
  }

  missing : (xs : List X) (k : K) (n : ℕ) → IsPartitionPoint (λ x. order (key x) k ≡ Less) (λ x. order (key x) k ≡ Greater) xs n → IsMissing key xs k
  missing xs k n point m x at has =
      let within : m < length xs = slice_get_within xs m x at in
      let is : get_or xs m x ≡ x = get_or_from_slice_get xs m x x at in
      let tie : order (key x) k ≡ Equal = ap (λ w. order w k) has ∙ its_own (order k k) (total.antisymm k k) in
      elim (cases_lt m n) [
        | inl less ↦ let below = point.0 m x (omega arith) less in absurd (cc (below, is, tie))
        | inr ge ↦ let above = point.1 m x ge within in absurd (cc (above, is, tie))
      ]

  -- what a search answers in a rising list
  pub searched : (xs : List X) (k : K) (r : Result ℕ ℕ) → IsStrictlySortedBy (on key order) xs → IsSearchInRange r (length xs)
      → IsBinarySearchResult (λ x. order (key x) k) xs r → MatchResult r (IsFound key xs k) (λ _. IsMissing key xs k)
  searched [] k (Ok n) up range result = absurd (omega (arith, range))
  searched (x ∷ xs) k (Ok n) up range result = found (x ∷ xs) k n x up range (result x)
  searched xs k (Err n) up range result = missing xs k n (result (answers_rise xs k up))

-- a search whose number alone is asked
pub answered : (P : ℕ → Type 0) (Q : Type 0) (r : Result ℕ ℕ) (o : Option ℕ) → o ≡ result_ok r → MatchResult r P (λ _. Q) → IfSome o P × IfNone o Q
answered P Q (Ok n) o e is = rw e (is, tt)
answered P Q (Err n) o e is = rw e (tt, is)

pub of_ok : (P : ℕ → Type 0) (Q : Type 0) (r : Result ℕ ℕ) (n : ℕ) → r ≡ Ok n → MatchResult r P (λ _. Q) → P n
of_ok P Q r n e m = subst (λ r. MatchResult r P (λ _. Q)) e m

pub of_err : (P : ℕ → Type 0) (Q : Type 0) (r : Result ℕ ℕ) (n : ℕ) → r ≡ Err n → MatchResult r P (λ _. Q) → Q
of_err P Q r n e m = subst (λ r. MatchResult r P (λ _. Q)) e m

pub answered_by : (P : ℕ → Type 0) (Q : Type 0) (r : Result ℕ ℕ) (o : Option ℕ) → o ≡ result_ok r → MatchResult r P (λ _. Q) → MatchOption o Q P
answered_by P Q (Ok n) o e is = rw e is
answered_by P Q (Err n) o e is = rw e is
