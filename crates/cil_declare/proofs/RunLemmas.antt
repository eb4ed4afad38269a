-- Sorted rows, parted into runs of one key.
use Rattle.std.specs.Prelude.{Contains, not}
use Rattle.std.proofs.Common.{◌≡◌, ℕ, zero, suc, ◌+◌, ◌<◌, ◌≤◌, Bool, true, false, is_lt, List, [], ◌∷◌, ◌++◌, length, take, drop, get_or, refl, sym, ◌∙◌, ap, subst, inl, inr, arith, append_assoc}
use Rattle.std.specs.declared.cmp.Ordering.{Ordering}
use Rattle.std.specs.declared.cmp.Ordering.TheVariants.{Less, Equal, Greater}
use Rattle.std.specs.Cmp.{IsStrictWeakOrder}
use Rattle.std.specs.List.{AllByRecursion, flat_map}
use Rattle.std.specs.List.Sorted.{IsPartitionedBy, IsPartitionPoint, IsSortedByKey, IsStrictlySortedBy}
use Rattle.std.specs.Ordering.{on, ordering_reverse}
use Rattle.std.proofs.lemmas.Bool.{false≢true, not-true, not-false, true≢false}
use Rattle.std.proofs.lemmas.List.{append-nil, drop_all, drop-drop, get_or-drop, length-drop, length-take-le, take-append-drop, take_all, take_more}
use Rattle.std.proofs.lemmas.List.Concat.{flat_map-append, flat_map-cons}
use Rattle.std.proofs.lemmas.List.Elements.{Contains-append_left, Contains-append_right, Contains-append_cases}
use Rattle.std.proofs.lemmas.List.Sorted.{ranks_by, sorted_far}
use Rattle.cil_base.specs.Lists.{contains_here, contains_later, contains_cases, contains_none}
use Rattle.cil_base.specs.Places.{in_drop, in_take}
use Rattle.cil_declare.specs.declared.row.Row.{Row}
use Rattle.cil_declare.specs.declared.run.Run.{Run}
use Rattle.cil_macros.specs.Items.{Kept}
use Rattle.cil_declare.specs.Rows.{AreAlike, declaration_of, row_key}
use Rattle.cil_declare.specs.Runs.{AreRuns, IsNextRun, IsRun, rows_in, run_key}
use Rattle.cil_names.specs.Entries.{Key, by_name_cmp}
use Rattle.cil_names.proofs.OrderLemmas.{key_total, one_key}

-- ---- the first items of a list, and the others

first_of_take : {X : Type 0} (n : ℕ) (xs : List X) (x : X) → 0 < n → 0 < length xs → x ≡ get_or xs 0 x → Contains (take n xs) x
first_of_take zero xs x some within is = absurd (omega (arith, some))
first_of_take (suc n) [] x some within is = absurd (omega (arith, within))
first_of_take (suc n) (y ∷ ys) x some within is = subst (Contains (y ∷ take n ys)) (sym is) (contains_here y (take n ys))

-- ---- keys

pub weak : IsStrictWeakOrder (λ (x y : Row). is_lt (by_name_cmp (row_key x) (row_key y)))
weak = ranks_by key_total row_key

pub equal_keys : (a b : Key) → is_lt (by_name_cmp a b) ≡ false → is_lt (by_name_cmp b a) ≡ false → b ≡ a
equal_keys a b = by _ refl
  where
    by : (o : Ordering) → by_name_cmp a b ≡ o → is_lt (by_name_cmp a b) ≡ false → is_lt (by_name_cmp b a) ≡ false → b ≡ a
    by Less e p q = absurd (true≢false (sym (ap is_lt e) ∙ p))
    by Equal e p q = sym (one_key a b e)
    by Greater e p q = absurd (true≢false (sym (ap is_lt (key_total.antisymm b a ∙ ap ordering_reverse e)) ∙ q))

less_of : (o : Ordering) → is_lt o ≡ true → o ≡ Less
less_of Less e = refl
less_of Equal e = absurd (false≢true e)
less_of Greater e = absurd (false≢true e)

never_below : (k : Key) → is_lt (by_name_cmp k k) ≡ true → ⊥
never_below k e =
    let l = less_of (by_name_cmp k k) e in
    let turned : Less ≡ ordering_reverse Less = sym l ∙ key_total.antisymm k k ∙ ap ordering_reverse l in cc

-- ---- the rows with the key of the first

-- the row does not stand behind those of the key
abbrev pub is_upto : Row → Row → Bool
is_upto first r = not (is_lt (by_name_cmp (row_key first) (row_key r)))

module _ (first : Row) (rest : List Row) (sorted : IsSortedByKey row_key by_name_cmp rest) where
  far : (i j : ℕ) (d : Row) → i ≤ j → j < length rest → is_lt (by_name_cmp (row_key (get_or rest j d)) (row_key (get_or rest i d))) ≡ false
  far = sorted_far (λ x y. is_lt (by_name_cmp (row_key x) (row_key y))) weak rest sorted

  pub parted : IsPartitionedBy (is_upto first) rest
  parted i j d a b h =
      ap not (weak.chain first (get_or rest j d) (get_or rest i d) (not-true (is_lt (by_name_cmp (row_key first) (row_key (get_or rest j d)))) h) (far i j d a b))

  module _ (n : ℕ) (bound : n ≤ length rest) (some : 0 < length rest) (is_first : first ≡ get_or rest 0 first)
      (point : IsPartitionPoint (λ r. is_upto first r ≡ true) (λ r. is_upto first r ≡ false) rest n) where
    at_least_one : (m : ℕ) → m ≡ n → 0 < m
    at_least_one (suc m) e = omega arith
    at_least_one zero e =
        absurd (never_below (row_key first)
        (not-false (is_lt (by_name_cmp (row_key first) (row_key first)))
        (subst (λ r. is_upto first r ≡ false) (sym is_first) (point.1 0 first (omega (arith, e)) some))))

    pub first_within : Contains (take n rest) first
    first_within = first_of_take n rest first (at_least_one n refl) some is_first

    pub same_keys : (r : Row) → Contains (take n rest) r → row_key r ≡ row_key first
    same_keys r c =
        equal_keys (row_key first) (row_key r)
        (not-true (is_lt (by_name_cmp (row_key first) (row_key r))) (in_take (λ x. is_upto first x ≡ true) n rest (λ k d a b. point.0 k d (omega arith) a) r c))
        (in_take (λ x. is_lt (by_name_cmp (row_key x) (row_key first)) ≡ false) n rest
        (λ k d a b. subst (λ x. is_lt (by_name_cmp (row_key (get_or rest k d)) (row_key x)) ≡ false) (first_is d) (far 0 k d (omega arith) b)) r c)
      where
        first_is : (d : Row) → get_or rest 0 d ≡ first
        first_is d = in_front rest d some ∙ sym is_first
          where
            in_front : (xs : List Row) (d : Row) → 0 < length xs → get_or xs 0 d ≡ get_or xs 0 first
            in_front [] d h = absurd (omega (arith, h))
            in_front (x ∷ xs) d h = refl

    pub keys_above : (r : Row) → Contains (drop n rest) r → by_name_cmp (row_key first) (row_key r) ≡ Less
    keys_above r c =
        less_of (by_name_cmp (row_key first) (row_key r))
        (not-false (is_lt (by_name_cmp (row_key first) (row_key r))) (in_drop (λ x. is_upto first x ≡ false) n rest (λ k d a b. point.1 k d a b) r c))

-- what is left of sorted rows is sorted
pub sorted_left : (n : ℕ) (xs : List Row) → IsSortedByKey row_key by_name_cmp xs → IsSortedByKey row_key by_name_cmp (drop n xs)
sorted_left n xs sorted k d low within =
    let len = length-drop n xs in
    ap is_lt (λ i. by_name_cmp (row_key (get_or-drop n xs (k + 1) d i)) (row_key (get_or-drop n xs k d i)))
    ∙ subst (λ m. is_lt (by_name_cmp (row_key (get_or xs m d)) (row_key (get_or xs (n + k) d))) ≡ false) (let e : (n + k) + 1 ≡ n + (k + 1) = omega arith in e)
    (sorted (n + k) d (omega arith) (omega (arith, within, len)))

-- ---- the run at a place

module _ (rows : List Row) (start n : ℕ) (rest : List Row) (is_rest : rest ≡ drop start rows) where
  next_start : n ≤ length rest → drop (start + length (take n rest)) rows ≡ drop n rest
  next_start bound =
      ap (λ k. drop (start + k) rows) (length-take-le n rest bound) ∙ sym (ap (drop n) is_rest ∙ drop-drop n start rows)

  pub next_parted : n ≤ length rest → drop start rows ≡ take n rest ++ drop (start + length (take n rest)) rows
  next_parted bound = sym is_rest ∙ sym (take-append-drop n rest) ∙ ap (λ z. take n rest ++ z) (sym (next_start bound))

  pub next_above : (first : Row) → n ≤ length rest → ((r : Row) → Contains (drop n rest) r → by_name_cmp (row_key first) (row_key r) ≡ Less)
      → (r : Row) → Contains (drop (start + length (take n rest)) rows) r → by_name_cmp (row_key first) (row_key r) ≡ Less
  next_above first bound above r c = above r (subst (λ z. Contains z r) (next_start bound) c)

  pub row_within : (r : Row) → Contains (take n rest) r → Contains rows r
  row_within r c =
      subst (λ z. Contains z r) (take-append-drop start rows)
      (Contains-append_right (take start rows) (drop start rows) r
      (subst (λ z. Contains z r) is_rest
      (subst (λ z. Contains z r) (take-append-drop n rest) (Contains-append_left (take n rest) (drop n rest) r c))))

pub some_within : {X : Type 0} (xs : List X) (x : X) → Contains xs x → 0 < length xs
some_within xs x (k, h, e) = omega (arith, h)

-- ---- runs, one after another

all_push : {X : Type 0} (P : X → Type 0) (xs : List X) (x : X) → AllByRecursion P xs → P x → AllByRecursion P (xs ++ x ∷ [])
all_push P [] x all h = (h, tt)
all_push P (y ∷ ys) x all h = (all.0, all_push P ys x all.1 h)

rising_push : {X : Type 0} (order : X → X → Ordering) (xs : List X) (x : X) → IsStrictlySortedBy order xs → ((y : X) → Contains xs y → order y x ≡ Less)
    → IsStrictlySortedBy order (xs ++ x ∷ [])
unfolding IsStrictlySortedBy
rising_push order [] x up above = (tt, tt)
rising_push order (y ∷ ys) x up above =
    (all_push (λ z. order y z ≡ Less) ys x up.0 (above y (contains_here y ys)), rising_push order ys x up.1 (λ z c. above z (contains_later z y ys c)))

-- the runs of the rows before a place
pub record AreRunsUpTo (i : Kept) (rows : List Row) (runs : List Run) (start : ℕ) : Type 0 where
  pub whole : flat_map rows_in runs ++ drop start rows ≡ rows
  pub rising : IsStrictlySortedBy (on run_key by_name_cmp) runs
  pub below : (run : Run) → Contains runs run → (r : Row) → Contains (drop start rows) r → by_name_cmp (run_key run) (row_key r) ≡ Less
  pub each : (run : Run) → Contains runs run → IsRun i run

pub no_runs : (i : Kept) (rows : List Row) → AreRunsUpTo i rows [] 0
unfolding IsStrictlySortedBy
no_runs i rows = record { whole = refl; rising = tt; below = λ run c r d. absurd (contains_none run c); each = λ run c. absurd (contains_none run c) }

module _ (i : Kept) (rows : List Row) where
  pub next_run : (runs more : List Run) (run : Run) (start : ℕ) → IsNextRun i rows start run → AreRunsUpTo i rows runs start → more ≡ runs ++ run ∷ []
      → AreRunsUpTo i rows more (start + length run.rows.now)
  next_run runs more run start next up e =
      let one = next.is_run in
      subst (λ z. AreRunsUpTo i rows z (start + length run.rows.now)) (sym e) (record {
        whole =
            ap (λ z. z ++ drop (start + length run.rows.now) rows) (flat_map-append rows_in runs (run ∷ []) ∙ ap (λ z. flat_map rows_in runs ++ z) (flat_map-cons rows_in run [] ∙ append-nil (rows_in run)))
            ∙ append_assoc (flat_map rows_in runs) (rows_in run) (drop (start + length run.rows.now) rows)
            ∙ ap (λ z. flat_map rows_in runs ++ z) (sym next.parted)
            ∙ up.whole;
        rising = rising_push (on run_key by_name_cmp) runs run up.rising
            (λ r c. up.below r c run.first.now (subst (λ z. Contains z run.first.now) (sym next.parted)
            (Contains-append_left run.rows.now (drop (start + length run.rows.now) rows) run.first.now one.first)));
        below = λ r c x d. elim (Contains-append_cases runs (run ∷ []) r c) [
          | inl old ↦ up.below r old x (subst (λ z. Contains z x) (sym next.parted) (Contains-append_right run.rows.now (drop (start + length run.rows.now) rows) x d))
          | inr new ↦ elim (contains_cases r run [] new) [
            | inl is ↦ subst (λ z. by_name_cmp (run_key z) (row_key x) ≡ Less) is (next.above x d)
            | inr none ↦ absurd (contains_none r none)
          ]
        ];
        each = λ r c. elim (Contains-append_cases runs (run ∷ []) r c) [
          | inl old ↦ up.each r old
          | inr new ↦ elim (contains_cases r run [] new) [ inl is ↦ subst (IsRun i) is one | inr none ↦ absurd (contains_none r none) ]
        ];
      })

  pub last_run : (runs : List Run) (start : ℕ) → length rows ≤ start → AreRunsUpTo i rows runs start → AreRuns i rows runs
  last_run runs start over up = record {
    whole = sym (append-nil (flat_map rows_in runs)) ∙ ap (λ z. flat_map rows_in runs ++ z) (sym (drop_all start rows over)) ∙ up.whole;
    rising = up.rising;
    each = up.each;
  }

-- ---- rows that differ from the first

module _ (i : Kept) (first : Row) where
  abbrev pub AllAlike : List Row → Type 0
  AllAlike rows = (r : Row) → Contains rows r → AreAlike (declaration_of i first) (declaration_of i r)

  pub none_alike : (rows : List Row) → AllAlike (take 0 rows)
  none_alike [] r c = absurd (contains_none r c)
  none_alike (x ∷ xs) r c = absurd (contains_none r c)

  pub more_alike : (rows : List Row) (n : ℕ) (x : Row) → n < length rows → x ≡ get_or rows n x → AllAlike (take n rows) → AreAlike (declaration_of i first) (declaration_of i x)
      → AllAlike (take (n + 1) rows)
  more_alike rows n x within is all same r c =
      elim (Contains-append_cases (take n rows) (x ∷ []) r (subst (λ z. Contains z r) (take_more rows n x within ∙ ap (λ y. take n rows ++ y ∷ []) (sym is)) c)) [
        | inl old ↦ all r old
        | inr new ↦ elim (contains_cases r x [] new) [
          | inl e ↦ subst (λ y. AreAlike (declaration_of i first) (declaration_of i y)) e same
          | inr none ↦ absurd (contains_none r none)
        ]
      ]

  pub all_alike : (rows : List Row) (n : ℕ) → length rows ≤ n → AllAlike (take n rows) → AllAlike rows
  all_alike rows n over all = subst AllAlike (take_all n rows over) all
