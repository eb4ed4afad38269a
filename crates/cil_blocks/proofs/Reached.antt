-- A set that is its own queue: it begins with one, and each in turn puts in what it opens. At the end it has exactly what is
-- reached. One file for every such loop.
use Rattle.std.proofs.Common.{◌≡◌, ◌⊎◌, ℕ, ◌+◌, ◌<◌, ◌≤◌, Bool, true, false, if◌then◌else◌, List, [], ◌∷◌, ◌++◌, length, get_or, take, refl, sym, ◌∙◌, ap, subst, inl, inr, arith, append_assoc}
use Rattle.std.specs.Prelude.{◌&&◌, Contains, Option, Some, None, slice_get}
use Rattle.std.specs.Option.{option_eq}
use Rattle.std.specs.List.{list_any}
use Rattle.std.proofs.Math.Dec.{eqb}
use Rattle.std.proofs.lemmas.Bool.{eqb-true, and_parts}
use Rattle.std.proofs.lemmas.List.{append-nil, length-append, take_more, take_all}
use Rattle.std.proofs.lemmas.List.Elements.{Contains-append_left, Contains-append_right, Contains-append_cases}
use Rattle.indexmap.specs.IndexSet.{insert_key}
use Rattle.indexmap.proofs.CallerLemmas.{Contains-list_any}
use Rattle.cil_base.specs.Lists.{contains_here, contains_none}
use Rattle.cil_blocks.specs.Doubled.{AreThose}
use Rattle.cil_blocks.specs.Seeds.{IsJoined, IsReachedBy, Pair, at_start, further}
use Rattle.cil_blocks.proofs.Kept.{grown, in_one, no_members}
use Rattle.cil_base.specs.Places.{get_at, get_contains, get_in_front, in_range, some_same}

-- ---- equality of bodies and of pairs, as the code tests it

pub same_body : (a b : Option ℕ) → option_eq eqb a b ≡ true → a ≡ b
same_body None None e = refl
same_body None (Some y) e = absurd (let f : false ≡ true = e in cc)
same_body (Some x) None e = absurd (let f : false ≡ true = e in cc)
same_body (Some x) (Some y) e = ap Some (eqb-true x y e)

abbrev pub pair_eq : Pair → Pair → Bool
pair_eq p q = option_eq eqb p.0 q.0 && option_eq eqb p.1 q.1

pub same_pair : (p q : Pair) → pair_eq p q ≡ true → p ≡ q
same_pair p q e =
    let b = and_parts (option_eq eqb p.0 q.0) (option_eq eqb p.1 q.1) e in
    let x = same_body p.0 q.0 b.0 in
    let y = same_body p.1 q.1 b.1 in
    λ i. (x i, y i)

pub same_those : {X : Type 0} (xs ys : List X) → xs ≡ ys → AreThose (Contains ys) xs
same_those xs ys e x = ((λ c. subst (λ zs. Contains zs x) e c), (λ c. subst (λ zs. Contains zs x) (sym e) c))

pub those_over : {X : Type 0} (P : X → Type 0) (xs ys : List X) → xs ≡ ys → AreThose P ys → AreThose P xs
those_over P xs ys e so = subst (λ zs. AreThose P zs) (sym e) so

-- ---- what is put in

module _ {X : Type 0} (eq : X → X → Bool) (same : (x y : X) → eq x y ≡ true → x ≡ y) where
  pub none_joined : (old : List X) → IsJoined [] old old
  none_joined old = record { behind = []; is = sym (append-nil old); kept = λ x c. c; all = λ x c. absurd (contains_none x c) }

  joined_by : (b : Bool) (v : X) (more old cur new : List X) → list_any (eq v) cur ≡ b → IsJoined more old cur → new ≡ (if b then cur else cur ++ v ∷ [])
      → IsJoined (more ++ v ∷ []) old new
  joined_by true v more old cur new has j e = record {
    behind = j.behind;
    is = e ∙ j.is;
    kept = λ x c. Contains-append_left more (v ∷ []) x (j.kept x c);
    all = λ x c. subst (λ ys. Contains ys x) (sym e) (elim (Contains-append_cases more (v ∷ []) x c) [
      | inl d ↦ j.all x d
      | inr d ↦ subst (Contains cur) (sym (in_one x v d)) (Contains-list_any eq same cur v has)
    ]);
  }
  joined_by false v more old cur new has j e = record {
    behind = j.behind ++ v ∷ [];
    is = e ∙ ap (λ ys. ys ++ v ∷ []) j.is ∙ append_assoc old j.behind (v ∷ []);
    kept = λ x c. elim (Contains-append_cases j.behind (v ∷ []) x c) [
      | inl d ↦ Contains-append_left more (v ∷ []) x (j.kept x d)
      | inr d ↦ Contains-append_right more (v ∷ []) x d
    ];
    all = λ x c. subst (λ ys. Contains ys x) (sym e) (elim (Contains-append_cases more (v ∷ []) x c) [
      | inl d ↦ Contains-append_left cur (v ∷ []) x (j.all x d)
      | inr d ↦ Contains-append_right cur (v ∷ []) x d
    ]);
  }

  -- one more of a list is put in
  pub one_joined : (whole : List X) (k : ℕ) (v d : X) (old cur new : List X) → k < length whole → v ≡ get_or whole k d → IsJoined (take k whole) old cur
      → new ≡ insert_key eq cur v → IsJoined (take (k + 1) whole) old new
  one_joined whole k v d old cur new h is j e =
      subst (λ ys. IsJoined ys old new) (sym (take_more whole k d h ∙ ap (λ x. take k whole ++ x ∷ []) (sym is)))
      (joined_by (list_any (eq v) cur) v (take k whole) old cur new refl j e)

  pub all_joined : (whole : List X) (k : ℕ) (old new : List X) → length whole ≤ k → IsJoined (take k whole) old new → IsJoined whole old new
  all_joined whole k old new over j = subst (λ ys. IsJoined ys old new) (take_all k whole over) j

-- ---- the queue

up_to_last : (k n : ℕ) → k < n + 1 → (k < n) ⊎ (k ≡ n)
up_to_last k n h = grind arith

module _ {X : Type 0} (opens : X → X → Type 0) (start : X) where
  pub record AreSoFar (at : ℕ) (xs : List X) : Type 0 where
    pub reached : (x : X) → Contains xs x → IsReachedBy opens start x
    pub begun : Contains xs start
    pub opened : (k : ℕ) (x y : X) → k < at → slice_get xs k ≡ Some x → opens x y → Contains xs y
    pub within : at ≤ length xs

  pub at_first : (xs : List X) → xs ≡ start ∷ [] → AreSoFar 0 xs
  at_first xs e = record {
    reached = λ x c. subst (IsReachedBy opens start) (sym (in_one x start (subst (λ ys. Contains ys x) e c))) at_start;
    begun = subst (λ ys. Contains ys start) (sym e) (contains_here start []);
    opened = λ k x y h f o. absurd (omega (arith, h));
    within = omega arith;
  }

  pub one_opened : (at : ℕ) (xs more new : List X) (s : X) → slice_get xs at ≡ Some s → AreThose (opens s) more → IsJoined more xs new → AreSoFar at xs
      → AreSoFar (at + 1) new
  one_opened at xs more new s here are j so =
      let inside : at < length xs = in_range xs at s here in
      record {
        reached = λ x c. elim (Contains-append_cases xs j.behind x (subst (λ ys. Contains ys x) j.is c)) [
          | inl d ↦ so.reached x d
          | inr d ↦ further s x (so.reached s (get_contains xs at s here)) ((are x).0 (j.kept x d))
        ];
        begun = subst (λ ys. Contains ys start) (sym j.is) (Contains-append_left xs j.behind start so.begun);
        opened = λ k x y h f o. elim (places k at h) [
          | inl below ↦ subst (λ ys. Contains ys y) (sym j.is)
              (Contains-append_left xs j.behind y (so.opened k x y below (sym (get_in_front xs j.behind k (omega (arith, below, inside))) ∙ ap (λ ys. slice_get ys k) (sym j.is) ∙ f) o))
          | inr last ↦ let one : x ≡ s =
              some_same x s (sym f ∙ ap (λ ys. slice_get ys k) j.is ∙ get_in_front xs j.behind k (omega (arith, last, inside)) ∙ ap (slice_get xs) last ∙ here) in
              j.all y ((are y).1 (subst (λ z. opens z y) one o))
        ];
        within = let l = ap length j.is ∙ length-append xs j.behind in omega (arith, l, inside);
      } where
        places : (k n : ℕ) → k < n + 1 → (k < n) ⊎ (k ≡ n)
        places k n h = grind arith

  -- one that opens nothing but what an earlier one opens need not be opened
  pub one_skipped : (at j : ℕ) (xs : List X) (s c : X) → slice_get xs at ≡ Some s → j < at → slice_get xs j ≡ Some c → ((y : X) → opens s y → opens c y)
      → AreSoFar at xs → AreSoFar (at + 1) xs
  one_skipped at j xs s c here early there less so = record {
    reached = so.reached;
    begun = so.begun;
    opened = λ k x y h f o. elim (up_to_last k at h) [
      | inl below ↦ so.opened k x y below f o
      | inr last ↦ so.opened j c y early there
          (less y (subst (λ z. opens z y) (some_same x s (sym f ∙ ap (slice_get xs) last ∙ here)) o))
    ];
    within = let h = in_range xs at s here in omega (arith, h);
  }

  -- at the end it has exactly what is reached
  pub all_opened : (at : ℕ) (xs : List X) → length xs ≤ at → AreSoFar at xs → AreThose (IsReachedBy opens start) xs
  all_opened at xs over so x = (so.reached x, there x) where
    there : (x : X) → IsReachedBy opens start x → Contains xs x
    there x at_start = so.begun
    there x (further y z r o) = let g = get_at xs y (there y r) in let h = g.1 in so.opened g.0 y z (omega (arith, h, over)) g.2 o

  -- ---- what the pairs tell

  module _ (tells : X → ℕ → Type 0) where
    pub record IsToldBy (at : ℕ) (xs : List X) (i : ℕ) : Type 0 where
      pub place : ℕ
      pub teller : X
      pub before : place < at
      pub is_teller : slice_get xs place ≡ Some teller
      pub told : tells teller i

    pub none_told : (xs : List X) (found : List ℕ) → found ≡ [] → AreThose (IsToldBy 0 xs) found
    none_told xs found e = no_members (IsToldBy 0 xs) found e (λ x t. let h = t.before in omega (arith, h))

    pub one_told : (at : ℕ) (xs behind ys : List X) (s : X) (old more new : List ℕ) → slice_get xs at ≡ Some s → ys ≡ xs ++ behind → AreThose (tells s) more
        → AreThose (IsToldBy at xs) old → new ≡ old ++ more → AreThose (IsToldBy (at + 1) ys) new
    one_told at xs behind ys s old more new here longer are so e =
        let inside : at < length xs = in_range xs at s here in
        grown (IsToldBy at xs) (tells s) (IsToldBy (at + 1) ys) old more new so are e (λ i. (
          (λ t. earlier i t inside),
          (λ o. elim o [
            | inl t ↦ let h = t.before in record {
              place = t.place;
              teller = t.teller;
              before = omega (arith, h);
              is_teller = ap (λ zs. slice_get zs t.place) longer ∙ get_in_front xs behind t.place (omega (arith, h, inside)) ∙ t.is_teller;
              told = t.told;
            }
            | inr t ↦ record {
              place = at;
              teller = s;
              before = omega arith;
              is_teller = ap (λ zs. slice_get zs at) longer ∙ get_in_front xs behind at inside ∙ here;
              told = t;
            }
          ]),
        )) where
          places : (k n : ℕ) → k < n + 1 → (k < n) ⊎ (k ≡ n)
          places k n h = grind arith

          earlier : (i : ℕ) → IsToldBy (at + 1) ys i → at < length xs → IsToldBy at xs i ⊎ tells s i
          earlier i t inside = elim (places t.place at t.before) [
            | inl below ↦ inl (record {
              place = t.place;
              teller = t.teller;
              before = below;
              is_teller = sym (get_in_front xs behind t.place (omega (arith, below, inside))) ∙ ap (λ zs. slice_get zs t.place) (sym longer) ∙ t.is_teller;
              told = t.told;
            })
            | inr last ↦ inr (subst (λ z. tells z i)
                (some_same t.teller s (sym t.is_teller ∙ ap (λ zs. slice_get zs t.place) longer ∙ get_in_front xs behind t.place (omega (arith, last, inside)) ∙ ap (slice_get xs) last ∙ here))
                t.told)
          ]

    pub skip_told : (at j : ℕ) (xs : List X) (s c : X) (found : List ℕ) → slice_get xs at ≡ Some s → j < at → slice_get xs j ≡ Some c
        → ((i : ℕ) → tells s i → tells c i) → AreThose (IsToldBy at xs) found → AreThose (IsToldBy (at + 1) xs) found
    skip_told at j xs s c found here early there less are i = (
      (λ d. let t = (are i).0 d in let h = t.before in
          record { place = t.place; teller = t.teller; before = omega (arith, h); is_teller = t.is_teller; told = t.told }),
      (λ t. (are i).1 (elim (up_to_last t.place at t.before) [
        | inl below ↦ record { place = t.place; teller = t.teller; before = below; is_teller = t.is_teller; told = t.told }
        | inr last ↦ record {
          place = j;
          teller = c;
          before = early;
          is_teller = there;
          told = less i (subst (λ z. tells z i) (some_same t.teller s (sym t.is_teller ∙ ap (slice_get xs) last ∙ here)) t.told);
        }
      ])),
    )

    -- at the end exactly what those that are reached tell
    pub all_told : (at : ℕ) (xs : List X) (found : List ℕ) → length xs ≤ at → AreSoFar at xs → AreThose (IsToldBy at xs) found
        → AreThose (λ i. (x : X) × IsReachedBy opens start x × tells x i) found
    all_told at xs found over so are i = (
      (λ c. let t = (are i).0 c in (t.teller, so.reached t.teller (get_contains xs t.place t.teller t.is_teller), t.told)),
      (λ r. let g = get_at xs r.0 ((all_opened at xs over so r.0).1 r.1) in
          let h = g.1 in
          (are i).1 (record { place = g.0; teller = r.0; before = omega (arith, h, over); is_teller = g.2; told = r.2 })),
    )
