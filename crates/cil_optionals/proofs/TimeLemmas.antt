-- The times that a check works out say when each optional and each declared name is there.
use Rattle.std.specs.Prelude.{Some, slice_get, not, map, take, set, get_or, length, ltb, max, ◌==◌, ◌<◌, ◌≤◌, ◌⊎◌, ◌↔◌, cond}
use Rattle.std.specs.List.{list_any}
use Rattle.std.proofs.Common.{◌≡◌, ℕ, zero, suc, ◌+◌, Bool, true, false, ◌&&◌, ◌||◌, ◌++◌, List, [], ◌∷◌, refl, sym, subst, ap, ◌∙◌, arith, inl, inr}
use Rattle.std.proofs.Math.Seq.{take-length}
use Rattle.std.proofs.lemmas.Bool.{lt-ltb, le-ltb, ltb-true, ltb-false}
use Rattle.std.proofs.lemmas.Bool.Decides.{nat_tests}
use Rattle.std.proofs.lemmas.List.{get_or-set_same, get_or-set_other, length-set, take_more}
use Rattle.std.proofs.lemmas.List.Folds.{list_any-append}
use Rattle.std.proofs.lemmas.Option.{slice_get_within, get_or_from_slice_get}
use Rattle.cil_base.specs.Among.{among, equal_number}
use Rattle.cil_names.specs.declared.entry.Entry.{Entry}
use Rattle.cil_names.specs.Entries.{is_declared_at, is_in}
use Rattle.cil_optionals.specs.declared.reason.Reason.{Reason}
use Rattle.cil_optionals.specs.Certificate.{left_out}
use Rattle.cil_optionals.specs.Parts.{IsShown, Part, is_optional_part, is_step, is_well, left_after, names_one}
use Rattle.cil_optionals.specs.Times.{AreEntryTimes, AreSteps, AreTimes, AreTimesUpTo, AreWell, IsEnabledAfter, after, names_after, noted}
use Rattle.cil_optionals.proofs.ShownLemmas.{pushed}

-- ---- numbers

and_yes : (b : Bool) → b ≡ (b && true)
and_yes true = refl
and_yes false = refl

and_no : (b : Bool) → (b && false) ≡ false
and_no true = refl
and_no false = refl

-- a time that was noted is behind a step that was done before
before_noted : (c : Bool) (k t time : ℕ) → (c ≡ true → k < t) → k < time → ltb k (cond c time t) ≡ ltb k t
before_noted true k t time f l = lt-ltb k time l ∙ sym (lt-ltb k t (f refl))
before_noted false k t time f l = refl

stays : (k t len : ℕ) → k < len → (k < t → t ≡ suc len) → ltb (k + 1) t ≡ ltb k t
stays k t len l kept = by (ltb k t) refl where
  by : (b : Bool) → ltb k t ≡ b → ltb (k + 1) t ≡ b
  by true e = let m = ltb-true k t e in let n = kept m in lt-ltb (k + 1) t (omega (arith, l, m, n))
  by false e = let m = ltb-false k t e in le-ltb (k + 1) t (omega (arith, m))

not_later : (k t len : ℕ) → (t == suc len) ≡ false → (k < t → t ≡ suc len) → t ≤ k + 1
not_later k t len e kept = by (ltb k t) refl where
  by : (b : Bool) → ltb k t ≡ b → t ≤ k + 1
  by true g =
      let m = kept (ltb-true k t g) in
      absurd (let same : (t == suc len) ≡ true = grind (arith, nat_tests) in let f : true ≡ false = sym same ∙ e in cc)
  by false g = let m = ltb-false k t g in omega (arith, m)

-- after the step at which q is taken out
at_noted : (a b : Bool) (k tq t len : ℕ) → k < len → (a ≡ true → tq ≡ t) → (tq == suc len) ≡ b → (k < t → t ≡ suc len)
    → ltb (k + 1) (cond (a && b) (k + 1) t) ≡ (ltb k t && not a)
at_noted true true k tq t len l same test kept = le-ltb (k + 1) (k + 1) (omega arith) ∙ sym (and_no (ltb k t))
at_noted true false k tq t len l same test kept =
    le-ltb (k + 1) t (not_later k t len (subst (λ z. (z == suc len) ≡ false) (same refl) test) kept) ∙ sym (and_no (ltb k t))
at_noted false b k tq t len l same test kept = stays k t len l kept ∙ and_yes (ltb k t)

kept_noted : (c : Bool) (k t len : ℕ) → (k < t → t ≡ suc len) → k + 1 < cond c (k + 1) t → cond c (k + 1) t ≡ suc len
kept_noted true k t len kept l = absurd (omega (arith, l))
kept_noted false k t len kept l = kept (omega (arith, l))

-- ---- at the start

is_optional_first : (ps : List Part) (top o : ℕ) → 0 < top → ltb 0 (get_or (map (λ (p : Part). cond p.optional top 0) ps) o 0) ≡ is_optional_part ps o
is_optional_first [] top o l = le-ltb 0 0 (omega arith)
is_optional_first (p ∷ ps) top zero l = by p.optional where
  by : (b : Bool) → ltb 0 (cond b top 0) ≡ b
  by true = lt-ltb 0 top l
  by false = le-ltb 0 0 (omega arith)
is_optional_first (p ∷ ps) top (suc o) l = is_optional_first ps top o l

start_kept : (ps : List Part) (top o : ℕ) → 0 < get_or (map (λ (p : Part). cond p.optional top 0) ps) o 0 → get_or (map (λ (p : Part). cond p.optional top 0) ps) o 0 ≡ top
start_kept [] top o l = absurd (omega (arith, l))
start_kept (p ∷ ps) top zero l = by p.optional l where
  by : (b : Bool) → 0 < cond b top 0 → cond b top 0 ≡ top
  by true l = refl
  by false l = absurd (omega (arith, l))
start_kept (p ∷ ps) top (suc o) l = start_kept ps top o l

length_made : (top : ℕ) (ps : List Part) → length (map (λ (p : Part). cond p.optional top 0) ps) ≡ length ps
length_made top [] = refl
length_made top (p ∷ ps) = ap suc (length_made top ps)

pub start_times : (ps : List Part) (rs : List Reason) (times : List ℕ) → times ≡ map (λ (p : Part). cond p.optional (length rs + 1) 0) ps → AreTimesUpTo ps rs 0 times
start_times ps rs times e = subst (AreTimesUpTo ps rs 0) (sym e) (record {
  each = λ k o l.
      let none : k ≡ 0 = omega (arith, l) in
      subst (λ z. after (map (λ (p : Part). cond p.optional (length rs + 1) 0) ps) z o ≡ left_after ps (take z rs) o) (sym none)
      (is_optional_first ps (length rs + 1) o (omega arith) ∙ and_yes (is_optional_part ps o));
  kept = λ o l. let h = start_kept ps (length rs + 1) o l in omega (arith, h);
  len = length_made (length rs + 1) ps;
})

-- ---- one step more

pub there_within : (times : List ℕ) (q : ℕ) → 0 < get_or times q 0 → q < length times
there_within [] q l = absurd (omega (arith, l))
there_within (t ∷ ts) zero l = omega arith
there_within (t ∷ ts) (suc q) l = let h = there_within ts q l in omega (arith, h)

noted_at : (times : List ℕ) (q time top o : ℕ) → 0 < top → get_or (noted q time top times) o 0 ≡ cond ((q == o) && (get_or times q 0 == top)) time (get_or times o 0)
noted_at times q time top o l = by (get_or times q 0 == top) (q == o) refl refl where
  other : (q == o) ≡ false → o ≡ q → ⊥
  other e same = let f : (q == o) ≡ true = grind (arith, nat_tests) in let g : true ≡ false = sym f ∙ e in absurd (cc)

  by : (b a : Bool) → (get_or times q 0 == top) ≡ b → (q == o) ≡ a → get_or (cond b (set times q time) times) o 0 ≡ cond (a && b) time (get_or times o 0)
  by false true e f = refl
  by false false e f = refl
  by true true e f =
      let is = equal_number (get_or times q 0) top e in
      subst (λ z. get_or (set times q time) z 0 ≡ time) (equal_number q o f) (get_or-set_same times q time 0 (there_within times q (omega (arith, l, is))))
  by true false e f = get_or-set_other times q o time 0 (other f)

and_out : (a x y : Bool) → ((a && not x) && not y) ≡ (a && not (y || x))
and_out true true true = refl
and_out true true false = refl
and_out true false true = refl
and_out true false false = refl
and_out false x y = refl

-- what one step more takes out
pub left_more : (ps : List Part) (rs : List Reason) (k o : ℕ) (r : Reason) → slice_get rs k ≡ Some r → left_after ps (take (k + 1) rs) o ≡ (left_after ps (take k rs) o && not (left_out r == o))
left_more ps rs k o r e =
    let within = slice_get_within rs k r e in
    let whole : take (k + 1) rs ≡ take k rs ++ r ∷ [] = take_more rs k r within ∙ ap (λ z. take k rs ++ z ∷ []) (get_or_from_slice_get rs k r r e) in
    ap (λ l. left_after ps l o) whole ∙ ap (λ b. is_optional_part ps o && not b) (pushed (take k rs) r o)
    ∙ sym (and_out (is_optional_part ps o) (among (map left_out (take k rs)) o) (left_out r == o))

two_cases : (j k : ℕ) → j ≤ k + 1 → (j ≤ k) ⊎ (k + 1 ≡ j)
two_cases j k l = grind arith

true_part : (a b : Bool) → (a && b) ≡ true → (a ≡ true) × (b ≡ true)
true_part true b h = (refl, h)
true_part false b h = absurd (let e : false ≡ true = h in cc)

noted_len : (times : List ℕ) (q time top : ℕ) → length (noted q time top times) ≡ length times
noted_len times q time top = by (get_or times q 0 == top) where
  by : (b : Bool) → length (cond b (set times q time) times) ≡ length times
  by true = length-set times q time
  by false = refl

pub times_more : (ps : List Part) (rs : List Reason) (k q : ℕ) (r : Reason) (times more : List ℕ) → slice_get rs k ≡ Some r → q ≡ left_out r
    → AreTimesUpTo ps rs k times → more ≡ noted q (k + 1) (length rs + 1) times → AreTimesUpTo ps rs (k + 1) more
times_more ps rs k q r times more e named old is =
    let top = suc (length rs) in
    let one : length rs + 1 ≡ top = omega arith in
    let within = slice_get_within rs k r e in
    let at : (o : ℕ) → get_or more o 0 ≡ cond ((left_out r == o) && (get_or times (left_out r) 0 == top)) (k + 1) (get_or times o 0) =
    λ o. ap (λ l. get_or l o 0) (is ∙ (λ i. noted (named i) (k + 1) (one i) times)) ∙ noted_at times (left_out r) (k + 1) top o (omega arith) in record {
      each = λ j o l. elim (two_cases j k l) [
        | inl m ↦
            ap (ltb j) (at o)
            ∙ before_noted ((left_out r == o) && (get_or times (left_out r) 0 == top)) j (get_or times o 0) (k + 1)
            (λ both.
            let parts = true_part (left_out r == o) (get_or times (left_out r) 0 == top) both in
            let same : left_out r ≡ o = equal_number (left_out r) o parts.0 in
            let last : get_or times (left_out r) 0 ≡ top = equal_number (get_or times (left_out r) 0) top parts.1 in
            let here : get_or times o 0 ≡ top = subst (λ z. get_or times z 0 ≡ top) same last in omega (arith, here, within, m))
            (omega (arith, m))
            ∙ old.each j o m
        | inr same ↦
            subst (λ z. after more z o ≡ left_after ps (take z rs) o) same
            (ap (ltb (k + 1)) (at o)
            ∙ at_noted (left_out r == o) (get_or times (left_out r) 0 == top) k (get_or times (left_out r) 0) (get_or times o 0) (length rs) within
            (λ f. ap (λ z. get_or times z 0) (equal_number (left_out r) o f)) refl (old.kept o)
            ∙ ap (λ b. b && not (left_out r == o)) (old.each k o (omega arith)) ∙ sym (left_more ps rs k o r e))
      ];
      kept = λ o l.
          at o ∙ kept_noted ((left_out r == o) && (get_or times (left_out r) 0 == top)) k (get_or times o 0) (length rs) (old.kept o) (subst (λ z. k + 1 < z) (at o) l);
      len = ap length is ∙ noted_len times q (k + 1) (length rs + 1) ∙ old.len;
    }

-- ---- entries

latest_of : (k a b : ℕ) → ltb k (max a b) ≡ (ltb k a || ltb k b)
latest_of k a b = grind (arith, nat_tests)

or_nothing : (b : Bool) → (b || false) ≡ b
or_nothing true = refl
or_nothing false = refl

pub latest_more : {X : Type 0} (p : X → Bool) (xs : List X) (x : X) (i k most one later : ℕ) → i < length xs → x ≡ get_or xs i x
    → ltb k most ≡ list_any p (take i xs) → ltb k one ≡ p x → later ≡ max most one → ltb k later ≡ list_any p (take (i + 1) xs)
latest_more p xs x i k most one later within is old new e =
    ap (ltb k) e ∙ latest_of k most one ∙ (λ j. old j || new j) ∙ ap (λ b. list_any p (take i xs) || b) (sym (or_nothing (p x)))
    ∙ sym (list_any-append p (take i xs) (x ∷ [])) ∙ ap (λ z. list_any p (take i xs ++ z ∷ [])) is ∙ ap (list_any p) (sym (take_more xs i x within))

-- ---- what the times show

module _ (ps : List Part) (es : List Entry) (rs : List Reason) (times entry_times : List ℕ) (are : AreTimes ps rs times) (entries : AreEntryTimes es times (length rs + 1) entry_times) where
  pub after_is : (k : ℕ) → k ≤ length rs → after times k ≡ left_after ps (take k rs)
  after_is k l = λ i o. are k o l i

  pub names_are : (k : ℕ) → k ≤ length rs → names_after entry_times k ≡ names_one es (left_after ps (take k rs))
  names_are k l =
      let one : after entry_times k ≡ is_declared_at (after times k) es = λ i d. entries k d (omega (arith, l)) i in
      (λ i ds. list_any (one i) ds) ∙ ap (names_one es) (after_is k l)

  whole : (length rs ≤ length rs) × (take (length rs) rs ≡ rs)
  whole = (omega arith, take-length rs)

  end_is : after times (length rs) ≡ left_after ps rs
  end_is = after_is (length rs) whole.0 ∙ ap (left_after ps) whole.1

  names_at_end : names_after entry_times (length rs) ≡ names_one es (left_after ps rs)
  names_at_end = names_are (length rs) whole.0 ∙ ap (λ l. names_one es (left_after ps l)) whole.1

  pub checked_shown : (flags : List Bool) → AreSteps ps times entry_times rs → IsEnabledAfter times (length rs) flags → AreWell ps times entry_times (length rs) → IsShown ps es (is_in flags) rs
  checked_shown flags steps enabled well = record {
    steps = λ k r e.
        let within = slice_get_within rs k r e in
        let l : k ≤ length rs = omega (arith, within) in
        (λ i. is_step ps (sym (after_is k l) i) (sym (names_are k l) i) r) ∙ steps k r e;
    left = λ o. enabled o ∙ ap (λ s. s o) end_is;
    well = λ at p e. (λ i. is_well (sym end_is i) (sym names_at_end i) at p) ∙ well at p e;
  }

  pub shown_checked : (flags : List Bool) → IsShown ps es (is_in flags) rs → AreSteps ps times entry_times rs × IsEnabledAfter times (length rs) flags × AreWell ps times entry_times (length rs)
  shown_checked flags shown = (
    λ k r e.
        let within = slice_get_within rs k r e in
        let l : k ≤ length rs = omega (arith, within) in
        (λ i. is_step ps (after_is k l i) (names_are k l i) r) ∙ shown.steps k r e,
    λ o. shown.left o ∙ ap (λ s. s o) (sym end_is),
    λ at p e. (λ i. is_well (end_is i) (names_at_end i) at p) ∙ shown.well at p e,
  )

-- what a check answers
pub decided : (ps : List Part) (es : List Entry) (rs reasons : List Reason) (times t u entry_times e : List ℕ) (flags : List Bool) (Answer : Type 0)
    → reasons ≡ rs → t ≡ times → u ≡ times → e ≡ entry_times
    → AreTimes ps reasons times → AreEntryTimes es t (length reasons + 1) entry_times
    → (Answer ↔ (AreSteps ps u e reasons × IsEnabledAfter u (length reasons) flags × AreWell ps u e (length reasons)))
    → (Answer ↔ IsShown ps es (is_in flags) rs)
decided ps es rs reasons times t u entry_times e flags Answer same t_is u_is e_is are entries answer =
    let all : AreEntryTimes es times (length reasons + 1) entry_times = subst (λ z. AreEntryTimes es z (length reasons + 1) entry_times) t_is entries in
    let by : Answer ↔ (AreSteps ps times entry_times reasons × IsEnabledAfter times (length reasons) flags × AreWell ps times entry_times (length reasons)) =
    subst (λ z. Answer ↔ (AreSteps ps times z reasons × IsEnabledAfter times (length reasons) flags × AreWell ps times z (length reasons))) e_is
    (subst (λ z. Answer ↔ (AreSteps ps z e reasons × IsEnabledAfter z (length reasons) flags × AreWell ps z e (length reasons))) u_is answer) in
    subst (λ z. Answer ↔ IsShown ps es (is_in flags) z) same (
      λ a. let h = by.0 a in checked_shown ps es reasons times entry_times are all flags h.0 h.1 h.2,
      λ shown. by.1 (shown_checked ps es reasons times entry_times are all flags shown),
    )

-- ---- loops

-- what is so of each place before one and of that one
pub so_far : {X : Type 0} (P : ℕ → X → Type 0) (xs : List X) (n : ℕ) (x : X) → ((k : ℕ) (y : X) → k < n → slice_get xs k ≡ Some y → P k y) → slice_get xs n ≡ Some x → P n x
    → (k : ℕ) (y : X) → k < n + 1 → slice_get xs k ≡ Some y → P k y
so_far P xs n x old e new k y l there = elim (last_or_before k n l) [
  | inl m ↦ old k y m there
  | inr same ↦ subst (λ z. P z y) same (subst (P n) (one_item x y (sym e ∙ subst (λ z. slice_get xs z ≡ Some y) (sym same) there)) new)
]
  where
    one_item : {X : Type 0} (a b : X) → Some a ≡ Some b → a ≡ b
    one_item a b e = cc

    last_or_before : (k n : ℕ) → k < n + 1 → (k < n) ⊎ (n ≡ k)
    last_or_before k n l = grind arith
