-- The first words of optionals that name nothing, and the first reasons.
use Rattle.std.specs.Prelude.{None, Option, Some, get_or, map, not, replicate, set, slice_get, take, ◌==◌, ◌<◌, ◌≤◌, ◌⊎◌}
use Rattle.std.specs.List.{list_all}
use Rattle.std.specs.Option.{option_map_or}
use Rattle.std.proofs.Common.{◌≡◌, ℕ, zero, suc, ◌+◌, Bool, true, false, ◌&&◌, ◌++◌, List, [], ◌∷◌, length, refl, sym, subst, ap, ◌∙◌, arith, inl, inr}
use Rattle.std.proofs.lemmas.Bool.{ltb-true, ltb-false, true≢false}
use Rattle.std.proofs.lemmas.List.{get_or-set_other, get_or-set_same}
use Rattle.std.proofs.lemmas.Option.{slice_get-get_or, slice_get_within}
use Rattle.cil_base.specs.Among.{among, equal_number}
use Rattle.cil_names.specs.declared.entry.Entry.{Entry}
use Rattle.cil_names.specs.Entries.{is_in}
use Rattle.cil_optionals.specs.declared.reason.Reason.{Reason}
use Rattle.cil_optionals.specs.declared.reason.Reason.TheVariants.{Missing, ParentOut}
use Rattle.cil_optionals.specs.Certificate.{left_out}
use Rattle.cil_optionals.specs.First.{ComesNoLater}
use Rattle.cil_optionals.specs.FirstParts.{AreFirstIn, AreFirstWords, AreTold, GoesAt, IsFirstFrom, IsFirstIn, IsFirstWord, IsTold, IsToldFor, misses}
use Rattle.cil_optionals.specs.Parts.{IsShown, Part, WordTest, asked_at, asked_of, holds_in, inside_at, inside_of, is_inside, is_optional_part, is_step, lacks, left_after, word_is_missing}
use Rattle.cil_optionals.specs.Times.{AreEntryTimes, AreSteps, AreTimes, AreWell, IsEnabledAfter, after, names_after}
use Rattle.cil_optionals.proofs.BoolLemmas.{all_at, and_left, and_of, and_right, not_true, test_of, tested}
use Rattle.cil_optionals.proofs.PartLemmas.{same_number}
use Rattle.cil_optionals.proofs.TimeLemmas.{after_is, checked_shown, left_more, names_are, shown_checked, there_within}

-- ---- words that name nothing

misses_at : (ps : List Part) (names : WordTest) (o i j : ℕ) → misses ps names o i j ≡ true → (inside_at ps i ≡ Some o) × (lacks names (asked_at ps i) j ≡ true)
misses_at ps names o i j h =
    let t = tested (word_is_missing names o j) (slice_get ps i) h in
    let q = tested (λ p. p == o) t.0.inside (and_left (is_inside o t.0.inside) (lacks names t.0.asked j) t.2) in (
      ap inside_of t.1 ∙ q.1 ∙ ap Some (equal_number q.0 o q.2),
      ap (λ z. lacks names (asked_of z) j) t.1 ∙ and_right (is_inside o t.0.inside) (lacks names t.0.asked j) t.2,
    )

misses_there : (ps : List Part) (names : WordTest) (o i j : ℕ) → inside_at ps i ≡ Some o → lacks names (asked_at ps i) j ≡ true → misses ps names o i j ≡ true
misses_there ps names o i j = by (slice_get ps i) where
  by : (z : Option Part) → inside_of z ≡ Some o → lacks names (asked_of z) j ≡ true → option_map_or (word_is_missing names o j) z false ≡ true
  by None h g = absurd (let e : None ≡ Some o = h in cc)
  by (Some p) h g = and_of (is_inside o p.inside) (lacks names p.asked j) (test_of (λ k. k == o) p.inside o h (same_number o)) g

no_lack : (names : WordTest) (asked : List (List ℕ)) (j : ℕ) → list_all names asked ≡ true → lacks names asked j ≡ true → ⊥
no_lack names asked j all h =
    let t = tested (λ ds. not (names ds)) (slice_get asked j) h in true≢false (sym (all_at names asked j t.0 all t.1) ∙ not_true (names t.0) t.2)

named_before : (names : WordTest) (asked : List (List ℕ)) (j l : ℕ) → list_all names (take j asked) ≡ true → lacks names asked l ≡ true → j ≤ l
named_before names [] j l all h = absurd (let g : false ≡ true = h in cc)
named_before names (a ∷ rest) zero l all h = omega arith
named_before names (a ∷ rest) (suc j) zero all h = absurd (true≢false (sym (and_left (names a) (list_all names (take j rest)) all) ∙ not_true (names a) h))
named_before names (a ∷ rest) (suc j) (suc l) all h =
    let m = named_before names rest j l (and_right (names a) (list_all names (take j rest)) all) h in omega (arith, m)

two_places : (n i : ℕ) → n ≤ i → (suc n ≤ i) ⊎ (n ≡ i)
two_places n i l = grind arith

one_number : (n o : ℕ) → Some n ≡ Some o → n ≡ o
one_number n o e = cc

-- ---- the first words, from a statement on

-- of one more statement, in which there is no such word of the optional
keep_from : (ps : List Part) (names : WordTest) (o at : ℕ) (r : Option Reason) → ((j : ℕ) → misses ps names o at j ≡ true → ⊥) → IsFirstFrom ps names o (suc at) r
    → IsFirstFrom ps names o at r
keep_from ps names o at None none from = λ i j l h. elim (two_places at i l) [
  | inl m ↦ from i j m h
  | inr same ↦ none j (subst (λ z. misses ps names o z j ≡ true) (sym same) h)
]
keep_from ps names o at (Some r) none from = record {
  instance = from.instance;
  word = from.word;
  told = from.told;
  lacks = from.lacks;
  first = λ i j l h. elim (two_places at i l) [
    | inl m ↦ from.first i j m h
    | inr same ↦ absurd (none j (subst (λ z. misses ps names o z j ≡ true) (sym same) h))
  ];
}

abbrev pub nothing : Option Reason
nothing = None

at_none : (n o : ℕ) → get_or (replicate n nothing) o nothing ≡ nothing
at_none zero o = refl
at_none (suc n) zero = refl
at_none (suc n) (suc o) = at_none n o

module _ (ps : List Part) (times entry_times : List ℕ) (steps : ℕ) where
  abbrev AreFrom : ℕ → List (Option Reason) → Type 0
  AreFrom n words = AreFirstWords ps times entry_times steps n words

  pub from_end : (n m : ℕ) (words : List (Option Reason)) → n ≡ length ps → words ≡ replicate m nothing → AreFrom n words
  from_end n m words e made o t goes =
      subst (IsFirstFrom ps (names_after entry_times t) o n) (sym (ap (λ l. get_or l o nothing) made ∙ at_none m o))
      (λ i j l h.
      let there = tested (word_is_missing (names_after entry_times t) o j) (slice_get ps i) h in
      let within = slice_get_within ps i there.0 there.1 in omega (arith, e, l, within))

  pub no_optional : (at : ℕ) (words : List (Option Reason)) → inside_at ps at ≡ None → AreFrom (suc at) words → AreFrom at words
  no_optional at words inside from o t goes =
      keep_from ps (names_after entry_times t) o at (get_or words o None)
      (λ j h. let m = misses_at ps (names_after entry_times t) o at j h in let e : None ≡ Some o = sym inside ∙ m.0 in absurd (cc)) (from o t goes)

  pub no_step : (at q : ℕ) (words : List (Option Reason)) → inside_at ps at ≡ Some q → ((t : ℕ) → GoesAt times steps q t → ⊥) → AreFrom (suc at) words → AreFrom at words
  no_step at q words inside stays from o t goes =
      keep_from ps (names_after entry_times t) o at (get_or words o None)
      (λ j h.
      let m = misses_at ps (names_after entry_times t) o at j h in
      stays t (subst (λ z. GoesAt times steps z t) (sym (one_number q o (sym inside ∙ m.0))) goes))
      (from o t goes)

  same_step : (o q t u : ℕ) → q ≡ o → GoesAt times steps q t → GoesAt times steps o u → u ≡ t
  same_step o q t u same goes other = let e : suc u ≡ suc t = sym other.0 ∙ ap (λ z. get_or times z 0) (sym same) ∙ goes.0 in omega (arith, e)

  pub no_word : (at q t : ℕ) (words : List (Option Reason)) → inside_at ps at ≡ Some q → GoesAt times steps q t → list_all (names_after entry_times t) (asked_at ps at) ≡ true
      → AreFrom (suc at) words → AreFrom at words
  no_word at q t words inside goes all from o u other =
      keep_from ps (names_after entry_times u) o at (get_or words o None)
      (λ j h.
      let m = misses_at ps (names_after entry_times u) o at j h in
      let same : u ≡ t = same_step o q t u (one_number q o (sym inside ∙ m.0)) goes other in
      no_lack (names_after entry_times t) (asked_at ps at) j all (subst (λ z. lacks (names_after entry_times z) (asked_at ps at) j ≡ true) same m.1))
      (from o u other)

  first_here : (at o t j : ℕ) (r : Reason) → inside_at ps at ≡ Some o → lacks (names_after entry_times t) (asked_at ps at) j ≡ true
      → list_all (names_after entry_times t) (take j (asked_at ps at)) ≡ true → r ≡ Missing o at j → IsFirstWord ps (names_after entry_times t) o at r
  first_here at o t j r inside lack before is = record {
    instance = at;
    word = j;
    told = is;
    lacks = misses_there ps (names_after entry_times t) o at j inside lack;
    first = λ i l n h. elim (two_places at i n) [
      | inl m ↦ inl m
      | inr same ↦ inr (
        same,
        named_before (names_after entry_times t) (asked_at ps at) j l before
            (subst (λ z. lacks (names_after entry_times t) (asked_at ps z) l ≡ true) (sym same) (misses_at ps (names_after entry_times t) o i l h).1),
      )
    ];
  }

  pub goes_within : (q t : ℕ) (words : List (Option Reason)) → GoesAt times steps q t → length words ≡ length times → q < length words
  goes_within q t words goes len = let time = goes.0 in let w = there_within times q (omega (arith, time)) in omega (arith, w, len)

  pub word_noted : (at q t j : ℕ) (r : Reason) (words : List (Option Reason)) → inside_at ps at ≡ Some q → GoesAt times steps q t
      → (lacks (names_after entry_times t) (asked_at ps at) j ≡ true) × (list_all (names_after entry_times t) (take j (asked_at ps at)) ≡ true) → r ≡ Missing q at j
      → q < length words → AreFrom (suc at) words → AreFrom at (set words q (Some r))
  word_noted at q t j r words inside goes first is within from o u other = by (q == o) refl where
    put : List (Option Reason)
    put = set words q (Some r)

    by : (b : Bool) → (q == o) ≡ b → IsFirstFrom ps (names_after entry_times u) o at (get_or put o None)
    by true e =
        let same : q ≡ o = equal_number q o e in
        let time : u ≡ t = same_step o q t u same goes other in
        subst (λ z. IsFirstFrom ps (names_after entry_times z) o at (get_or put o None)) (sym time)
        (subst (λ z. IsFirstFrom ps (names_after entry_times t) z at (get_or put z None)) same
        (subst (IsFirstFrom ps (names_after entry_times t) q at) (sym (get_or-set_same words q (Some r) None within))
        (first_here at q t j r inside first.0 first.1 is)))
    by false e =
        let differ : o ≡ q → ⊥ = λ same. true≢false (sym (subst (λ z. (q == z) ≡ true) (sym same) (same_number q)) ∙ e) in
        subst (IsFirstFrom ps (names_after entry_times u) o at) (sym (get_or-set_other words q o (Some r) None differ))
        (keep_from ps (names_after entry_times u) o at (get_or words o None)
        (λ l h. let m = misses_at ps (names_after entry_times u) o at l h in differ (sym (one_number q o (sym inside ∙ m.0)))) (from o u other))

  -- ---- the reason of a step

  pub parent_told : (k o : ℕ) (old : Reason) → o ≡ left_out old → holds_in ps (after times k) (names_after entry_times k) (ParentOut o) ≡ true
      → IsTold ps times entry_times steps k old (ParentOut o)
  parent_told k o old same out goes step = record {
    same = same;
    step = and_of (after times k o) (holds_in ps (after times k) (names_after entry_times k) (ParentOut o))
        (subst (λ z. after times k z ≡ true) (sym same) (and_left (after times k (left_out old)) (holds_in ps (after times k) (names_after entry_times k) old) step)) out;
    first = λ q of holds. tt;
  }

  -- the parent is in, and no word of the optional that names nothing comes before one
  before_all : (k o : ℕ) (r : Reason) → holds_in ps (after times k) (names_after entry_times k) (ParentOut o) ≡ false → left_out r ≡ o
      → ((i j : ℕ) → misses ps (names_after entry_times k) o i j ≡ true → ComesNoLater r (Missing o i j)) → IsFirstIn ps (after times k) (names_after entry_times k) r
  before_all k o r inside of first (ParentOut p) same holds =
      absurd (true≢false (sym (subst (λ z. holds_in ps (after times k) (names_after entry_times k) (ParentOut z) ≡ true) (same ∙ of) holds) ∙ inside))
  before_all k o r inside of first (Missing p i j) same holds =
      later r p (same ∙ of) (first i j (subst (λ z. misses ps (names_after entry_times k) z i j ≡ true) (same ∙ of) holds)) where
        later : (r : Reason) (p : ℕ) → p ≡ o → ComesNoLater r (Missing o i j) → ComesNoLater r (Missing p i j)
        later (ParentOut q) p e c = tt
        later (Missing q k l) p e c = c

  pub word_told : (k o : ℕ) (old r : Reason) (words : List (Option Reason)) → o ≡ left_out old → AreFrom 0 words
      → holds_in ps (after times k) (names_after entry_times k) (ParentOut o) ≡ false → get_or words o None ≡ Some r → IsTold ps times entry_times steps k old r
  word_told k o old r words same from inside there goes step =
      let w = subst (IsFirstFrom ps (names_after entry_times k) o 0) there (from o k (subst (λ z. GoesAt times steps z k) (sym same) goes)) in record {
        same = ap left_out w.told ∙ same;
        step = subst (λ z. is_step ps (after times k) (names_after entry_times k) z ≡ true) (sym w.told)
            (and_of (after times k o) (misses ps (names_after entry_times k) o w.instance w.word)
            (subst (λ z. after times k z ≡ true) (sym same) (and_left (after times k (left_out old)) (holds_in ps (after times k) (names_after entry_times k) old) step)) w.lacks);
        first = subst (IsFirstIn ps (after times k) (names_after entry_times k)) (sym w.told)
            (before_all k o (Missing o w.instance w.word) inside refl (λ i j h. w.first i j (omega arith) h));
      }

  pub none_told : (k o : ℕ) (old : Reason) (words : List (Option Reason)) → o ≡ left_out old → AreFrom 0 words
      → holds_in ps (after times k) (names_after entry_times k) (ParentOut o) ≡ false → get_or words o None ≡ None → IsTold ps times entry_times steps k old old
  none_told k o old words same from inside there goes step =
      let w = subst (IsFirstFrom ps (names_after entry_times k) o 0) there (from o k (subst (λ z. GoesAt times steps z k) (sym same) goes)) in record {
        same = refl;
        step = step;
        first = before_all k o old inside (sym same) (λ i j h. absurd (w i j (omega arith) h));
      }

  -- ---- all reasons

  pub none_so_far : (rs : List Reason) → AreTold ps times entry_times steps 0 rs []
  none_so_far rs = record {
    len = refl;
    each = λ k old r e f. absurd (let g : None ≡ Some r = f in cc);
  }

  pub one_told : (n : ℕ) (rs told : List Reason) (old r : Reason) → slice_get rs n ≡ Some old → IsTold ps times entry_times steps n old r
      → AreTold ps times entry_times steps n rs told → AreTold ps times entry_times steps (n + 1) rs (told ++ r ∷ [])
  one_told n rs told old r here new before = record {
    len = longer told ∙ ap (λ z. z + 1) before.len;
    each = λ k p q e f. last (λ k q. (p : Reason) → slice_get rs k ≡ Some p → IsTold ps times entry_times steps k p q) told r k q (λ k q f p e. before.each k p q e f)
        (λ p e. subst (λ z. IsTold ps times entry_times steps (length told) z r) (one_item (sym here ∙ subst (λ z. slice_get rs z ≡ Some p) before.len e))
        (subst (λ z. IsTold ps times entry_times steps z old r) (sym before.len) new)) f p e;
  }
    where
      one_item : {a b : Reason} → Some a ≡ Some b → a ≡ b
      one_item {a} {b} e = cc

      longer : (l : List Reason) → length (l ++ r ∷ []) ≡ length l + 1
      longer [] = refl
      longer (x ∷ l) = let h = longer l in omega (arith, h)

      last : (P : ℕ → Reason → Type 0) (l : List Reason) (x : Reason) (k : ℕ) (q : Reason) → ((k : ℕ) (q : Reason) → slice_get l k ≡ Some q → P k q) → P (length l) x
          → slice_get (l ++ x ∷ []) k ≡ Some q → P k q
      last P [] x zero q all put e = subst (P 0) (one_item e) put
      last P [] x (suc k) q all put e = absurd (let g : None ≡ Some q = e in cc)
      last P (y ∷ l) x zero q all put e = all 0 q e
      last P (y ∷ l) x (suc k) q all put e = last (λ k. P (suc k)) l x k q (λ k. all (suc k)) put e

-- ---- what the reasons of a right choice become

map_taken : {X Y : Type 0} (f : X → Y) (k : ℕ) (xs : List X) → map f (take k xs) ≡ take k (map f xs)
map_taken f zero xs = refl
map_taken f (suc k) [] = refl
map_taken f (suc k) (x ∷ xs) = ap (λ l. f x ∷ l) (map_taken f k xs)

all_same : {X Y : Type 0} (f : X → Y) (xs ys : List X) → length xs ≡ length ys → ((k : ℕ) (x y : X) → slice_get xs k ≡ Some x → slice_get ys k ≡ Some y → f x ≡ f y) → map f xs ≡ map f ys
all_same f [] [] e all = refl
all_same f [] (y ∷ ys) e all = absurd (omega (arith, e))
all_same f (x ∷ xs) [] e all = absurd (omega (arith, e))
all_same f (x ∷ xs) (y ∷ ys) e all = (λ i. all 0 x y refl refl i ∷ all_same f xs ys (let g : length xs ≡ length ys = omega (arith, e) in g) (λ k. all (suc k)) i)

gone : (a b : Bool) → b ≡ true → (a && not b) ≡ false
gone true true h = refl
gone true false h = absurd (let e : false ≡ true = h in cc)
gone false b h = refl

module _ (ps : List Part) (es : List Entry) (rs told : List Reason) (times entry_times : List ℕ) (flags : List Bool) (are : AreTimes ps rs times)
    (entries : AreEntryTimes es times (length rs + 1) entry_times) (shown : IsShown ps es (is_in flags) rs) (all : AreTold ps times entry_times (length rs) (length rs) rs told) where
  steps : AreSteps ps times entry_times rs
  steps = (shown_checked ps es rs times entry_times are entries flags shown).0

  -- the optional of a reason is taken out by it
  goes : (k : ℕ) (r : Reason) → slice_get rs k ≡ Some r → GoesAt times (length rs) (left_out r) k
  goes k r e =
      let within = slice_get_within rs k r e in
      let o = left_out r in
      let left : after times k o ≡ true = and_left (after times k o) (holds_in ps (after times k) (names_after entry_times k) r) (steps k r e) in
      let here = ltb-true k (get_or times o 0) left in
      let out : after times (k + 1) o ≡ false =
      are (k + 1) o (omega (arith, within)) ∙ left_more ps rs k o r e ∙ gone (left_after ps (take k rs) o) (o == o) (same_number o) in
      let next = ltb-false (k + 1) (get_or times o 0) out in (
        omega (arith, here, next),
        within,
      )

  told_is : (k : ℕ) (r : Reason) → slice_get told k ≡ Some r → (old : Reason) × (slice_get rs k ≡ Some old) × IsToldFor ps times entry_times k old r
  told_is k r e =
      let within = slice_get_within told k r e in
      let len = all.len in
      let old = get_or rs k r in
      let there : slice_get rs k ≡ Some old = slice_get-get_or rs k r (omega (arith, within, len)) in
      (old, there, all.each k old r there e (goes k old there) (steps k old there))

  same_out : map left_out told ≡ map left_out rs
  same_out = all_same left_out told rs all.len (λ k r old e f. (all.each k old r f e (goes k old f) (steps k old f)).same)

  same_taken : (k : ℕ) → map left_out (take k told) ≡ map left_out (take k rs)
  same_taken k = map_taken left_out k told ∙ ap (take k) same_out ∙ sym (map_taken left_out k rs)

  are_told : AreTimes ps told times
  are_told k o l = are k o (let len = all.len in omega (arith, l, len)) ∙ ap (λ out. is_optional_part ps o && not (among out o)) (sym (same_taken k))

  entries_told : AreEntryTimes es times (length told + 1) entry_times
  entries_told = subst (λ n. AreEntryTimes es times (n + 1) entry_times) (sym all.len) entries

  pub told_shown : IsShown ps es (is_in flags) told
  told_shown =
      let h = shown_checked ps es rs times entry_times are entries flags shown in
      checked_shown ps es told times entry_times are_told entries_told flags (λ k r e. (told_is k r e).2.step)
      (subst (λ n. IsEnabledAfter times n flags) (sym all.len) h.1) (subst (AreWell ps times entry_times) (sym all.len) h.2)

  pub told_first : AreFirstIn ps es told
  told_first k r e =
      let within = slice_get_within told k r e in
      let l : k ≤ length told = omega (arith, within) in
      subst (λ names. IsFirstIn ps (left_after ps (take k told)) names r) (names_are ps es told times entry_times are_told entries_told k l)
      (subst (λ s. IsFirstIn ps s (names_after entry_times k) r) (after_is ps es told times entry_times are_told entries_told k l) (told_is k r e).2.first)

-- the same of slices
pub finished : (ps : List Part) (es : List Entry) (rs reasons told : List Reason) (times t u entry_times e : List ℕ) (flags : List Bool)
    → reasons ≡ rs → t ≡ times → u ≡ times → e ≡ entry_times → AreTimes ps reasons times → AreEntryTimes es t (length reasons + 1) entry_times
    → IsShown ps es (is_in flags) rs → AreTold ps u e (length reasons) (length reasons) reasons told → IsShown ps es (is_in flags) told × AreFirstIn ps es told
finished ps es rs reasons told times t u entry_times e flags same t_is u_is e_is are entries shown all =
    let there : AreEntryTimes es times (length reasons + 1) entry_times = subst (λ z. AreEntryTimes es z (length reasons + 1) entry_times) t_is entries in
    let right : IsShown ps es (is_in flags) reasons = subst (IsShown ps es (is_in flags)) (sym same) shown in
    let each : AreTold ps times entry_times (length reasons) (length reasons) reasons told =
    subst (λ z. AreTold ps times z (length reasons) (length reasons) reasons told) e_is (subst (λ z. AreTold ps z e (length reasons) (length reasons) reasons told) u_is all) in (
      told_shown ps es reasons told times entry_times flags are there right each,
      told_first ps es reasons told times entry_times flags are there right each,
    )
