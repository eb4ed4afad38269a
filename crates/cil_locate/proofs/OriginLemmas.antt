-- Which file a text is told of, sought from the last file to the first.
use Rattle.std.proofs.Common.{◌≡◌, ◌+◌, ◌-◌, ◌<◌, ◌≤◌, ◌≢◌, ◌⊎◌, ℕ, zero, suc, Bool, true≢false, true, false, List, [], ◌∷◌, length, drop, get_or, length-set, refl, sym, ◌∙◌, ap, subst, inl, inr, arith}
use Rattle.std.specs.Prelude.{bytes_eq, ◌==◌, if◌then◌else◌, slice_index, set, replicate}
use Rattle.std.proofs.lemmas.List.{get_or-replicate, get_or-set_other, get_or-set_same, length-replicate}
use Rattle.std.proofs.lemmas.Slice.Eq.{bytes_eq-Decides}
use Rattle.std.proofs.Math.Seq.{drop-cons, drop-length}
use Rattle.cil_modset.specs.Modules.{AreModules, IsBelow, IsRising, module_of}
use Rattle.cil_modset.proofs.RisingLemmas.{below_trans, compared, not_below_itself, rising_at}
use Rattle.cil_locate.proofs.ByteLemmas.{eqb_is, eqb_other}
use Rattle.cil_locate.specs.Files.{AreOrigins, SourceFile, next_of, origin_of, shifted}

up_to : (k m : ℕ) → k < m + 1 → (k < m) ⊎ (k ≡ m)
up_to k m h = grind arith

from_on : (k m : ℕ) → m ≤ k → (m < k) ⊎ (k ≡ m)
from_on k m h = grind arith

three : (i j : ℕ) → (i < j) ⊎ ((i ≡ j) ⊎ (j < i))
three i j = grind arith

either : (k m : ℕ) → (k < m) ⊎ (m ≤ k)
either k m = grind arith

-- ---- the number of a text

-- the text is not among the modules below a place, nor among those from another place on
pub record IsBetween (modules : List (List ℕ)) (text : List ℕ) (low high : ℕ) : Type 0 where
  pub within : high ≤ length modules
  pub below : (k : ℕ) → k < low → k < length modules → IsBelow (module_of modules k) text
  pub above : (k : ℕ) → high ≤ k → k < length modules → IsBelow text (module_of modules k)

module _ (modules : List (List ℕ)) (text : List ℕ) where
  pub between_all : IsBetween modules text 0 (length modules)
  between_all = record { within = omega arith; below = λ k b w. absurd (omega (arith, b)); above = λ k a w. absurd (omega (arith, a, w)) }

  pub between_upper : (low high middle : ℕ) → IsRising modules → middle < high → IsBelow (module_of modules middle) text
      → IsBetween modules text low high → IsBetween modules text (middle + 1) high
  between_upper low high middle rises under is b = record { within = b.within; below = all; above = b.above }
    where
      all : (k : ℕ) → k < middle + 1 → k < length modules → IsBelow (module_of modules k) text
      all k before w =
          elim (up_to k middle before) [
            | inl h ↦ below_trans (module_of modules k) (module_of modules middle) text (rising_at modules k middle rises h (omega (arith, under, b.within))) is
            | inr e ↦ subst (λ j. IsBelow (module_of modules j) text) (sym e) is
          ]

  pub between_lower : (low high middle : ℕ) → IsRising modules → middle < high → IsBelow text (module_of modules middle)
      → IsBetween modules text low high → IsBetween modules text low middle
  between_lower low high middle rises under is b = record { within = omega (arith, under, b.within); below = b.below; above = all }
    where
      all : (k : ℕ) → middle ≤ k → k < length modules → IsBelow text (module_of modules k)
      all k after w =
          elim (from_on k middle after) [
            | inl h ↦ below_trans text (module_of modules middle) (module_of modules k) is (rising_at modules middle k rises h w)
            | inr e ↦ subst (λ j. IsBelow text (module_of modules j)) (sym e) is
          ]

  -- between two places that have met there is none
  pub between_none : (low high n : ℕ) → high ≤ low → IsBetween modules text low high → n < length modules → module_of modules n ≡ text → ⊥
  between_none low high n met b w e =
      elim (either n low) [
        | inl h ↦ not_below_itself text (subst (λ t. IsBelow t text) e (b.below n h w))
        | inr h ↦ not_below_itself text (subst (λ t. IsBelow text t) e (b.above n (omega (arith, met, h)) w))
      ]

-- ---- the files

bytes_same : (a b : List ℕ) → a ≡ b → bytes_eq a b ≡ true
bytes_same a b e = (bytes_eq-Decides a b).1 e

bytes_differ : (a b : List ℕ) → (a ≡ b → ⊥) → bytes_eq a b ≡ false
bytes_differ a b other = by (bytes_eq a b) refl
  where
    by : (t : Bool) → bytes_eq a b ≡ t → bytes_eq a b ≡ false
    by true e = absurd (other ((bytes_eq-Decides a b).0 e))
    by false e = e

pub shifted_next : (k o : ℕ) → shifted k (next_of o) ≡ shifted (k + 1) o
shifted_next k zero = refl
shifted_next k (suc j) = omega arith

pub shifted_none : (o : ℕ) → shifted 0 o ≡ o
shifted_none zero = refl
shifted_none (suc j) = omega arith

-- what is kept for each module, of the files from a number on
pub record AreFrom (files : List SourceFile) (modules : List (List ℕ)) (origins : List ℕ) (left : ℕ) : Type 0 where
  pub same : length origins ≡ length modules
  pub each : (m : ℕ) → m < length modules → slice_index origins m ≡ shifted left (origin_of (drop left files) (module_of modules m))

-- the file in front of those from a place on
pub file_in_front : (files : List SourceFile) (file : SourceFile) (left : ℕ) → 0 < left → left ≤ length files → file ≡ get_or files (left - 1) file
    → drop (left - 1) files ≡ file ∷ drop (left - 1 + 1) files
file_in_front files file left some within is =
    drop-cons files (left - 1) file (omega (arith, some, within)) ∙ ap (λ f. f ∷ drop (suc (left - 1)) files) (sym is)
    ∙ ap (λ k. file ∷ drop k files) {x = suc (left - 1)} {y = left - 1 + 1} (omega arith)

module _ (files : List SourceFile) (modules : List (List ℕ)) where
  -- behind the last file nothing is found
  pub from_last : (origins : List ℕ) → origins ≡ replicate (length modules) 0 → AreFrom files modules origins (length files)
  unfolding origin_of
  from_last origins zeros = record {
    same = ap length zeros ∙ length-replicate (length modules) 0;
    each = λ m w. ap (λ os. slice_index os m) zeros ∙ get_or-replicate (length modules) m 0 0 w
        ∙ sym (ap (λ (rest : List SourceFile). shifted (length files) (origin_of rest (module_of modules m))) (drop-length files) ∙ none (module_of modules m));
  }
    where
      none : (text : List ℕ) → shifted (length files) (origin_of [] text) ≡ 0
      none text = refl

  -- in front of the first file all is found
  pub from_all : (origins : List ℕ) (left : ℕ) → left ≤ 0 → AreFrom files modules origins left → AreOrigins files modules origins
  from_all origins zero none a = record { same = a.same; each = λ m w. a.each m w ∙ shifted_none (origin_of files (module_of modules m)) }
  from_all origins (suc left) none a = absurd (omega (arith, none))

  -- which file a text is told of, where one file more comes in front
  front : (k : ℕ) (file : SourceFile) (text : List ℕ) (b : Bool) → drop k files ≡ file ∷ drop (k + 1) files → bytes_eq file.text text ≡ b
      → shifted k (origin_of (drop k files) text) ≡ (if b then k + 1 else shifted (k + 1) (origin_of (drop (k + 1) files) text))
  unfolding origin_of
  front k file text b e is = ap (λ (rest : List SourceFile). shifted k (origin_of rest text)) e
      ∙ ap (λ c. shifted k (if c then 1 else next_of (origin_of (drop (k + 1) files) text))) is ∙ by b
    where
      by : (c : Bool) → shifted k (if c then 1 else next_of (origin_of (drop (k + 1) files) text))
          ≡ (if c then k + 1 else shifted (k + 1) (origin_of (drop (k + 1) files) text))
      by true = omega arith
      by false = shifted_next k (origin_of (drop (k + 1) files) text)

  -- the file in front has the text of a module
  pub from_known : (origins : List ℕ) (k n left : ℕ) (file : SourceFile) → IsRising modules → left ≡ k + 1 → drop k files ≡ file ∷ drop (k + 1) files → n < length modules
      → module_of modules n ≡ file.text → AreFrom files modules origins left → AreFrom files modules (set origins n (k + 1)) k
  from_known origins k n left file rises behind e within is old = record { same = length-set origins n (k + 1) ∙ old.same; each = each }
    where
      a : AreFrom files modules origins (k + 1)
      a = subst (AreFrom files modules origins) behind old

      one_number : (i j : ℕ) → i < length modules → j < length modules → module_of modules i ≡ module_of modules j → i ≡ j
      one_number i j v w e =
          elim (three i j) [
            | inl h ↦ absurd (not_below_itself (module_of modules j) (subst (λ t. IsBelow t (module_of modules j)) e (rising_at modules i j rises h w)))
            | inr (inl h) ↦ h
            | inr (inr h) ↦ absurd (not_below_itself (module_of modules j) (subst (λ t. IsBelow (module_of modules j) t) e (rising_at modules j i rises h v)))
          ]

      each : (m : ℕ) → m < length modules → slice_index (set origins n (k + 1)) m ≡ shifted k (origin_of (drop k files) (module_of modules m))
      each m w = by (m == n) refl
        where
          by : (b : Bool) → (m == n) ≡ b → slice_index (set origins n (k + 1)) m ≡ shifted k (origin_of (drop k files) (module_of modules m))
          by true same = let at : m ≡ n = eqb_is m n same in
              ap (λ j. get_or (set origins n (k + 1)) j 0) at ∙ get_or-set_same origins n (k + 1) 0 (omega (arith, within, a.same))
              ∙ sym (front k file (module_of modules m) true e (bytes_same file.text (module_of modules m) (sym is ∙ ap (module_of modules) (sym at))))
          by false other = let apart : m ≢ n = eqb_other m n other in
              get_or-set_other origins n m (k + 1) 0 apart ∙ a.each m w
              ∙ sym (front k file (module_of modules m) false e (bytes_differ file.text (module_of modules m) (λ s. apart (one_number m n w within (sym s ∙ sym is)))))

  -- it has the text of none
  pub from_unknown : (origins : List ℕ) (k left : ℕ) (file : SourceFile) → left ≡ k + 1 → drop k files ≡ file ∷ drop (k + 1) files
      → ((n : ℕ) → n < length modules → module_of modules n ≡ file.text → ⊥) → AreFrom files modules origins left → AreFrom files modules origins k
  from_unknown origins k left file behind e none old = record {
    same = old.same;
    each = λ m w. (subst (AreFrom files modules origins) behind old).each m w
        ∙ sym (front k file (module_of modules m) false e (bytes_differ file.text (module_of modules m) (λ s. none m w (sym s))));
  }
