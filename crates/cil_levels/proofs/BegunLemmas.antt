-- What names hold at first, one by one.
use Rattle.std.proofs.Common.{◌≡◌, ◌⊎◌, ℕ, ◌+◌, ◌<◌, List, [], ◌∷◌, ◌++◌, get_or, length, sym, ◌∙◌, subst, inl, inr, arith}
use Rattle.std.specs.Prelude.{All}
use Rattle.cil_base.specs.Places.{get_in_front, get_last, get_so, is_there, longer}
use Rattle.cil_names.specs.declared.entry.Entry.{Entry}
use Rattle.cil_mls.specs.declared.expression.Held.{Held}
use Rattle.cil_mls.specs.declared.expression.Held.TheVariants.{Nothing}
use Rattle.cil_mls.specs.Values.{IsFew}
use Rattle.cil_levels.specs.Begun.{IsBegun}

pub before_or_at : (j at : ℕ) → j < at + 1 → (j < at) ⊎ (j ≡ at)
before_or_at j at l = grind arith

pub at_front : {X : Type 0} (xs : List X) (x d : X) (e : ℕ) → e < length xs → get_or (xs ++ x ∷ []) e d ≡ get_or xs e d
at_front xs x d e l = get_so (xs ++ x ∷ []) e (get_or xs e d) d (get_in_front xs (x ∷ []) e l ∙ is_there xs e d l)

pub at_end : {X : Type 0} (xs : List X) (x d : X) → get_or (xs ++ x ∷ []) (length xs) d ≡ x
at_end xs x d = get_so (xs ++ x ∷ []) (length xs) x d (get_last xs x)

pub all_more : {X : Type 0} (P : X → Type 0) (xs : List X) (x : X) → All P xs → P x → All P (xs ++ x ∷ [])
all_more P xs x all p k d l =
    let n = longer xs x in
    elim (before_or_at k (length xs) (omega (arith, l, n))) [
      | inl before ↦ subst P (sym (at_front xs x d k before)) (all k d before)
      | inr here ↦ subst (λ j. P (get_or (xs ++ x ∷ []) j d)) (sym here) (subst P (sym (at_end xs x d)) p)
    ]

-- the names below this one hold what they hold at first
pub record AreBegunUpTo (es : List Entry) (standing : List (List ℕ)) (places : List ℕ) (n : ℕ) (helds : List Held) : Type 0 where
  pub len : length helds ≡ n
  pub each : (d : ℕ) → d < n → IsBegun es standing places d (get_or helds d Nothing)
  pub few : All IsFew helds

pub begun_more : (es : List Entry) (standing : List (List ℕ)) (places : List ℕ) (n : ℕ) (helds : List Held) (h : Held) → IsBegun es standing places n h → IsFew h → AreBegunUpTo es standing places n helds
    → AreBegunUpTo es standing places (n + 1) (helds ++ h ∷ [])
begun_more es standing places n helds h is few are =
    let len = are.len in
    record {
      len = let m = longer helds h in omega (arith, m, len);
      each = λ d l. elim (before_or_at d n l) [
        | inl before ↦ subst (IsBegun es standing places d) (sym (at_front helds h Nothing d (omega (arith, before, len)))) (are.each d before)
        | inr here ↦
            let same : d ≡ length helds = omega (arith, here, len) in
            subst (λ j. IsBegun es standing places j (get_or (helds ++ h ∷ []) j Nothing)) (sym same)
            (subst (IsBegun es standing places (length helds)) (sym (at_end helds h Nothing)) (subst (λ j. IsBegun es standing places j h) (sym len) is))
      ];
      few = all_more IsFew helds h are.few few;
    }
