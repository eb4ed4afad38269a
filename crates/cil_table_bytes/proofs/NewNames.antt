-- Whether a name is among some, by its number.
use Rattle.std.proofs.Common.{◌≡◌, ℕ, zero, suc, Bool, true, false, ◌||◌, List, [], ◌∷◌, Option, Some, None, refl, sym, ap, ◌∙◌}
use Rattle.std.specs.Prelude.{not, slice_get}
use Rattle.std.specs.Cmp.Lexicographic.{same_text}
use Rattle.std.specs.List.{list_any}
use Rattle.std.proofs.lemmas.Cmp.{nat_list_eq_equiv}
use Rattle.cil_syntax.specs.Spelling.{same_bytes}
use Rattle.cil_label_bytes.specs.Layout.{is_new}

or_true : (b : Bool) → (b || true) ≡ true
or_true true = refl
or_true false = refl

some_is : (x t : List ℕ) → Some x ≡ Some t → x ≡ t
some_is x t e = cc

equal_bytes : (x t : List ℕ) → x ≡ t → same_bytes t x ≡ true
equal_bytes x t e = ap (same_bytes t) e ∙ nat_list_eq_equiv.refl t

is_among : (t : List ℕ) (names : List (List ℕ)) (n : ℕ) → slice_get names n ≡ Some t → list_any (same_bytes t) names ≡ true
is_among t [] n e = absurd cc
is_among t (x ∷ xs) zero e = ap (λ (b : Bool). b || list_any (same_bytes t) xs) (equal_bytes x t (some_is x t e))
is_among t (x ∷ xs) (suc n) e = ap (λ (b : Bool). same_bytes t x || b) (is_among t xs n e) ∙ or_true (same_bytes t x)

is_not_among : (t : List ℕ) (names : List (List ℕ)) → ((n : ℕ) → slice_get names n ≡ Some t → ⊥) → list_any (same_bytes t) names ≡ false
is_not_among t [] none = refl
is_not_among t (x ∷ xs) none = go (same_bytes t x) refl (is_not_among t xs (λ n at. none (suc n) at))
  where
    go : (b : Bool) → same_bytes t x ≡ b → list_any (same_bytes t) xs ≡ false → (b || list_any (same_bytes t) xs) ≡ false
    go true e behind = absurd (none 0 (ap Some (sym (same_text t x (sym e)))))
    go false e behind = behind

-- a name with a number is not new, and one without is
pub known : (t : List ℕ) (names : List (List ℕ)) (n : ℕ) → slice_get names n ≡ Some t → is_new names t ≡ false
known t names n e = ap not (is_among t names n e)

pub missing : (t : List ℕ) (names : List (List ℕ)) → ((n : ℕ) → slice_get names n ≡ Some t → ⊥) → is_new names t ≡ true
missing t names none = ap not (is_not_among t names none)
