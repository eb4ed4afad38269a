-- Lines, words and numbers.
use Rattle.std.specs.Prelude.{min, not, ◌&&◌, ◌==◌, false}
use Rattle.std.specs.List.{fold, list_all}
use Rattle.std.proofs.Common.{◌≡◌, ℕ, ◌+◌, ◌-◌, ◌*◌, ◌<◌, ◌≤◌, List, [], ◌∷◌, length, take, get_or, refl, ◌∙◌, ap, arith, inl, inr}
use Rattle.std.proofs.lemmas.Bool.{cases_lt}
use Rattle.std.proofs.lemmas.List.{take_more}
use Rattle.std.proofs.lemmas.List.Sums.{fold-append}
use Rattle.cil_server.specs.Asked.{is_decimal, is_digit, value_of}
use Rattle.cil_server.specs.Views.{IsCapped}

pub value_more : (digits : List ℕ) (i : ℕ) → i < length digits → value_of (take (i + 1) digits) ≡ value_of (take i digits) * 10 + (get_or digits i 0 - 48)
unfolding value_of
value_more digits i within =
    ap (fold (λ n d. n * 10 + (d - 48)) 0) (take_more digits i 0 within) ∙ fold-append (λ n d. n * 10 + (d - 48)) 0 (take i digits) (get_or digits i 0 ∷ [])

pub capped_none : IsCapped (value_of []) 0
unfolding value_of
capped_none = record { small = λ h. refl; great = λ h. absurd (omega (arith, h)) }

-- one more digit
pub capped_more : (value more capped digit byte next : ℕ) → more ≡ value * 10 + (byte - 48) → digit ≡ byte - 48 → capped ≤ 67108865 → IsCapped value capped
    → next ≡ min (capped * 10 + digit) 67108865 → record { most : next ≤ 67108865; capped : IsCapped more next }
capped_more value more capped digit byte next e f most c g = record {
  most = omega (arith, g);
  capped = record {
    small = λ h. let same = c.small (omega (arith, e, h)) in omega (arith, e, f, g, same, h);
    great = λ h. elim (cases_lt 67108864 value) [
      | inl less ↦ let big = c.great less in omega (arith, g, big)
      | inr ge ↦ let same = c.small ge in omega (arith, e, f, g, same, h)
    ];
  };
}

pub decimal_many : (digits : List ℕ) → 2 ≤ length digits → (get_or digits 0 0 ≡ 48 → ⊥) → is_decimal digits ≡ list_all is_digit digits
decimal_many [] h other = absurd (omega (arith, h))
decimal_many (d ∷ []) h other = absurd (omega (arith, h))
decimal_many (d ∷ e ∷ ds) h other = ap (λ b. not b && list_all is_digit (d ∷ e ∷ ds)) (differ d other)
  where
    differ : (n : ℕ) → (n ≡ 48 → ⊥) → (n == 48) ≡ false
    differ n o = grind arith
