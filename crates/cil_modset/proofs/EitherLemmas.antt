-- All bytes are a bundle or have a fault: from the left on, one module after the other.
use Rattle.std.proofs.Common.{◌≡◌, ℕ, zero, suc, ◌+◌, ◌<◌, ◌≤◌, ◌⊎◌, List, [], ◌∷◌, ◌++◌, length, slice_index, drop, refl, sym, ap, subst, inl, inr, arith}
use Rattle.std.specs.Prelude.{◌≢◌}
use Rattle.std.proofs.lemmas.Bool.{cases_lt}
use Rattle.std.proofs.lemmas.List.{length-drop, length-take-le}
use Rattle.cil_sexpr.specs.Laws as texts
use Rattle.cil_base.specs.Lists.{contains_here, contains_later, contains_cases, contains_none}
use Rattle.cil_modset.specs.declared.error.BundleFault.{BundleFault}
use Rattle.cil_modset.specs.declared.error.BundleFault.TheVariants.{BadMagic, Short, NotRising, BadModule, Trailing}
use Rattle.cil_modset.specs.Bundle.{AreBytes, magic}
use Rattle.cil_modset.specs.Faults.{number_at, part_at, promised, HasModule, IsCut, IsRightUpTo, AllBelow, IsNotAbove, HasFaultBehind}
use Rattle.cil_modset.specs.Laws.{AlwaysEither, IsSomeBundle, IsFaulty}
use Rattle.cil_modset.specs.Modules.{IsBelow}
use Rattle.cil_modset.proofs.BundleLemmas.{right_on, right_bundle}
use Rattle.cil_modset.proofs.RisingLemmas.{compared, never_both_below, not_below_itself, rising_none}

same_or_not : (a b : ℕ) → (a ≡ b) ⊎ (a ≢ b)
same_or_not a b =
    elim (cases_lt a b) [
      | inl lt ↦ inr (λ e. omega (arith, lt, e))
      | inr le ↦ elim (cases_lt b a) [ inl lt ↦ inr (λ e. omega (arith, lt, e)) | inr ge ↦ inl (omega arith) ]
    ]

-- those of the first bytes that are there are right, or one is not
magic_or_not : (bytes : List ℕ) (n : ℕ) → ((k : ℕ) → k < n → k < length bytes → slice_index bytes k ≡ slice_index magic k)
    ⊎ ((k : ℕ) × (k < n) × (k < length bytes) × (slice_index bytes k ≢ slice_index magic k))
magic_or_not bytes zero = inl (λ k lt less. absurd (omega arith))
magic_or_not bytes (suc n) =
    elim (magic_or_not bytes n) [
      | inr h ↦ inr (h.0, omega (arith, h.1), h.2, h.3)
      | inl right ↦ elim (same_or_not (slice_index bytes n) (slice_index magic n)) [
        | inl e ↦ inl (λ k lt less. elim (cases_lt k n) [
          | inl l ↦ right k l less
          | inr g ↦ let is : n ≡ k = omega arith in subst (λ (j : ℕ). slice_index bytes j ≡ slice_index magic j) is e
        ])
        | inr differs ↦ elim (cases_lt n (length bytes)) [
          | inl less ↦ inr (n, omega arith, less, differs)
          | inr past ↦ inl (λ k lt less. right k (omega arith) less)
        ]
      ]
    ]

above_or_not : (modules : List (List ℕ)) (text : List ℕ) → AllBelow modules text ⊎ IsNotAbove modules text
above_or_not [] text = inl (λ earlier c. absurd (contains_none earlier c))
above_or_not (m ∷ modules) text =
    elim (above_or_not modules text) [
      | inr n ↦ inr (record { earlier = n.earlier; stands = contains_later n.earlier m modules n.stands; falls = n.falls })
      | inl above ↦ elim (compared m text) [
        | inl p ↦ inl (λ earlier c. elim (contains_cases earlier m modules c) [
          | inl e ↦ subst (λ (w : List ℕ). IsBelow w text) e p
          | inr d ↦ above earlier d
        ])
        | inr q ↦ inr (record {
          earlier = m;
          stands = contains_here m modules;
          falls = λ below. elim q [
            | inl e ↦ not_below_itself text (subst (λ (w : List ℕ). IsBelow w text) e below)
            | inr p ↦ never_both_below m text below p
          ];
        })
      ]
    ]

-- a module stands at a place, or the bytes end within it
module_or_cut : (bytes : List ℕ) (at : ℕ) → HasModule bytes at (part_at bytes (at + 8) (number_at bytes at)) ⊎ IsCut bytes at
module_or_cut bytes at =
    elim (cases_lt (length bytes) (at + 8)) [
      | inl short ↦ inr (inl short)
      | inr some ↦ elim (cases_lt (length bytes) (at + 8 + number_at bytes at)) [
        | inl short ↦ inr (inr short)
        | inr whole ↦
            let size : length (part_at bytes (at + 8) (number_at bytes at)) ≡ number_at bytes at =
            length-take-le (number_at bytes at) (drop (at + 8) bytes) (omega (arith, whole, length-drop (at + 8) bytes)) in
            inl (record {
              within = omega (arith, size, whole);
              size = sym size;
              text_is = ap (λ (n : ℕ). part_at bytes (at + 8) n) (sym size);
            })
      ]
    ]

later : (bytes : List ℕ) (modules : List (List ℕ)) (at : ℕ) (fault : BundleFault) → IsRightUpTo bytes modules at
    → HasFaultBehind bytes modules at fault → IsSomeBundle bytes ⊎ IsFaulty bytes
later bytes modules at fault right behind =
    inr (record { fault = fault; has = inr (record { modules = modules; at = at; right = right; behind = behind }) })

-- at the end of the promised modules
at_end : (bytes : List ℕ) (modules : List (List ℕ)) (at : ℕ) → AreBytes bytes → IsRightUpTo bytes modules at → length modules ≡ promised bytes
    → IsSomeBundle bytes ⊎ IsFaulty bytes
at_end bytes modules at h right all =
    elim (cases_lt at (length bytes)) [
      | inl more ↦ later bytes modules at Trailing right (all, more)
      | inr end ↦ inl (record { modules = modules; bundle_is = right_bundle bytes modules at h right all (omega (arith, right.within)) })
    ]

-- whatever is right up to a place, what follows is right to the end or has a fault
from_place : texts.AlwaysEither → (bytes : List ℕ) → AreBytes bytes → (n : ℕ) (modules : List (List ℕ)) (at : ℕ) → IsRightUpTo bytes modules at
    → length bytes ≤ at + n → IsSomeBundle bytes ⊎ IsFaulty bytes
from_place law bytes h zero modules at right fuel =
    elim (cases_lt (length modules) (promised bytes)) [
      | inr all ↦ at_end bytes modules at h right (omega (arith, right.promise))
      | inl more ↦ later bytes modules at Short right (more, inl (omega arith))
    ]
from_place law bytes h (suc n) modules at right fuel =
    elim (cases_lt (length modules) (promised bytes)) [
      | inr all ↦ at_end bytes modules at h right (omega (arith, right.promise))
      | inl more ↦ elim (module_or_cut bytes at) [
        | inr cut ↦ later bytes modules at Short right (more, cut)
        | inl m ↦ let text = part_at bytes (at + 8) (number_at bytes at) in
            elim (above_or_not modules text) [
              | inr falls ↦ later bytes modules at NotRising right (more, text, m, falls)
              | inl above ↦ elim (law text) [
                | inl reads ↦ from_place law bytes h n (modules ++ text ∷ []) (at + 8 + length text)
                    (right_on bytes text modules at right more m above reads) (omega (arith, fuel))
                | inr faulty ↦ later bytes modules at (BadModule (length modules) (record { code = faulty.code; at = faulty.at })) right
                    (more, text, m, above, refl, faulty.fault)
              ]
            ]
      ]
    ]

pub always_either : texts.AlwaysEither → AlwaysEither
always_either law bytes h =
    elim (magic_or_not bytes 5) [
      | inr wrong ↦ inr (record { fault = BadMagic; has = inl wrong })
      | inl right ↦ elim (cases_lt (length bytes) 13) [
        | inl short ↦ inr (record { fault = Short; has = inl (right, short) })
        | inr within ↦ from_place law bytes h (length bytes) [] 13 (record {
          header = record { within = within; magic_is = right };
          stand = refl;
          readable = record { rising = rising_none; readable = λ t c. absurd (contains_none t c) };
          within = within;
          promise = omega arith;
        }) (omega arith)
      ]
    ]
