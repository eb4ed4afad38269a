-- The laws of `laws.rt`, over programs.
use Rattle.std.proofs.Common.{◌≡◌, ◌⊎◌, ℕ, ◌<◌, ap, inl, inr, arith}
use Rattle.cil_faults.specs.declared.spot.Spot.{Spot}
use Rattle.cil_syntax.specs.Program.{program_of}
use Rattle.cil_blocks.specs.Laws.{HaveOneTarget, HaveOneStanding}
use Rattle.cil_blocks.proofs.Begun.{block_is_named, has_name}
use Rattle.cil_blocks.specs.OneStanding.{one_standing}
use Rattle.cil_blocks.proofs.OneTarget.{one_target}
use Rattle.cil_blocks.proofs.ProgramLemmas.{are_apart}

same_number : (a b : ℕ) → (a ≡ b) ⊎ (a ≡ b → ⊥)
same_number a b = elim (three_ways a b) [ inl h ↦ inr (λ e. omega (arith, e, h)) | inr k ↦ elim k [ inl e ↦ inl e | inr h ↦ inr (λ e. omega (arith, e, h)) ] ] where
  three_ways : (i j : ℕ) → (i < j) ⊎ ((i ≡ j) ⊎ (j < i))
  three_ways i j = grind arith

pub same_or_not : (a b : Spot) → (a ≡ b) ⊎ (a ≡ b → ⊥)
same_or_not a b =
    elim (same_number a.«module» b.«module») [
      | inr n ↦ inr (λ e. n (ap (λ (s : Spot). s.«module») e))
      | inl m ↦ elim (same_number a.at b.at) [
        | inr n ↦ inr (λ e. n (ap (λ (s : Spot). s.at) e))
        | inl p ↦ inl (λ i. record { «module» = m i; at = p i })
      ]
    ]

pub have_one_target : HaveOneTarget
have_one_target ss nested none =
    one_target (program_of ss) (are_apart ss nested) same_or_not (λ w c k. has_name ss nested w c (block_is_named w.statement.keyword k)) none

pub have_one_standing : HaveOneStanding
have_one_standing ss nested none = one_standing (program_of ss) (are_apart ss nested) (have_one_target ss nested none)
