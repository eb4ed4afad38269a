-- The order in which faults are told: by their files, in the order of the command line, then by their places, and then as LOAD
-- tells them. This project's profile.
use Rattle.std.specs.Prelude.{◌≡◌, ℕ, suc, List, [], ◌∷◌, Contains}
use Rattle.std.specs.declared.cmp.Ordering.{Ordering}
use Rattle.std.specs.declared.cmp.Ordering.TheVariants.{Equal}
use Rattle.std.specs.Ordering.{nat_cmp, on, then_cmp}
use Rattle.std.specs.Cmp.{IsTotalOrder}
use Rattle.std.proofs.lemmas.Cmp.{then_total, on_total, nat_cmp_total}
use Rattle.cil_base.specs.Lists.{Lists}
use Rattle.cil_base.specs.Paths.{both_equal, same_by}
use Rattle.cil_locate.specs.declared.told.Told.{Told}

-- where something is told: of which file, and at which place of it
pub record Key : Type 0 where
  pub origin : ℕ
  pub at : ℕ

-- some keys with their numbers, of which the first has this one
unfoldable pub numbered_from : ℕ → List Key → List Told
numbered_from n [] = []
numbered_from n (key ∷ keys) = record { origin = key.origin; at = key.at; number = n } ∷ numbered_from (suc n) keys

-- the first field that differs decides
abbrev pub told_cmp : Told → Told → Ordering
told_cmp = then_cmp (then_cmp (on (λ t. t.origin) nat_cmp) (on (λ t. t.at) nat_cmp)) (on (λ t. t.number) nat_cmp)

-- any two have an order
pub told_total : IsTotalOrder told_cmp
told_total = then_total (then_total (on_total (λ t. t.origin) nat_cmp_total) (on_total (λ t. t.at) nat_cmp_total)) (on_total (λ t. t.number) nat_cmp_total)

same_fields : (a b : Told) → a.origin ≡ b.origin → a.at ≡ b.at → a.number ≡ b.number → a ≡ b
same_fields a b o p n = λ i. record { origin = o i; at = p i; number = n i }

-- two that tie are one
pub one_told : (a b : Told) → told_cmp a b ≡ Equal → a ≡ b
one_told a b e =
    let number = both_equal _ _ e in
    let at = both_equal _ _ number.0 in
    same_fields a b (same_by _ _ at.0) (same_by _ _ at.1) (same_by _ _ number.1)

-- all of them, in order
abbrev pub AreInOrder : List Key → List Told → Type 0
AreInOrder keys told = Lists told_cmp (Contains (numbered_from 0 keys)) told
