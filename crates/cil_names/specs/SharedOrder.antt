-- The order of pairs of a class and a common: by the class, then by the common. This project's profile.
use Rattle.std.specs.Prelude.{◌≡◌}
use Rattle.std.specs.Cmp.{IsTotalOrder}
use Rattle.std.specs.Ordering.{nat_cmp, on, then_cmp}
use Rattle.std.specs.declared.cmp.Ordering.{Ordering}
use Rattle.std.specs.declared.cmp.Ordering.TheVariants.{Equal}
use Rattle.std.proofs.lemmas.Cmp.{then_total, on_total, nat_cmp_total}
use Rattle.cil_base.specs.Paths.{both_equal, same_by}
use Rattle.cil_names.specs.declared.shared.Shared.{Shared}

abbrev pub shared_cmp : Shared → Shared → Ordering
shared_cmp = then_cmp (on (λ h. h.class) nat_cmp) (on (λ h. h.common) nat_cmp)

-- any two pairs have an order
pub shared_total : IsTotalOrder shared_cmp
shared_total = then_total (on_total (λ h. h.class) nat_cmp_total) (on_total (λ h. h.common) nat_cmp_total)

pub same_pair : (a b : Shared) → a.class ≡ b.class → a.common ≡ b.common → a ≡ b
same_pair a b c k = λ i. record { class = c i; common = k i }

-- two pairs that tie are one
pub one_pair : (a b : Shared) → shared_cmp a b ≡ Equal → a ≡ b
one_pair a b e = let both = both_equal _ _ e in same_pair a b (same_by _ _ both.0) (same_by _ _ both.1)
