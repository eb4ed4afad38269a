-- The order in which faults are told: by code, module, place, namespace, word. This project's profile.
use Rattle.std.specs.Prelude.{◌≡◌}
use Rattle.std.specs.declared.cmp.Ordering.{Ordering}
use Rattle.std.specs.declared.cmp.Ordering.TheVariants.{Equal}
use Rattle.std.specs.Ordering.{nat_cmp, on, then_cmp}
use Rattle.std.specs.Cmp.{IsTotalOrder}
use Rattle.std.proofs.lemmas.Cmp.{then_total, on_total, nat_cmp_total, nat_list_cmp_total}
use Rattle.std.proofs.lemmas.Map.Lookups.{exact_bytes}
use Rattle.cil_base.specs.Lists.{text_cmp}
use Rattle.cil_base.specs.Paths.{both_equal, same_by}
use Rattle.cil_faults.specs.declared.fault.Fault.{Fault}
use Rattle.cil_faults.specs.Codes.{number_of, one_cause}

-- the first field that differs decides
abbrev pub fault_cmp : Fault → Fault → Ordering
fault_cmp =
    then_cmp (then_cmp (then_cmp (then_cmp (on (λ f. number_of f.code) nat_cmp) (on (λ f. f.«module») nat_cmp)) (on (λ f. f.at) nat_cmp))
    (on (λ f. f.space) text_cmp))
    (on (λ f. f.word) text_cmp)

-- any two faults have an order
pub fault_total : IsTotalOrder fault_cmp
fault_total =
    then_total (then_total (then_total (then_total (on_total (λ f. number_of f.code) nat_cmp_total) (on_total (λ f. f.«module») nat_cmp_total)) (on_total (λ f. f.at) nat_cmp_total))
    (on_total (λ f. f.space) nat_list_cmp_total))
    (on_total (λ f. f.word) nat_list_cmp_total)

same_fields : (a b : Fault) → a.code ≡ b.code → a.«module» ≡ b.«module» → a.at ≡ b.at → a.space ≡ b.space → a.word ≡ b.word → a ≡ b
same_fields a b c m p s w = λ i. record { code = c i; «module» = m i; at = p i; space = s i; word = w i }

-- two faults that tie are one
pub one_fault : (a b : Fault) → fault_cmp a b ≡ Equal → a ≡ b
one_fault a b e =
    let word = both_equal _ _ e in
    let space = both_equal _ _ word.0 in
    let at = both_equal _ _ space.0 in
    let code = both_equal _ _ at.0 in
    same_fields a b (one_cause a.code b.code (same_by _ _ code.0)) (same_by _ _ code.1) (same_by _ _ at.1)
    (exact_bytes _ _ space.1) (exact_bytes _ _ word.1)
