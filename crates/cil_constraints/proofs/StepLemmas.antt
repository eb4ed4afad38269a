-- Steps are compared byte by byte.
use Rattle.std.specs.Ordering.{nat_cmp, ordering_then}
use Rattle.std.specs.declared.cmp.Ordering.{Ordering}
use Rattle.std.proofs.Common.{◌≡◌, refl, sym, ◌∙◌}
use Rattle.cil_sets.specs.Answers.{set_cmp}
use Rattle.cil_constraints.specs.declared.step.Step.{Step}
use Rattle.cil_constraints.specs.declared.step.Step.TheVariants as steps
use Rattle.cil_constraints.specs.Heads.{fourth_of, second_of, set_in, tag_of, third_of}
use Rattle.cil_constraints.specs.Order.{step_cmp}

abbrev by_bytes : Step → Step → Ordering
by_bytes a b =
    ordering_then (nat_cmp (tag_of a) (tag_of b)) (ordering_then (nat_cmp (second_of a) (second_of b)) (ordering_then (nat_cmp (third_of a) (third_of b))
    (ordering_then (nat_cmp (fourth_of a) (fourth_of b)) (set_cmp (set_in a) (set_in b)))))

-- where bytes are missing both are 0
pub bytes_compare : (a b : Step) → step_cmp a b ≡ by_bytes a b
bytes_compare steps.Not steps.Not = refl
bytes_compare steps.Not b = refl
bytes_compare steps.And steps.Not = refl
bytes_compare steps.And b = refl
bytes_compare steps.Or steps.Not = refl
bytes_compare steps.Or b = refl
bytes_compare (steps.Compared part equality) steps.Not = refl
bytes_compare (steps.Compared part equality) b = refl
bytes_compare (steps.Ranked pair relation) steps.Not = refl
bytes_compare (steps.Ranked pair relation) b = refl
bytes_compare (steps.Inside part side equality set) steps.Not = refl
bytes_compare (steps.Inside part side equality set) b = refl

pub steps_compare : (a b : Step) (tags second third fourth sets : Ordering) → tags ≡ nat_cmp (tag_of a) (tag_of b) → second ≡ nat_cmp (second_of a) (second_of b) → third ≡ nat_cmp (third_of a) (third_of b)
    → fourth ≡ nat_cmp (fourth_of a) (fourth_of b) → sets ≡ set_cmp (set_in a) (set_in b)
    → ordering_then tags (ordering_then second (ordering_then third (ordering_then fourth sets))) ≡ step_cmp a b
steps_compare a b tags second third fourth sets t s u v w =
    (λ i. ordering_then (t i) (ordering_then (s i) (ordering_then (u i) (ordering_then (v i) (w i))))) ∙ sym (bytes_compare a b)
