-- The order of bytes is the order of constraints, so a list of constraints in their order is laid out as it is.
use Rattle.std.proofs.Common.{◌≡◌, ℕ, ◌^◌, ◌<◌, List, [], ◌∷◌, ◌++◌, length, refl, sym, ap, ◌∙◌, append_assoc, arith}
use Rattle.std.specs.Int.{w16, w32, to_be_bytes}
use Rattle.std.specs.List.{flat_map, AllByRecursion}
use Rattle.std.specs.Cmp.Lexicographic.{slice_cmp}
use Rattle.std.specs.Ordering.{nat_cmp, ordering_then}
use Rattle.std.specs.declared.cmp.Ordering.{Ordering}
use Rattle.std.specs.declared.cmp.Ordering.TheVariants.{Less, Equal, Greater}
use Rattle.std.proofs.lemmas.List.Concat.{flat_map-cons}
use Rattle.cil_format.proofs.Orders.{order16, order32, set_order}
use Rattle.cil_constraints.specs.declared.mask.Constraint.{Constraint}
use Rattle.cil_constraints.specs.declared.step.Step.{Step}
use Rattle.cil_constraints.specs.declared.step.Step.TheVariants as steps
use Rattle.cil_constraints.specs.Order.{variable_byte, equality_byte, constraint_cmp, step_cmp}
use Rattle.cil_constraint_bytes.specs.Spelled.{HasSmallSet, IsSmallSet, set_bytes, step_bytes}
use Rattle.cil_constraint_bytes.proofs.Lists.{by_recursion}

abbrev bytes_cmp : List ℕ → List ℕ → Ordering
bytes_cmp = slice_cmp nat_cmp

then_assoc : (a b c : Ordering) → ordering_then (ordering_then a b) c ≡ ordering_then a (ordering_then b c)
then_assoc Less b c = refl
then_assoc Equal b c = refl
then_assoc Greater b c = refl

-- of as many bytes each, these decide first
front_first : (us vs xs ys : List ℕ) → length us ≡ length vs → bytes_cmp (us ++ xs) (vs ++ ys) ≡ ordering_then (bytes_cmp us vs) (bytes_cmp xs ys)
front_first [] [] xs ys e = refl
front_first [] (b ∷ vs) xs ys e = absurd (omega (arith, e))
front_first (a ∷ us) [] xs ys e = absurd (omega (arith, e))
front_first (a ∷ us) (b ∷ vs) xs ys e =
    ap (ordering_then (nat_cmp a b)) (front_first us vs xs ys (omega (arith, e))) ∙ sym (then_assoc (nat_cmp a b) (bytes_cmp us vs) (bytes_cmp xs ys))

sets_first : (us vs xs ys : List ℕ) → IsSmallSet us → IsSmallSet vs
    → bytes_cmp (set_bytes us ++ xs) (set_bytes vs ++ ys) ≡ ordering_then (bytes_cmp (length us ∷ us) (length vs ∷ vs)) (bytes_cmp xs ys)
sets_first us vs xs ys p q =
    let small : (ws : List ℕ) → IsSmallSet ws → AllByRecursion (λ n. n < 2 ^ 16) ws = λ ws is. by_recursion (λ n. n < 2 ^ 16) ws is.small in
    ap (λ (w : List ℕ). bytes_cmp w (set_bytes vs ++ ys)) (append_assoc (to_be_bytes w16 (length us)) (flat_map (to_be_bytes w16) us) xs)
    ∙ ap (bytes_cmp (to_be_bytes w16 (length us) ++ (flat_map (to_be_bytes w16) us ++ xs)))
    (append_assoc (to_be_bytes w16 (length vs)) (flat_map (to_be_bytes w16) vs) ys)
    ∙ set_order us vs xs ys (small us p) (small vs q) p.few q.few

-- a variable, an operation and a set, and then others
inside_first : (v o w q : ℕ) (us vs xs ys : List ℕ) → IsSmallSet us → IsSmallSet vs
    → bytes_cmp ((17 ∷ v ∷ o ∷ set_bytes us) ++ xs) ((17 ∷ w ∷ q ∷ set_bytes vs) ++ ys)
    ≡ ordering_then (bytes_cmp (17 ∷ v ∷ o ∷ length us ∷ us) (17 ∷ w ∷ q ∷ length vs ∷ vs)) (bytes_cmp xs ys)
inside_first v o w q us vs xs ys su sv =
    let front = bytes_cmp (17 ∷ v ∷ o ∷ []) (17 ∷ w ∷ q ∷ []) in
    let sets = bytes_cmp (length us ∷ us) (length vs ∷ vs) in
    front_first (17 ∷ v ∷ o ∷ []) (17 ∷ w ∷ q ∷ []) (set_bytes us ++ xs) (set_bytes vs ++ ys) refl
    ∙ ap (ordering_then front) (sets_first us vs xs ys su sv)
    ∙ sym (then_assoc front sets (bytes_cmp xs ys))
    ∙ ap (λ (o : Ordering). ordering_then o (bytes_cmp xs ys)) (sym (front_first (17 ∷ v ∷ o ∷ []) (17 ∷ w ∷ q ∷ []) (length us ∷ us) (length vs ∷ vs) refl))

-- the bytes of a step decide first: no step's bytes begin those of another
step_first : (s t : Step) (xs ys : List ℕ) → HasSmallSet s → HasSmallSet t
    → bytes_cmp (step_bytes s ++ xs) (step_bytes t ++ ys) ≡ ordering_then (step_cmp s t) (bytes_cmp xs ys)
step_first (steps.Inside part side equality set) (steps.Inside other_part other_side other_equality other) xs ys p q =
    inside_first (variable_byte part side) (equality_byte equality) (variable_byte other_part other_side) (equality_byte other_equality) set other xs ys p q
step_first (steps.Compared part equality) (steps.Compared other_part other_equality) xs ys p q =
    front_first (step_bytes (steps.Compared part equality)) (step_bytes (steps.Compared other_part other_equality)) xs ys refl
step_first (steps.Compared part equality) (steps.Ranked pair relation) xs ys p q =
    front_first (step_bytes (steps.Compared part equality)) (step_bytes (steps.Ranked pair relation)) xs ys refl
step_first (steps.Ranked pair relation) (steps.Compared part equality) xs ys p q =
    front_first (step_bytes (steps.Ranked pair relation)) (step_bytes (steps.Compared part equality)) xs ys refl
step_first (steps.Ranked pair relation) (steps.Ranked other_pair other_relation) xs ys p q =
    front_first (step_bytes (steps.Ranked pair relation)) (step_bytes (steps.Ranked other_pair other_relation)) xs ys refl
step_first steps.Not steps.Not xs ys p q = refl
step_first steps.And steps.And xs ys p q = refl
step_first steps.Or steps.Or xs ys p q = refl
step_first s t xs ys p q = refl

abbrev bytes_of : List Step → List ℕ
bytes_of ss = flat_map step_bytes ss

some_bytes : (t : Step) (ys : List ℕ) → bytes_cmp [] (step_bytes t ++ ys) ≡ Less
some_bytes (steps.Inside part side equality set) ys = refl
some_bytes t ys = refl

some_bytes_more : (t : Step) (ys : List ℕ) → bytes_cmp (step_bytes t ++ ys) [] ≡ Greater
some_bytes_more (steps.Inside part side equality set) ys = refl
some_bytes_more t ys = refl

pub steps_order : (ss ts : List Step) → AllByRecursion HasSmallSet ss → AllByRecursion HasSmallSet ts
    → bytes_cmp (bytes_of ss) (bytes_of ts) ≡ slice_cmp step_cmp ss ts
steps_order [] [] p q = refl
steps_order [] (t ∷ ts) p q = ap (bytes_cmp []) (flat_map-cons step_bytes t ts) ∙ some_bytes t (bytes_of ts)
steps_order (s ∷ ss) [] p q = ap (λ (w : List ℕ). bytes_cmp w []) (flat_map-cons step_bytes s ss) ∙ some_bytes_more s (bytes_of ss)
steps_order (s ∷ ss) (t ∷ ts) p q =
    ap (λ (w : List ℕ). bytes_cmp w (bytes_of (t ∷ ts))) (flat_map-cons step_bytes s ss)
    ∙ ap (bytes_cmp (step_bytes s ++ bytes_of ss)) (flat_map-cons step_bytes t ts)
    ∙ step_first s t (bytes_of ss) (bytes_of ts) p.0 q.0 ∙ ap (ordering_then (step_cmp s t)) (steps_order ss ts p.1 q.1)

-- class, mask and steps as bytes
abbrev pub written : Constraint → List ℕ
written c = to_be_bytes w16 c.class ++ (to_be_bytes w32 c.mask ++ bytes_of c.expr)

pub written_order : (c d : Constraint) → c.class < 2 ^ 16 → d.class < 2 ^ 16 → c.mask < 2 ^ 32 → d.mask < 2 ^ 32
    → AllByRecursion HasSmallSet c.expr → AllByRecursion HasSmallSet d.expr → bytes_cmp (written c) (written d) ≡ constraint_cmp c d
written_order c d cc_ dc cm dm cs ds =
    let classes = nat_cmp c.class d.class in
    let masks = nat_cmp c.mask d.mask in
    let exprs = slice_cmp step_cmp c.expr d.expr in
    order16 c.class d.class (to_be_bytes w32 c.mask ++ bytes_of c.expr) (to_be_bytes w32 d.mask ++ bytes_of d.expr) cc_ dc
    ∙ ap (ordering_then classes) (order32 c.mask d.mask (bytes_of c.expr) (bytes_of d.expr) cm dm ∙ ap (ordering_then masks) (steps_order c.expr d.expr cs ds))
    ∙ sym (then_assoc classes masks exprs)
