-- The parts of statements, each made with its row.
use Rattle.std.specs.Prelude.{None, Option, Some, cond, map, slice_get, sum_by, take}
use Rattle.std.specs.Option.{option_map_or}
use Rattle.std.proofs.Common.{◌≡◌, ℕ, zero, suc, ◌+◌, ◌<◌, ◌≤◌, Bool, true, false, List, [], ◌∷◌, ◌++◌, length, get_or, refl, sym, ap, ◌∙◌, arith}
use Rattle.std.proofs.lemmas.Bool.{true≢false}
use Rattle.std.proofs.lemmas.List.{take_more}
use Rattle.std.proofs.lemmas.List.Sums.{sum_by-append, sum_by-cons}
use Rattle.std.proofs.lemmas.Option.{slice_get-get_or}
use Rattle.cil_base.specs.MadeLists.{one_mapped}
use Rattle.cil_macros.specs.Item.{Item}
use Rattle.cil_macros.specs.Items.{Kept, item_at, items_in}
use Rattle.cil_macros.proofs.ItemLemmas.{item_got}
use Rattle.cil_optionals.specs.Parts.{Part, part_with, parts_with}

pub length_with : (xs : List Item) (rows : List (List (List ℕ))) → length (parts_with xs rows) ≡ length xs
unfolding parts_with
length_with [] rows = refl
length_with (x ∷ xs) [] = ap suc (length_with xs [])
length_with (x ∷ xs) (row ∷ rows) = ap suc (length_with xs rows)

part_there : (xs : List Item) (rows : List (List (List ℕ))) (at : ℕ) (x d : Item) → at < length xs → x ≡ get_or xs at d
    → slice_get (parts_with xs rows) at ≡ Some (part_with x (get_or rows at []))
unfolding parts_with
part_there [] rows at x d within is = absurd (omega (arith, within))
part_there (y ∷ ys) [] zero x d within is = ap (λ z. Some (part_with z [])) (sym is)
part_there (y ∷ ys) [] (suc at) x d within is = part_there ys [] at x d (omega (arith, within)) is
part_there (y ∷ ys) (row ∷ rows) zero x d within is = ap (λ z. Some (part_with z row)) (sym is)
part_there (y ∷ ys) (row ∷ rows) (suc at) x d within is = part_there ys rows at x d (omega (arith, within)) is

pub no_part : (xs : List Item) (rows : List (List (List ℕ))) (at : ℕ) → length xs ≤ at → slice_get (parts_with xs rows) at ≡ None
unfolding parts_with
no_part [] rows at over = refl
no_part (x ∷ xs) [] zero over = absurd (omega (arith, over))
no_part (x ∷ xs) [] (suc at) over = no_part xs [] at (omega (arith, over))
no_part (x ∷ xs) (row ∷ rows) zero over = absurd (omega (arith, over))
no_part (x ∷ xs) (row ∷ rows) (suc at) over = no_part xs rows at (omega (arith, over))

-- the part of the statement at a place
pub part_at : (i : Kept) (rows : List (List (List ℕ))) (at : ℕ) → at < length (items_in i)
    → slice_get (parts_with (items_in i) rows) at ≡ Some (part_with (item_at i at) (get_or rows at []))
part_at i rows at within = part_there (items_in i) rows at (item_at i at) (item_at i at) within (item_got i at within (item_at i at))

-- where the rows are those of the statements
pub all_with : (f : Item → List (List ℕ)) (xs : List Item) → parts_with xs (map f xs) ≡ map (λ x. part_with x (f x)) xs
unfolding parts_with
all_with f [] = refl
all_with f (x ∷ xs) = ap (λ l. part_with x (f x) ∷ l) (all_with f xs)

-- ---- lists made of parts, one by one

pub no_such : Part
no_such = record { optional = false; inside = None; asked = [] }

pub one_part : {Y : Type 0} (f : Part → Y) (d : Y) (ps : List Part) (at : ℕ) (y : Y) (old new : List Y) → at < length ps → old ≡ map f (take at ps)
    → y ≡ option_map_or f (slice_get ps at) d → new ≡ old ++ y ∷ [] → new ≡ map f (take (at + 1) ps)
one_part f d ps at y old new within so is push =
    one_mapped f ps at (get_or ps at no_such) no_such [] old new within refl so
    (push ∙ ap (λ z. old ++ z ∷ []) (is ∙ ap (λ o. option_map_or f o d) (slice_get-get_or ps at no_such within)))

pub time_of_part : (top : ℕ) (o : Option Part) → cond (option_map_or (λ (p : Part). p.optional) o false) top 0 ≡ option_map_or (λ (p : Part). cond p.optional top 0) o 0
time_of_part top None = refl
time_of_part top (Some p) = refl

-- one part more in a sum
pub sum_more : (f : Part → ℕ) (ps : List Part) (at old more new : ℕ) → at < length ps → old ≡ sum_by f (take at ps) → more ≡ option_map_or f (slice_get ps at) 0 → new ≡ old + more
    → new ≡ sum_by f (take (at + 1) ps)
sum_more f ps at old more new within so is put =
    let p = get_or ps at no_such in
    let whole = ap (sum_by f) (take_more ps at no_such within) ∙ sum_by-append f (take at ps) (p ∷ []) in
    let one = sum_by-cons f p [] in
    let here = is ∙ ap (λ o. option_map_or f o 0) (slice_get-get_or ps at no_such within) in
    omega (arith, whole, one, here, so, put)

-- ---- a test of a place

pub not_below : (at n : ℕ) → (at < n → ⊥) → n ≤ at
not_below at zero no_way = omega arith
not_below zero (suc n) no_way = absurd (no_way (omega arith))
not_below (suc at) (suc n) no_way = let h = not_below at n (λ l. no_way (omega (arith, l))) in omega (arith, h)

pub absent_at : (b : Bool) (at n : ℕ) → (at < n → b ≡ true) → b ≡ false → n ≤ at
absent_at b at n there e = not_below at n (λ l. true≢false (sym (there l) ∙ e))
