-- What the item at a place says, part by part.
use Rattle.std.proofs.Common.{◌≡◌, ℕ, ◌<◌, ◌∙◌, true, List, ap, length, subst}
use Rattle.std.specs.Prelude.{IfOk, Some, Result, Ok, Err, slice_get}
use Rattle.std.specs.declared.alloc.Global.{Global}
use Rattle.std.specs.declared.vec.Vec.{Vec}
use Rattle.cil_macros.specs.declared.listed.Part.{Part}
use Rattle.cil_macros.specs.Item.{all_words_in}
use Rattle.cil_macros.specs.Items.{Kept, all_placed, item_at, items_in, placed_at, says, says_lists}
use Rattle.cil_macros.specs.Listed.{all_parts_of, parts_there, words_in_parts}
use Rattle.cil_macros.specs.Macros.{all_standing}
use Rattle.cil_macros.specs.Placed.{Placed}
use Rattle.cil_macros.specs.Walks.{written_in}
use Rattle.cil_macros.proofs.PartLemmas.{terms_words}
use Rattle.cil_macros.proofs.PlacedLemmas.{is_place, placed_so}

-- they are those of what is placed there, if it may say lists
abbrev Says : Kept → ℕ → List Part → Type 0
Says i at xs =
    (p : Placed) → slice_get (all_placed i) at ≡ Some p → says_lists p.standing.statement.statement.keyword ≡ true
    → parts_there (all_placed i) xs ≡ all_parts_of (says (written_in i.0) (all_standing i.0) p p.standing.statement.statement.keyword p.standing.statement.statement.args)

-- the same where there is memory
pub parts_say : {E : Type 0} (j i : Kept) → j ≡ i → (at : ℕ) → at < length (items_in i) → says_lists (item_at i at).keyword ≡ true → (r : Result (Vec Part Global) E) → IfOk r (λ xs. Says j at xs.items)
    → IfOk r (λ xs. parts_there (all_placed i) xs.items ≡ all_parts_of (item_at i at).args)
parts_say j i same at within lists (Ok xs) so = (subst (λ (k : Kept). Says k at xs.items) same so) (placed_at i at) (placed_so i at (is_place i at within)) lists
parts_say j i same at within lists (Err e) so = tt

-- and their words
pub words_of_parts : {E : Type 0} (i : Kept) (at : ℕ) (r : Result (Vec Part Global) E) → IfOk r (λ xs. parts_there (all_placed i) xs.items ≡ all_parts_of (item_at i at).args)
    → IfOk r (λ xs. words_in_parts (parts_there (all_placed i) xs.items) ≡ all_words_in (item_at i at).args)
words_of_parts i at (Ok xs) so = ap words_in_parts so ∙ terms_words (item_at i at).args
words_of_parts i at (Err e) so = tt
