-- The items of all that is placed, place by place.
use Rattle.std.specs.Prelude.{Some, slice_get}
use Rattle.std.proofs.Common.{◌≡◌, ℕ, ◌+◌, ◌<◌, Bool, true, false, List, [], ◌∷◌, ◌++◌, length, take, drop, get_or, refl, sym, ◌∙◌, ap, arith}
use Rattle.std.proofs.lemmas.List.{get_or-map, length-map, take_more}
use Rattle.cil_base.specs.Places.{drop_at, is_there}
use Rattle.cil_syntax.specs.declared.kind.Keyword.{Keyword}
use Rattle.cil_syntax.specs.declared.kind.Keyword.TheVariants as keywords
use Rattle.cil_syntax.specs.declared.term.Word.{Word}
use Rattle.cil_syntax.specs.Terms.{Term, Leaf, Name, Form, Terms, nil, cons}
use Rattle.cil_syntax.specs.Written.{Written}
use Rattle.cil_blocks.specs.Contents.{Standing, standing_top}
use Rattle.cil_blocks.specs.Entries.{nothing}
use Rattle.cil_macros.specs.Item.{Item, all_replaced, replaced}
use Rattle.cil_macros.specs.Items.{Kept, all_placed, item_at, item_of, items_in, may_say_lists, placed_at, said_by, says, says_as_written, says_there, word_of}
use Rattle.cil_macros.specs.Macros.{all_standing}
use Rattle.cil_macros.specs.Placed.{Placed, all_filled, filled, placed_standing}
use Rattle.cil_macros.specs.Walks.{written_in}

-- ---- places

-- as many are placed as there are items
pub items_counted : (i : Kept) → length (items_in i) ≡ length (all_placed i)
items_counted i = length-map (all_placed i) (item_of (written_in i.0) (all_standing i.0) (all_placed i))

module _ (i : Kept) (at : ℕ) (within : at < length (items_in i)) where
  among_placed : at < length (all_placed i)
  among_placed = let h = items_counted i in omega (arith, h, within)

  -- what is placed there
  pub placed_there : slice_get (all_placed i) at ≡ Some (placed_at i at)
  placed_there = is_there (all_placed i) at (placed_standing (standing_top nothing)) among_placed

  -- the item that is there
  pub item_got : (d : Item) → item_at i at ≡ get_or (items_in i) at d
  item_got d = sym (get_or-map (item_of (written_in i.0) (all_standing i.0) (all_placed i)) (all_placed i) at (placed_standing (standing_top nothing)) d among_placed)

  pub item_there : slice_get (items_in i) at ≡ Some (item_at i at)
  item_there = is_there (items_in i) at (item_at i at) within ∙ ap Some (sym (item_got (item_at i at)))

  -- the items before the next place
  pub items_taken : take (at + 1) (items_in i) ≡ take at (items_in i) ++ item_at i at ∷ []
  items_taken = take_more (items_in i) at (item_at i at) within ∙ ap (λ x. take at (items_in i) ++ x ∷ []) (sym (item_got (item_at i at)))

  -- those from here on
  pub items_left : drop at (items_in i) ≡ item_at i at ∷ drop (at + 1) (items_in i)
  items_left = drop_at (items_in i) at (item_at i at) (item_at i at) within (item_got (item_at i at))

-- ---- terms whose words are replaced by words

module _ {L M : Type 0} (f : L → Term M) (g : L → M) (words : (w : L) → f w ≡ Leaf (g w)) where
  mutual
    unfolding filled all_filled replaced all_replaced

    one_filled : (t : Term L) → filled f t ≡ replaced (λ at. at) g t
    one_filled (Leaf w) = words w
    one_filled (Name at name) = refl
    one_filled (Form at op parts) = ap (Form at op) (filled_with_words parts)

    pub filled_with_words : (ts : Terms L) → all_filled f ts ≡ all_replaced (λ at. at) g ts
    filled_with_words nil = refl
    filled_with_words (cons t ts) =
        let p = one_filled t in
        let q = filled_with_words ts in
        λ i. cons (p i) (q i)

-- ---- what items say

-- each statement says what is written, but for calls and what is judged with the blocks
pub said_written : (ws : List Written) (ss : List Standing) (p : Placed) (k : Keyword) (args : Terms Word) → says_as_written k ≡ true → says ws ss p k args ≡ says_there ws p (may_say_lists k) args
unfolding says
said_written ws ss p keywords.BlockAbstract args e = absurd cc
said_written ws ss p keywords.BlockInherit args e = absurd cc
said_written ws ss p keywords.Call args e = absurd cc
said_written ws ss p k args e = refl

module _ (ws : List Written) (ss : List Standing) (p : Placed) (k : Keyword) (args : Terms Word) (written : says_as_written k ≡ true) where
  -- with the lists that are put in, where lists may be
  pub said_filled : may_say_lists k ≡ true → says ws ss p k args ≡ all_filled (said_by ws p) args
  said_filled lists = said_written ws ss p k args written ∙ ap (λ b. says_there ws p b args) lists

  -- each word as a word, where no list may be
  pub said_named : may_say_lists k ≡ false → says ws ss p k args ≡ all_replaced (λ at. at) (word_of ws p) args
  said_named none = said_written ws ss p k args written ∙ ap (λ b. says_there ws p b args) none

-- and where each says one
pub said_as_written : (ws : List Written) (ss : List Standing) (p : Placed) → ((w : Word) → said_by ws p w ≡ Leaf (word_of ws p w)) → (k : Keyword) (args : Terms Word) → says_as_written k ≡ true
    → says ws ss p k args ≡ all_replaced (λ at. at) (word_of ws p) args
said_as_written ws ss p words k args e = said_written ws ss p k args e ∙ by (may_say_lists k)
  where
    by : (b : Bool) → says_there ws p b args ≡ all_replaced (λ at. at) (word_of ws p) args
    by true = filled_with_words (said_by ws p) (word_of ws p) words args
    by false = refl

module _ (ws : List Written) (ss : List Standing) (p : Placed) (args : Terms Word) where
  pub inherit_says : says ws ss p keywords.BlockInherit args ≡ nil
  unfolding says
  inherit_says = refl

  pub abstract_says : says ws ss p keywords.BlockAbstract args ≡ nil
  unfolding says
  abstract_says = refl
