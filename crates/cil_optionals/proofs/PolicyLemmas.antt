-- One policy, and that of modules without optionals.
use Rattle.std.specs.Prelude.{Contains}
use Rattle.std.proofs.Common.{◌≡◌, ℕ, zero, suc, false, List, [], ◌∷◌, map, refl, sym, subst, ◌∙◌}
use Rattle.cil_base.specs.Lists.{Lists, contains_here, contains_later, one_list}
use Rattle.cil_syntax.specs.Written.{IsWritten, written_cmp, written_total}
use Rattle.cil_blocks.specs.Contents.{Stands, is_optional, standing_cmp}
use Rattle.cil_blocks.proofs.InheritLemmas.{standing_total}
use Rattle.cil_macros.specs.Calls.{IsPlaced, placed_cmp}
use Rattle.cil_macros.specs.Item.{Item, OptSet, nobody}
use Rattle.cil_macros.specs.Items.{AreItems, item_of}
use Rattle.cil_macros.proofs.ExpandLemmas.{placed_total}
use Rattle.cil_optionals.specs.Greatest.{IsGreatest, is_optional_at}
use Rattle.cil_optionals.specs.Policy.{ArePolicy}
use Rattle.cil_optionals.proofs.GreatestLemmas.{not_both, one_greatest}

-- modules have one list of items: each of its three lists is one
pub one_items : (modules : List (List ℕ)) (xs ys : List Item) → AreItems modules xs → AreItems modules ys → xs ≡ ys
one_items modules xs ys a b =
    let program : a.program ≡ b.program = one_list written_cmp written_total (IsWritten modules) a.program b.program a.is_program b.is_program in
    let standings : a.standings ≡ b.standings =
    one_list standing_cmp standing_total (Stands b.program) a.standings b.standings
    (subst (λ ws. Lists standing_cmp (Stands ws) a.standings) program a.are_standings) b.are_standings in
    let placed : a.placed ≡ b.placed =
    one_list placed_cmp placed_total (IsPlaced b.program b.standings) a.placed b.placed
    (subst (λ ss. Lists placed_cmp (IsPlaced b.program ss) a.placed) standings (subst (λ ws. Lists placed_cmp (IsPlaced ws a.standings) a.placed) program a.are_placed))
    b.are_placed in
    a.items ∙ (λ i. map (item_of (program i) (standings i) (placed i)) (placed i)) ∙ sym b.items

pub one_policy : (modules : List (List ℕ)) (xs ys : List Item) (s t : OptSet) → ArePolicy modules xs s → ArePolicy modules ys t → (xs ≡ ys) × (s ≡ t)
one_policy modules xs ys s t a b =
    let items : xs ≡ ys = one_items modules xs ys a.are_items b.are_items in
    (items, one_greatest ys s t (subst (λ zs. IsGreatest zs s) items a.greatest) b.greatest)

-- ---- without optionals

module _ (xs : List Item) where
  -- no statement is an optional
  abbrev HasNoOptional : Type 0
  HasNoOptional = (x : Item) → Contains xs x → is_optional x.keyword ≡ false

none_at : (xs : List Item) → HasNoOptional xs → (o : ℕ) → is_optional_at xs o ≡ false
none_at [] f o = refl
none_at (x ∷ xs) f zero = f x (contains_here x xs)
none_at (x ∷ xs) f (suc o) = none_at xs (λ y c. f y (contains_later y x xs c)) o

-- then the greatest set is the empty one
pub nobody_greatest : (xs : List Item) → HasNoOptional xs → IsGreatest xs nobody
nobody_greatest xs f o = (λ e. absurd (not_both false e refl), λ from. absurd (not_both (is_optional_at xs o) (from.1.optionals o from.2) (none_at xs f o)))
