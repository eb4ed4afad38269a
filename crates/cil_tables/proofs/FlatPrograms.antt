-- The statements of policies without blocks and macros stand at the top of their modules, and their items in the global
-- namespace.
use Rattle.std.proofs.Common.{◌≡◌, ℕ, true, false, List, [], map, refl, sym, ◌∙◌, ap, subst}
use Rattle.std.specs.Prelude.{Contains, Some}
use Rattle.std.proofs.lemmas.Option.{none-some}
use Rattle.cil_base.specs.MadeLists.{from_map}
use Rattle.cil_base.specs.Lists.{Lists}
use Rattle.cil_sexpr.specs.Tree.{Node, Nodes, inner_of, next, none}
use Rattle.cil_syntax.specs.declared.kind.Keyword.{Keyword}
use Rattle.cil_syntax.specs.declared.kind.Keyword.TheVariants as keywords
use Rattle.cil_faults.specs.declared.spot.Spot.{Spot}
use Rattle.cil_syntax.specs.Table.{entry_of, plain}
use Rattle.cil_syntax.specs.Written.{Context, FoundIn, IsItem, IsWritten, Written, at_top, body_of, inside, top, within, written, written_cmp}
use Rattle.cil_blocks.specs.Contents.{Standing, Stands, in_block, in_branch as in_standing_branch, in_optional as in_standing_optional, inherited, is_block, is_inheriting, is_named, is_optional, top as standing_on_top}
use Rattle.cil_blocks.specs.Laws.{IsFlat}
use Rattle.cil_macros.specs.Calls.{IsPlaced, called, in_branch, in_optional, placed_cmp, stands}
use Rattle.cil_macros.specs.Item.{Item}
use Rattle.cil_macros.specs.Items.{item_of}
use Rattle.cil_macros.specs.Placed.{Placed}
use Rattle.cil_tables.specs.Laws.{AreFlatModules, is_flat}
use Rattle.cil_tables.proofs.FlatLemmas.{AreFlat}
use Rattle.cil_tables.proofs.NoGifts.{HaveFlatKeywords}

-- ---- where a statement stands

flat_body : (k : Keyword) → is_flat k ≡ true → (entry_of k).body ≡ plain
unfolding entry_of
flat_body keywords.Block e = absurd cc
flat_body keywords.BlockAbstract e = absurd cc
flat_body keywords.BlockInherit e = absurd cc
flat_body keywords.Macro e = absurd cc
flat_body keywords.Call e = absurd cc
flat_body keywords.Optional e = absurd cc
flat_body keywords.BooleanIf e = absurd cc
flat_body k e = refl

flat_block : (k : Keyword) → is_flat k ≡ true → is_block k ≡ false
flat_block keywords.Block e = absurd cc
flat_block k e = refl

flat_name : (k : Keyword) → is_flat k ≡ true → is_named k ≡ false
flat_name keywords.Block e = absurd cc
flat_name keywords.Macro e = absurd cc
flat_name k e = refl

flat_inheritance : (k : Keyword) → is_flat k ≡ true → is_inheriting k ≡ false
flat_inheritance keywords.BlockInherit e = absurd cc
flat_inheritance k e = refl

pub flat_optional : (k : Keyword) → is_flat k ≡ true → is_optional k ≡ false
flat_optional keywords.Optional e = absurd cc
flat_optional k e = refl

no_item : (n : Node) (ns : Nodes) → IsItem n ns → ns ≡ none → ⊥
no_item n none i e = elim i [ ]
no_item n (next m ms) i e = cc

module _ (modules : List (List ℕ)) (flat : AreFlatModules modules) where
  on_top : (m : ℕ) (context : Context) (n : Node) → FoundIn modules m context n → context ≡ at_top
  on_top m context n (top tree k within_modules text item) = refl
  on_top m context n (inside outer p k s fs found said item) =
      absurd (no_item n (body_of s p) item (ap (λ b. within b (inner_of p)) (flat_body s.keyword (flat (record { context = outer; statement = s }) (written m outer p s fs found said)))))

  pub flat_statement : (w : Written) → IsWritten modules w → IsFlat w
  flat_statement w (written m context n s fs found said) =
      let is = flat (record { context = context; statement = s }) (written m context n s fs found said) in
      record {
        on_top = ap (λ (c : Context). c.under) (on_top m context n found);
        no_block = flat_block s.keyword is;
        no_name = flat_name s.keyword is;
        no_inheritance = flat_inheritance s.keyword is;
        no_optional = flat_optional s.keyword is;
      }

-- ---- what is placed

module _ (ws : List Written) (flat : (w : Written) → Contains ws w → IsFlat w) where
  nowhere_in : (w : Written) (at : Spot) → Contains ws w → w.context.under ≡ Some at → ⊥
  nowhere_in w at c is_in = none-some at (sym (flat w c).on_top ∙ is_in)

  standing_flat : (s : Standing) → Stands ws s → s.space ≡ []
  standing_flat _ (standing_on_top w c top_of) = refl
  standing_flat _ (in_block s w st is_it not_abstract c is_in) = absurd (nowhere_in w s.statement.statement.at c is_in)
  standing_flat _ (in_standing_optional s w st is_it c is_in) = absurd (nowhere_in w s.statement.statement.at c is_in)
  standing_flat _ (in_standing_branch s w st is_it c is_in) = absurd (nowhere_in w s.statement.statement.at c is_in)
  standing_flat _ (inherited s b w st is_it target c is_in) = absurd (nowhere_in w b.statement.at c is_in)

  module _ (ss : List Standing) (standing : (s : Standing) → Contains ss s → Stands ws s) where
    placed_flat : (p : Placed) → IsPlaced ws ss p → p.standing.space ≡ []
    placed_flat _ (stands s c) = standing_flat s (standing s c)
    placed_flat _ (called p u w is unfolds c is_in) = absurd (nowhere_in w u.macro.statement.statement.at c is_in)
    placed_flat _ (in_optional p b w is body is_it c is_in) = absurd (nowhere_in w p.standing.statement.statement.at c is_in)
    placed_flat _ (in_branch p b w is body is_it c is_in) = absurd (nowhere_in w p.standing.statement.statement.at c is_in)

    pub items_flat : (placed : List Placed) → Lists placed_cmp (IsPlaced ws ss) placed → AreFlat (map (item_of ws ss placed) placed)
    items_flat placed are x c =
        let (p, cp, e) = from_map (item_of ws ss placed) placed x c in ap (λ (y : Item). y.space) (sym e) ∙ placed_flat p ((are.members p).0 cp)

-- ---- no statement is an optional

module _ (ws : List Written) where
  standing_among : (s : Standing) → Stands ws s → Contains ws s.statement
  standing_among _ (standing_on_top w c top_of) = c
  standing_among _ (in_block s w st is_it not_abstract c is_in) = c
  standing_among _ (in_standing_optional s w st is_it c is_in) = c
  standing_among _ (in_standing_branch s w st is_it c is_in) = c
  standing_among _ (inherited s b w st is_it target c is_in) = c

  module _ (ss : List Standing) (standing : (s : Standing) → Contains ss s → Stands ws s) where
    placed_among : (p : Placed) → IsPlaced ws ss p → Contains ws p.standing.statement
    placed_among _ (stands s c) = standing_among s (standing s c)
    placed_among _ (called p u w is unfolds c is_in) = c
    placed_among _ (in_optional p b w is body is_it c is_in) = c
    placed_among _ (in_branch p b w is body is_it c is_in) = c

    pub with_flat_keywords : ((w : Written) → Contains ws w → is_flat w.statement.keyword ≡ true) → (placed : List Placed) → Lists placed_cmp (IsPlaced ws ss) placed
        → HaveFlatKeywords (map (item_of ws ss placed) placed)
    with_flat_keywords flat placed are x c =
        let (p, cp, e) = from_map (item_of ws ss placed) placed x c in
        subst (λ (y : Item). is_flat y.keyword ≡ true) e (flat p.standing.statement (placed_among p ((are.members p).0 cp)))

    pub without_optionals : ((w : Written) → Contains ws w → is_flat w.statement.keyword ≡ true) → (placed : List Placed) → Lists placed_cmp (IsPlaced ws ss) placed
        → (x : Item) → Contains (map (item_of ws ss placed) placed) x → is_optional x.keyword ≡ false
    without_optionals flat placed are x c = flat_optional x.keyword (with_flat_keywords flat placed are x c)

-- what is written in flat modules is flat
pub flat_keyword : (modules : List (List ℕ)) → AreFlatModules modules → (ws : List Written) → Lists written_cmp (IsWritten modules) ws → (w : Written) → Contains ws w
    → is_flat w.statement.keyword ≡ true
flat_keyword modules flat ws are w c = flat w ((are.members w).0 c)
