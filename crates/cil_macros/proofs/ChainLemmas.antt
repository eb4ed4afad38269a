-- The calls through which something is placed, by the bodies that are kept.
use Rattle.std.proofs.Common.{◌≡◌, ℕ, ◌+◌, ◌<◌, Bool, true, false, ◌||◌, List, [], ◌∷◌, length, get_or, sym, ◌∙◌, ap, subst, arith}
use Rattle.std.specs.Prelude.{Some, None, slice_get}
use Rattle.std.specs.List.{list_any}
use Rattle.cil_base.specs.Places.{none_some, some_at, some_same, there_as}
use Rattle.cil_syntax.specs.declared.program.Statement.{Statement}
use Rattle.cil_faults.specs.declared.spot.Spot.{Spot}
use Rattle.cil_syntax.specs.Program.{IsNested, program_of}
use Rattle.cil_syntax.specs.Written.{Written}
use Rattle.cil_blocks.specs.Contents.{Standing, same_spot}
use Rattle.cil_blocks.specs.Entries.{standings_of, statement_at}
use Rattle.cil_blocks.specs.declared.entry.Entry.{Entry}
use Rattle.cil_blocks.proofs.EntryLemmas.{mapped_at, statements_from}
use Rattle.cil_macros.specs.declared.entry.Body.{Body}
use Rattle.cil_macros.specs.declared.entry.Called.{Called}
use Rattle.cil_macros.specs.Entries.{AreBodies, IsBodyAt, placed_of}
use Rattle.cil_macros.specs.Placed.{Placed, placed_standing}
use Rattle.cil_macros.proofs.BodyLemmas.{is_brought, standing_at}

-- ---- the statement that stands somewhere

module _ (ss : List Statement) (nested : IsNested ss) (es : List Entry) (at : ℕ) (d : Entry) (within : at < length es) (s : Standing)
    (here : slice_get (standings_of (program_of ss) es) at ≡ Some s) where
  pub stated : s.statement ≡ statement_at (program_of ss) (get_or es at d).statement
  stated =
      let m = mapped_at (program_of ss) (standings_of (program_of ss) es) es at d (statements_from (program_of ss) [] es) within in
      ap (λ (x : Standing). x.statement) (some_same s m.0 (sym here ∙ m.1)) ∙ m.2

-- ---- the body of what a call brought

module _ (ws : List Written) (ss : List Standing) (cs : List Called) (bs : List Body) where
  module _ (are_bodies : AreBodies ws ss cs bs) (at j : ℕ) (d : Called) (within : j < length cs) (place : at ≡ length ss + j) (is : d ≡ get_or cs j d) where
    its_place : slice_get cs j ≡ Some d
    its_place = there_as cs j d within is

    pub not_gone : slice_get bs d.body ≡ None → ⊥
    not_gone e = let b = is_brought ws ss cs bs are_bodies j d its_place in none_some b.body (sym e ∙ b.is_body)

    pub its_body : (x : Body) → slice_get bs d.body ≡ Some x → IsBodyAt ws ss cs at x
    its_body x e =
        let b = is_brought ws ss cs bs are_bodies j d its_place in
        let before = b.before in
        subst (IsBodyAt ws ss cs at) (some_same b.body x (sym b.is_body ∙ e))
        (record {
          so = b.so;
          before = omega (arith, before, place);
          there = b.there;
          placed = ap (slice_get (placed_of ws ss cs)) place ∙ b.placed;
          is = b.is;
        })

-- ---- the macros that were called

module _ (ws : List Written) (ss : List Standing) (cs : List Called) (spot : Spot) where
  -- whether a macro is among those through which something came
  abbrev pub IsCame : ℕ → Bool → Type 0
  IsCame at b = (p : Placed) → slice_get (placed_of ws ss cs) at ≡ Some p → b ≡ list_any (same_spot spot) p.macros

  at_macro : (at : ℕ) (b : Body) (x : IsBodyAt ws ss cs at b) (p : Placed) → slice_get (placed_of ws ss cs) at ≡ Some p
      → p.macros ≡ x.so.opened.macro.statement.statement.at ∷ x.so.call.macros
  at_macro at b x p e = ap (λ (q : Placed). q.macros) (some_same p x.there (sym e ∙ x.placed)) ∙ x.is.macros

  -- nothing is called round what stands
  pub came_not : (at : ℕ) → at < length ss → IsCame at false
  came_not at h p e =
      let s = some_at ss at h in
      ap (λ (q : Placed). list_any (same_spot spot) q.macros) (sym (some_same p (placed_standing s.0) (sym e ∙ standing_at ws ss cs at s.0 s.1)))

  -- the macro of the last call, or one of those before it
  pub came_here : (at : ℕ) (b : Body) (x : IsBodyAt ws ss cs at b) → true ≡ same_spot spot x.so.opened.macro.statement.statement.at → IsCame at true
  came_here at b x same p e =
      ap (λ f. f || list_any (same_spot spot) x.so.call.macros) same ∙ ap (list_any (same_spot spot)) (sym (at_macro at b x p e))

  pub came_before : (at : ℕ) (b : Body) (x : IsBodyAt ws ss cs at b) → false ≡ same_spot spot x.so.opened.macro.statement.statement.at → (r : Bool)
      → IsCame b.call r → IsCame at r
  came_before at b x other r before p e =
      before x.so.call x.so.is_call
      ∙ ap (λ f. f || list_any (same_spot spot) x.so.call.macros) other
      ∙ ap (list_any (same_spot spot)) (sym (at_macro at b x p e))
