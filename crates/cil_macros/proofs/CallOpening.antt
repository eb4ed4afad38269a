-- What a body has from its call: the statements of both, and the arguments with which the call is unfolded.
use Rattle.std.proofs.Common.{◌≡◌, ◌⊎◌, inl, inr, ℕ, zero, suc, ◌+◌, ◌<◌, Bool, true, false, if◌then◌else◌, List, [], ◌∷◌, ◌++◌, length, refl, sym, ◌∙◌, ap, subst, arith}
use Rattle.std.specs.Prelude.{Option, Some, None, slice_get}
use Rattle.cil_base.specs.Places.{in_range, none_some, some_same}
use Rattle.cil_syntax.specs.declared.program.Statement.{Statement}
use Rattle.cil_syntax.specs.Program.{statement_of}
use Rattle.cil_syntax.specs.Said.{args_of}
use Rattle.cil_syntax.specs.Written.{Written}
use Rattle.cil_blocks.specs.Contents.{Standing}
use Rattle.cil_blocks.specs.Entries.{nothing}
use Rattle.cil_blocks.specs.Places.{entries_in}
use Rattle.cil_blocks.proofs.EntryLemmas.{standings_length}
use Rattle.cil_macros.specs.declared.entry.Body as code
use Rattle.cil_macros.specs.declared.openings.Opening.{Opening}
use Rattle.cil_macros.specs.declared.scene.Scene.{Scene}
use Rattle.cil_macros.specs.Calls.{Unfolded, bound, bounds_of_call, called_macro, is_repeated, unfolded, unfolded_by, unfolded_with}
use Rattle.cil_macros.specs.Instances.{AreInstances, AreMeant}
use Rattle.cil_macros.specs.Macros.{all_standing}
use Rattle.cil_macros.specs.Openings.{AreOpenings, IsOpening}
use Rattle.cil_macros.specs.Parameters.{call_arguments, macro_parameters}
use Rattle.cil_macros.specs.Placed.{Bound, Placed}
use Rattle.cil_macros.specs.Scene.{IsKnown, IsOpened, IsScene, placed_of_scene}
use Rattle.cil_macros.specs.Walks.{AreInTurn, written_in}
use Rattle.cil_macros.proofs.CallLemmas.{call_there, macro_there}
use Rattle.cil_macros.proofs.CalledMacros.{unfolded_of}
use Rattle.cil_macros.proofs.EntryLemmas.{placed_length}
use Rattle.cil_macros.proofs.WalkLemmas.{either_at}

-- ---- the arguments with which a call is unfolded

module _ (ws : List Written) (ss : List Standing) (p : Placed) (u : Unfolded) where
  with_bounds : (m : Standing) (o : Option (List Bound)) → unfolded_with m o ≡ Some u → o ≡ Some u.bounds
  with_bounds m None e = absurd (none_some u e)
  with_bounds m (Some bs) e = ap (λ (v : Unfolded). Some v.bounds) (some_same (record { macro = m; bounds = bs }) u e)

  not_again : (b : Bool) (m : Standing) (o : Option (List Bound)) → (if b then None else unfolded_with m o) ≡ Some u → o ≡ Some u.bounds
  not_again true m o e = absurd (none_some u e)
  not_again false m o e = with_bounds m o e

  pub macro_of_call : unfolded ws ss p ≡ Some u → called_macro ss p ≡ Some u.macro
  unfolding unfolded
  macro_of_call e = unfolded_of ws ss p (called_macro ss p) u e

  pub bounds_of_opened : unfolded ws ss p ≡ Some u → bounds_of_call ws p u.macro ≡ Some u.bounds
  unfolding unfolded
  bounds_of_opened e =
      not_again (is_repeated p u.macro) u.macro (bounds_of_call ws p u.macro)
      (ap (unfolded_by ws p) (sym (unfolded_of ws ss p (called_macro ss p) u e)) ∙ e)

-- the same, by the statements of both
module _ (ws : List Written) (ss : List Standing) (p : Placed) (u : Unfolded) (is : unfolded ws ss p ≡ Some u) where
  pub no_call_there : p.standing.statement ≡ nothing → ⊥
  no_call_there = call_there ws ss p u.macro (macro_of_call ws ss p u is)

  pub no_macro_there : u.macro.statement ≡ nothing → ⊥
  no_macro_there = macro_there ws ss p u.macro (macro_of_call ws ss p u is)

  pub bound_there : (call macro : Statement) → p.standing.statement.statement ≡ statement_of call → u.macro.statement.statement ≡ statement_of macro
      → bound ws p (macro_parameters (args_of macro)) (call_arguments (args_of call)) ≡ Some u.bounds
  bound_there call macro e f =
      let a = sym e in let b = sym f in (λ i. bound ws p (macro_parameters (b i).args) (call_arguments (a i).args)) ∙ bounds_of_opened ws ss p u is

-- ---- body by body

one_only : (o y : Opening) (j : ℕ) → slice_get (o ∷ []) j ≡ Some y → (j ≡ 0) × (o ≡ y)
one_only o y zero d = (refl, some_same o y d)
one_only o y (suc j) d = absurd (none_some y d)

module _ (s : Scene) (are : IsScene s) (os : List Opening)
    (opened : AreOpenings (written_in s.spaces.now) (all_standing s.spaces.now) (placed_of_scene s) s.brought.now.bodies.items os) where
  -- the call of the next body is known
  pub next_known : (b : code.Body) → slice_get s.brought.now.bodies.items (length os) ≡ Some b → IsKnown s os b.call
  next_known b e =
      let body = are.brought.bodies.each (length os) b e in
      let h = in_range (placed_of_scene s) b.call body.call body.is_call in
      let l = placed_length (written_in s.spaces.now) (all_standing s.spaces.now) s.brought.now.entries.items in
      let m = standings_length (written_in s.spaces.now) (entries_in s.spaces.now) in
      record {
        scene = are;
        within = omega (arith, h, l, m);
        opened = opened;
        first = λ j c behind at. are.brought.firsts.in_turn (length os) j b c e (omega (arith, behind, m)) at;
      }

  pub macro_known : (b : code.Body) → slice_get s.brought.now.bodies.items (length os) ≡ Some b → b.macro_rank < length (entries_in s.spaces.now)
  macro_known b e =
      let body = are.brought.bodies.each (length os) b e in
      let h = in_range (all_standing s.spaces.now) b.macro_rank body.opened.macro body.is_macro in
      let m = standings_length (written_in s.spaces.now) (entries_in s.spaces.now) in
      omega (arith, h, m)

  pub macro_at : (b : code.Body) → slice_get s.brought.now.bodies.items (length os) ≡ Some b → (call : Placed) (u : Unfolded) → slice_get (placed_of_scene s) b.call ≡ Some call
      → unfolded (written_in s.spaces.now) (all_standing s.spaces.now) call ≡ Some u → slice_get (all_standing s.spaces.now) b.macro_rank ≡ Some u.macro
  macro_at b e call u f g =
      let body = are.brought.bodies.each (length os) b e in
      let same : body.call ≡ call = some_same body.call call (sym body.is_call ∙ f) in
      body.is_macro
      ∙ ap (λ (v : Unfolded). Some v.macro)
      (some_same body.opened u (sym body.is_opened ∙ ap (unfolded (written_in s.spaces.now) (all_standing s.spaces.now)) same ∙ g))

  pub one_opening : (b : code.Body) (o : Opening) (new : List Opening) → slice_get s.brought.now.bodies.items (length os) ≡ Some b
      → IsOpening (written_in s.spaces.now) (all_standing s.spaces.now) (placed_of_scene s) b o → new ≡ os ++ o ∷ []
      → AreOpenings (written_in s.spaces.now) (all_standing s.spaces.now) (placed_of_scene s) s.brought.now.bodies.items new
  one_opening b o new e is f i x y g h = by (either_at (written_in s.spaces.now) (all_standing s.spaces.now) os (o ∷ []) i y (ap (λ xs. slice_get xs i) (sym f) ∙ h))
    where
      by : ((i < length os) × (slice_get os i ≡ Some y)) ⊎ ((j : ℕ) × (i ≡ length os + j) × (slice_get (o ∷ []) j ≡ Some y))
          → IsOpening (written_in s.spaces.now) (all_standing s.spaces.now) (placed_of_scene s) x y
      by (inl k) = opened i x y g k.1
      by (inr k) =
          let last = one_only o y k.0 k.2 in
          let at = k.1 in
          let first = last.0 in
          let same : b ≡ x = some_same b x (sym e ∙ ap (slice_get s.brought.now.bodies.items) (let z : length os ≡ i = omega (arith, at, first) in z) ∙ g) in
          subst (λ (z : code.Body). IsOpening (written_in s.spaces.now) (all_standing s.spaces.now) (placed_of_scene s) z y) same
          (subst (IsOpening (written_in s.spaces.now) (all_standing s.spaces.now) (placed_of_scene s) b) last.1 is)

-- ---- all bodies

-- where all bodies are known, all that is placed is
pub all_known : (s : Scene) (os : List Opening) (at : ℕ) → AreInstances s.spaces.now s.brought.now → AreMeant s.spaces.now s.brought.now s.declared.now os
    → at < length (entries_in s.spaces.now) + length s.brought.now.entries.items → IsKnown s os at
all_known s os at are meant within = record {
  scene = record { standings = are.standings; brought = are.brought; declared = meant.declared };
  within = within;
  opened = meant.openings;
  first = λ j c behind there.
      let m = standings_length (written_in s.spaces.now) (entries_in s.spaces.now) in
      let x = are.brought.bodies.brought j c there in
      let h = in_range s.brought.now.bodies.items c.body x.body x.is_body in
      let many = meant.many in
      omega (arith, h, many);
}

-- and each call that is unfolded has its body
pub all_opened : (s : Scene) (os : List Opening) → AreInstances s.spaces.now s.brought.now → AreMeant s.spaces.now s.brought.now s.declared.now os → IsOpened s os
all_opened s os are meant = record {
  scene = record { standings = are.standings; brought = are.brought; declared = meant.declared };
  in_turn = are.in_turn;
  opened = meant.openings;
  many = meant.many;
}

pub opened_so : (s : Scene) (xs os : List Opening) → xs ≡ os → IsScene s
    → AreInTurn s.spaces.now s.brought.now.entries.items s.brought.now.bodies.items (length (entries_in s.spaces.now) + length s.brought.now.entries.items)
    → AreOpenings (written_in s.spaces.now) (all_standing s.spaces.now) (placed_of_scene s) s.brought.now.bodies.items os → length os ≡ length s.brought.now.bodies.items → IsOpened s xs
opened_so s xs os same scene in_turn opened many = subst (IsOpened s) (sym same) (record { scene = scene; in_turn = in_turn; opened = opened; many = many })
