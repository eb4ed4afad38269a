-- The scope of all that is placed ends with the global namespace, whatever opened it.
use Rattle.std.proofs.Common.{◌≡◌, ◌<◌, ℕ, zero, suc, List, length, [], ◌∷◌, ◌++◌, map, refl, sym, subst}
use Rattle.std.specs.Prelude.{Option, Some, None, IfSome, slice_get}
use Rattle.std.specs.List.{AllByRecursion}
use Rattle.cil_base.specs.Places.{none_some, some_same}
use Rattle.cil_syntax.specs.Scopes.{EndsGlobally}
use Rattle.cil_syntax.proofs.ScopeEnds.{alone_ends, tidy_ends}
use Rattle.cil_syntax.specs.Written.{Written}
use Rattle.cil_syntax.specs.declared.kind.Keyword.{Keyword}
use Rattle.cil_syntax.specs.declared.kind.Keyword.TheVariants as keywords
use Rattle.cil_blocks.specs.declared.entry.Entry.{Entry}
use Rattle.cil_blocks.specs.Contents.{Standing}
use Rattle.cil_blocks.specs.Entries.{opener_of, standing_as, standing_through, standing_under, standings_from, standings_of, stepped, statement_at}
use Rattle.cil_blocks.specs.Opens.{target_of}
use Rattle.cil_macros.specs.declared.entry.Called.{Called}
use Rattle.cil_macros.specs.Calls.{Unfolded, unfolded}
use Rattle.cil_macros.specs.Entries.{placed_by, placed_from, placed_of, placed_through, placed_under}
use Rattle.cil_macros.specs.Items.{Kept, all_placed, items_in, placed_at, scope_by}
use Rattle.cil_macros.specs.Meant.{scope_there}
use Rattle.cil_macros.specs.Opens.{starts}
use Rattle.cil_macros.specs.Placed.{Placed, placed_standing}
use Rattle.cil_macros.proofs.ItemLemmas.{placed_there}

module _ {X : Type 0} (P : X → Type 0) where
  one_more : (xs : List X) (x : X) → AllByRecursion P xs → P x → AllByRecursion P (xs ++ x ∷ [])
  one_more [] x all here = (here, tt)
  one_more (y ∷ ys) x all here = (all.0, one_more ys x all.1 here)

  there : (xs : List X) (k : ℕ) (x : X) → AllByRecursion P xs → slice_get xs k ≡ Some x → P x
  there [] k x all at = absurd (none_some x at)
  there (y ∷ ys) zero x all at = subst P (some_same y x at) all.0
  there (y ∷ ys) (suc k) x all at = there ys k x all.1 at

  -- the one at a place, if there is one
  opened : (xs : List X) (o : Option ℕ) → AllByRecursion P xs → IfSome (opener_of xs o) P
  opened xs None all = tt
  opened xs (Some k) all = by (slice_get xs k) refl
    where
      by : (r : Option X) → slice_get xs k ≡ r → IfSome r P
      by None e = tt
      by (Some x) e = there xs k x all e

-- ---- what stands

abbrev StandsSo : Standing → Type 0
StandsSo s = EndsGlobally s.scope

through_ends : (s : Standing) (b : Option Written) (w : Written) → StandsSo (standing_through s b w)
through_ends s None w = tidy_ends _
through_ends s (Some b) w = tidy_ends _

as_ends : (ws : List Written) (s : Standing) (k : Keyword) (w : Written) → StandsSo s → StandsSo (standing_as ws s k w)
as_ends ws s keywords.BlockInherit w so = through_ends s (target_of ws s.statement) w
as_ends ws s keywords.Optional w so = so
as_ends ws s keywords.BooleanIf w so = so
as_ends ws s k w so = tidy_ends _

under_ends : (ws : List Written) (o : Option Standing) (w : Written) → IfSome o StandsSo → StandsSo (standing_under ws o w)
under_ends ws None w so = alone_ends
under_ends ws (Some s) w so = as_ends ws s s.statement.statement.keyword w so

standings_end : (ws : List Written) (done : List Standing) (es : List Entry) → AllByRecursion StandsSo done → AllByRecursion StandsSo (standings_from ws done es)
unfolding standings_from
standings_end ws done [] all = all
standings_end ws done (e ∷ es) all =
    standings_end ws (done ++ stepped ws done e.opener e.statement ∷ []) es
    (one_more StandsSo done (stepped ws done e.opener e.statement) all (under_ends ws (opener_of done e.opener) (statement_at ws e.statement) (opened StandsSo done e.opener all)))

-- ---- what is placed

abbrev PlacedSo : Placed → Type 0
PlacedSo p = EndsGlobally p.standing.scope

placed_through_ends : (ws : List Written) (p : Placed) (u : Option Unfolded) (w : Written) → PlacedSo p → PlacedSo (placed_through ws p u w)
placed_through_ends ws p None w so = so
placed_through_ends ws p (Some u) w so = tidy_ends _

placed_under_ends : (ws : List Written) (ss : List Standing) (o : Option Placed) (w : Written) → IfSome o PlacedSo → PlacedSo (placed_under ws ss o w)
placed_under_ends ws ss None w so = alone_ends
placed_under_ends ws ss (Some p) w so = placed_through_ends ws p (unfolded ws ss p) w so

placed_end : (ws : List Written) (ss : List Standing) (done : List Placed) (cs : List Called) → AllByRecursion PlacedSo done → AllByRecursion PlacedSo (placed_from ws ss done cs)
unfolding placed_from
placed_end ws ss done [] all = all
placed_end ws ss done (c ∷ cs) all =
    placed_end ws ss (done ++ placed_by ws ss done c.opener c.statement ∷ []) cs
    (one_more PlacedSo done (placed_by ws ss done c.opener c.statement) all
    (placed_under_ends ws ss (slice_get done c.opener) (statement_at ws c.statement) (opened PlacedSo done (Some c.opener) all)))

started : (ss : List Standing) → AllByRecursion StandsSo ss → AllByRecursion PlacedSo (map placed_standing ss)
started [] all = tt
started (s ∷ ss) all = (all.0, started ss all.1)

pub all_end : (ws : List Written) (es : List Entry) (cs : List Called) → AllByRecursion PlacedSo (placed_of ws (standings_of ws es) cs)
all_end ws es cs = placed_end ws (standings_of ws es) (starts (standings_of ws es)) cs (started (standings_of ws es) (standings_end ws [] es tt))

-- the scope of what is placed at a place of some instances
its_scope_ends : (i : Kept) (at : ℕ) (p : Placed) → slice_get (all_placed i) at ≡ Some p → EndsGlobally p.standing.scope
its_scope_ends i at p is = there PlacedSo (all_placed i) at p (all_end _ _ _) is

pub scope_ends : (i : Kept) (at : ℕ) → at < length (items_in i) → EndsGlobally (scope_by (all_placed i) (Some at))
scope_ends i at within =
    let is = placed_there i at within in
    subst (λ o. EndsGlobally (scope_there o)) (sym is) (its_scope_ends i at (placed_at i at) is)
