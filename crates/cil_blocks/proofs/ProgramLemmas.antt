-- A program as it is kept: each statement at its number, with the one in which it directly stands.
use Rattle.std.proofs.Common.{◌≡◌, ℕ, zero, suc, ◌+◌, ◌<◌, List, [], ◌∷◌, ◌++◌, length, refl, sym, ◌∙◌, ap, subst, arith, append_assoc}
use Rattle.std.specs.Prelude.{Contains, Option, Some, None, slice_get}
use Rattle.std.specs.declared.cmp.Ordering.TheVariants.{Equal}
use Rattle.std.specs.Ordering.{nat_cmp, ordering_then}
use Rattle.std.specs.Cmp.{nat_cmp_is}
use Rattle.std.proofs.lemmas.List.{append-nil, length-append}
use Rattle.cil_syntax.specs.declared.program.Statement.{Statement}
use Rattle.cil_faults.specs.declared.spot.Spot.{Spot}
use Rattle.cil_syntax.specs.Program.{IsNested, context_in, opener_in, program_from, program_of, written_under}
use Rattle.cil_syntax.specs.Written.{Written, written_cmp, written_total}
use Rattle.cil_blocks.specs.Contents.{IsIn}
use Rattle.cil_base.specs.Places.{get_at, get_behind, get_contains, get_in_front, in_range, none_some, some_at, some_same}
use Rattle.cil_base.specs.Rising.{rises_between, tied_same}
use Rattle.cil_blocks.specs.OneStanding.{AreApart}

-- ---- the fold

-- what is there stays in front
pub in_front : (done : List Written) (ss : List Statement) → (more : List Written) × (program_from done ss ≡ done ++ more) × (length more ≡ length ss)
unfolding program_from
in_front done [] = ([], sym (append-nil done), refl)
in_front done (s ∷ ss) =
    let w = written_under (opener_in done s.under) s in
    let r = in_front (done ++ w ∷ []) ss in
    (w ∷ r.0, r.1 ∙ append_assoc done (w ∷ []) r.0, let l = r.2 in omega (arith, l))

pub program_length : (ss : List Statement) → length (program_of ss) ≡ length ss
program_length ss = let r = in_front [] ss in ap length r.1 ∙ r.2

-- it stands behind its opener
abbrev pub IsBehind : ℕ → Option ℕ → Type 0
IsBehind i under = (k : ℕ) → under ≡ Some k → k < i

opener_stays : (done more : List Written) (under : Option ℕ) → IsBehind (length done) under → opener_in (done ++ more) under ≡ opener_in done under
opener_stays done more None h = refl
opener_stays done more (Some k) h = get_in_front done more k (h k refl)

get_from : (done : List Written) (ss : List Statement) (i n : ℕ) (s : Statement) → slice_get ss i ≡ Some s → n ≡ length done + i → IsBehind n s.under
    → slice_get (program_from done ss) n ≡ Some (written_under (opener_in (program_from done ss) s.under) s)
unfolding program_from
get_from done [] i n s e at h = absurd (none_some s e)
get_from done (t ∷ ss) zero n s e at h =
    let same : t ≡ s = some_same t s e in
    let w = written_under (opener_in done t.under) t in
    let r = in_front (done ++ w ∷ []) ss in
    let place : n ≡ length done = omega (arith, at) in
    let whole : program_from (done ++ w ∷ []) ss ≡ done ++ (w ∷ r.0) = r.1 ∙ append_assoc done (w ∷ []) r.0 in
    ap (λ xs. slice_get xs n) whole ∙ get_behind done (w ∷ r.0) 0 n at
    ∙ ap (λ (x : Statement). Some (written_under (opener_in done x.under) x)) same
    ∙ ap (λ o. Some (written_under o s)) (sym (opener_stays done (w ∷ r.0) s.under (subst (λ x. IsBehind x s.under) place h)))
    ∙ ap (λ xs. Some (written_under (opener_in xs s.under) s)) (sym whole)
get_from done (t ∷ ss) (suc i) n s e at h =
    get_from (done ++ written_under (opener_in done t.under) t ∷ []) ss i n s e
    (let l : length (done ++ written_under (opener_in done t.under) t ∷ []) ≡ length done + 1 = length-append done (written_under (opener_in done t.under) t ∷ []) in omega (arith, l, at)) h

-- ---- places

head_of : List ℕ → ℕ
head_of [] = 0
head_of (x ∷ xs) = x

equal_numbers : (a b : ℕ) → a ≡ b → nat_cmp a b ≡ Equal
equal_numbers a b e = sym (nat_cmp_is a b Equal e)

pub tied : (v w : Written) → v.statement.at ≡ w.statement.at → written_cmp v w ≡ Equal
tied v w e =
    ap (λ o. ordering_then o (nat_cmp v.statement.at.at w.statement.at.at)) (equal_numbers v.statement.at.«module» w.statement.at.«module» (ap (λ (s : Spot). s.«module») e))
    ∙ equal_numbers v.statement.at.at w.statement.at.at (ap (λ (s : Spot). s.at) e)

module _ (ss : List Statement) (nested : IsNested ss) where
  abbrev ws : List Written
  ws = program_of ss

  -- the statement of a number, as it is written
  pub written_at : (i : ℕ) (s : Statement) → slice_get ss i ≡ Some s → slice_get ws i ≡ Some (written_under (opener_in ws s.under) s)
  written_at i s e = get_from [] ss i i s e (omega arith) (λ k u. nested.earlier i k s e u)

  pub kept_at : (i : ℕ) (w : Written) → slice_get ws i ≡ Some w → (s : Statement) × (slice_get ss i ≡ Some s) × (w ≡ written_under (opener_in ws s.under) s)
  kept_at i w e =
      let h = in_range ws i w e in
      let l = program_length ss in
      let s = some_at ss i (omega (arith, h, l)) in
      (s.0, s.1, some_same w (written_under (opener_in ws s.0.under) s.0) (sym e ∙ written_at i s.0 s.1))

  pub one_at : (v w : Written) → Contains ws v → Contains ws w → v.statement.at ≡ w.statement.at → v ≡ w
  one_at v w c d e = tied_same written_cmp written_total ws v w nested.rising c d (tied v w e)

  -- what stands under a number stands in the statement of that number
  pub stands_under : (i k : ℕ) (s : Statement) (w : Written) → slice_get ss i ≡ Some s → slice_get ws i ≡ Some w → s.under ≡ Some k
      → (p : Written) × (slice_get ws k ≡ Some p) × (w.context ≡ context_in (Some p))
  stands_under i k s w e f u =
      let h = nested.earlier i k s e u in
      let inside = in_range ws i w f in
      let p = some_at ws k (omega (arith, h, inside)) in
      let is : w ≡ written_under (opener_in ws s.under) s = some_same w _ (sym f ∙ written_at i s e) in
      (p.0, p.1, ap (λ (x : Written). x.context) is ∙ ap (λ o. context_in (opener_in ws o)) u ∙ ap context_in p.1)

  -- and at the top where there is no number
  pub stands_on_top : (i : ℕ) (s : Statement) (w : Written) → slice_get ss i ≡ Some s → slice_get ws i ≡ Some w → s.under ≡ None → w.context ≡ context_in None
  stands_on_top i s w e f u =
      let is : w ≡ written_under (opener_in ws s.under) s = some_same w _ (sym f ∙ written_at i s e) in
      ap (λ (x : Written). x.context) is ∙ ap (λ o. context_in (opener_in ws o)) u

  -- a statement in another has the number of that one
  in_by : (under : Option ℕ) (i : ℕ) (s : Statement) (v w : Written) → slice_get ss i ≡ Some s → slice_get ws i ≡ Some v → s.under ≡ under → Contains ws w → IsIn v w
      → (k : ℕ) × (under ≡ Some k) × (k < i) × (slice_get ws k ≡ Some w)
  in_by None i s v w e f u c h =
      absurd (none_some w.statement.at (sym (ap (λ (x : Rattle.cil_syntax.specs.Written.Context). x.under) (stands_on_top i s v e f u)) ∙ h))
  in_by (Some k) i s v w e f u c h =
      let p = stands_under i k s v e f u in
      let place : p.0.statement.at ≡ w.statement.at =
      some_same p.0.statement.at w.statement.at (sym (ap (λ (x : Rattle.cil_syntax.specs.Written.Context). x.under) p.2) ∙ h) in
      let one : p.0 ≡ w = one_at p.0 w (get_contains ws k p.0 p.1) c place in
      (k, refl, nested.earlier i k s e u, p.1 ∙ ap Some one)

  pub in_number : (i : ℕ) (s : Statement) (v w : Written) → slice_get ss i ≡ Some s → slice_get ws i ≡ Some v → Contains ws w → IsIn v w
      → (k : ℕ) × (s.under ≡ Some k) × (k < i) × (slice_get ws k ≡ Some w)
  in_number i s v w e f c h = in_by s.under i s v w e f refl c h

  pub are_apart : AreApart ws
  are_apart = record {
    one = one_at;
    deeper = λ v w c d h.
        let i = get_at ws v c in
        let s = kept_at i.0 v i.2 in
        let k = in_number i.0 s.0 v w s.1 i.2 d h in
        rises_between written_cmp ws k.0 i.0 w v nested.rising k.3 i.2 k.2;
  }
