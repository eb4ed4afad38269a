-- What is placed behind what stands is of the body of a call, in optionals and booleanifs or not: it has its statement, its arguments, its scope
-- and its macros.
use Rattle.std.proofs.Common.{◌≡◌, inl, inr, ℕ, zero, suc, ◌+◌, ◌<◌, List, [], ◌∷◌, ◌++◌, length, get_or, map, refl, sym, ◌∙◌, ap, arith, append_assoc}
use Rattle.std.specs.Prelude.{Option, Some, None, slice_get}
use Rattle.std.proofs.lemmas.List.{append-nil, length-append, length-map, map-append}
use Rattle.cil_base.specs.Places.{get_behind, get_in_front, in_range, is_there, none_some, some_same}
use Rattle.cil_syntax.specs.Written.{Written}
use Rattle.cil_blocks.specs.Contents.{Standing, keeps_place}
use Rattle.cil_blocks.specs.Entries.{standings_of, statement_at}
use Rattle.cil_blocks.specs.declared.entry.Entry.{Entry}
use Rattle.cil_blocks.proofs.EntryLemmas.{mapped_at, standings_length, statements_from}
use Rattle.cil_macros.specs.declared.entry.Body.{Body}
use Rattle.cil_macros.specs.declared.entry.Called.{Called}
use Rattle.cil_macros.specs.Calls.{Unfolded, placed_called, unfolded}
use Rattle.cil_macros.specs.Entries.{AreBodies, IsBody, IsInBody, IsOf, IsInnerOf, placed_by, placed_from, placed_of, placed_through, placed_under}
use Rattle.cil_macros.specs.Opens.{placed_inside, starts}
use Rattle.cil_macros.specs.Placed.{Placed, placed_standing}
use Rattle.cil_macros.proofs.CalledMacros.{kept_opens_none}

pub mapped_get : {X Y : Type 0} (f : X → Y) (xs : List X) (k : ℕ) (x : X) → slice_get xs k ≡ Some x → slice_get (map f xs) k ≡ Some (f x)
mapped_get f [] k x e = absurd (none_some x e)
mapped_get f (y ∷ ys) zero x e = ap (λ z. Some (f z)) (some_same y x e)
mapped_get f (y ∷ ys) (suc k) x e = mapped_get f ys k x e

module _ (ws : List Written) (ss : List Standing) where
  -- ---- places

  one_more : {X : Type 0} (done : List X) (x : X) → slice_get (done ++ x ∷ []) (length done) ≡ Some x
  one_more done x = get_behind done (x ∷ []) 0 (length done) (omega arith)

  -- what was there stays
  kept_from : (done : List Placed) (cs : List Called) (k : ℕ) → k < length done → slice_get (placed_from ws ss done cs) k ≡ slice_get done k
  unfolding placed_from
  kept_from done [] k h = refl
  kept_from done (c ∷ cs) k h =
      let one = length-append done (placed_by ws ss done c.opener c.statement ∷ []) in
      kept_from (done ++ placed_by ws ss done c.opener c.statement ∷ []) cs k (omega (arith, h, one))
      ∙ get_in_front done (placed_by ws ss done c.opener c.statement ∷ []) k h

  brought_from : (done : List Placed) (cs : List Called) (j at : ℕ) (c : Called) → slice_get cs j ≡ Some c → at ≡ length done + j → c.opener < at
      → slice_get (placed_from ws ss done cs) at ≡ Some (placed_by ws ss (placed_from ws ss done cs) c.opener c.statement)
  unfolding placed_from
  brought_from done [] j at c e here h = absurd (none_some c e)
  brought_from done (x ∷ xs) zero at c e here h =
      let same : x ≡ c = some_same x c e in
      let y = placed_by ws ss done x.opener x.statement in
      let one = length-append done (y ∷ []) in
      let place : at ≡ length done = omega (arith, here) in
      kept_from (done ++ y ∷ []) xs at (omega (arith, here, one))
      ∙ ap (slice_get (done ++ y ∷ [])) place ∙ one_more done y
      ∙ ap (λ (z : Called). Some (placed_by ws ss done z.opener z.statement)) same
      ∙ ap (λ o. Some (placed_under ws ss o (statement_at ws c.statement)))
      (sym (kept_from (done ++ y ∷ []) xs c.opener (omega (arith, here, one, h)) ∙ get_in_front done (y ∷ []) c.opener (omega (arith, here, h))))
  brought_from done (x ∷ xs) (suc j) at c e here h =
      let y = placed_by ws ss done x.opener x.statement in
      let one = length-append done (y ∷ []) in
      brought_from (done ++ y ∷ []) xs j at c e (omega (arith, here, one)) h

  starts_length : length (starts ss) ≡ length ss
  starts_length = length-map ss placed_standing

  -- what stands is placed first
  pub standing_at : (cs : List Called) (k : ℕ) (s : Standing) → slice_get ss k ≡ Some s → slice_get (placed_of ws ss cs) k ≡ Some (placed_standing s)
  standing_at cs k s e =
      let h = in_range ss k s e in
      let l = starts_length in
      kept_from (starts ss) cs k (omega (arith, h, l)) ∙ mapped_get placed_standing ss k s e

  -- and then what calls bring
  pub brought_at : (cs : List Called) (j : ℕ) (c : Called) → slice_get cs j ≡ Some c → c.opener < length ss + j
      → slice_get (placed_of ws ss cs) (length ss + j) ≡ Some (placed_by ws ss (placed_of ws ss cs) c.opener c.statement)
  brought_at cs j c e h = let l = starts_length in brought_from (starts ss) cs j (length ss + j) c e (omega (arith, l)) h

  -- ---- the statement of each

  abbrev stated : Placed → Written
  stated p = p.standing.statement

  through_statement : (p : Placed) (o : Option Unfolded) (w : Written) → stated (placed_through ws p o w) ≡ w
  through_statement p None w = refl
  through_statement p (Some u) w = refl

  under_statement : (o : Option Placed) (w : Written) → stated (placed_under ws ss o w) ≡ w
  under_statement None w = refl
  under_statement (Some p) w = through_statement p (unfolded ws ss p) w

  all_stated : (done : List Placed) (cs : List Called)
      → map stated (placed_from ws ss done cs) ≡ map stated done ++ map (λ (c : Called). statement_at ws c.statement) cs
  unfolding placed_from
  all_stated done [] = sym (append-nil (map stated done))
  all_stated done (c ∷ cs) =
      all_stated (done ++ placed_by ws ss done c.opener c.statement ∷ []) cs
      ∙ ap (λ xs. xs ++ map (λ (x : Called). statement_at ws x.statement) cs) (map-append stated done (placed_by ws ss done c.opener c.statement ∷ []))
      ∙ ap (λ x. (map stated done ++ x ∷ []) ++ map (λ (x : Called). statement_at ws x.statement) cs)
      (under_statement (slice_get done c.opener) (statement_at ws c.statement))
      ∙ append_assoc (map stated done) (statement_at ws c.statement ∷ []) (map (λ (x : Called). statement_at ws x.statement) cs)

  pub called_statement : (cs : List Called) (j : ℕ) (c : Called) (p : Placed) → slice_get cs j ≡ Some c → slice_get (placed_of ws ss cs) (length ss + j) ≡ Some p
      → stated p ≡ statement_at ws c.statement
  called_statement cs j c p e f =
      let l = starts_length in
      let m = length-map (starts ss) stated in
      some_same (stated p) (statement_at ws c.statement)
      (sym (mapped_get stated (placed_of ws ss cs) (length ss + j) p f)
      ∙ ap (λ xs. slice_get xs (length ss + j)) (all_stated (starts ss) cs)
      ∙ get_behind (map stated (starts ss)) (map (λ (x : Called). statement_at ws x.statement) cs) j (length ss + j) (omega (arith, l, m))
      ∙ mapped_get (λ (x : Called). statement_at ws x.statement) cs j c e)

  -- ---- bodies

  module _ (cs : List Called) (bs : List Body) (are_bodies : AreBodies ws ss cs bs) where
    -- a statement that a call brings: its body, and what it has from that
    pub record IsBrought (at : ℕ) (c : Called) : Type 0 where
      pub body : Body
      pub is_body : slice_get bs c.body ≡ Some body
      pub before : body.call < at
      pub so : IsBody ws ss (placed_of ws ss cs) body
      pub there : Placed
      pub placed : slice_get (placed_of ws ss cs) at ≡ Some there
      pub is : IsInBody so.call so.opened there

    -- it is opened by the call of its body
    by_call : (j : ℕ) (c : Called) (x : IsOf ws (length ss) cs bs (length ss + j) c) → slice_get cs j ≡ Some c → x.body.call ≡ c.opener → IsBrought (length ss + j) c
    by_call j c x e same =
        let b = are_bodies.each c.body x.body x.is_body in
        let before = x.before in
        record {
          body = x.body;
          is_body = x.is_body;
          before = omega (arith, before, same);
          so = b;
          there = placed_called b.call b.opened (statement_at ws c.statement);
          placed = brought_at cs j c e x.before
              ∙ ap (λ k. Some (placed_under ws ss (slice_get (placed_of ws ss cs) k) (statement_at ws c.statement))) (sym same)
              ∙ ap (λ q. Some (placed_under ws ss q (statement_at ws c.statement))) b.is_call
              ∙ ap (λ q. Some (placed_through ws b.call q (statement_at ws c.statement))) b.is_opened;
          is = record { space = refl; scope = refl; bounds = refl; body = refl; macros = refl };
        }

    -- it is opened by an optional or a booleanif of its body
    by_inner : (j : ℕ) (c : Called) → slice_get cs j ≡ Some c → c.opener < length ss + j → (x : IsInnerOf ws cs (length ss) c.opener c.body)
        → IsBrought (length ss + x.rank) x.called → IsBrought (length ss + j) c
    by_inner j c e less x o =
        let behind = x.behind in
        let before = o.before in
        let keyword = ap (λ (w : Written). keeps_place w.statement.keyword) (called_statement cs x.rank x.called o.there x.is o.placed) ∙ x.keeps in
        record {
          body = o.body;
          is_body = ap (slice_get bs) (sym x.body) ∙ o.is_body;
          before = omega (arith, behind, before, less);
          so = o.so;
          there = placed_inside ws o.there (statement_at ws c.statement);
          placed = brought_at cs j c e less
              ∙ ap (λ k. Some (placed_under ws ss (slice_get (placed_of ws ss cs) k) (statement_at ws c.statement))) x.behind
              ∙ ap (λ q. Some (placed_under ws ss q (statement_at ws c.statement))) o.placed
              ∙ ap (λ q. Some (placed_through ws o.there q (statement_at ws c.statement))) (kept_opens_none ws ss o.there keyword);
          is = record { space = o.is.space; scope = o.is.scope; bounds = o.is.bounds; body = o.is.body; macros = o.is.macros };
        }

    brought_below : (n j : ℕ) (c : Called) → j < n → slice_get cs j ≡ Some c → IsBrought (length ss + j) c
    brought_below zero j c less e = absurd (omega (arith, less))
    brought_below (suc n) j c less e =
        let x = are_bodies.brought j c e in
        let before = x.before in
        elim x.opened [
          | inl same ↦ by_call j c x e same
          | inr o ↦ let behind = o.behind in by_inner j c e x.before o (brought_below n o.rank o.called (omega (arith, less, before, behind)) o.is)
        ]

    pub is_brought : (j : ℕ) (c : Called) → slice_get cs j ≡ Some c → IsBrought (length ss + j) c
    is_brought j c e = brought_below (suc j) j c (omega arith) e

-- ---- the statement at a place

module _ (ws : List Written) (es : List Entry) (cs : List Called) (at : ℕ) (p : Placed) (here : slice_get (placed_of ws (standings_of ws es) cs) at ≡ Some p) where
  pub statement_standing : (d : Entry) → at < length es → p.standing.statement ≡ statement_at ws (get_or es at d).statement
  statement_standing d h =
      let s = mapped_at ws (standings_of ws es) es at d (statements_from ws [] es) h in
      ap (λ (q : Placed). q.standing.statement)
      (some_same p (placed_standing s.0) (sym here ∙ standing_at ws (standings_of ws es) cs at s.0 s.1)) ∙ s.2

  pub statement_brought : (j : ℕ) (d : Called) → j < length cs → at ≡ length es + j → p.standing.statement ≡ statement_at ws (get_or cs j d).statement
  statement_brought j d h e =
      let l = standings_length ws es in
      let place : at ≡ length (standings_of ws es) + j = omega (arith, e, l) in
      called_statement ws (standings_of ws es) cs j (get_or cs j d) p (is_there cs j d h)
      (ap (slice_get (placed_of ws (standings_of ws es) cs)) (sym place) ∙ here)
