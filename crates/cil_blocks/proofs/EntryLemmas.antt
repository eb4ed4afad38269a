-- Entries as standings: one more is one standing more, and what an entry opens is what its standing opens.
use Rattle.std.proofs.Common.{◌≡◌, ℕ, zero, suc, ◌+◌, ◌<◌, ◌≤◌, Bool, true, false, if◌then◌else◌, List, [], ◌∷◌, ◌++◌, length, get_or, map, take, refl, sym, ◌∙◌, ap, subst, arith, append_assoc}
use Rattle.std.specs.Prelude.{Option, Some, None, slice_get}
use Rattle.std.proofs.lemmas.List.{append-nil, take_more, take_all, map-append, length-append}
use Rattle.cil_base.specs.Lists.{Lists}
use Rattle.cil_syntax.specs.declared.kind.Keyword.{Keyword}
use Rattle.cil_syntax.specs.declared.kind.Keyword.TheVariants as keywords
use Rattle.cil_syntax.specs.Written.{Written}
use Rattle.cil_blocks.specs.declared.entry.Entry.{Entry}
use Rattle.cil_blocks.specs.declared.parts.Parts.{Parts}
use Rattle.cil_blocks.specs.Contents.{Standing, Stands, is_abstract, standing_cmp, standing_top, standing_in_block}
use Rattle.cil_blocks.specs.Entries.{AreOpened, AreParts, IsWalkable, IsWithin, SaysOpened, opened_as, opened_by, opened_in, opened_of, opener_of, parts_at, standing_as, standing_through, standing_under, standings_from, standings_of, statement_at, stepped}
use Rattle.cil_blocks.specs.InheritFaults.{IsOver}
use Rattle.cil_blocks.specs.Opens.{opens, opens_as, opens_target, parts, target_of, tops}
use Rattle.cil_base.specs.Places.{get_in_front}
use Rattle.cil_base.specs.Queue as queue
use Rattle.cil_blocks.proofs.StandingWalk.{queue_order, reached_stands, stands_reached}

module _ (ws : List Written) where
  -- ---- the view of one more

  pub pushed_from : (done : List Standing) (es : List Entry) (e : Entry)
      → standings_from ws done (es ++ e ∷ []) ≡ standings_from ws done es ++ stepped ws (standings_from ws done es) e.opener e.statement ∷ []
  unfolding standings_from
  pushed_from done [] e = refl
  pushed_from done (x ∷ xs) e = pushed_from (done ++ stepped ws done x.opener x.statement ∷ []) xs e

  length_from : (done : List Standing) (es : List Entry) → length (standings_from ws done es) ≡ length done + length es
  unfolding standings_from
  length_from done [] = omega arith
  length_from done (e ∷ es) =
      let rest = length_from (done ++ stepped ws done e.opener e.statement ∷ []) es in
      let one = length-append done (stepped ws done e.opener e.statement ∷ []) in
      omega (arith, rest, one)

  pub standings_length : (es : List Entry) → length (standings_of ws es) ≡ length es
  standings_length es = let l = length_from [] es in omega (arith, l)

  -- what was opened does not hang on what stands behind
  stays : (xs ys : List Standing) (o : Option ℕ) (i : ℕ) → IsWithin o (length xs) → stepped ws (xs ++ ys) o i ≡ stepped ws xs o i
  stays xs ys None i h = refl
  stays xs ys (Some k) i h = ap (λ o. standing_under ws o (statement_at ws i)) (get_in_front xs ys k h)

  within_view : (o : Option ℕ) (es : List Entry) → IsWithin o (length es) → IsWithin o (length (standings_of ws es))
  within_view None es h = h
  within_view (Some k) es h = let l = standings_length es in omega (arith, h, l)

  -- one number more is pushed
  pub number_pushed : (numbers : List ℕ) (k d number : ℕ) (opener : Option ℕ) (before es new : List Entry) → k < length numbers → number ≡ get_or numbers k d
      → IsWithin opener (length before)
      → standings_of ws es ≡ standings_of ws before ++ map (stepped ws (standings_of ws before) opener) (take k numbers)
      → new ≡ es ++ (record { statement = number; opener = opener }) ∷ []
      → standings_of ws new ≡ standings_of ws before ++ map (stepped ws (standings_of ws before) opener) (take (k + 1) numbers)
  number_pushed numbers k d number opener before es new within is range so e =
      let old = standings_of ws before in
      let more = map (stepped ws old opener) (take k numbers) in
      ap (standings_of ws) e
      ∙ pushed_from [] es (record { statement = number; opener = opener })
      ∙ ap (λ xs. xs ++ stepped ws xs opener number ∷ []) so
      ∙ ap (λ s. (old ++ more) ++ s ∷ []) (stays old more opener number (within_view opener before range))
      ∙ append_assoc old more (stepped ws old opener number ∷ [])
      ∙ ap (λ xs. old ++ xs) (sym (map-append (stepped ws old opener) (take k numbers) (number ∷ [])))
      ∙ ap (λ x. old ++ map (stepped ws old opener) (take k numbers ++ x ∷ [])) is
      ∙ ap (λ xs. old ++ map (stepped ws old opener) xs) (sym (take_more numbers k d within))

  pub numbers_pushed : (numbers : List ℕ) (k : ℕ) (opener : Option ℕ) (before es : List Entry) → length numbers ≤ k
      → standings_of ws es ≡ standings_of ws before ++ map (stepped ws (standings_of ws before) opener) (take k numbers)
      → standings_of ws es ≡ standings_of ws before ++ map (stepped ws (standings_of ws before) opener) numbers
  numbers_pushed numbers k opener before es over so =
      so ∙ ap (λ xs. standings_of ws before ++ map (stepped ws (standings_of ws before) opener) xs) (take_all k numbers over)

  -- ---- what a standing opens, by numbers

  pub map_two : {X Y Z : Type 0} (f : Y → Z) (g : X → Y) (xs : List X) → map (λ x. f (g x)) xs ≡ map f (map g xs)
  map_two f g [] = refl
  map_two f g (x ∷ xs) = ap (λ ys. f (g x) ∷ ys) (map_two f g xs)

  -- what a standing opens are the parts of one statement
  opened_parts : Standing → Keyword → Option Written → List Standing
  opened_parts s k None = []
  opened_parts s k (Some b) = map (standing_as ws s k) (parts ws b)

  block_so : (s : Standing) (b : Bool) → (if b then [] else map (standing_in_block s) (parts ws s.statement))
      ≡ opened_parts s keywords.Block (if b then None else Some s.statement)
  unfolding opened_parts
  block_so s true = refl
  block_so s false = refl

  target_so : (s : Standing) (o : Option Written) → target_of ws s.statement ≡ o → opens_target ws s o ≡ opened_parts s keywords.BlockInherit o
  unfolding opened_parts
  target_so s None e = refl
  target_so s (Some b) e = ap (λ o. map (standing_through s o) (parts ws b)) (sym e)

  opens_so_as : (s : Standing) (k : Keyword) → opens_as ws s k ≡ opened_parts s k (opened_as ws s.statement k)
  unfolding opened_parts
  opens_so_as s keywords.Block = block_so s (is_abstract ws s.statement)
  opens_so_as s keywords.BlockInherit = target_so s (target_of ws s.statement) refl
  opens_so_as s keywords.Optional = refl
  opens_so_as s keywords.BooleanIf = refl
  opens_so_as s k = refl

  opens_so : (s : Standing) → opens ws s ≡ opened_parts s s.statement.statement.keyword (opened_of ws s.statement)
  unfolding opens
  opens_so s = opens_so_as s s.statement.statement.keyword

  module _ (ps : Parts) (os : List (Option ℕ)) (are_parts : AreParts ws ps) (are_opened : AreOpened ws os) where
    by_number : (s : Standing) (n : Option (Option ℕ)) (o : Option Written) → SaysOpened ws n o
        → map (λ i. standing_as ws s s.statement.statement.keyword (statement_at ws i)) (opened_in ps n) ≡ opened_parts s s.statement.statement.keyword o
    unfolding opened_parts
    by_number s None o e = ap (λ x. opened_parts s s.statement.statement.keyword x) (sym e)
    by_number s (Some None) o e = ap (λ x. opened_parts s s.statement.statement.keyword x) (sym e)
    by_number s (Some (Some k)) o e =
        map_two (standing_as ws s s.statement.statement.keyword) (statement_at ws) (parts_at ps k)
        ∙ ap (map (standing_as ws s s.statement.statement.keyword)) (are_parts.inside k e.0)
        ∙ ap (λ x. opened_parts s s.statement.statement.keyword x) (sym e.1)

    opened_so : (s : Standing) (i : ℕ) → s.statement ≡ statement_at ws i
        → map (λ j. standing_as ws s s.statement.statement.keyword (statement_at ws j)) (opened_by ps os i) ≡ opens ws s
    opened_so s i e =
        by_number s (slice_get os i) (opened_of ws (statement_at ws i)) (are_opened i)
        ∙ ap (λ w. opened_parts s s.statement.statement.keyword (opened_of ws w)) (sym e)
        ∙ sym (opens_so s)

  -- ---- the statement of an entry is that of its standing

  through_statement : (s : Standing) (o : Option Written) (w : Written) → (standing_through s o w).statement ≡ w
  through_statement s None w = refl
  through_statement s (Some b) w = refl

  pub as_statement : (s : Standing) (k : Keyword) (w : Written) → (standing_as ws s k w).statement ≡ w
  as_statement s keywords.BlockInherit w = through_statement s (target_of ws s.statement) w
  as_statement s k w = refl

  stepped_statement : (o : Option Standing) (w : Written) → (standing_under ws o w).statement ≡ w
  stepped_statement None w = refl
  stepped_statement (Some s) w = as_statement s s.statement.statement.keyword w

  pub statements_from : (done : List Standing) (es : List Entry)
      → map (λ (s : Standing). s.statement) (standings_from ws done es) ≡ map (λ (s : Standing). s.statement) done ++ map (λ (e : Entry). statement_at ws e.statement) es
  unfolding standings_from
  statements_from done [] = sym (append-nil (map (λ (s : Standing). s.statement) done))
  statements_from done (e ∷ es) =
      statements_from (done ++ stepped ws done e.opener e.statement ∷ []) es
      ∙ ap (λ xs. xs ++ map (λ (x : Entry). statement_at ws x.statement) es) (map-append (λ (s : Standing). s.statement) done (stepped ws done e.opener e.statement ∷ []))
      ∙ ap (λ x. (map (λ (s : Standing). s.statement) done ++ x ∷ []) ++ map (λ (x : Entry). statement_at ws x.statement) es)
      (stepped_statement (opener_of done e.opener) (statement_at ws e.statement))
      ∙ append_assoc (map (λ (s : Standing). s.statement) done) (statement_at ws e.statement ∷ []) (map (λ (x : Entry). statement_at ws x.statement) es)

  tail_of : {X : Type 0} → List X → List X
  tail_of [] = []
  tail_of (x ∷ xs) = xs

  head_or : {X : Type 0} → X → List X → X
  head_or d [] = d
  head_or d (x ∷ xs) = x

  pub mapped_at : (xs : List Standing) (es : List Entry) (at : ℕ) (d : Entry) → map (λ (s : Standing). s.statement) xs ≡ map (λ (e : Entry). statement_at ws e.statement) es → at < length es
      → (s : Standing) × (slice_get xs at ≡ Some s) × (s.statement ≡ statement_at ws (get_or es at d).statement)
  unfolding tail_of head_or
  mapped_at xs [] at d e h = absurd (omega (arith, h))
  mapped_at [] (y ∷ ys) at d e h = absurd (let f : 0 ≡ suc (length (map (λ (x : Entry). statement_at ws x.statement) ys)) = ap length e in omega (arith, f))
  mapped_at (x ∷ xs) (y ∷ ys) zero d e h = (x, refl, ap (head_or x.statement) e)
  mapped_at (x ∷ xs) (y ∷ ys) (suc k) d e h = mapped_at xs ys k d (ap tail_of e) (omega (arith, h))

  -- ---- the loop

  abbrev pub AreSoFar : ℕ → List Standing → Type 0
  AreSoFar at xs = queue.AreSoFar standing_cmp (tops ws) (opens ws) at xs

  tops_so : (ps : Parts) → AreParts ws ps → map (stepped ws [] None) ps.tops.items ≡ tops ws
  tops_so ps p = map_two standing_top (statement_at ws) ps.tops.items ∙ ap (map standing_top) p.tops

  module _ (ps : Parts) (os : List (Option ℕ)) (walkable : IsWalkable ws ps os) where
    pub started : (es new : List Entry) (numbers : List ℕ) → es ≡ [] → numbers ≡ ps.tops.items
        → standings_of ws new ≡ standings_of ws es ++ map (stepped ws (standings_of ws es) None) numbers → AreSoFar 0 (standings_of ws new)
    unfolding standings_from
    started es new numbers none is e =
        subst (AreSoFar 0)
        (sym (e ∙ ap (λ x. standings_of ws x ++ map (stepped ws (standings_of ws x) None) numbers) none ∙ ap (map (stepped ws [] None)) is ∙ tops_so ps walkable.are_parts))
        (queue.at_start standing_cmp (tops ws) (opens ws) (queue_order ws walkable.rising))

    pub went_on : (at : ℕ) (es new : List Entry) (numbers : List ℕ) (d : Entry) → at < length es → d ≡ get_or es at d → numbers ≡ opened_by ps os d.statement
        → AreSoFar at (standings_of ws es) → standings_of ws new ≡ standings_of ws es ++ map (stepped ws (standings_of ws es) (Some at)) numbers
        → AreSoFar (at + 1) (standings_of ws new)
    went_on at es new numbers d h here is so e =
        let s = mapped_at (standings_of ws es) es at d (statements_from [] es) h in
        let same : s.0.statement ≡ statement_at ws d.statement = s.2 ∙ ap (λ (x : Entry). statement_at ws x.statement) (sym here) in
        subst (AreSoFar (at + 1))
        (sym (e ∙ ap (λ o. standings_of ws es ++ map (λ i. standing_under ws o (statement_at ws i)) numbers) s.1
        ∙ ap (λ x. standings_of ws es ++ map (λ i. standing_as ws s.0 s.0.statement.statement.keyword (statement_at ws i)) x) is
        ∙ ap (λ x. standings_of ws es ++ x) (opened_so ps os walkable.are_parts walkable.are_opened s.0 d.statement same)))
        (queue.one_opened standing_cmp (tops ws) (opens ws) (queue_order ws walkable.rising) at (standings_of ws es) s.0 s.1 so)

    -- what is reached is what stands
    pub all_standing : (at : ℕ) (es : List Entry) → length es ≤ at → AreSoFar at (standings_of ws es) → Lists standing_cmp (Stands ws) (standings_of ws es)
    all_standing at es over so =
        let l = standings_length es in
        let all = queue.all_opened standing_cmp (tops ws) (opens ws) at (standings_of ws es) (omega (arith, over, l)) so in
        record {
          rising = all.rising;
          members = λ s. (
            (λ c. stands_reached ws walkable.one_target s ((all.members s).0 c)),
            (λ t. (all.members s).1 (reached_stands ws walkable.one_target s t)),
          );
        }

    pub too_many : (at limit : ℕ) (es : List Entry) → limit < length es → AreSoFar at (standings_of ws es) → IsOver standing_cmp (Stands ws) limit
    too_many at limit es h so =
        let l = standings_length es in
        record {
          some = standings_of ws es;
          rising = so.rising;
          each = λ s c. stands_reached ws walkable.one_target s (so.reached s c);
          many = omega (arith, h, l);
        }
