-- The statements at the top and those directly in each, as they are gathered.
use Rattle.std.proofs.Common.{◌≡◌, ℕ, ◌+◌, ◌<◌, ◌≤◌, ◌==◌, Bool, true, false, if◌then◌else◌, List, [], ◌∷◌, ◌++◌, length, map, take, refl, sym, ◌∙◌, ap, subst, inl, inr, arith}
use Rattle.std.specs.Prelude.{Contains, Option, Some, None, filter, slice_get}
use Rattle.std.proofs.lemmas.List.{take_more, take_all, map-append}
use Rattle.std.proofs.lemmas.List.Elements.{Contains-append_cases}
use Rattle.cil_base.specs.Lists.{contains_cases, contains_none}
use Rattle.cil_syntax.specs.declared.program.Statement.{Statement}
use Rattle.cil_faults.specs.declared.spot.Spot.{Spot}
use Rattle.cil_syntax.specs.Program.{IsNested, program_of}
use Rattle.cil_syntax.specs.Written.{Context, Written, at_top, written_cmp, written_total}
use Rattle.cil_blocks.specs.declared.parts.Parts.{Parts}
use Rattle.cil_blocks.specs.Contents.{is_at, same_spot}
use Rattle.cil_blocks.specs.Entries.{AreBelow, AreParts, IsWithin, nothing, numbers_in, parts_at, put_at, put_top, statement_at}
use Rattle.cil_blocks.specs.Opens.{is_on_top, on_top_by}
use Rattle.cil_base.specs.Places.{get_so, in_range, is_there}
use Rattle.cil_base.specs.Rising.{tied_places}
use Rattle.cil_blocks.proofs.ProgramLemmas.{program_length, stands_on_top, stands_under, tied, written_at}
use Rattle.cil_blocks.proofs.StandingWalk.{same_spots, spots_same}

filter_step : {X : Type 0} (p : X → Bool) (x : X) (xs ys : List X) (b : Bool) → filter p (xs ++ ys) ≡ filter p xs ++ filter p ys
    → (if b then x ∷ filter p (xs ++ ys) else filter p (xs ++ ys)) ≡ (if b then x ∷ filter p xs else filter p xs) ++ filter p ys
filter_step p x xs ys true e = ap (λ zs. x ∷ zs) e
filter_step p x xs ys false e = e

filter_two : {X : Type 0} (p : X → Bool) (xs ys : List X) → filter p (xs ++ ys) ≡ filter p xs ++ filter p ys
filter_two p [] ys = refl
filter_two p (x ∷ xs) ys = filter_step p x xs ys (p x) (filter_two p xs ys)

pub record ArePartsUpTo (ws : List Written) (i : ℕ) (ps : Parts) : Type 0 where
  pub tops : map (statement_at ws) ps.tops.items ≡ filter is_on_top (take i ws)
  pub inside : (k : ℕ) → k < length ws → map (statement_at ws) (parts_at ps k) ≡ filter (λ w. is_at (statement_at ws k).statement.at w.context.under) (take i ws)
  pub are_numbers : (k : ℕ) → AreBelow i (parts_at ps k)
  pub top_numbers : AreBelow i ps.tops.items
  pub counted : length ps.inside.items ≡ i

-- ---- numbers below another

none_below : (i : ℕ) (ks : List ℕ) → ks ≡ [] → AreBelow i ks
none_below i ks e k c = absurd (contains_none k (subst (λ xs. Contains xs k) e c))

-- what is put behind numbers below i is i itself
abbrev IsOnly : ℕ → List ℕ → Type 0
IsOnly i more = (k : ℕ) → Contains more k → k ≡ i

more_below : (i : ℕ) (old new more : List ℕ) → AreBelow i old → new ≡ old ++ more → IsOnly i more → AreBelow (i + 1) new
more_below i old new more h e is k c =
    elim (Contains-append_cases old more k (subst (λ xs. Contains xs k) e c)) [
      | inl d ↦ let b = h k d in omega (arith, b)
      | inr d ↦ let s = is k d in omega (arith, s)
    ]

only_itself : (i : ℕ) → IsOnly i (i ∷ [])
only_itself i k c = elim (contains_cases k i [] c) [ inl e ↦ sym e | inr d ↦ absurd (contains_none k d) ]

only_top : (under : Option ℕ) (i : ℕ) → IsOnly i (put_top under i)
only_top None i = only_itself i
only_top (Some u) i = λ k c. absurd (contains_none k c)

only_by : (b : Bool) (i : ℕ) → IsOnly i (if b then i ∷ [] else [])
only_by true i = only_itself i
only_by false i = λ k c. absurd (contains_none k c)

only_at : (under : Option ℕ) (i k : ℕ) → IsOnly i (put_at under i k)
only_at None i k = λ n c. absurd (contains_none n c)
only_at (Some u) i k = only_by (u == k) i

module _ (ws : List Written) where
  pub no_parts : (ps : Parts) → ps.tops.items ≡ [] → ps.inside.items ≡ [] → ArePartsUpTo ws 0 ps
  no_parts ps t i = record {
    tops = ap (map (statement_at ws)) t;
    inside = λ k h. ap (λ xs. map (statement_at ws) (numbers_in (slice_get xs k))) i;
    are_numbers = λ k. none_below 0 (parts_at ps k) (ap (λ xs. numbers_in (slice_get xs k)) i);
    top_numbers = none_below 0 ps.tops.items t;
    counted = ap length i;
  }

  pub all_parts : (i : ℕ) (ps : Parts) → i ≡ length ws → ArePartsUpTo ws i ps → AreParts ws ps
  all_parts i ps e so =
      let over : length ws ≤ i = omega (arith, e) in
      record {
        tops = so.tops ∙ ap (filter is_on_top) (take_all i ws over);
        inside = λ k h. so.inside k h ∙ ap (filter (λ w. is_at (statement_at ws k).statement.at w.context.under)) (take_all i ws over);
        are_numbers = λ k m c. let h = so.are_numbers k m c in omega (arith, h, e);
        top_numbers = λ m c. let h = so.top_numbers m c in omega (arith, h, e);
      }

  -- ---- one more

  kept_one : (p : Written → Bool) (i : ℕ) → i < length ws → filter p (take (i + 1) ws)
      ≡ filter p (take i ws) ++ (if p (statement_at ws i) then statement_at ws i ∷ [] else [])
  kept_one p i h = ap (filter p) (take_more ws i nothing h) ∙ filter_two p (take i ws) (statement_at ws i ∷ [])

  more_by : (p : Written → Bool) (i : ℕ) (old new more : List ℕ) → i < length ws → map (statement_at ws) old ≡ filter p (take i ws) → new ≡ old ++ more
      → map (statement_at ws) more ≡ (if p (statement_at ws i) then statement_at ws i ∷ [] else []) → map (statement_at ws) new ≡ filter p (take (i + 1) ws)
  more_by p i old new more h was e is =
      ap (map (statement_at ws)) e ∙ map-append (statement_at ws) old more ∙ ap (λ xs. xs ++ map (statement_at ws) more) was
      ∙ ap (λ xs. filter p (take i ws) ++ xs) is ∙ sym (kept_one p i h)

  put_if : (i : ℕ) (b c : Bool) → b ≡ c → map (statement_at ws) (if b then i ∷ [] else []) ≡ (if c then statement_at ws i ∷ [] else [])
  put_if i true true e = refl
  put_if i false false e = refl
  put_if i true false e = absurd (let f : true ≡ false = e in cc)
  put_if i false true e = absurd (let f : false ≡ true = e in cc)

module _ (ss : List Statement) (nested : IsNested ss) where
  abbrev ws : List Written
  ws = program_of ss

  under_of : Written → Option Spot
  under_of w = w.context.under

  -- the test of a place is the test of a number
  same_as_number : (u k : ℕ) (p : Written) → slice_get ws u ≡ Some p → k < length ws → (u == k) ≡ same_spot (statement_at ws k).statement.at p.statement.at
  same_as_number u k p e h = decide (u == k) (same_spot (statement_at ws k).statement.at p.statement.at) refl refl where
    there : slice_get ws k ≡ Some (statement_at ws k)
    there = is_there ws k nothing h

    decide : (b c : Bool) → (u == k) ≡ b → same_spot (statement_at ws k).statement.at p.statement.at ≡ c → b ≡ c
    decide true true f g = refl
    decide false false f g = refl
    decide true false f g =
        let same : u ≡ k = number_same u k f in
        let one : statement_at ws k ≡ p = get_so ws k p nothing (ap (slice_get ws) (sym same) ∙ e) in
        absurd (let t : true ≡ false = sym (spots_same (statement_at ws k).statement.at p.statement.at (ap (λ (w : Written). w.statement.at) one)) ∙ g in cc) where
          number_same : (a b : ℕ) → (a == b) ≡ true → a ≡ b
          number_same a b t = search (arith, t)
    decide false true f g =
        let places : k ≡ u = tied_places written_cmp written_total ws k u (statement_at ws k) p nested.rising there e
        (tied (statement_at ws k) p (same_spots (statement_at ws k).statement.at p.statement.at g)) in
        absurd (let t : true ≡ false = sym (number_one u k (sym places)) ∙ f in cc) where
          number_one : (a b : ℕ) → a ≡ b → (a == b) ≡ true
          number_one a b t = search (arith, t)

  put_so : (under : Option ℕ) (i : ℕ) (s : Statement) → slice_get ss i ≡ Some s → s.under ≡ under → (k : ℕ) → k < length ws
      → map (statement_at ws) (put_at under i k)
      ≡ (if is_at (statement_at ws k).statement.at (statement_at ws i).context.under then statement_at ws i ∷ [] else [])
  put_so None i s e u k h =
      let there = written_at ss nested i s e in
      let w = statement_at ws i in
      let at : slice_get ws i ≡ Some w = is_there ws i nothing (in_range ws i _ there) in
      let context : w.context ≡ at_top = stands_on_top ss nested i s w e at u in
      sym (ap (λ (c : Context). if is_at (statement_at ws k).statement.at c.under then statement_at ws i ∷ [] else []) context)
  put_so (Some q) i s e u k h =
      let there = written_at ss nested i s e in
      let w = statement_at ws i in
      let at : slice_get ws i ≡ Some w = is_there ws i nothing (in_range ws i _ there) in
      let p = stands_under ss nested i q s w e at u in
      put_if ws i (q == k) (same_spot (statement_at ws k).statement.at p.0.statement.at) (same_as_number q k p.0 p.1 h)
      ∙ sym (ap (λ (c : Context). if is_at (statement_at ws k).statement.at c.under then statement_at ws i ∷ [] else []) p.2)

  top_so : (under : Option ℕ) (i : ℕ) (s : Statement) → slice_get ss i ≡ Some s → s.under ≡ under
      → map (statement_at ws) (put_top under i) ≡ (if is_on_top (statement_at ws i) then statement_at ws i ∷ [] else [])
  top_so None i s e u =
      let at : slice_get ws i ≡ Some (statement_at ws i) = is_there ws i nothing (in_range ws i _ (written_at ss nested i s e)) in
      sym (ap (λ (c : Context). if on_top_by c.under then statement_at ws i ∷ [] else []) (stands_on_top ss nested i s (statement_at ws i) e at u))
  top_so (Some q) i s e u =
      let at : slice_get ws i ≡ Some (statement_at ws i) = is_there ws i nothing (in_range ws i _ (written_at ss nested i s e)) in
      let p = stands_under ss nested i q s (statement_at ws i) e at u in
      sym (ap (λ (c : Context). if on_top_by c.under then statement_at ws i ∷ [] else []) p.2)

  pub part_added : (i : ℕ) (s : Statement) (old new : Parts) → slice_get ss i ≡ Some s → ArePartsUpTo ws i old
      → new.tops.items ≡ old.tops.items ++ put_top s.under i → ((k : ℕ) → parts_at new k ≡ parts_at old k ++ put_at s.under i k)
      → length new.inside.items ≡ length old.inside.items + 1 → ArePartsUpTo ws (i + 1) new
  part_added i s old new e so t p l =
      let h = in_range ss i s e in
      let n = program_length ss in
      let c = so.counted in
      let inside : i < length ws = omega (arith, h, n) in
      record {
        tops = more_by ws is_on_top i old.tops.items new.tops.items (put_top s.under i) inside so.tops t (top_so s.under i s e refl);
        inside = λ k r. more_by ws (λ w. is_at (statement_at ws k).statement.at w.context.under) i (parts_at old k) (parts_at new k) (put_at s.under i k) inside (so.inside k r) (p k)
            (put_so s.under i s e refl k r);
        are_numbers = λ k. more_below i (parts_at old k) (parts_at new k) (put_at s.under i k) (so.are_numbers k) (p k) (only_at s.under i k);
        top_numbers = more_below i old.tops.items new.tops.items (put_top s.under i) so.top_numbers t (only_top s.under i);
        counted = omega (arith, l, c);
      }

  pub within_so : (i n : ℕ) (s : Statement) (under : Option ℕ) → slice_get ss i ≡ Some s → s.under ≡ under → n ≡ i → IsWithin under n
  within_so i n s None e u l = tt
  within_so i n s (Some k) e u l = let h = nested.earlier i k s e u in omega (arith, h, l)
