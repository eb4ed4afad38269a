-- Places one after another: what one statement opens has one place, which is reached from the place of that statement.
use Rattle.std.proofs.Common.{◌≡◌, ◌⊎◌, ℕ, suc, ◌+◌, ◌<◌, ◌≤◌, true, false, List, [], ◌∷◌, ◌++◌, length, get_or, map, take, refl, sym, ◌∙◌, ap, subst, inl, inr, arith, append_assoc}
use Rattle.std.specs.Prelude.{Option, None, Some, flat_map, slice_get}
use Rattle.std.specs.Option.{option_map}
use Rattle.std.proofs.lemmas.Grind.{flat_map-append}
use Rattle.std.proofs.lemmas.List.{append-nil, length-append, length-map, get_or-take, length-take-le, map-append, take_more}
use Rattle.std.proofs.lemmas.List.Elements.{Contains-append_cases}
use Rattle.std.proofs.lemmas.Option.{slice_get-map}
use Rattle.cil_base.specs.Lists.{contains_here, contains_later, contains_none}
use Rattle.cil_base.specs.Places.{get_behind, get_in_front, get_so, in_range, none_some, not_there, some_at, some_same}
use Rattle.cil_syntax.specs.declared.kind.Keyword.{Keyword}
use Rattle.cil_syntax.specs.declared.kind.Keyword.TheVariants as keywords
use Rattle.cil_syntax.specs.declared.program.Statement.{Statement}
use Rattle.cil_syntax.specs.Program.{IsNested, program_of}
use Rattle.cil_faults.specs.Namespaces.{Namespace}
use Rattle.cil_syntax.specs.Scopes.{apart, chain, tidy}
use Rattle.cil_syntax.specs.Written.{Written}
use Rattle.cil_blocks.specs.declared.entry.Entry.{Entry}
use Rattle.cil_blocks.specs.declared.namespaces.Space.{Space}
use Rattle.cil_blocks.specs.Contents.{Standing, is_inheriting, keeps_place, name_of}
use Rattle.cil_blocks.specs.Entries.{SaysOpened, opened_as, opened_of, opener_of, standing_as, standing_through, standing_under, standings_from, standings_of, statement_at, stepped}
use Rattle.cil_blocks.specs.Named.{rank}
use Rattle.cil_blocks.specs.Opens.{target_of}
use Rattle.cil_blocks.specs.Namespaces.{AreNamespaces, IsGrown, IsNumber, space_at}
use Rattle.cil_blocks.specs.Numbers.{AreWithin, chain_numbers, with_number, with_numbers}
use Rattle.cil_blocks.specs.Places.{IsPlace, IsPlaced, Numbered, Reached, all_numbered, numbered, numbers_of, reached_through, reached_top}
use Rattle.cil_blocks.specs.Placing.{AreFirstPlaces, AreFirstReached, IsInherited, IsInside, IsPlaceThrough, IsRepeated, IsSpaceAt, IsThrough, global_place, inherited_as, inherited_of}
use Rattle.cil_blocks.proofs.ChainNumbers.{chain_all, chain_spaces, chains_stay}
use Rattle.cil_blocks.proofs.EntryLemmas.{mapped_at, pushed_from, standings_length, statements_from}
use Rattle.cil_blocks.proofs.Kept.{in_one}
use Rattle.cil_blocks.proofs.NameLemmas.{at_none}
use Rattle.cil_blocks.proofs.NamespaceKeys.{at_or_last}
use Rattle.cil_blocks.proofs.NamespaceLemmas.{global_at, no_shorter, number_stays, stays}
use Rattle.cil_blocks.proofs.NumberLemmas.{all_apart, all_pushed, all_within, closed, closed_within, nothing_apart, one_apart, within_more}
use Rattle.cil_blocks.proofs.OnceLemmas.{more_numbers, scope_again}

-- ---- namespaces that are added

pub none_added : (ss : List Space) → IsGrown ss ss
none_added ss = ([], sym (append-nil ss))

pub both_added : (old mid new : List Space) → IsGrown old mid → IsGrown mid new → IsGrown old new
both_added old mid new g h = (g.0 ++ h.0, h.1 ∙ ap (λ ss. ss ++ h.0) g.1 ∙ append_assoc old g.0 h.0)

pub within_stays : (old new : List Space) (ks : List ℕ) → IsGrown old new → AreWithin old ks → AreWithin new ks
within_stays old new ks g all = λ k c. let l = no_shorter old new g in let h = all k c in omega (arith, l, h)

scope_stays : (old new : List Space) (ks : List ℕ) → IsGrown old new → AreWithin old ks → map (space_at new) ks ≡ map (space_at old) ks
scope_stays old new [] g all = refl
scope_stays old new (k ∷ ks) g all =
    ap (λ n. n ∷ map (space_at new) ks) (stays old new k g (all k (contains_here k ks)))
    ∙ ap (λ ns. space_at old k ∷ ns) (scope_stays old new ks g (λ m c. all m (contains_later m k ks c)))

-- a place stays what it is
pub place_stays : (old new : List Space) (space : Namespace) (scope : List Namespace) (p : Numbered) → IsGrown old new → IsPlace old space scope p → IsPlace new space scope p
place_stays old new space scope p g is = record {
  is_space = number_stays old new space p.0 g is.is_space;
  within = within_stays old new p.1 g is.within;
  is_scope = scope_stays old new p.1 g is.within ∙ is.is_scope;
}

-- ---- the place of what is opened

pub global_number : (ss : List Space) (n : Namespace) → [] ≡ n → IsNumber ss n 0
global_number ss n e = subst (λ m. IsNumber ss m 0) e (record { within = omega arith; is = global_at ss })

pub global_so : (ss : List Space) → IsPlace ss [] ([] ∷ []) global_place
global_so ss = record {
  is_space = record { within = omega arith; is = global_at ss };
  within = closed_within ss [] (λ m c. absurd (contains_none m c));
  is_scope = ap (λ n. n ∷ []) (global_at ss);
}

pub block_place : (old new : List Space) (outer : Numbered) (name : List ℕ) (space : ℕ) (items : List ℕ) → AreNamespaces new → IsGrown old new
    → IsNumber new (name ∷ space_at old outer.0) space → items ≡ with_numbers (with_number [] space) outer.1 ++ 0 ∷ []
    → (w : Written) → name_of w ≡ name → IsPlaceThrough old new outer w None (space, items)
block_place old new outer name space items are g is e w named = λ s v same so.
    let now = place_stays old new s.space s.scope outer g so in
    let whole : name ∷ space_at old outer.0 ≡ name_of s.statement ∷ s.space =
    ap (λ x. x ∷ space_at old outer.0) (sym named ∙ sym (ap name_of same)) ∙ ap (λ n. name_of s.statement ∷ n) so.is_space.is in
    let none : AreWithin new [] = λ m c. absurd (contains_none m c) in
    let first = within_more new space [] is.within none in
    let at : map (space_at new) (with_numbers (with_number [] space) outer.1) ≡ _ =
    all_apart new are outer.1 (with_number [] space) (space_at new space ∷ []) now.within first (one_apart new are space [] [] is.within none (sym nothing_apart)) in
    record {
      is_space = subst (λ n. IsNumber new n space) whole is;
      within = subst (AreWithin new) (sym e) (closed_within new (with_numbers (with_number [] space) outer.1) (all_within new outer.1 (with_number [] space) now.within first));
      is_scope = ap (map (space_at new)) e
          ∙ closed new are (with_numbers (with_number [] space) outer.1) (space_at new space ∷ map (space_at new) outer.1) at
          ∙ ap (λ n. tidy (n ∷ map (space_at new) outer.1)) (is.is ∙ whole)
          ∙ ap (λ ns. tidy ((name_of s.statement ∷ s.space) ∷ ns)) now.is_scope;
    }

pub inherited_place : (ss : List Space) (outer : Numbered) (written : ℕ) (items : List ℕ) → AreWithin ss items
    → map (space_at ss) items ≡ tidy (map (space_at ss) outer.1 ++ chain (space_at ss written))
    → (w b : Written) → IsNumber ss b.context.space written → IsPlaceThrough ss ss outer w (Some b) (outer.0, items)
inherited_place ss outer written items all e w b is = λ s v same so. record {
  is_space = so.is_space;
  within = all;
  is_scope = e ∙ ap (λ ns. tidy (ns ++ chain (space_at ss written))) so.is_scope ∙ ap (λ n. tidy (s.scope ++ chain n)) is.is;
}

-- what is left of a place when namespaces are added
pub numbered_stays : (old new : List Space) (r : Reached) → AreNamespaces old → IsGrown old new → AreWithin old r.2 → numbered new r ≡ numbered old r
numbered_stays old new r are g all = ap (λ ks. (r.0, with_numbers [] (r.1 ++ ks) ++ 0 ∷ [])) (chains_stay old new are g r.2 all)

-- what is inherited there puts the namespaces round its block behind the others
module _ (ss : List Space) (are : AreNamespaces ss) (r : Reached) (n : ℕ) (h : n ≤ length ss) where
  abbrev scope_before : List ℕ
  scope_before = with_numbers [] (numbers_of ss r) ++ 0 ∷ []

  abbrev scope_behind : List ℕ
  scope_behind = with_numbers [] (numbers_of ss (reached_through r r.0 (Some n)))

  put_behind : scope_behind ≡ with_numbers (with_numbers [] scope_before) (chain_numbers ss n)
  put_behind =
      ap (λ ks. with_numbers [] (r.1 ++ ks)) (flat_map-append (chain_numbers ss) r.2 (n ∷ []))
      ∙ ap (λ ks. with_numbers [] (r.1 ++ (flat_map (chain_numbers ss) r.2 ++ ks))) (append-nil (chain_numbers ss n))
      ∙ ap (with_numbers []) (sym (append_assoc r.1 (flat_map (chain_numbers ss) r.2) (chain_numbers ss n)))
      ∙ more_numbers [] (numbers_of ss r) (chain_numbers ss n)
      ∙ ap (λ ks. with_numbers ks (chain_numbers ss n)) (sym (scope_again [] (numbers_of ss r)))

  module _ (before : AreWithin ss scope_before) where
    first_within : AreWithin ss (with_numbers [] scope_before)
    first_within = all_within ss scope_before [] before (λ m c. absurd (contains_none m c))

    pub behind_within : AreWithin ss (scope_behind ++ 0 ∷ [])
    behind_within =
        closed_within ss scope_behind
        (subst (AreWithin ss) (sym put_behind) (all_within ss (chain_numbers ss n) (with_numbers [] scope_before) (chain_all ss are n h) first_within))

    pub behind_is : map (space_at ss) (scope_behind ++ 0 ∷ []) ≡ tidy (map (space_at ss) scope_before ++ chain (space_at ss n))
    behind_is =
        closed ss are scope_behind (map (space_at ss) scope_before ++ chain (space_at ss n))
        (ap (map (space_at ss)) put_behind
        ∙ all_apart ss are (chain_numbers ss n) (with_numbers [] scope_before) (map (space_at ss) scope_before) (chain_all ss are n h) first_within
        (all_pushed ss are scope_before [] (with_numbers [] scope_before) refl refl before)
        ∙ ap (λ ns. apart (map (space_at ss) scope_before ++ ns)) (chain_spaces ss are n h))

-- the place of what is opened, as it is reached
pub through_place : (old new : List Space) (r : Reached) (opener : Written) (o : Option Written) (space : ℕ) (written : Option ℕ) → AreNamespaces old → AreNamespaces new
    → IsGrown old new → AreWithin old r.2 → IsThrough old new r.0 opener o space written
    → IsPlaceThrough old new (numbered old r) opener o (numbered new (reached_through r space written))
through_place old new r opener None space written before are g all so =
    subst (λ (v : Option ℕ). IsPlaceThrough old new (numbered old r) opener None (numbered new (reached_through r space v))) (sym so.0)
    (λ s w same is.
    block_place old new (numbered old r) (name_of opener) space (with_numbers [] (space ∷ numbers_of new r) ++ 0 ∷ []) are g so.1
    (ap (λ ks. ks ++ 0 ∷ []) (sym (scope_again (with_number [] space) (numbers_of new r)))
    ∙ ap (λ (p : Numbered). with_numbers (with_number [] space) p.1 ++ 0 ∷ []) (numbered_stays old new r before g all))
    opener refl s w same is)
through_place old new r opener (Some b) space written before are g all (same, (n, e, number)) =
    subst (λ (v : Option ℕ). IsPlaceThrough old new (numbered old r) opener (Some b) (numbered new (reached_through r space v))) (sym e)
    (subst (λ (k : ℕ). IsPlaceThrough old new (numbered old r) opener (Some b) (numbered new (reached_through r k (Some n)))) (sym same)
    (λ s w stated is.
    let now = subst (IsPlace new s.space s.scope) (sym (numbered_stays old new r before g all)) (place_stays old new s.space s.scope (numbered old r) g is) in
    inherited_place new (numbered new r) n (scope_behind new are r n number.within ++ 0 ∷ []) (behind_within new are r n number.within now.within)
    (behind_is new are r n number.within now.within) opener b number s w stated now))

-- what is round the blocks that are inherited there
pub through_within : (old new : List Space) (r : Reached) (opener : Written) (o : Option Written) (space : ℕ) (written : Option ℕ) → IsGrown old new → AreWithin old r.2
    → IsThrough old new r.0 opener o space written → AreWithin new (reached_through r space written).2
through_within old new r opener None space written g all so =
    subst (λ (v : Option ℕ). AreWithin new (reached_through r space v).2) (sym so.0) (within_stays old new r.2 g all)
through_within old new r opener (Some b) space written g all (same, (n, e, number)) =
    subst (λ (v : Option ℕ). AreWithin new (reached_through r space v).2) (sym e)
    (λ m c. elim (Contains-append_cases r.2 (n ∷ []) m c) [
      | inl d ↦ within_stays old new r.2 g all m d
      | inr d ↦ let f = in_one m n d in let h = number.within in omega (arith, f, h)
    ])

module _ (ws : List Written) where
  abbrev IsPlaceInside : List Space → List Space → Numbered → ℕ → Numbered → Type 0
  IsPlaceInside old new outer number place =
      (s : Standing) (w : Written) → s.statement ≡ statement_at ws number → IsPlace old s.space s.scope outer
      → IsPlace new (standing_under ws (Some s) w).space (standing_under ws (Some s) w).scope place

  as_through : (s : Standing) (k : Keyword) (w : Written) → keeps_place k ≡ false → standing_as ws s k w ≡ standing_through s (inherited_as ws s.statement k) w
  as_through s keywords.BlockInherit w e = refl
  as_through s keywords.Optional w e = absurd (let f : true ≡ false = e in cc)
  as_through s keywords.BooleanIf w e = absurd (let f : true ≡ false = e in cc)
  as_through s k w e = refl

  inside_so : (old new : List Space) (outer place : Numbered) (number : ℕ) → keeps_place (statement_at ws number).statement.keyword ≡ false
      → IsPlaceThrough old new outer (statement_at ws number) (inherited_of ws (statement_at ws number)) place → IsPlaceInside old new outer number place
  inside_so old new outer place number other f = λ s w same so.
      subst (λ (t : Standing). IsPlace new t.space t.scope place)
      (sym (as_through s s.statement.statement.keyword w (ap (λ (x : Written). keeps_place x.statement.keyword) same ∙ other)
      ∙ ap (λ x. standing_through s x w) (ap (inherited_of ws) same))) (f s w same so)

  -- what is in an optional or in a branch has the place of the optional or of the booleanif
  as_kept : (ss : List Space) (place : Numbered) (s : Standing) (k : Keyword) (w : Written) → keeps_place k ≡ true → IsPlace ss s.space s.scope place
      → IsPlace ss (standing_as ws s k w).space (standing_as ws s k w).scope place
  as_kept ss place s keywords.Optional w e so = so
  as_kept ss place s keywords.BooleanIf w e so = so
  as_kept ss place s k w e so = absurd (let f : false ≡ true = e in cc)

  kept_so : (ss : List Space) (place : Numbered) (number : ℕ) → keeps_place (statement_at ws number).statement.keyword ≡ true → IsPlaceInside ss ss place number place
  kept_so ss place number e = λ s w same so.
      as_kept ss place s s.statement.statement.keyword w (ap (λ (x : Written). keeps_place x.statement.keyword) same ∙ e) so

  -- ---- what is inherited

  other_inherited : (k : Keyword) (w : Written) → is_inheriting k ≡ false → inherited_as ws w k ≡ None
  other_inherited keywords.BlockInherit w e = absurd (let f : true ≡ false = e in cc)
  other_inherited k w e = refl

  opened_inherited : (k : Keyword) (w : Written) → is_inheriting k ≡ true → opened_as ws w k ≡ inherited_as ws w k
  opened_inherited keywords.BlockInherit w e = refl
  opened_inherited k w e = absurd (let f : false ≡ true = e in cc)

  pub not_inheriting : (number : ℕ) (k : Keyword) → (statement_at ws number).statement.keyword ≡ k → is_inheriting k ≡ false → IsInherited ws number None
  not_inheriting number k is e = sym (other_inherited (statement_at ws number).statement.keyword (statement_at ws number) (ap is_inheriting is ∙ e))

  said : (n : Option (Option ℕ)) (o : Option ℕ) (w : Option Written) → (n ≡ None) × (o ≡ None) ⊎ (n ≡ Some o) → SaysOpened ws n w → option_map (statement_at ws) o ≡ w
  said None o w e s = elim e [ inl f ↦ ap (option_map (statement_at ws)) f.1 ∙ sym s | inr f ↦ absurd (none_some o f) ]
  said (Some None) o w e s =
      elim e [ inl f ↦ absurd (none_some None (sym f.0)) | inr f ↦ ap (option_map (statement_at ws)) (sym (some_same None o f)) ∙ sym s ]
  said (Some (Some k)) o w e s =
      elim e [ inl f ↦ absurd (none_some (Some k) (sym f.0)) | inr f ↦ ap (option_map (statement_at ws)) (sym (some_same (Some k) o f)) ∙ sym s.1 ]

  pub inheriting : (number : ℕ) (k : Keyword) (n : Option (Option ℕ)) (o : Option ℕ) → (statement_at ws number).statement.keyword ≡ k → is_inheriting k ≡ true
      → (n ≡ None) × (o ≡ None) ⊎ (n ≡ Some o) → SaysOpened ws n (opened_of ws (statement_at ws number)) → IsInherited ws number o
  inheriting number k n o is e found s =
      said n o (opened_of ws (statement_at ws number)) found s
      ∙ opened_inherited (statement_at ws number).statement.keyword (statement_at ws number) (ap is_inheriting is ∙ e)

pub nothing_inherited : (ss : List Statement) → IsNested ss → (number : ℕ) → slice_get ss number ≡ None → IsInherited (program_of ss) number None
nothing_inherited ss nested number e = sym (ap (inherited_of (program_of ss)) (at_none ss nested number e))

-- ---- openers

below_or_not : (k n : ℕ) → (k < n) ⊎ (n ≤ k)
below_or_not k n = grind arith

-- a number that is lower than a limit, or none
pub record IsLower (o : Option ℕ) (n : ℕ) (r : Option ℕ) : Type 0 where
  pub lower : rank r ≤ n
  pub same : rank o ≤ n → r ≡ o
  pub higher : n < rank o → r ≡ None

pub lower_same : (o : Option ℕ) (n k : ℕ) (r : Option ℕ) → IsLower o n r → r ≡ Some k → (k < n) × (o ≡ Some k)
lower_same None n k r l e = absurd (none_some k (sym (l.same (omega arith)) ∙ e))
lower_same (Some m) n k r l e =
    elim (below_or_not m n) [
      | inl h ↦ let same : Some m ≡ Some k = sym (l.same (omega (arith, h))) ∙ e in
          (let f = some_same m k same in omega (arith, h, f), same)
      | inr h ↦ absurd (none_some k (sym (l.higher (omega (arith, h))) ∙ e))
    ]

pub lower_opener : {X : Type 0} (done : List X) (o : Option ℕ) (n : ℕ) (r : Option ℕ) → length done ≡ n → IsLower o n r → opener_of done o ≡ opener_of done r
lower_opener done None n r e l = ap (opener_of done) (sym (l.same (omega arith)))
lower_opener done (Some k) n r e l =
    elim (below_or_not k n) [
      | inl h ↦ ap (opener_of done) (sym (l.same (omega (arith, h))))
      | inr h ↦ not_there done k (omega (arith, h, e)) ∙ ap (opener_of done) (sym (l.higher (omega (arith, h))))
    ]

-- ---- one entry more

module _ (ws : List Written) where
  abbrev HasPlaces : List Space → List Standing → List Numbered → Type 0
  HasPlaces ss done ps = (i : ℕ) (s : Standing) → slice_get done i ≡ Some s → IsPlaced ss ps i s

  placed_more : (old new : List Space) (done : List Standing) (t : Standing) (ps : List Numbered) (p : Numbered) → IsGrown old new → length ps ≡ length done
      → HasPlaces old done ps → IsPlace new t.space t.scope p → HasPlaces new (done ++ t ∷ []) (ps ++ p ∷ [])
  placed_more old new done t ps p g l so is i s e =
      elim (at_or_last done t i s e) [
        | inl there ↦ let q = so i s there in record {
          place = q.place;
          is = get_in_front ps (p ∷ []) i (in_range ps i q.place q.is) ∙ q.is;
          so = place_stays old new s.space s.scope q.place g q.so;
        }
        | inr (last, same) ↦ record {
          place = p;
          is = get_behind ps (p ∷ []) 0 i (omega (arith, last, l));
          so = subst (λ (x : Standing). IsPlace new x.space x.scope p) same is;
        }
      ]

  -- what is put behind the first entries
  pub first_more : (old new : List Space) (es : List Entry) (e d : Entry) (k : ℕ) (ps qs : List Numbered) (p : Numbered) → k < length es → e ≡ get_or es k d
      → IsGrown old new → AreFirstPlaces ws (take k es) old ps → qs ≡ ps ++ p ∷ []
      → IsPlace new (stepped ws (standings_of ws (take k es)) e.opener e.statement).space (stepped ws (standings_of ws (take k es)) e.opener e.statement).scope p
      → AreFirstPlaces ws (take (k + 1) es) new qs
  first_more old new es e d k ps qs p h is g so same place =
      let whole : take (k + 1) es ≡ take k es ++ e ∷ [] = take_more es k d h ∙ ap (λ x. take k es ++ x ∷ []) (sym is) in
      let l = so.as_many in
      let m = standings_length ws (take k es) in
      subst (λ xs. AreFirstPlaces ws xs new qs) (sym whole) (subst (AreFirstPlaces ws (take k es ++ e ∷ []) new) (sym same)
      (record {
        as_many = length-append ps (p ∷ []) ∙ ap (λ n. n + 1) l ∙ sym (length-append (take k es) (e ∷ []));
        so = subst (λ xs. HasPlaces new xs (ps ++ p ∷ [])) (sym (pushed_from ws [] (take k es) e))
            (placed_more old new (standings_of ws (take k es)) (stepped ws (standings_of ws (take k es)) e.opener e.statement) ps p g (l ∙ sym m) so.so place);
      }))

  -- ---- the places of openers

  done_length : (es : List Entry) (k : ℕ) → k < length es → length (standings_of ws (take k es)) ≡ k
  done_length es k h = let l = standings_length ws (take k es) in let m = length-take-le k es (omega (arith, h)) in omega (arith, l, m)

  -- the opener of an entry stands, and has a place
  pub record IsOpener (ss : List Space) (es : List Entry) (ps : List Numbered) (k opener : ℕ) (x : Entry) : Type 0 where
    pub standing : Standing
    pub stands : slice_get (standings_of ws (take k es)) opener ≡ Some standing
    pub is_placed : IsPlaced ss ps opener standing
    pub says : standing.statement ≡ statement_at ws x.statement

  pub is_opener : (ss : List Space) (es : List Entry) (ps : List Numbered) (k opener : ℕ) (x d : Entry) → k < length es → opener < k → x ≡ get_or es opener d
      → AreFirstPlaces ws (take k es) ss ps → IsOpener ss es ps k opener x
  is_opener ss es ps k opener x d h below is so =
      let m = length-take-le k es (omega (arith, h)) in
      let s = mapped_at ws (standings_of ws (take k es)) (take k es) opener d (statements_from ws [] (take k es)) (omega (arith, m, below)) in
      record {
        standing = s.0;
        stands = s.1;
        is_placed = so.so opener s.0 s.1;
        says = s.2 ∙ ap (λ (e : Entry). statement_at ws e.statement) (get_or-take k es opener d below ∙ sym is);
      }

  pub opener_missing : (ss : List Space) (es : List Entry) (ps : List Numbered) (k opener : ℕ) (x : Entry) → IsOpener ss es ps k opener x → slice_get ps opener ≡ None → ⊥
  opener_missing ss es ps k opener x o none = none_some o.is_placed.place (sym none ∙ o.is_placed.is)

  -- the place that is there is that of the opener
  pub opener_place : (ss : List Space) (es : List Entry) (ps : List Numbered) (k opener : ℕ) (x : Entry) (p : Numbered) → (o : IsOpener ss es ps k opener x)
      → slice_get ps opener ≡ Some p → IsPlace ss o.standing.space o.standing.scope p
  opener_place ss es ps k opener x p o e =
      subst (IsPlace ss o.standing.space o.standing.scope) (some_same o.is_placed.place p (sym o.is_placed.is ∙ e)) o.is_placed.so

  -- ---- the next place

  -- at the top of a module
  pub global_next : (ss : List Space) (es : List Entry) (e d : Entry) (k : ℕ) (ps qs : List Numbered) → k < length es → e ≡ get_or es k d → IsLower e.opener k None
      → AreFirstPlaces ws (take k es) ss ps → qs ≡ ps ++ global_place ∷ [] → AreFirstPlaces ws (take (k + 1) es) ss qs
  global_next ss es e d k ps qs h is low so same =
      first_more ss ss es e d k ps qs global_place h is (none_added ss) so same
      (subst (λ o. IsPlace ss (standing_under ws o (statement_at ws e.statement)).space (standing_under ws o (statement_at ws e.statement)).scope global_place)
      (sym (lower_opener (standings_of ws (take k es)) e.opener k None (done_length es k h) low)) (global_so ss))

  -- under one that opens it
  pub inside_next : (old new : List Space) (es : List Entry) (e x d : Entry) (k opener : ℕ) (ps qs : List Numbered) (p q : Numbered) → k < length es → e ≡ get_or es k d
      → IsLower e.opener k (Some opener) → AreFirstPlaces ws (take k es) old ps → IsOpener old es ps k opener x → slice_get ps opener ≡ Some p
      → IsGrown old new → IsPlaceInside ws old new p x.statement q → qs ≡ ps ++ q ∷ [] → AreFirstPlaces ws (take (k + 1) es) new qs
  inside_next old new es e x d k opener ps qs p q h is low so o at g inside same =
      first_more old new es e d k ps qs q h is g so same
      (subst (λ s. IsPlace new (standing_under ws s (statement_at ws e.statement)).space (standing_under ws s (statement_at ws e.statement)).scope q)
      (sym (lower_opener (standings_of ws (take k es)) e.opener k (Some opener) (done_length es k h) low ∙ o.stands))
      (inside o.standing (statement_at ws e.statement) o.says (opener_place old es ps k opener x p o at)))

  -- what one opens is in one place
  through_alike : (ss : List Space) (p : Numbered) (s : Standing) (o : Option Written) (v w : Written) → IsPlace ss (standing_through s o v).space (standing_through s o v).scope p
      → IsPlace ss (standing_through s o w).space (standing_through s o w).scope p
  through_alike ss p s None v w is = is
  through_alike ss p s (Some b) v w is = is

  as_alike : (ss : List Space) (p : Numbered) (s : Standing) (k : Keyword) (v w : Written) → IsPlace ss (standing_as ws s k v).space (standing_as ws s k v).scope p
      → IsPlace ss (standing_as ws s k w).space (standing_as ws s k w).scope p
  as_alike ss p s keywords.BlockInherit v w is = through_alike ss p s (target_of ws s.statement) v w is
  as_alike ss p s k v w is = is

  under_alike : (ss : List Space) (p : Numbered) (s : Standing) (v w : Written) → IsPlace ss (standing_under ws (Some s) v).space (standing_under ws (Some s) v).scope p
      → IsPlace ss (standing_under ws (Some s) w).space (standing_under ws (Some s) w).scope p
  under_alike ss p s v w is = as_alike ss p s s.statement.statement.keyword v w is

  pub again_next : (ss : List Space) (es : List Entry) (e d : Entry) (k opener before : ℕ) (ps qs : List Numbered) → k < length es → e ≡ get_or es k d
      → IsLower e.opener k (Some opener) → IsRepeated es k opener before → AreFirstPlaces ws (take k es) ss ps
      → ((p : Numbered) → slice_get ps before ≡ Some p → qs ≡ ps ++ p ∷ []) → AreFirstPlaces ws (take (k + 1) es) ss qs
  again_next ss es e d k opener before ps qs h is low r so f =
      let last = r.last in
      let early = r.earlier in
      let old = standings_of ws (take before es) in
      let inside = in_range es before r.entry r.is in
      let length_old = done_length es before inside in
      let t = stepped ws old r.entry.opener r.entry.statement in
      let whole : take k es ≡ take before es ++ r.entry ∷ [] =
      ap (λ n. take n es) last ∙ take_more es before r.entry inside ∙ ap (λ x. take before es ++ x ∷ []) (get_so es before r.entry r.entry r.is) in
      let now : standings_of ws (take k es) ≡ old ++ t ∷ [] = ap (standings_of ws) whole ∙ pushed_from ws [] (take before es) r.entry in
      let there = so.so before t (ap (λ xs. slice_get xs before) now ∙ get_behind old (t ∷ []) 0 before (omega (arith, length_old))) in
      let s = some_at old opener (omega (arith, length_old, early)) in
      let same : t ≡ standing_under ws (Some s.0) (statement_at ws r.entry.statement) =
      ap (λ o. standing_under ws (opener_of old o) (statement_at ws r.entry.statement)) r.alike
      ∙ ap (λ o. standing_under ws o (statement_at ws r.entry.statement)) s.1 in
      let mine : opener_of (standings_of ws (take k es)) e.opener ≡ Some s.0 =
      lower_opener (standings_of ws (take k es)) e.opener k (Some opener) (done_length es k h) low
      ∙ ap (λ xs. slice_get xs opener) now ∙ get_in_front old (t ∷ []) opener (omega (arith, length_old, early)) ∙ s.1 in
      first_more ss ss es e d k ps qs there.place h is (none_added ss) so (f there.place there.is)
      (subst (λ o. IsPlace ss (standing_under ws o (statement_at ws e.statement)).space (standing_under ws o (statement_at ws e.statement)).scope there.place) (sym mine)
      (under_alike ss there.place s.0 (statement_at ws r.entry.statement) (statement_at ws e.statement)
      (subst (λ (x : Standing). IsPlace ss x.space x.scope there.place) same there.so)))

  -- ---- the same of places as they are reached

  all_stay : (old new : List Space) (rs : List Reached) → AreNamespaces old → IsGrown old new → ((i : ℕ) (r : Reached) → slice_get rs i ≡ Some r → AreWithin old r.2)
      → all_numbered new rs ≡ all_numbered old rs
  all_stay old new [] are g all = refl
  all_stay old new (r ∷ rs) are g all =
      ap (λ p. p ∷ all_numbered new rs) (numbered_stays old new r are g (all 0 r refl))
      ∙ ap (λ ps. numbered old r ∷ ps) (all_stay old new rs are g (λ i q e. all (suc i) q e))

  reached_get : (ss : List Space) (rs : List Reached) (i : ℕ) (r : Reached) → slice_get rs i ≡ Some r → slice_get (all_numbered ss rs) i ≡ Some (numbered ss r)
  reached_get ss rs i r e = slice_get-map (numbered ss) rs i ∙ ap (option_map (numbered ss)) e

  -- the numbers of one more are put behind those of the others
  reached_more : (old new : List Space) (es : List Entry) (k : ℕ) (rs qs : List Reached) (r : Reached) → all_numbered new rs ≡ all_numbered old rs → IsGrown old new
      → AreFirstReached ws (take k es) old rs → qs ≡ rs ++ r ∷ [] → AreWithin new r.2
      → AreFirstPlaces ws (take (k + 1) es) new (all_numbered old rs ++ numbered new r ∷ []) → AreFirstReached ws (take (k + 1) es) new qs
  reached_more old new es k rs qs r same g so e all places = record {
    places = subst (AreFirstPlaces ws (take (k + 1) es) new)
        (ap (λ ps. ps ++ numbered new r ∷ []) (sym same) ∙ sym (map-append (numbered new) rs (r ∷ [])) ∙ ap (all_numbered new) (sym e)) places;
    within = λ i q at. elim (at_or_last rs r i q (ap (λ xs. slice_get xs i) (sym e) ∙ at)) [
      | inl there ↦ within_stays old new q.2 g (so.within i q there)
      | inr (last, is) ↦ subst (λ (x : Reached). AreWithin new x.2) is all
    ];
  }

  pub reached_global : (ss : List Space) (es : List Entry) (e d : Entry) (k : ℕ) (rs qs : List Reached) → k < length es → e ≡ get_or es k d → IsLower e.opener k None
      → AreFirstReached ws (take k es) ss rs → qs ≡ rs ++ reached_top ∷ [] → AreFirstReached ws (take (k + 1) es) ss qs
  reached_global ss es e d k rs qs h is low so same =
      reached_more ss ss es k rs qs reached_top refl (none_added ss) so same (λ m c. absurd (contains_none m c))
      (global_next ss es e d k (all_numbered ss rs) (all_numbered ss rs ++ global_place ∷ []) h is low so.places refl)

  -- the rank before has a place
  pub reached_again : (ss : List Space) (es : List Entry) (e d : Entry) (k opener before : ℕ) (rs qs : List Reached) → k < length es → e ≡ get_or es k d
      → IsLower e.opener k (Some opener) → IsRepeated es k opener before → AreFirstReached ws (take k es) ss rs
      → ((r : Reached) → slice_get rs before ≡ Some r → qs ≡ rs ++ r ∷ []) → AreFirstReached ws (take (k + 1) es) ss qs
  reached_again ss es e d k opener before rs qs h is low again so f =
      let l = so.places.as_many in
      let m = length-take-le k es (omega (arith, h)) in
      let n = length-map rs (numbered ss) in
      let last = again.last in
      let r = some_at rs before (omega (arith, l, m, n, last)) in
      reached_more ss ss es k rs qs r.0 refl (none_added ss) so (f r.0 r.1) (so.within before r.0 r.1)
      (again_next ss es e d k opener before (all_numbered ss rs) (all_numbered ss rs ++ numbered ss r.0 ∷ []) h is low again so.places
      (λ p at. ap (λ x. all_numbered ss rs ++ x ∷ []) (some_same (numbered ss r.0) p (sym (reached_get ss rs before r.0 r.1) ∙ at))))

  -- in an optional or in a branch: the same place
  pub reached_kept : (ss : List Space) (es : List Entry) (e x d : Entry) (k opener : ℕ) (rs qs : List Reached) → k < length es → e ≡ get_or es k d → x ≡ get_or es opener d
      → IsLower e.opener k (Some opener) → keeps_place (statement_at ws x.statement).statement.keyword ≡ true → AreFirstReached ws (take k es) ss rs
      → ((r : Reached) → slice_get rs opener ≡ Some r → qs ≡ rs ++ r ∷ []) → AreFirstReached ws (take (k + 1) es) ss qs
  reached_kept ss es e x d k opener rs qs h is opens low kept so f =
      let l = so.places.as_many in
      let m = length-take-le k es (omega (arith, h)) in
      let n = length-map rs (numbered ss) in
      let below = (lower_same e.opener k opener (Some opener) low refl).0 in
      let r = some_at rs opener (omega (arith, l, m, n, below)) in
      let p = numbered ss r.0 in
      reached_more ss ss es k rs qs r.0 refl (none_added ss) so (f r.0 r.1) (so.within opener r.0 r.1)
      (inside_next ss ss es e x d k opener (all_numbered ss rs) (all_numbered ss rs ++ p ∷ []) p p h is low so.places
      (is_opener ss es (all_numbered ss rs) k opener x d h below opens so.places) (reached_get ss rs opener r.0 r.1) (none_added ss)
      (kept_so ws ss p x.statement kept) refl)

  pub reached_inside : (old new : List Space) (es : List Entry) (e x d : Entry) (k opener outer : ℕ) (rs qs : List Reached) (r : Reached) (space : ℕ) (written : Option ℕ)
      → k < length es → e ≡ get_or es k d → x ≡ get_or es opener d → IsLower e.opener k (Some opener) → AreFirstReached ws (take k es) old rs → slice_get rs opener ≡ Some r → outer ≡ r.0
      → keeps_place (statement_at ws x.statement).statement.keyword ≡ false → AreNamespaces old → AreNamespaces new → IsGrown old new
      → IsInside ws old new outer x.statement space written → qs ≡ rs ++ reached_through r space written ∷ [] → AreFirstReached ws (take (k + 1) es) new qs
  reached_inside old new es e x d k opener outer rs qs r space written h is opens low so at from other before are g into same =
      let inside : IsInside ws old new r.0 x.statement space written = subst (λ n. IsInside ws old new n x.statement space written) from into in
      let all = so.within opener r at in
      let below = (lower_same e.opener k opener (Some opener) low refl).0 in
      reached_more old new es k rs qs (reached_through r space written) (all_stay old new rs before g so.within) g so same
      (through_within old new r (statement_at ws x.statement) (inherited_of ws (statement_at ws x.statement)) space written g all inside)
      (inside_next old new es e x d k opener (all_numbered old rs) (all_numbered old rs ++ numbered new (reached_through r space written) ∷ []) (numbered old r)
      (numbered new (reached_through r space written)) h is low so.places (is_opener old es (all_numbered old rs) k opener x d h below opens so.places) (reached_get old rs opener r at) g
      (inside_so ws old new (numbered old r) (numbered new (reached_through r space written)) x.statement other
      (through_place old new r (statement_at ws x.statement) (inherited_of ws (statement_at ws x.statement)) space written before are g all inside)) refl)

  -- the opener of an entry has a place
  pub opener_reached : (ss : List Space) (es : List Entry) (k opener : ℕ) (rs : List Reached) → k < length es → opener < k → AreFirstReached ws (take k es) ss rs
      → slice_get rs opener ≡ None → ⊥
  opener_reached ss es k opener rs h below so none =
      let l = so.places.as_many in
      let m = length-take-le k es (omega (arith, h)) in
      let n = length-map rs (numbered ss) in
      let r = some_at rs opener (omega (arith, l, m, n, below)) in
      none_some r.0 (sym none ∙ r.1)

  -- and so has a namespace
  pub reached_space : (ss : List Space) (es : List Entry) (k opener space : ℕ) (x d : Entry) (rs : List Reached) → k < length es → opener < k → x ≡ get_or es opener d
      → AreFirstReached ws (take k es) ss rs → IsSpaceAt rs opener space → space ≤ length ss
  reached_space ss es k opener space x d rs h below is so at =
      let o = is_opener ss es (all_numbered ss rs) k opener x d h below is so.places in
      let w = (opener_place ss es (all_numbered ss rs) k opener x (numbered ss at.0) o (reached_get ss rs opener at.0 at.1)).is_space.within in
      let e = at.2 in
      omega (arith, w, e)

  pub none_reached : (ss : List Space) (rs : List Reached) (es : List Entry) → rs ≡ [] → AreFirstReached ws (take 0 es) ss rs
  unfolding standings_from
  none_reached ss rs es e =
      subst (AreFirstReached ws (take 0 es) ss) (sym e) (record {
        places = record { as_many = refl; so = λ i s f. absurd (none_some s f) };
        within = λ i r f. absurd (none_some r f);
      })
