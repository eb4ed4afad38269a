-- The walk: what a call brings is put behind what was brought before, and its body is kept.
use Rattle.std.proofs.Common.{◌≡◌, ℕ, zero, suc, ◌+◌, ◌<◌, ◌≤◌, ◌⊎◌, true, false, List, [], ◌∷◌, ◌++◌, length, get_or, map, take, refl, sym, ◌∙◌, ap, subst, inl, inr, arith, append_assoc}
use Rattle.std.specs.Prelude.{Contains, IfSome, Option, None, Some, slice_get}
use Rattle.std.proofs.lemmas.List.{append-nil, map-append, take_more}
use Rattle.std.proofs.lemmas.List.Elements.{Contains-append_cases}
use Rattle.cil_base.specs.Lists.{contains_cases, contains_none, Lists}
use Rattle.cil_base.specs.Places.{get_behind, get_in_front, in_range, is_there, none_some, some_same}
use Rattle.cil_blocks.specs.Contents.{Standing, keeps_place}
use Rattle.cil_blocks.specs.declared.namespaces.Space.{Space}
use Rattle.cil_blocks.specs.declared.parts.Parts.{Parts}
use Rattle.cil_blocks.specs.Entries.{AreParts, parts_at, standings_of, statement_at}
use Rattle.cil_blocks.specs.Namespaces.{IsNumber}
use Rattle.cil_blocks.specs.Places.{AreStandings, Standings, entries_in, spaces_in}
use Rattle.cil_blocks.proofs.EntryLemmas.{standings_length}
use Rattle.cil_syntax.specs.Written.{Written, is_macro}
use Rattle.cil_macros.specs.declared.entry.Body.{Body}
use Rattle.cil_macros.specs.declared.entry.Called.{Called}
use Rattle.cil_macros.specs.Calls.{IsPlaced, Unfolded, is_call, placed_cmp, unfolded}
use Rattle.cil_macros.specs.Entries.{AreBodies, AreBodySpaces, IsBody, IsInnerOf, IsOf, placed_by, placed_from, placed_of, placed_under}
use Rattle.cil_macros.specs.Opens.{opens_placed, starts}
use Rattle.cil_macros.specs.Placed.{Placed}
use Rattle.cil_macros.specs.Walks.{AreBodyScopes, IsBodyScope, IsUnfoldedAt, called_by, placed_in, written_in}
use Rattle.cil_macros.specs.Macros.{all_standing}
use Rattle.cil_macros.proofs.EntryLemmas.{AreSoFar, all_placed, opens_so, opens_within, placed_length, started, too_many, went_on}
use Rattle.cil_macros.proofs.CallLemmas.{placed_there}
use Rattle.cil_base.specs.Rising.{IsOver}
use Rattle.cil_macros.proofs.BodyLemmas.{called_statement, is_brought}
use Rattle.cil_macros.proofs.CalledMacros.{is_macro_call, kept_opens_none}

get_of_contains : {X : Type 0} (xs : List X) (x : X) → Contains xs x → (i : ℕ) × (slice_get xs i ≡ Some x)
get_of_contains xs x (k, h, e) = (k, is_there xs k x h ∙ ap Some e)

-- one number more is put behind the others
pub one_called : (numbers : List ℕ) (k opener body : ℕ) (old cs new : List Called) → k < length numbers
    → cs ≡ old ++ map (called_by opener body) (take k numbers) → new ≡ cs ++ called_by opener body (get_or numbers k 0) ∷ []
    → new ≡ old ++ map (called_by opener body) (take (k + 1) numbers)
one_called numbers k opener body old cs new h so e =
    e ∙ ap (λ xs. xs ++ called_by opener body (get_or numbers k 0) ∷ []) so
    ∙ append_assoc old (map (called_by opener body) (take k numbers)) (called_by opener body (get_or numbers k 0) ∷ [])
    ∙ ap (λ xs. old ++ xs) (sym (map-append (called_by opener body) (take k numbers) (get_or numbers k 0 ∷ [])))
    ∙ ap (λ xs. old ++ map (called_by opener body) xs) (sym (take_more numbers k 0 h))

-- a macro is a statement of the program
pub number_of_macro : (ws : List Written) (k : ℕ) → is_macro (statement_at ws k).statement.keyword ≡ true → k < length ws
number_of_macro [] k e = let f : false ≡ true = e in cc
number_of_macro (w ∷ ws) zero e = omega arith
number_of_macro (w ∷ ws) (suc k) e = let h = number_of_macro ws k e in omega (arith, h)

-- so is an optional or a booleanif
pub number_of_kept : (ws : List Written) (k : ℕ) → keeps_place (statement_at ws k).statement.keyword ≡ true → k < length ws
number_of_kept [] k e = let f : false ≡ true = e in cc
number_of_kept (w ∷ ws) zero e = omega arith
number_of_kept (w ∷ ws) (suc k) e = let h = number_of_kept ws k e in omega (arith, h)

-- what each statement that is brought together has
called_one : (opener body : ℕ) (ns : List ℕ) (j : ℕ) (c : Called) → slice_get (map (called_by opener body) ns) j ≡ Some c → (c.body ≡ body) × (c.opener ≡ opener)
called_one opener body [] j c e = absurd (none_some c e)
called_one opener body (n ∷ ns) zero c e =
    let same = some_same (called_by opener body n) c e in (ap (λ (x : Called). x.body) (sym same), ap (λ (x : Called). x.opener) (sym same))
called_one opener body (n ∷ ns) (suc j) c e = called_one opener body ns j c e

module _ (ws : List Written) (ss : List Standing) where
  -- ---- what is placed when some more are brought

  brought_more : (done : List Placed) (cs ds : List Called) → placed_from ws ss done (cs ++ ds) ≡ placed_from ws ss (placed_from ws ss done cs) ds
  unfolding placed_from
  brought_more done [] ds = refl
  brought_more done (c ∷ cs) ds = brought_more (done ++ placed_by ws ss done c.opener c.statement ∷ []) cs ds

  all_by : (opener body : ℕ) (xs ys : List Placed) (numbers : List ℕ) → opener < length xs
      → placed_from ws ss (xs ++ ys) (map (called_by opener body) numbers) ≡ (xs ++ ys) ++ map (placed_by ws ss xs opener) numbers
  unfolding placed_from
  all_by opener body xs ys [] h = sym (append-nil (xs ++ ys))
  all_by opener body xs ys (n ∷ ns) h =
      let now = placed_by ws ss (xs ++ ys) opener n in
      let same : now ≡ placed_by ws ss xs opener n = ap (λ o. placed_under ws ss o (statement_at ws n)) (get_in_front xs ys opener h) in
      ap (λ zs. placed_from ws ss zs (map (called_by opener body) ns)) (append_assoc xs ys (now ∷ []))
      ∙ all_by opener body xs (ys ++ now ∷ []) ns h
      ∙ ap (λ zs. zs ++ map (placed_by ws ss xs opener) ns) (sym (append_assoc xs ys (now ∷ [])))
      ∙ append_assoc (xs ++ ys) (now ∷ []) (map (placed_by ws ss xs opener) ns)
      ∙ ap (λ x. (xs ++ ys) ++ x ∷ map (placed_by ws ss xs opener) ns) same

  -- the statements that a call brings are placed behind the others
  pub all_brought : (cs : List Called) (opener body : ℕ) (numbers : List ℕ) → opener < length ss + length cs
      → placed_of ws ss (cs ++ map (called_by opener body) numbers) ≡ placed_of ws ss cs ++ map (placed_by ws ss (placed_of ws ss cs) opener) numbers
  all_brought cs opener body numbers h =
      let old = placed_of ws ss cs in
      let l = placed_length ws ss cs in
      brought_more (starts ss) cs (map (called_by opener body) numbers)
      ∙ ap (λ zs. placed_from ws ss zs (map (called_by opener body) numbers)) (sym (append-nil old))
      ∙ all_by opener body old [] numbers (omega (arith, h, l))
      ∙ ap (λ zs. zs ++ map (placed_by ws ss old opener) numbers) (append-nil old)

  -- ---- bodies

  -- a body stays one when more is placed
  body_stays : (ps more : List Placed) (b : Body) → IsBody ws ss ps b → IsBody ws ss (ps ++ more) b
  body_stays ps more b x = record {
    call = x.call;
    is_call = get_in_front ps more b.call (in_range ps b.call x.call x.is_call) ∙ x.is_call;
    opened = x.opened;
    is_opened = x.is_opened;
    is_macro = x.is_macro;
  }

  -- what was placed stays where it is
  pub stood_before : (cs new : List Called) (more : List Placed) → placed_of ws ss new ≡ placed_of ws ss cs ++ more → (k : ℕ) (p : Placed) → k < length (placed_of ws ss cs)
      → slice_get (placed_of ws ss new) k ≡ Some p → slice_get (placed_of ws ss cs) k ≡ Some p
  stood_before cs new more placed k p h g = sym (get_in_front (placed_of ws ss cs) more k h) ∙ ap (λ ps. slice_get ps k) (sym placed) ∙ g

  scope_stays : (cs new : List Called) (more : List Placed) → placed_of ws ss new ≡ placed_of ws ss cs ++ more → (call called : ℕ) (o : Option ℕ)
      → call < length (placed_of ws ss cs) → IfSome o (IsBodyScope ss (placed_of ws ss cs) call called) → IfSome o (IsBodyScope ss (placed_of ws ss new) call called)
  scope_stays cs new more placed call called None h y = y
  scope_stays cs new more placed call called (Some from) h y = record {
    near = y.near;
    same = λ p q m f g k.
        let near = y.near in
        y.same p q m (stood_before cs new more placed call p h f) (stood_before cs new more placed from q (omega (arith, h, near)) g) k;
  }

  -- so does an optional or a booleanif of a body
  inner_stays : (cs more : List Called) (at number : ℕ) → IsInnerOf ws cs (length ss) at number → IsInnerOf ws (cs ++ more) (length ss) at number
  inner_stays cs more at number x = record {
    rank = x.rank;
    behind = x.behind;
    called = x.called;
    is = get_in_front cs more x.rank (in_range cs x.rank x.called x.is) ∙ x.is;
    body = x.body;
    keeps = x.keeps;
  }

  opened_stays : (cs more : List Called) (b : Body) (c : Called) → (b.call ≡ c.opener) ⊎ IsInnerOf ws cs (length ss) c.opener c.body
      → (b.call ≡ c.opener) ⊎ IsInnerOf ws (cs ++ more) (length ss) c.opener c.body
  opened_stays cs more b c (inl e) = inl e
  opened_stays cs more b c (inr x) = inr (inner_stays cs more c.opener c.body x)

  -- what is at a place of two lists is of the first or of the second
  pub either_at : {X : Type 0} (xs ys : List X) (i : ℕ) (x : X) → slice_get (xs ++ ys) i ≡ Some x
      → ((i < length xs) × (slice_get xs i ≡ Some x)) ⊎ ((j : ℕ) × (i ≡ length xs + j) × (slice_get ys j ≡ Some x))
  either_at [] ys i x e = inr (i, omega arith, e)
  either_at (y ∷ xs) ys zero x e = inl (omega arith, e)
  either_at (y ∷ xs) ys (suc i) x e = shifted (either_at xs ys i x e)
    where
      shifted : ((i < length xs) × (slice_get xs i ≡ Some x)) ⊎ ((j : ℕ) × (i ≡ length xs + j) × (slice_get ys j ≡ Some x))
          → ((suc i < length (y ∷ xs)) × (slice_get (y ∷ xs) (suc i) ≡ Some x)) ⊎ ((j : ℕ) × (suc i ≡ length (y ∷ xs) + j) × (slice_get ys j ≡ Some x))
      shifted (inl h) = let l = h.0 in inl (omega (arith, l), h.1)
      shifted (inr h) = let l = h.1 in inr (h.0, omega (arith, l), h.2)

  module _ (cs : List Called) (bs : List Body) (b : Body) (numbers : List ℕ) (are : AreBodies ws ss cs bs) (is : IsBody ws ss (placed_of ws ss cs) b)
      (within : b.call < length ss + length cs) where
    abbrev new : List Called
    new = cs ++ map (called_by b.call (length bs)) numbers

    abbrev more : List Placed
    more = map (placed_by ws ss (placed_of ws ss cs) b.call) numbers

    placed_more : placed_of ws ss new ≡ placed_of ws ss cs ++ more
    placed_more = all_brought cs b.call (length bs) numbers within

    each_body : (i : ℕ) (x : Body) → slice_get (bs ++ b ∷ []) i ≡ Some x → IsBody ws ss (placed_of ws ss cs) x
    each_body i x e = by (either_at bs (b ∷ []) i x e)
      where
        by : ((i < length bs) × (slice_get bs i ≡ Some x)) ⊎ ((j : ℕ) × (i ≡ length bs + j) × (slice_get (b ∷ []) j ≡ Some x)) → IsBody ws ss (placed_of ws ss cs) x
        by (inl h) = are.each i x h.1
        by (inr (zero, f, g)) = subst (IsBody ws ss (placed_of ws ss cs)) (some_same b x g) is
        by (inr (suc j, f, g)) = absurd (none_some x g)

    of_old : (count : ℕ) (c : Called) → IsOf ws (length ss) cs bs count c → IsOf ws (length ss) new (bs ++ b ∷ []) count c
    of_old count c x = record {
      body = x.body;
      is_body = get_in_front bs (b ∷ []) c.body (in_range bs c.body x.body x.is_body) ∙ x.is_body;
      before = x.before;
      opened = opened_stays cs (map (called_by b.call (length bs)) numbers) x.body c x.opened;
    }

    of_new : (j k : ℕ) (c : Called) → j ≡ length cs + k → slice_get (map (called_by b.call (length bs)) numbers) k ≡ Some c → IsOf ws (length ss) new (bs ++ b ∷ []) (length ss + j) c
    of_new j k c f e =
        let o = called_one b.call (length bs) numbers k c e in
        let same = o.1 in
        record {
          body = b;
          is_body = ap (slice_get (bs ++ b ∷ [])) o.0 ∙ get_behind bs (b ∷ []) 0 (length bs) (omega arith);
          before = omega (arith, within, f, same);
          opened = inl (sym o.1);
        }

    -- the bodies are those of what was brought, with this one
    pub bodies_more : AreBodies ws ss new (bs ++ b ∷ [])
    bodies_more = record {
      each = λ i x e. subst (λ ps. IsBody ws ss ps x) (sym placed_more) (body_stays (placed_of ws ss cs) more x (each_body i x e));
      brought = λ j c e. by j c (either_at cs (map (called_by b.call (length bs)) numbers) j c e);
    }
      where
        by : (j : ℕ) (c : Called) → ((j < length cs) × (slice_get cs j ≡ Some c)) ⊎ ((k : ℕ) × (j ≡ length cs + k) × (slice_get (map (called_by b.call (length bs)) numbers) k ≡ Some c))
            → IsOf ws (length ss) new (bs ++ b ∷ []) (length ss + j) c
        by j c (inl h) = of_old (length ss + j) c (are.brought j c h.1)
        by j c (inr (k, f, g)) = of_new j k c f g

    -- and so are their namespaces
    pub spaces_more : (spaces : List Space) → AreBodySpaces ws ss spaces cs bs
        → ((p : Placed) → slice_get (placed_of ws ss cs) b.call ≡ Some p → IsNumber spaces p.standing.space b.space)
        → AreBodySpaces ws ss spaces new (bs ++ b ∷ [])
    spaces_more spaces old so x p c e = by (Contains-append_cases bs (b ∷ []) x c)
      where
        -- the call of a body stands where it stood
        before : (y : Body) → y.call < length (placed_of ws ss cs) → slice_get (placed_of ws ss new) y.call ≡ Some p → slice_get (placed_of ws ss cs) y.call ≡ Some p
        before y h g = stood_before cs new more placed_more y.call p h g

        its : (y : Body) → y ≡ x → slice_get (placed_of ws ss new) y.call ≡ Some p
        its y d = ap (λ (z : Body). slice_get (placed_of ws ss new) z.call) d ∙ e

        by : (Contains bs x ⊎ Contains (b ∷ []) x) → IsNumber spaces p.standing.space x.space
        by (inl d) =
            let i = get_of_contains bs x d in
            let y = are.each i.0 x i.1 in
            old x p d (before x (in_range (placed_of ws ss cs) x.call y.call y.is_call) e)
        by (inr d) = elim (contains_cases x b [] d) [
          | inl same ↦ subst (λ (z : Body). IsNumber spaces p.standing.space z.space) same
              (so p (before b (in_range (placed_of ws ss cs) b.call is.call is.is_call) (its b same)))
          | inr none ↦ absurd (contains_none x none)
        ]

    -- and the places from which they have their scopes
    pub scopes_more : AreBodyScopes ss (placed_of ws ss cs) bs → IfSome b.scope (IsBodyScope ss (placed_of ws ss cs) b.call b.macro_rank)
        → AreBodyScopes ss (placed_of ws ss new) (bs ++ b ∷ [])
    scopes_more old so x c = by (Contains-append_cases bs (b ∷ []) x c)
      where
        all_stay : (call called : ℕ) (o : Option ℕ) → call < length (placed_of ws ss cs) → IfSome o (IsBodyScope ss (placed_of ws ss cs) call called)
            → IfSome o (IsBodyScope ss (placed_of ws ss new) call called)
        all_stay call called o h y = scope_stays cs new more placed_more call called o h y

        by : (Contains bs x ⊎ Contains (b ∷ []) x) → IfSome x.scope (IsBodyScope ss (placed_of ws ss new) x.call x.macro_rank)
        by (inl d) =
            let i = get_of_contains bs x d in
            let y = are.each i.0 x i.1 in
            all_stay x.call x.macro_rank x.scope (in_range (placed_of ws ss cs) x.call y.call y.is_call) (old x d)
        by (inr d) = elim (contains_cases x b [] d) [
          | inl same ↦ subst (λ (z : Body). IfSome z.scope (IsBodyScope ss (placed_of ws ss new) z.call z.macro_rank)) same
              (all_stay b.call b.macro_rank b.scope (in_range (placed_of ws ss cs) b.call is.call is.is_call) so)
          | inr none ↦ absurd (contains_none x none)
        ]

  -- ---- what is in an optional or a booleanif of a body

  module _ (cs : List Called) (bs : List Body) (at number : ℕ) (numbers : List ℕ) (are : AreBodies ws ss cs bs) (x : IsInnerOf ws cs (length ss) at number) where
    abbrev inside : List Called
    inside = cs ++ map (called_by at number) numbers

    abbrev within : List Placed
    within = map (placed_by ws ss (placed_of ws ss cs) at) numbers

    pub inner_below : at < length ss + length cs
    inner_below = let h = in_range cs x.rank x.called x.is in let e = x.behind in omega (arith, h, e)

    pub placed_within : placed_of ws ss inside ≡ placed_of ws ss cs ++ within
    placed_within = all_brought cs at number numbers inner_below

    call_below : (b : Body) → Contains bs b → b.call < length (placed_of ws ss cs)
    call_below b c =
        let i = get_of_contains bs b c in
        let y = are.each i.0 b i.1 in
        in_range (placed_of ws ss cs) b.call y.call y.is_call

    -- it is of the body of that
    of_inner : (j k : ℕ) (c : Called) → j ≡ length cs + k → slice_get (map (called_by at number) numbers) k ≡ Some c → IsOf ws (length ss) inside bs (length ss + j) c
    of_inner j k c f e =
        let o = called_one at number numbers k c e in
        let same = o.1 in
        let y = are.brought x.rank x.called x.is in
        let below = inner_below in
        record {
          body = y.body;
          is_body = ap (slice_get bs) (o.0 ∙ sym x.body) ∙ y.is_body;
          before = omega (arith, below, f, same);
          opened = inr (inner_stays cs (map (called_by at number) numbers) c.opener c.body
              (record { rank = x.rank; behind = o.1 ∙ x.behind; called = x.called; is = x.is; body = x.body ∙ sym o.0; keeps = x.keeps }));
        }

    pub bodies_within : AreBodies ws ss inside bs
    bodies_within = record {
      each = λ i b e. subst (λ ps. IsBody ws ss ps b) (sym placed_within) (body_stays (placed_of ws ss cs) within b (are.each i b e));
      brought = λ j c e. by j c (either_at cs (map (called_by at number) numbers) j c e);
    }
      where
        by : (j : ℕ) (c : Called) → ((j < length cs) × (slice_get cs j ≡ Some c)) ⊎ ((k : ℕ) × (j ≡ length cs + k) × (slice_get (map (called_by at number) numbers) k ≡ Some c))
            → IsOf ws (length ss) inside bs (length ss + j) c
        by j c (inl h) =
            let y = are.brought j c h.1 in
            record {
              body = y.body;
              is_body = y.is_body;
              before = y.before;
              opened = opened_stays cs (map (called_by at number) numbers) y.body c y.opened;
            }
        by j c (inr (k, f, g)) = of_inner j k c f g

    pub spaces_within : (spaces : List Space) → AreBodySpaces ws ss spaces cs bs → AreBodySpaces ws ss spaces inside bs
    spaces_within spaces old b p c e = old b p c (stood_before cs inside within placed_within b.call p (call_below b c) e)

    pub scopes_within : AreBodyScopes ss (placed_of ws ss cs) bs → AreBodyScopes ss (placed_of ws ss inside) bs
    scopes_within old b c = scope_stays cs inside within placed_within b.call b.macro_rank b.scope (call_below b c) (old b c)

-- ---- a step of the walk

module _ (s : Standings) (cs : List Called) (bs : List Body) (at called : ℕ) (p : Placed) (here : slice_get (placed_in s cs) at ≡ Some p)
    (u : IsUnfoldedAt (written_in s) (all_standing s) p called) (within : at < length (entries_in s) + length cs) where
  its_body : (space : ℕ) (from : Option ℕ) → IsBody (written_in s) (all_standing s) (placed_in s cs) (record { call = at; macro_rank = called; space = space; scope = from })
  its_body space from = record { call = p; is_call = here; opened = u.opened; is_opened = u.is; is_macro = u.at }

  range : at < length (all_standing s) + length cs
  range = let l = standings_length (written_in s) (entries_in s) in omega (arith, within, l)

  pub bodies_opened : (space : ℕ) (from : Option ℕ) (numbers : List ℕ) (body : ℕ) (new : List Called) (more : List Body) → AreBodies (written_in s) (all_standing s) cs bs
      → body ≡ length bs → new ≡ cs ++ map (called_by at body) numbers → more ≡ bs ++ (record { call = at; macro_rank = called; space = space; scope = from }) ∷ []
      → AreBodies (written_in s) (all_standing s) new more
  bodies_opened space from numbers body new more are l e f =
      subst (λ xs. AreBodies (written_in s) (all_standing s) new xs) (sym f)
      (subst (λ xs. AreBodies (written_in s) (all_standing s) xs (bs ++ (record { call = at; macro_rank = called; space = space; scope = from }) ∷ []))
      (sym (e ∙ ap (λ n. cs ++ map (called_by at n) numbers) l))
      (bodies_more (written_in s) (all_standing s) cs bs (record { call = at; macro_rank = called; space = space; scope = from }) numbers are (its_body space from) range))

  pub spaces_opened : (space : ℕ) (from : Option ℕ) (numbers : List ℕ) (body : ℕ) (new : List Called) (more : List Body) → AreBodies (written_in s) (all_standing s) cs bs
      → AreBodySpaces (written_in s) (all_standing s) (spaces_in s) cs bs
      → ((q : Placed) → slice_get (placed_in s cs) at ≡ Some q → IsNumber (spaces_in s) q.standing.space space)
      → body ≡ length bs → new ≡ cs ++ map (called_by at body) numbers → more ≡ bs ++ (record { call = at; macro_rank = called; space = space; scope = from }) ∷ []
      → AreBodySpaces (written_in s) (all_standing s) (spaces_in s) new more
  spaces_opened space from numbers body new more are spaces so l e f =
      subst (λ xs. AreBodySpaces (written_in s) (all_standing s) (spaces_in s) new xs) (sym f)
      (subst (λ xs. AreBodySpaces (written_in s) (all_standing s) (spaces_in s) xs (bs ++ (record { call = at; macro_rank = called; space = space; scope = from }) ∷ []))
      (sym (e ∙ ap (λ n. cs ++ map (called_by at n) numbers) l))
      (spaces_more (written_in s) (all_standing s) cs bs (record { call = at; macro_rank = called; space = space; scope = from }) numbers are (its_body space from) range (spaces_in s) spaces so))

  pub scopes_opened : (space : ℕ) (from : Option ℕ) (numbers : List ℕ) (body : ℕ) (new : List Called) (more : List Body) → AreBodies (written_in s) (all_standing s) cs bs
      → AreBodyScopes (all_standing s) (placed_in s cs) bs → IfSome from (IsBodyScope (all_standing s) (placed_in s cs) at called)
      → body ≡ length bs → new ≡ cs ++ map (called_by at body) numbers → more ≡ bs ++ (record { call = at; macro_rank = called; space = space; scope = from }) ∷ []
      → AreBodyScopes (all_standing s) (placed_in s new) more
  scopes_opened space from numbers body new more are scopes so l e f =
      subst (λ xs. AreBodyScopes (all_standing s) (placed_in s new) xs) (sym f)
      (subst (λ xs. AreBodyScopes (all_standing s) (placed_in s xs) (bs ++ (record { call = at; macro_rank = called; space = space; scope = from }) ∷ []))
      (sym (e ∙ ap (λ n. cs ++ map (called_by at n) numbers) l))
      (scopes_more (written_in s) (all_standing s) cs bs (record { call = at; macro_rank = called; space = space; scope = from }) numbers are (its_body space from) range scopes so))

  -- what is placed is what was placed, and what this statement opens
  pub placed_opened : (ps : Parts) → AreParts (written_in s) ps → (k body : ℕ) (numbers : List ℕ) (new : List Called)
      → ((ws : List Written) (m : Standing) → slice_get (standings_of ws (entries_in s)) called ≡ Some m → m.statement ≡ statement_at ws k)
      → numbers ≡ parts_at ps k → new ≡ cs ++ map (called_by at body) numbers → placed_in s new ≡ placed_in s cs ++ opens_placed (written_in s) (all_standing s) p
  placed_opened ps are_parts k body numbers new statement n e =
      ap (placed_in s) e
      ∙ all_brought (written_in s) (all_standing s) cs at body numbers range
      ∙ ap (λ ks. placed_in s cs ++ map (placed_by (written_in s) (all_standing s) (placed_in s cs) at) ks) n
      ∙ ap (λ xs. placed_in s cs ++ xs)
      (opens_so (written_in s) (all_standing s) ps are_parts (placed_in s cs) at k p u.opened here u.is (number_of_macro (written_in s) k keyword) same)
    where
      same : u.opened.macro.statement ≡ statement_at (written_in s) k
      same = statement (written_in s) u.opened.macro u.at

      keyword : is_macro (statement_at (written_in s) k).statement.keyword ≡ true
      keyword = ap (λ (w : Written). is_macro w.statement.keyword) (sym same) ∙ (is_macro_call (written_in s) (all_standing s) p u.opened u.is).macro

-- where the statement is an optional or a booleanif of a body
module _ (s : Standings) (cs : List Called) (bs : List Body) (at number : ℕ) (numbers : List ℕ) (new : List Called) (e : new ≡ cs ++ map (called_by at number) numbers)
    (are : AreBodies (written_in s) (all_standing s) cs bs) (x : IsInnerOf (written_in s) cs (length (all_standing s)) at number) where
  abbrev ws : List Written
  ws = written_in s

  abbrev ss : List Standing
  ss = all_standing s

  pub bodies_inside : AreBodies ws ss new bs
  bodies_inside = subst (λ xs. AreBodies ws ss xs bs) (sym e) (bodies_within ws ss cs bs at number numbers are x)

  pub spaces_inside : AreBodySpaces ws ss (spaces_in s) cs bs → AreBodySpaces ws ss (spaces_in s) new bs
  spaces_inside old = subst (λ xs. AreBodySpaces ws ss (spaces_in s) xs bs) (sym e) (spaces_within ws ss cs bs at number numbers are x (spaces_in s) old)

  pub scopes_inside : AreBodyScopes ss (placed_in s cs) bs → AreBodyScopes ss (placed_in s new) bs
  scopes_inside old = subst (λ xs. AreBodyScopes ss (placed_in s xs) bs) (sym e) (scopes_within ws ss cs bs at number numbers are x old)

  -- what is placed is what was placed, and what is in the statement
  pub placed_inside : (ps : Parts) → AreParts ws ps → (k : ℕ) → ((p : Placed) → slice_get (placed_in s cs) at ≡ Some p → p.standing.statement ≡ statement_at ws k)
      → numbers ≡ parts_at ps k → (p : Placed) → slice_get (placed_in s cs) at ≡ Some p → placed_in s new ≡ placed_in s cs ++ opens_placed ws ss p
  placed_inside ps are_parts k stated n p here =
      let b = is_brought ws ss cs bs are x.rank x.called x.is in
      let there : p ≡ b.there = some_same p b.there (sym here ∙ ap (slice_get (placed_in s cs)) x.behind ∙ b.placed) in
      let said = called_statement ws ss cs x.rank x.called p x.is (ap (slice_get (placed_in s cs)) (sym x.behind) ∙ here) in
      let kept = ap (λ (w : Written). keeps_place w.statement.keyword) said ∙ x.keeps in
      ap (placed_in s) e
      ∙ placed_within ws ss cs bs at number numbers are x
      ∙ ap (λ ks. placed_in s cs ++ map (placed_by ws ss (placed_in s cs) at) ks) n
      ∙ ap (λ xs. placed_in s cs ++ xs)
      (opens_within ws ss ps are_parts (placed_in s cs) at k p _ here (ap (λ (q : Placed). q.body) there ∙ b.is.body) kept
      (number_of_kept ws k (ap (λ (w : Written). keeps_place w.statement.keyword) (sym (stated p here)) ∙ kept)) (stated p here))

  -- it is no call
  pub inner_unfolds_none : (p : Placed) → slice_get (placed_in s cs) at ≡ Some p → unfolded ws ss p ≡ None
  inner_unfolds_none p here =
      kept_opens_none ws ss p
      (ap (λ (w : Written). keeps_place w.statement.keyword) (called_statement ws ss cs x.rank x.called p x.is (ap (slice_get (placed_in s cs)) (sym x.behind) ∙ here)) ∙ x.keeps)

-- ---- the whole walk

module _ (s : Standings) where
  abbrev pub AreReached : ℕ → List Called → Type 0
  AreReached at cs = AreSoFar (written_in s) (all_standing s) at (placed_in s cs)

  -- nothing is brought yet
  pub no_bodies : (cs : List Called) (bs : List Body) → cs ≡ [] → bs ≡ [] → AreBodies (written_in s) (all_standing s) cs bs
  no_bodies cs bs e f = record {
    each = λ i b g. absurd (none_some b (ap (λ xs. slice_get xs i) (sym f) ∙ g));
    brought = λ j c g. absurd (none_some c (ap (λ xs. slice_get xs j) (sym e) ∙ g));
  }

  pub no_spaces : (cs : List Called) (bs : List Body) → bs ≡ [] → AreBodySpaces (written_in s) (all_standing s) (spaces_in s) cs bs
  no_spaces cs bs f b p c e = absurd (contains_none b (subst (λ xs. Contains xs b) f c))

  pub no_scopes : (cs : List Called) (bs : List Body) → bs ≡ [] → AreBodyScopes (all_standing s) (placed_in s cs) bs
  no_scopes cs bs f b c = absurd (contains_none b (subst (λ xs. Contains xs b) f c))

  module _ (are : AreStandings s) where
    calls : (p : Placed) (u : Unfolded) → unfolded (written_in s) (all_standing s) p ≡ Some u → is_call p.standing.statement.statement.keyword ≡ true
    calls p u e = (is_macro_call (written_in s) (all_standing s) p u e).call

    pub begun : (cs : List Called) → cs ≡ [] → AreReached 0 cs
    begun cs e =
        subst (AreReached 0) (sym e)
        (started (written_in s) (all_standing s) calls are.contents.nested.rising are.contents.standings.rising)

    pub gone_on : (at : ℕ) (cs new : List Called) → at < length (entries_in s) + length cs → AreReached at cs
        → ((p : Placed) → slice_get (placed_in s cs) at ≡ Some p → placed_in s new ≡ placed_in s cs ++ opens_placed (written_in s) (all_standing s) p) → AreReached (at + 1) new
    gone_on at cs new h so e =
        let p = placed_there s cs at h in
        went_on (written_in s) (all_standing s) calls are.contents.nested.rising are.contents.standings.rising at cs new p.0 p.1 so (e p.0 p.1)

    pub all_reached : (at : ℕ) (cs : List Called) → length (entries_in s) + length cs ≤ at → AreReached at cs
        → Lists placed_cmp (IsPlaced (written_in s) (all_standing s)) (placed_in s cs)
    all_reached at cs h so =
        let l = standings_length (written_in s) (entries_in s) in
        all_placed (written_in s) (all_standing s) calls are.contents.nested.rising are.contents.standings.rising at cs (omega (arith, h, l)) so

    pub over_reached : (at limit : ℕ) (cs : List Called) → limit < length (entries_in s) + length cs → AreReached at cs
        → IsOver placed_cmp (IsPlaced (written_in s) (all_standing s)) limit
    over_reached at limit cs h so =
        let l = standings_length (written_in s) (entries_in s) in
        too_many (written_in s) (all_standing s) calls are.contents.nested.rising are.contents.standings.rising at limit cs (omega (arith, h, l)) so
