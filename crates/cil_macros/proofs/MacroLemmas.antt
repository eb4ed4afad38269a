-- The table of the macros that stand: one entry more, from the last one to the first.
use Rattle.std.proofs.Common.{◌≡◌, ℕ, suc, ◌+◌, ◌<◌, ◌≤◌, ◌==◌, ◌&&◌, ◌||◌, Bool, true, false, cond, if◌then◌else◌, List, [], ◌∷◌, ◌++◌, length, get_or, map, drop, refl, sym, ◌∙◌, ap, subst, arith, drop-cons, append-nil}
use Rattle.std.specs.Prelude.{Contains, Option, Some, None, filter, find, slice_get, IfSome}
use Rattle.std.specs.List.{list_any}
use Rattle.std.specs.Option.{is_some, option_or, option_map}
use Rattle.std.specs.Map.{lookup}
use Rattle.std.specs.Cmp.Lexicographic.{same_text}
use Rattle.std.proofs.lemmas.Bool.{eqb-true, and_parts}
use Rattle.std.proofs.lemmas.List.{drop_all}
use Rattle.std.proofs.lemmas.List.Elements.{Contains-get_or}
use Rattle.indexmap.specs.IndexMap.{get}
use Rattle.cil_base.specs.Places.{get_so, in_range, none_some, some_same, cons_head, cons_tail}
use Rattle.cil_syntax.specs.declared.term.Word.{Word}
use Rattle.cil_syntax.specs.Program.{program_of}
use Rattle.cil_faults.specs.Namespaces.{Namespace}
use Rattle.cil_syntax.specs.Scopes.{asked, names_backwards, same_space}
use Rattle.cil_syntax.specs.Spelling.{same_bytes}
use Rattle.cil_syntax.specs.Written.{is_macro}
use Rattle.cil_blocks.specs.declared.entry.Entry.{Entry}
use Rattle.cil_blocks.specs.Entries.{statement_at}
use Rattle.cil_blocks.specs.Numbers.{AreWithin}
use Rattle.cil_blocks.specs.Contents.{Standing, first_word, name_of, path_cmp, path_of}
use Rattle.cil_blocks.specs.declared.namespaces.Space.{Space}
use Rattle.cil_blocks.specs.Namespaces.{AreNamespaces, HasNoNumber, IsNumber, Key, space_at}
use Rattle.cil_blocks.specs.Places.{AreStandings, IsInSpace, Numbered, Standings, entries_in, places_in, spaces_in, statements_in}
use Rattle.cil_blocks.proofs.EntryLemmas.{map_two, mapped_at, standings_length, statements_from}
use Rattle.cil_blocks.proofs.NamespaceLemmas.{global_at, one_to_one}
use Rattle.cil_blocks.proofs.Kept.{in_one}
use Rattle.cil_blocks.proofs.OneTarget.{same_spaces}
use Rattle.cil_blocks.proofs.StandingWalk.{text_true}
use Rattle.cil_blocks.proofs.TargetsSo.{space_itself}
use Rattle.cil_macros.specs.declared.macros.Macros.{Macros}
use Rattle.cil_macros.specs.Asked.{IsAskedAt, numbers_asked}
use Rattle.cil_macros.specs.Calls.{called_macro, has_macro, is_call, is_macro_named, macro_in, macro_in_scope, macro_of_word, nearer_of, nearest}
use Rattle.cil_macros.specs.Macros.{AreMacrosFrom, IsMacroAt, SaysMacro, SaysMacroFrom, SaysNearer, SaysOf, all_standing, same_key}
use Rattle.cil_macros.specs.Placed.{Placed}

-- ---- truth values

three_true : (a b c : Bool) → a ≡ true → b ≡ true → c ≡ true → (a && b && c) ≡ true
three_true true true c e f g = g
three_true true false c e f g = absurd (let h : false ≡ true = f in cc)
three_true false b c e f g = absurd (let h : false ≡ true = e in cc)

three : (a b c : Bool) → (a && b && c) ≡ true → (a ≡ true) × (b ≡ true) × (c ≡ true)
three true true c e = (refl, refl, e)
three true false c e = absurd (let h : false ≡ true = e in cc)
three false b c e = absurd (let h : false ≡ true = e in cc)

not_true : (b : Bool) → (b ≡ true → ⊥) → b ≡ false
not_true true h = absurd (h refl)
not_true false h = refl

number_itself : (n : ℕ) → (n == n) ≡ true
number_itself n = grind arith

-- ---- keys

key_same : (a b : Key) → same_key a b ≡ true → (a.0 ≡ b.0) × (a.1.now ≡ b.1.now)
key_same a b e =
    let t = and_parts (a.0 == b.0) (same_bytes a.1.now b.1.now) e in
    (eqb-true a.0 b.0 t.0, same_text a.1.now b.1.now (sym t.1))

key_true : (a b : Key) → a.0 ≡ b.0 → a.1.now ≡ b.1.now → same_key a b ≡ true
key_true a b e f =
    ap (λ x. (x == b.0) && same_bytes a.1.now b.1.now) e ∙ ap (λ x. x && same_bytes a.1.now b.1.now) (number_itself b.0)
    ∙ text_true a.1.now b.1.now (same_bytes a.1.now b.1.now) refl f

-- keys of one namespace and one name have one value
alike : (m : Macros) (a b : Key) → a.0 ≡ b.0 → a.1.now ≡ b.1.now → get same_key m.table a ≡ get same_key m.table b
alike m a b e f = ap (λ (p : ℕ × List ℕ). lookup (λ (k : Key). (p.0 == k.0) && same_bytes p.1 k.1.now) m.table.entries) (λ i. (e i, f i))

-- ---- one more in front

module _ (name : List ℕ) (n : Namespace) where
  abbrev named : Standing → Bool
  named = is_macro_named name n

  kept_by : (x : Standing) (xs : List Standing) (b : Bool) → named x ≡ b → filter named (x ∷ xs) ≡ (if b then x ∷ filter named xs else filter named xs)
  kept_by x xs b e = ap (λ c. if c then x ∷ filter named xs else filter named xs) e

  nearest_more : (x : Standing) (o : Option Standing) (xs : List Standing) → nearest xs ≡ o
      → nearest (x ∷ xs) ≡ option_or (option_map (λ t. nearer_of (path_cmp (path_of x) (path_of t)) x t) o) (Some x)
  unfolding nearest
  nearest_more x o xs e = ap (λ p. option_or (option_map (λ t. nearer_of (path_cmp (path_of x) (path_of t)) x t) p) (Some x)) e

  is_near : (x : Standing) (o : Option Standing) → is_some (option_or (option_map (λ t. nearer_of (path_cmp (path_of x) (path_of t)) x t) o) (Some x)) ≡ true
  is_near x None = refl
  is_near x (Some t) = refl

  any_by : (x : Standing) (xs : List Standing) (b : Bool) → named x ≡ b → list_any named xs ≡ is_some (nearest (filter named xs))
      → list_any named (x ∷ xs) ≡ is_some (nearest (filter named (x ∷ xs)))
  any_by x xs true e more =
      ap (λ c. c || list_any named xs) e
      ∙ sym (is_near x (nearest (filter named xs))) ∙ ap is_some (sym (nearest_more x (nearest (filter named xs)) (filter named xs) refl))
      ∙ ap (λ ys. is_some (nearest ys)) (sym (kept_by x xs true e))
  any_by x xs false e more =
      ap (λ c. c || list_any named xs) e ∙ more ∙ ap (λ ys. is_some (nearest ys)) (sym (kept_by x xs false e))

  -- a macro is meant exactly where there is one
  any_near : (xs : List Standing) → list_any named xs ≡ is_some (nearest (filter named xs))
  unfolding nearest
  any_near [] = refl
  any_near (x ∷ xs) = any_by x xs (named x) refl (any_near xs)

  pub has_so : (xs : List Standing) → has_macro xs name n ≡ is_some (nearest (filter named xs))
  unfolding has_macro
  has_so xs = any_near xs

  -- where none has the name, none is meant
  none_near : (xs : List Standing) → ((i : ℕ) (x : Standing) → slice_get xs i ≡ Some x → named x ≡ true → ⊥) → filter named xs ≡ []
  none_near [] none = refl
  none_near (x ∷ xs) none = kept_by x xs false (not_true (named x) (none 0 x refl)) ∙ none_near xs (λ i y at. none (suc i) y at)

nothing_near : nearest [] ≡ None
unfolding nearest
nothing_near = refl

-- ---- one more of what stands

module _ (s : Standings) (rank : ℕ) (x : Standing) (here : slice_get (all_standing s) rank ≡ Some x) where
  cut : drop rank (all_standing s) ≡ x ∷ drop (rank + 1) (all_standing s)
  cut =
      drop-cons (all_standing s) rank x (in_range (all_standing s) rank x here)
      ∙ ap (λ y. y ∷ drop (suc rank) (all_standing s)) (get_so (all_standing s) rank x x here)
      ∙ ap (λ k. x ∷ drop k (all_standing s)) (let e : suc rank ≡ rank + 1 = omega arith in e)

  module _ (name : List ℕ) (n : Namespace) where
    passed : is_macro_named name n x ≡ false → macro_in (drop (rank + 1) (all_standing s)) name (Some n) ≡ macro_in (drop rank (all_standing s)) name (Some n)
    passed e = ap nearest (sym (ap (filter (is_macro_named name n)) cut ∙ kept_by name n x (drop (rank + 1) (all_standing s)) false e))

    added : (o : Option Standing) → is_macro_named name n x ≡ true → macro_in (drop (rank + 1) (all_standing s)) name (Some n) ≡ o
        → option_or (option_map (λ t. nearer_of (path_cmp (path_of x) (path_of t)) x t) o) (Some x) ≡ macro_in (drop rank (all_standing s)) name (Some n)
    added o e was =
        sym (ap (λ ys. nearest (filter (is_macro_named name n) ys)) cut ∙ ap nearest (kept_by name n x (drop (rank + 1) (all_standing s)) true e)
        ∙ nearest_more name n x o (filter (is_macro_named name n) (drop (rank + 1) (all_standing s))) was)

    still : (r : Option ℕ) → is_macro_named name n x ≡ false → SaysOf (all_standing s) (macro_in (drop (rank + 1) (all_standing s)) name (Some n)) r
        → SaysOf (all_standing s) (macro_in (drop rank (all_standing s)) name (Some n)) r
    still r e so = subst (λ o. SaysOf (all_standing s) o r) (passed e) so

    now : (old : Option ℕ) (r : ℕ) → is_macro_named name n x ≡ true → SaysOf (all_standing s) (macro_in (drop (rank + 1) (all_standing s)) name (Some n)) old
        → SaysNearer (all_standing s) rank old r → IsMacroAt (all_standing s) (macro_in (drop rank (all_standing s)) name (Some n)) r
    now None r e was near = record { called = x; is = sym (added None e was); at = ap (slice_get (all_standing s)) near ∙ here }
    now (Some j) r e was near = record {
      called = nearer_of (path_cmp (path_of x) (path_of was.called)) x was.called;
      is = sym (added (Some was.called) e was.is);
      at = near x was.called here was.at;
    }

  module _ (old : Macros) (behind : AreMacrosFrom s (rank + 1) old) where
    -- what is no macro
    pub no_macro : is_macro x.statement.statement.keyword ≡ false → AreMacrosFrom s rank old
    no_macro e = record {
      standings = behind.standings;
      namespaces = behind.namespaces;
      meant = λ k h. still k.1.now (space_at (spaces_in s) k.0) (get same_key old.table k) (ap (λ b. b && same_bytes (name_of x.statement) k.1.now && same_space x.space (space_at (spaces_in s) k.0)) e) (behind.meant k h);
    }

    module _ (v : Key) (is_space : IsNumber (spaces_in s) x.space v.0) (is_name : v.1.now ≡ name_of x.statement) (kind : is_macro x.statement.statement.keyword ≡ true)
        (r : ℕ) (near : SaysNearer (all_standing s) rank (get same_key old.table v) r) (new : Macros)
        (put : (k : Key) → get same_key new.table k ≡ cond (same_key v k) (Some r) (get same_key old.table k)) where
      its_own : (k : Key) → same_key v k ≡ true → is_macro_named k.1.now (space_at (spaces_in s) k.0) x ≡ true
      its_own k e =
          let same = key_same v k e in
          three_true (is_macro x.statement.statement.keyword) (same_bytes (name_of x.statement) k.1.now) (same_space x.space (space_at (spaces_in s) k.0)) kind
          (text_true (name_of x.statement) k.1.now (same_bytes (name_of x.statement) k.1.now) refl (sym is_name ∙ same.1))
          (ap (same_space x.space) (ap (space_at (spaces_in s)) (sym same.0) ∙ is_space.is) ∙ space_itself x.space)

      no_other : (k : Key) → k.0 ≤ length (spaces_in s) → same_key v k ≡ false → is_macro_named k.1.now (space_at (spaces_in s) k.0) x ≡ false
      no_other k h e =
          not_true (is_macro_named k.1.now (space_at (spaces_in s) k.0) x)
          (λ t.
          let all = three (is_macro x.statement.statement.keyword) (same_bytes (name_of x.statement) k.1.now) (same_space x.space (space_at (spaces_in s) k.0)) t in
          let number = one_to_one (spaces_in s) behind.namespaces v.0 k.0 is_space.within h (is_space.is ∙ same_spaces x.space (space_at (spaces_in s) k.0) all.2) in
          let name = is_name ∙ same_text (name_of x.statement) k.1.now (sym all.1) in
          both_ways (same_key v k) (key_true v k number name) e) where
            both_ways : (b : Bool) → b ≡ true → b ≡ false → ⊥
            both_ways b e f = cc

      says : (k : Key) (b : Bool) → k.0 ≤ length (spaces_in s) → same_key v k ≡ b → SaysMacroFrom s rank k.0 k.1.now (cond b (Some r) (get same_key old.table k))
      says k true h e =
          let same = key_same v k e in
          now k.1.now (space_at (spaces_in s) k.0) (get same_key old.table k) r (its_own k e) (behind.meant k h)
          (subst (λ o. SaysNearer (all_standing s) rank o r) (alike old v k same.0 same.1) near)
      says k false h e = still k.1.now (space_at (spaces_in s) k.0) (get same_key old.table k) (no_other k h e) (behind.meant k h)

      pub macro_added : AreMacrosFrom s rank new
      macro_added = record {
        standings = behind.standings;
        namespaces = behind.namespaces;
        meant = λ k h. subst (SaysMacroFrom s rank k.0 k.1.now) (sym (put k)) (says k (same_key v k) h refl);
      }

    -- what stands behind is in range
    pub kept_within : (v : Key) → v.0 ≤ length (spaces_in s) → (o : Option ℕ) → o ≡ get same_key old.table v → IfSome o (λ k. k < length (entries_in s))
    kept_within v h None e = tt
    kept_within v h (Some k) e =
        let so : IsMacroAt (all_standing s) (macro_in (drop (rank + 1) (all_standing s)) v.1.now (Some (space_at (spaces_in s) v.0))) k =
        subst (SaysMacroFrom s (rank + 1) v.0 v.1.now) (sym e) (behind.meant v h) in
        let l = standings_length (program_of (statements_in s)) (entries_in s) in
        let within = in_range (all_standing s) k so.called so.at in
        omega (arith, l, within)

-- ---- the whole table

pub no_macros : (s : Standings) (n : ℕ) (m : Macros) → AreStandings s → AreNamespaces (spaces_in s) → length (entries_in s) ≤ n → m.table.entries ≡ [] → AreMacrosFrom s n m
no_macros s n m standings namespaces over empty = record {
  standings = standings;
  namespaces = namespaces;
  meant = λ k h. subst (SaysMacroFrom s n k.0 k.1.now) (sym (ap (lookup (same_key k)) empty))
      (ap (λ ys. nearest (filter (is_macro_named k.1.now (space_at (spaces_in s) k.0)) ys)) (drop_all n (all_standing s) (let l = standings_length (program_of (statements_in s)) (entries_in s) in omega (arith, l, over))) ∙ nothing_near);
}

-- ---- words

module _ (s : Standings) (are : AreStandings s) (name : List ℕ) where
  -- a namespace without a number has no macro
  pub no_space : (n : Namespace) → HasNoNumber (spaces_in s) n → macro_in (all_standing s) name (Some n) ≡ None
  no_space n none =
      ap nearest (none_near name n (all_standing s)
      (λ i x at e.
      let all = three (is_macro x.statement.statement.keyword) (same_bytes (name_of x.statement) name) (same_space x.space n) e in
      let place = are.places i x at in
      none place.place.0 (record { within = place.so.is_space.within; is = place.so.is_space.is ∙ same_spaces x.space n all.2 })))
      ∙ nothing_near

-- what stands at a rank, and where
module _ (s : Standings) (are : AreStandings s) (rank : ℕ) where
  pub stands_here : (d : Entry) → rank < length (entries_in s)
      → (x : Standing) × (slice_get (all_standing s) rank ≡ Some x) × (x.statement ≡ statement_at (program_of (statements_in s)) (get_or (entries_in s) rank d).statement)
  stands_here d h =
      mapped_at (program_of (statements_in s)) (all_standing s) (entries_in s) rank d (statements_from (program_of (statements_in s)) [] (entries_in s)) h

  module _ (x : Standing) (here : slice_get (all_standing s) rank ≡ Some x) where
    pub placed_here : slice_get (places_in s) rank ≡ None → ⊥
    placed_here none = let place = are.places rank x here in none_some place.place (sym none ∙ place.is)

    pub number_in : (n : ℕ) → IsInSpace (places_in s) rank n → IsNumber (spaces_in s) x.space n
    number_in n (p, at, is) =
        let place = are.places rank x here in
        subst (IsNumber (spaces_in s) x.space) (ap (λ (q : Numbered). q.0) (some_same place.place p (sym place.is ∙ at)) ∙ sym is) place.so.is_space

module _ (s : Standings) (name : List ℕ) where
  module _ (inner : Namespace) where
    -- the macro that is asked in the first of some namespaces that has one
    abbrev pub first_in : List ℕ → Option Standing
    first_in ks = macro_in (all_standing s) name (find (has_macro (all_standing s) name) (map (λ k. inner ++ space_at (spaces_in s) k) ks))

    abbrev pub here_in : ℕ → Option Standing
    here_in k = macro_in (all_standing s) name (Some (inner ++ space_at (spaces_in s) k))

    first_by : (k : ℕ) (ks : List ℕ) (b : Bool) → has_macro (all_standing s) name (inner ++ space_at (spaces_in s) k) ≡ b → first_in (k ∷ ks) ≡ (if b then here_in k else first_in ks)
    first_by k ks true e =
        ap (λ b. macro_in (all_standing s) name (if b then Some (inner ++ space_at (spaces_in s) k) else find (has_macro (all_standing s) name) (map (λ j. inner ++ space_at (spaces_in s) j) ks))) e
    first_by k ks false e =
        ap (λ b. macro_in (all_standing s) name (if b then Some (inner ++ space_at (spaces_in s) k) else find (has_macro (all_standing s) name) (map (λ j. inner ++ space_at (spaces_in s) j) ks))) e

    pub asked_here : (k : ℕ) (ks : List ℕ) (r : Option ℕ) → is_some r ≡ true → SaysOf (all_standing s) (here_in k) r → first_in (k ∷ ks) ≡ here_in k
    asked_here k ks None some so = absurd (let f : false ≡ true = some in cc)
    asked_here k ks (Some j) some so = first_by k ks true (has_so name (inner ++ space_at (spaces_in s) k) (all_standing s) ∙ ap is_some so.is)

    pub asked_later : (k : ℕ) (ks : List ℕ) (r : Option ℕ) → is_some r ≡ false → SaysOf (all_standing s) (here_in k) r → first_in (k ∷ ks) ≡ first_in ks
    asked_later k ks (Some j) none so = absurd (let f : true ≡ false = none in cc)
    asked_later k ks None none so = first_by k ks false (has_so name (inner ++ space_at (spaces_in s) k) (all_standing s) ∙ ap is_some so)

-- ---- the namespaces of a word

abbrev found : Standings → Word → List Namespace → Option Standing
found s w ns = macro_in (all_standing s) (asked w.bytes).name (find (has_macro (all_standing s) (asked w.bytes).name) ns)

-- those that a word asks in a scope
pub whole : (s : Standings) (w : Word) (scope : List ℕ) (global : Bool) → AreNamespaces (spaces_in s) → (asked w.bytes).global ≡ global
    → macro_in_scope (all_standing s) w (map (space_at (spaces_in s)) scope) ≡ first_in s (asked w.bytes).name (asked w.bytes).inner (numbers_asked global scope)
unfolding macro_in_scope
whole s w scope true are e =
    ap (λ b. found s w (if b then (asked w.bytes).inner ∷ [] else map (λ n. (asked w.bytes).inner ++ n) (map (space_at (spaces_in s)) scope))) e
    ∙ ap (λ n. found s w (n ∷ [])) (sym (append-nil (asked w.bytes).inner) ∙ ap (λ n. (asked w.bytes).inner ++ n) (sym (global_at (spaces_in s))))
whole s w scope false are e =
    ap (λ b. found s w (if b then (asked w.bytes).inner ∷ [] else map (λ n. (asked w.bytes).inner ++ n) (map (space_at (spaces_in s)) scope))) e
    ∙ ap (found s w) (sym (map_two [] (λ n. (asked w.bytes).inner ++ n) (space_at (spaces_in s)) scope))

pub within_asked : (ss : List Space) (scope : List ℕ) (global : Bool) → AreWithin ss scope → AreWithin ss (numbers_asked global scope)
within_asked ss scope true h k c = let same = in_one k 0 c in omega (arith, same)
within_asked ss scope false h k c = h k c

-- a step over the namespaces
module _ (ks : List ℕ) (i k d : ℕ) (within : i < length ks) (is : k ≡ get_or ks i d) where
  pub next_asked : drop i ks ≡ k ∷ drop (i + 1) ks
  next_asked = drop-cons ks i d within ∙ ap (λ y. y ∷ drop (suc i) ks) (sym is) ∙ ap (λ n. k ∷ drop n ks) (let e : suc i ≡ i + 1 = omega arith in e)

  pub one_within : (ss : List Space) → AreWithin ss ks → k ≤ length ss
  one_within ss h = h k (subst (Contains ks) (sym is) (Contains-get_or ks i d within))

pub never_asked : (s : Standings) (name : List ℕ) (inner : Namespace) (ks : List ℕ) (i : ℕ) → length ks ≤ i → first_in s name inner (drop i ks) ≡ None
never_asked s name inner ks i over = ap (first_in s name inner) (drop_all i ks over)

-- the macro of the namespace that names ask
pub said_of : (s : Standings) (from : ℕ) (names : List ℕ) (k : ℕ) (given : List ℕ) (at : IsAskedAt (spaces_in s) from names k given) (r : Option ℕ)
    → SaysMacro s k given r → (name : List ℕ) (inner : Namespace) → names_backwards names ≡ name ∷ inner
    → SaysOf (all_standing s) (macro_in (all_standing s) name (Some (inner ++ space_at (spaces_in s) from))) r
said_of s from names k given at r so name inner e =
    let both : given ∷ at.inner ≡ name ∷ inner = sym at.taken ∙ e in
    subst (λ n. SaysOf (all_standing s) (macro_in (all_standing s) name (Some (n ++ space_at (spaces_in s) from))) r) (cons_tail given name at.inner inner both)
    (subst (λ x. SaysOf (all_standing s) (macro_in (all_standing s) x (Some (at.inner ++ space_at (spaces_in s) from))) r) (cons_head given name at.inner inner both)
    (subst (λ n. SaysOf (all_standing s) (macro_in (all_standing s) given (Some n)) r) at.numbered.is so))

-- ---- calls

module _ (ss : List Standing) (p : Placed) where
  pub no_call : is_call p.standing.statement.statement.keyword ≡ false → called_macro ss p ≡ None
  unfolding called_macro
  no_call e = ap (λ b. if b then macro_of_word ss p (first_word p.standing.statement.statement.args) else None) e

  pub a_call : (o : Option Word) → is_call p.standing.statement.statement.keyword ≡ true → first_word p.standing.statement.statement.args ≡ o → called_macro ss p ≡ macro_of_word ss p o
  unfolding called_macro
  a_call o e f = ap (λ b. if b then macro_of_word ss p (first_word p.standing.statement.statement.args) else None) e ∙ ap (macro_of_word ss p) f
