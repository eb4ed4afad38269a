-- What a word could name, namespace by namespace.
use Rattle.std.proofs.Common.{◌≡◌, ℕ, zero, suc, ◌+◌, ◌<◌, ◌≤◌, Bool, true, false, cond, List, [], ◌∷◌, ◌++◌, length, get_or, drop, map, refl, sym, ◌∙◌, ap, subst, append_assoc, append-nil, arith}
use Rattle.std.specs.Prelude.{All, Option, Some, None, find}
use Rattle.std.specs.List.{flat_map}
use Rattle.std.specs.Option.{is_some, option_or}
use Rattle.std.proofs.lemmas.Bool.{true≢false}
use Rattle.std.proofs.lemmas.List.Folds.{find-append}
use Rattle.std.proofs.lemmas.List.{drop_all}
use Rattle.cil_base.specs.Places.{drop_at}
use Rattle.cil_syntax.specs.declared.term.Word.{Word}
use Rattle.cil_syntax.specs.Scopes.{IsTaken, asked, names_backwards}
use Rattle.cil_syntax.proofs.AskedLemmas.{is_global, is_parted}
use Rattle.cil_names.specs.declared.entry.Entry.{Entry}
use Rattle.cil_macros.specs.blocks.Space.{Space}
use Rattle.cil_macros.specs.Asked.{numbers_asked}
use Rattle.cil_names.specs.Entries.{candidate, candidates_of, listed, scope_of, scoped}
use Rattle.cil_names.specs.Sought.{could_name}
use Rattle.cil_macros.specs.blocks.Namespaces.{space_at}
use Rattle.cil_macros.proofs.blocks_lemmas.NamespaceLemmas.{global_at}

-- what was asked in one namespace is what the word could name there
pub asked_there : (ss : List Space) (es : List Entry) (w : Word) (global : Bool) (path : List ℕ) → IsTaken w.bytes global path → (k : ℕ) (r : Option ℕ)
    → ((name : List ℕ) (inner : List (List ℕ)) → names_backwards path ≡ name ∷ inner → r ≡ candidate ss es name w.sign (inner ++ space_at ss k))
    → listed r ≡ could_name ss es w k
asked_there ss es w global path taken k r is = ap listed (is (asked w.bytes).name (asked w.bytes).inner (is_parted w.bytes global path taken))

-- ---- all namespaces

module _ (ss : List Space) (es : List Entry) (w : Word) where
  each_name : (ks : List ℕ) → flat_map (λ n. listed (candidate ss es (asked w.bytes).name w.sign n)) (map (λ n. (asked w.bytes).inner ++ n) (scope_of ss ks))
      ≡ flat_map (could_name ss es w) ks
  each_name [] = refl
  each_name (k ∷ ks) = ap (λ l. could_name ss es w k ++ l) (each_name ks)

  pub whole : (scope : List ℕ) (global : Bool) → (asked w.bytes).global ≡ global
      → candidates_of ss es (scoped ss scope w) ≡ flat_map (could_name ss es w) (numbers_asked global scope)
  unfolding candidates_of
  whole scope true e =
      ap (λ b. flat_map (λ n. listed (candidate ss es (asked w.bytes).name w.sign n)) (cond b ((asked w.bytes).inner ∷ []) (map (λ n. (asked w.bytes).inner ++ n) (scope_of ss scope)))) e
      ∙ ap (λ n. listed (candidate ss es (asked w.bytes).name w.sign n) ++ []) (sym (append-nil (asked w.bytes).inner) ∙ ap (λ n. (asked w.bytes).inner ++ n) (sym (global_at ss)))
  whole scope false e =
      ap (λ b. flat_map (λ n. listed (candidate ss es (asked w.bytes).name w.sign n)) (cond b ((asked w.bytes).inner ∷ []) (map (λ n. (asked w.bytes).inner ++ n) (scope_of ss scope)))) e
      ∙ each_name scope

-- the candidates of a word are those in the namespaces that its path asks
pub candidates_in : (ss : List Space) (es : List Entry) (w : Word) (scope : List ℕ) (global : Bool) (path : List ℕ) → IsTaken w.bytes global path
    → (ks : List ℕ) → ks ≡ numbers_asked global scope → candidates_of ss es (scoped ss scope w) ≡ flat_map (could_name ss es w) ks
candidates_in ss es w scope global path taken ks are =
    whole ss es w scope global (is_global w.bytes global path taken) ∙ ap (flat_map (could_name ss es w)) (sym are)

-- each namespace that is asked is one of the scope's, or the global one
pub asked_within : (ss : List Space) (scope : List ℕ) → All (λ k. k ≤ length ss) scope → (global : Bool) (ks : List ℕ) → ks ≡ numbers_asked global scope → (i : ℕ) → i < length ks
    → get_or ks i 0 ≤ length ss
asked_within ss scope within true ks are i below =
    subst (λ l. get_or l i 0 ≤ length ss) (sym are) (global_within i (subst (λ l. i < length l) are below))
  where
    global_within : (i : ℕ) → i < 1 → get_or (0 ∷ []) i 0 ≤ length ss
    global_within zero below = omega arith
    global_within (suc i) below = omega (arith, below)
asked_within ss scope within false ks are i below =
    subst (λ l. get_or l i 0 ≤ length ss) (sym are) (within i 0 (subst (λ l. i < length l) are below))

-- ---- steps over a list

module _ {X Y : Type 0} (f : X → List Y) (xs : List X) (i : ℕ) (x d : X) (within : i < length xs) (is : x ≡ get_or xs i d) where
  pub next : flat_map f (drop i xs) ≡ f x ++ flat_map f (drop (i + 1) xs)
  next = ap (flat_map f) (drop_at xs i x d within is)

  pub passed_on : (before all : List Y) → before ++ flat_map f (drop i xs) ≡ all → (before ++ f x) ++ flat_map f (drop (i + 1) xs) ≡ all
  passed_on before all so = append_assoc before (f x) (flat_map f (drop (i + 1) xs)) ∙ ap (λ l. before ++ l) (sym next) ∙ so

  pub one_passed : (before all : List Y) → before ++ flat_map f (drop i xs) ≡ all → (now : List Y) → now ≡ before ++ f x → now ++ flat_map f (drop (i + 1) xs) ≡ all
  one_passed before all so now e = ap (λ l. l ++ flat_map f (drop (i + 1) xs)) e ∙ passed_on before all so

  module _ (p : Y → Bool) (so : find p (flat_map f xs) ≡ find p (flat_map f (drop i xs))) where
    pub not_yet : None ≡ find p (f x) → find p (flat_map f xs) ≡ find p (flat_map f (drop (i + 1) xs))
    not_yet none = so ∙ ap (find p) next ∙ find-append p (f x) (flat_map f (drop (i + 1) xs)) ∙ ap (λ o. option_or o (find p (flat_map f (drop (i + 1) xs)))) (sym none)

    pub by_now : (y : Y) → Some y ≡ find p (f x) → Some y ≡ find p (flat_map f xs)
    by_now y some = sym (so ∙ ap (find p) next ∙ find-append p (f x) (flat_map f (drop (i + 1) xs)) ∙ ap (λ o. option_or o (find p (flat_map f (drop (i + 1) xs)))) (sym some))

    pub passed_by : (r : Option Y) → r ≡ find p (f x) → is_some r ≡ false → find p (flat_map f xs) ≡ find p (flat_map f (drop (i + 1) xs))
    passed_by None e none = not_yet e
    passed_by (Some y) e none = absurd (true≢false none)

    pub found_by : (r : Option Y) → r ≡ find p (f x) → is_some r ≡ true → r ≡ find p (flat_map f xs)
    found_by None e some = absurd (true≢false (sym some))
    found_by (Some y) e some = by_now y e

module _ {X Y : Type 0} (f : X → List Y) (xs : List X) (i : ℕ) (over : length xs ≤ i) where
  pub all_passed : (before all : List Y) → before ++ flat_map f (drop i xs) ≡ all → before ≡ all
  all_passed before all so = sym (append-nil before) ∙ ap (λ l. before ++ flat_map f l) (sym (drop_all i xs over)) ∙ so

  pub never : (p : Y → Bool) → find p (flat_map f xs) ≡ find p (flat_map f (drop i xs)) → None ≡ find p (flat_map f xs)
  never p so = sym (so ∙ ap (λ l. find p (flat_map f l)) (drop_all i xs over))
