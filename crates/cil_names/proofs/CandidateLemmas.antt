-- The entries that a word could name.
use Rattle.std.proofs.Common.{◌≡◌, ℕ, zero, suc, ◌≤◌, ◌&&◌, Bool, true, false, cond, List, [], ◌∷◌, ◌++◌, length, refl, sym, ◌∙◌, ap, inl, inr, arith}
use Rattle.std.specs.Prelude.{Option, Some, None, MatchOption, slice_get}
use Rattle.std.specs.Option.{option_map}
use Rattle.std.specs.Cmp.Lexicographic.{bytes_decides}
use Rattle.std.specs.List.{flat_map}
use Rattle.std.proofs.lemmas.Bool.{and_parts, cases_Bool, true≢false}
use Rattle.cil_base.specs.Places.{cons_head, cons_tail, get_contains}
use Rattle.cil_syntax.specs.declared.kind.Kind.{Kind}
use Rattle.cil_syntax.specs.declared.kind.Sign.{Sign}
use Rattle.cil_syntax.specs.Spelling.{same_bytes}
use Rattle.cil_faults.specs.Namespaces.{Namespace}
use Rattle.cil_syntax.specs.Scopes.{ScopedWord, asked, names_backwards, same_space, spaces_asked}
use Rattle.std.proofs.lemmas.Option.{same_Some}
use Rattle.cil_syntax.proofs.DecidedEquality.{spaces_decide}
use Rattle.cil_names.specs.declared.entry.Entry.{Entry}
use Rattle.cil_macros.specs.blocks.Space.{Space}
use Rattle.cil_names.specs.Entries.{AreOrdered, HasNoEntry, IsEntryAt, candidate, candidates_of, is_entry, listed, is_entry_of, place_where, HasNoEntryIn, IsEntryIn}
use Rattle.cil_syntax.specs.Kinds.{is_wanted}
use Rattle.cil_macros.specs.blocks.Namespaces.{AreNamespaces, HasNoNumber, IsNumber, space_at}
use Rattle.cil_macros.specs.Asked.{IsAskedAt, IsAskedNowhere}
use Rattle.cil_names.proofs.EntryLemmas.{parts_fit, they_fit}
use Rattle.cil_macros.proofs.blocks_lemmas.NamespaceLemmas.{same_number}

module _ {X : Type 0} (p : X → Bool) where
  passed : (x : X) (xs : List X) → p x ≡ true → place_where p (x ∷ xs) ≡ Some 0
  unfolding place_where
  passed x xs e = ap (λ b. cond b (Some 0) (option_map suc (place_where p xs))) e

  failed : (x : X) (xs : List X) → p x ≡ false → place_where p (x ∷ xs) ≡ option_map suc (place_where p xs)
  unfolding place_where
  failed x xs e = ap (λ b. cond b (Some 0) (option_map suc (place_where p xs))) e

  pub place_none : (xs : List X) → ((m : ℕ) (x : X) → slice_get xs m ≡ Some x → p x ≡ true → ⊥) → place_where p xs ≡ None
  unfolding place_where
  place_none [] none = refl
  place_none (x ∷ xs) none =
      elim (cases_Bool (p x)) [
        | inl t ↦ absurd (none 0 x refl t)
        | inr f ↦ failed x xs f ∙ ap (option_map suc) (place_none xs (λ m y at. none (suc m) y at))
      ]

  pub place_some : (xs : List X) (d : ℕ) (e : X) → slice_get xs d ≡ Some e → p e ≡ true → ((m : ℕ) (x : X) → slice_get xs m ≡ Some x → p x ≡ true → m ≡ d)
      → place_where p xs ≡ Some d
  place_some [] d e at fits only = absurd cc
  place_some (x ∷ xs) zero e at fits only = passed x xs (ap p (let s : x ≡ e = cc in s) ∙ fits)
  place_some (x ∷ xs) (suc d) e at fits only =
      elim (cases_Bool (p x)) [
        | inl t ↦ absurd (let z = only 0 x refl t in omega (arith, z))
        | inr f ↦ failed x xs f ∙ ap (option_map suc) (place_some xs d e at fits (λ m y is t. let z = only (suc m) y is t in omega (arith, z)))
      ]

  behind : (x : X) (xs : List X) (d : ℕ) (o : Option ℕ) → ((k : ℕ) → o ≡ Some k → (y : X) × (slice_get xs k ≡ Some y) × (p y ≡ true)) → option_map suc o ≡ Some d
      → (y : X) × (slice_get (x ∷ xs) d ≡ Some y) × (p y ≡ true)
  behind x xs d None more e = absurd (let g : None ≡ Some d = e in cc)
  behind x xs d (Some k) more e =
      let z : suc k ≡ d = same_Some (suc k) d e in
      let (y, at, t) = more k refl in
      (y, ap (slice_get (x ∷ xs)) (sym z) ∙ at, t)

  pub place_is : (xs : List X) (d : ℕ) → place_where p xs ≡ Some d → (x : X) × (slice_get xs d ≡ Some x) × (p x ≡ true)
  unfolding place_where
  place_is [] d e = absurd (let g : None ≡ Some d = e in cc)
  place_is (x ∷ xs) d e =
      elim (cases_Bool (p x)) [
        | inl t ↦ let z : 0 ≡ d = same_Some 0 d (sym (passed x xs t) ∙ e) in (x, ap (slice_get (x ∷ xs)) (sym z), t)
        | inr f ↦ behind x xs d (place_where p xs) (place_is xs) (sym (failed x xs f) ∙ e)
      ]

-- what an entry of a namespace is
pub parts_of : (ss : List Space) (name : List ℕ) (sign : Sign) (n : Namespace) (e : Entry) → is_entry_of ss name sign n e ≡ true
    → (space_at ss e.space ≡ n) × (e.name ≡ name) × (is_wanted sign e.kind ≡ true)
parts_of ss name sign n e fits =
    let (front, wanted) = and_parts (same_space (space_at ss e.space) n && same_bytes e.name name) (is_wanted sign e.kind) fits in
    let (space, named) = and_parts (same_space (space_at ss e.space) n) (same_bytes e.name name) front in
    ((spaces_decide (space_at ss e.space) n).0 space, (bytes_decides e.name name).0 named, wanted)

pub they_are : (ss : List Space) (name : List ℕ) (sign : Sign) (n : Namespace) (e : Entry) → space_at ss e.space ≡ n → e.name ≡ name → is_wanted sign e.kind ≡ true
    → is_entry_of ss name sign n e ≡ true
they_are ss name sign n e p q r =
    ap (λ b. b && same_bytes e.name name && is_wanted sign e.kind) ((spaces_decide (space_at ss e.space) n).1 p)
    ∙ ap (λ b. b && is_wanted sign e.kind) ((bytes_decides e.name name).1 q)
    ∙ r

module _ (ss : List Space) (are : AreNamespaces ss) (es : List Entry) (ordered : AreOrdered ss es) (name : List ℕ) (sign : Sign) (n : Namespace) where
  within_at : (m : ℕ) (e : Entry) → slice_get es m ≡ Some e → e.space ≤ length ss
  within_at m e at = ordered.within e (get_contains es m e at)

  pub no_space : HasNoNumber ss n → None ≡ candidate ss es name sign n
  no_space none =
      sym (place_none (is_entry_of ss name sign n) es (λ m e at t.
      let (space, named, wanted) = parts_of ss name sign n e t in none e.space (record { within = within_at m e at; is = space })))

  module _ (k : ℕ) (numbered : IsNumber ss n k) where
    pub by_number : (m : ℕ) (e : Entry) → slice_get es m ≡ Some e → is_entry_of ss name sign n e ≡ true → is_entry name sign k e ≡ true
    by_number m e at t =
        let (space, named, wanted) = parts_of ss name sign n e t in
        they_fit name sign k e (same_number ss are n e.space k (record { within = within_at m e at; is = space }) numbered) named wanted

    pub by_space : (e : Entry) → is_entry name sign k e ≡ true → is_entry_of ss name sign n e ≡ true
    by_space e t =
        let (space, named, wanted) = parts_fit name sign k e t in
        they_are ss name sign n e (ap (space_at ss) space ∙ numbered.is) named wanted

    pub answer : (r : Option ℕ) → MatchOption r (HasNoEntry es name sign k) (IsEntryAt es name sign k) → r ≡ candidate ss es name sign n
    answer None none = sym (place_none (is_entry_of ss name sign n) es (λ m e at t. none m e at (by_number m e at t)))
    answer (Some d) some =
        sym (place_some (is_entry_of ss name sign n) es d some.entry some.at (by_space some.entry some.fits) (λ m e at t. some.only m e at (by_number m e at t)))

    pub entry_in_space : (r : Option ℕ) → MatchOption r (HasNoEntry es name sign k) (IsEntryAt es name sign k) → MatchOption r (HasNoEntryIn ss es name sign n) (IsEntryIn ss es name sign n)
    entry_in_space None none = λ m e at t. none m e at (by_number m e at t)
    entry_in_space (Some d) some = record { entry = some.entry; at = some.at; fits = by_space some.entry some.fits; only = λ m e at t. some.only m e at (by_number m e at t) }

module _ (ss : List Space) (are : AreNamespaces ss) (es : List Entry) (ordered : AreOrdered ss es) (sign : Sign) (from : ℕ) (path : List ℕ) where
  pub nowhere : IsAskedNowhere ss from path → (name : List ℕ) (inner : List (List ℕ)) → names_backwards path ≡ name ∷ inner
      → None ≡ candidate ss es name sign (inner ++ space_at ss from)
  nowhere none name inner e = no_space ss are es ordered name sign (inner ++ space_at ss from) (none name inner e)

  pub somewhere : (k : ℕ) (given : List ℕ) → IsAskedAt ss from path k given → (r : Option ℕ) → MatchOption r (HasNoEntry es given sign k) (IsEntryAt es given sign k)
      → (name : List ℕ) (inner : List (List ℕ)) → names_backwards path ≡ name ∷ inner → r ≡ candidate ss es name sign (inner ++ space_at ss from)
  somewhere k given at r found name inner e =
      let both : given ∷ at.inner ≡ name ∷ inner = sym at.taken ∙ e in
      answer ss are es ordered given sign (at.inner ++ space_at ss from) k at.numbered r found
      ∙ ap (λ x. candidate ss es x sign (at.inner ++ space_at ss from)) (cons_head given name at.inner inner both)
      ∙ ap (λ m. candidate ss es name sign (m ++ space_at ss from)) (cons_tail given name at.inner inner both)

-- a word that wants no kind could name nothing
module _ (ss : List Space) (es : List Entry) (name : List ℕ) (sign : Sign) (none : (kind : Kind) → is_wanted sign kind ≡ false) where
  not_there : (n : Namespace) → candidate ss es name sign n ≡ None
  not_there n = place_none (is_entry_of ss name sign n) es (λ m e at t. absurd (true≢false (sym (parts_of ss name sign n e t).2 ∙ none e.kind)))

  pub none_there : (ns : List Namespace) → flat_map (λ n. listed (candidate ss es name sign n)) ns ≡ []
  none_there [] = refl
  none_there (n ∷ ns) = ap (λ o. listed o ++ flat_map (λ n. listed (candidate ss es name sign n)) ns) (not_there n) ∙ none_there ns

pub could_name_none : (ss : List Space) (es : List Entry) (w : ScopedWord) → ((kind : Kind) → is_wanted w.sign kind ≡ false) → candidates_of ss es w ≡ []
unfolding candidates_of
could_name_none ss es w none = none_there ss es (asked w.bytes).name w.sign none (spaces_asked (asked w.bytes) w.scope)
