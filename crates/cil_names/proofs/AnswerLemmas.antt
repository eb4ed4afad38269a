-- What look-up answers is what a word names.
use Rattle.std.proofs.Common.{◌≡◌, ℕ, zero, suc, ◌&&◌, ◌||◌, Bool, true, false, cond, List, [], ◌∷◌, ◌++◌, get_or, map, refl, sym, ◌∙◌, ap, subst, inl, inr}
use Rattle.std.specs.Prelude.{IfSome, nat_eq, ◌<◌, length, Option, Some, None, MatchOption, find, slice_get}
use Rattle.std.specs.List.{flat_map, list_all, list_any}
use Rattle.std.specs.Option.{option_map, option_map_or}
use Rattle.std.proofs.lemmas.Bool.{and_parts, cases_Bool, eqb-true, true≢false}
use Rattle.cil_base.specs.Places.{get_contains}
use Rattle.cil_syntax.specs.declared.kind.Kind.{Kind}
use Rattle.cil_syntax.specs.declared.kind.Sign.{Sign}
use Rattle.cil_syntax.specs.declared.kind.Sign.TheVariants as signs
use Rattle.cil_faults.specs.Namespaces.{Namespace}
use Rattle.cil_syntax.specs.Scopes.{asked, spaces_asked, ScopedWord}
use Rattle.std.proofs.Math.Bool.{or-false}
use Rattle.cil_names.specs.declared.entry.Entry.{Entry}
use Rattle.cil_macros.specs.blocks.Space.{Space}
use Rattle.cil_names.specs.Entries.{AreEntries, AreOrdered, IsAnswer, IsNamed, candidate, candidates_of, is_declared_at, is_declared_in, is_entry_of, by_name_cmp, key_of, listed, place_where}
use Rattle.cil_syntax.specs.NameSpaces.{rank}
use Rattle.cil_macros.specs.Item.{Item, OptSet}
use Rattle.cil_names.specs.Resolves.{found_in, has}
use Rattle.cil_syntax.specs.Kinds.{is_wanted, kind_number, kinds_of}
use Rattle.cil_syntax.proofs.KindLemmas.{one_kind}
use Rattle.cil_macros.specs.blocks.Namespaces.{AreNamespaces}
use Rattle.cil_names.proofs.DeclLemmas.{has_as}
use Rattle.cil_names.proofs.CandidateLemmas.{parts_of, place_is}
use Rattle.cil_names.proofs.OrderLemmas.{key_total, one_key}
use Rattle.std.proofs.lemmas.Option.{slice_get_within}
use Rattle.cil_base.proofs.SearchLemmas.{one_number}
use Rattle.cil_macros.proofs.blocks_lemmas.NamespaceLemmas.{same_number}

-- ---- the kinds of one word are of one name space

-- the rank of the first of some kinds
abbrev first_rank : List Kind → ℕ
first_rank [] = 0
first_rank (k ∷ ks) = rank k

abbrev rank_for : Sign → ℕ
rank_for sign = first_rank (kinds_of sign)

-- the kinds that a word may name, one by one
ranked_alike : (sign : Sign) → list_all (λ k. nat_eq (rank k) (rank_for sign)) (kinds_of sign) ≡ true
ranked_alike signs.Types = refl
ranked_alike sign = refl

rank_among : (ks : List Kind) (r : ℕ) (kind : Kind) → list_all (λ k. nat_eq (rank k) r) ks ≡ true
    → list_any (λ k. nat_eq (kind_number k) (kind_number kind)) ks ≡ true → rank kind ≡ r
rank_among [] r kind all any = absurd (true≢false (sym any))
rank_among (k ∷ ks) r kind all any =
    let (here, later) = and_parts (nat_eq (rank k) r) (list_all (λ k. nat_eq (rank k) r) ks) all in
    elim (cases_Bool (nat_eq (kind_number k) (kind_number kind))) [
      | inl is ↦ ap rank (sym (one_kind k kind is)) ∙ eqb-true (rank k) r here
      | inr not ↦ rank_among ks r kind later (sym (ap (λ b. b || list_any (λ k. nat_eq (kind_number k) (kind_number kind)) ks) not) ∙ any)
    ]

rank_is : (sign : Sign) (kind : Kind) → is_wanted sign kind ≡ true → rank kind ≡ rank_for sign
rank_is sign kind e = rank_among (kinds_of sign) (rank_for sign) kind (ranked_alike sign) e

-- ---- a name of a namespace is that of one entry

module _ (ss : List Space) (are : AreNamespaces ss) (es : List Entry) (ordered : AreOrdered ss es) (name : List ℕ) (sign : Sign) (n : Namespace) where
  same_key : (d e : Entry) → d.space ≡ e.space → d.name ≡ e.name → rank d.kind ≡ rank e.kind → key_of d ≡ key_of e
  same_key d e p q r = λ i. record { space = p i; name = q i; rank = r i }

  pub one_entry : (i j : ℕ) (d e : Entry) → slice_get es i ≡ Some d → slice_get es j ≡ Some e → is_entry_of ss name sign n d ≡ true → is_entry_of ss name sign n e ≡ true → i ≡ j
  one_entry i j d e p q t u =
      let (ds, dn, dw) = parts_of ss name sign n d t in
      let (fs, fn, fw) = parts_of ss name sign n e u in
      one_number key_of by_name_cmp key_total one_key es i j d e ordered.rising p q
      (same_key d e
      (same_number ss are n d.space e.space (record { within = ordered.within d (get_contains es i d p); is = ds }) (record { within = ordered.within e (get_contains es j e q); is = fs }))
      (dn ∙ sym fn) (rank_is sign d.kind dw ∙ sym (rank_is sign e.kind fw)))

-- ---- one of a list, where one alone passes a first test

module _ {X : Type 0} (p q : X → Bool) where
  none_of : (xs : List X) → ((m : ℕ) (x : X) → slice_get xs m ≡ Some x → p x ≡ true → ⊥) → list_any (λ y. p y && q y) xs ≡ false
  none_of [] none = refl
  none_of (y ∷ ys) none =
      elim (cases_Bool (p y)) [
        | inl u ↦ absurd (none 0 y refl u)
        | inr f ↦ ap (λ b. (b && q y) || list_any (λ z. p z && q z) ys) f ∙ none_of ys (λ m z. none (suc m) z)
      ]

  both_at : (xs : List X) → ((i j : ℕ) (x y : X) → slice_get xs i ≡ Some x → slice_get xs j ≡ Some y → p x ≡ true → p y ≡ true → i ≡ j)
      → (d : ℕ) (x : X) → slice_get xs d ≡ Some x → p x ≡ true → list_any (λ y. p y && q y) xs ≡ q x
  both_at [] one d x at t = absurd cc
  both_at (y ∷ ys) one zero x at t =
      let same : y ≡ x = let s : y ≡ x = cc in s in
      ap (λ b. (b && q y) || list_any (λ z. p z && q z) ys) (ap p same ∙ t)
      ∙ ap (λ b. q y || b) (none_of ys (λ m z is u. let e : 0 ≡ suc m = one 0 (suc m) x z at is t u in cc))
      ∙ or-false (q y) ∙ ap q same
  both_at (y ∷ ys) one (suc d) x at t =
      elim (cases_Bool (p y)) [
        | inl u ↦ absurd (let e : 0 ≡ suc d = one 0 (suc d) y x refl at u t in cc)
        | inr f ↦ ap (λ b. (b && q y) || list_any (λ z. p z && q z) ys) f
            ∙ both_at ys (λ i j a b g h v w. let e : suc i ≡ suc j = one (suc i) (suc j) a b g h v w in cc) d x at t
      ]

module _ {X : Type 0} (p : X → Bool) where
  some_none : (o : Option ℕ) → option_map suc o ≡ None → o ≡ None
  some_none None e = refl
  some_none (Some k) e = absurd cc

  at_behind : (y : X) (ys : List X) → p y ≡ false → ((m : ℕ) (x : X) → slice_get ys m ≡ Some x → p x ≡ true → ⊥) → (m : ℕ) (x : X) → slice_get (y ∷ ys) m ≡ Some x → p x ≡ true → ⊥
  at_behind y ys f none zero x at t = let same : y ≡ x = let s : y ≡ x = cc in s in true≢false (sym t ∙ ap p (sym same) ∙ f)
  at_behind y ys f none (suc m) x at t = none m x at t

  pub none_where : (xs : List X) → place_where p xs ≡ None → (m : ℕ) (x : X) → slice_get xs m ≡ Some x → p x ≡ true → ⊥
  unfolding place_where
  none_where [] e m x at t = absurd cc
  none_where (y ∷ ys) e m x at t =
      elim (cases_Bool (p y)) [
        | inl u ↦ absurd (let f : Some 0 ≡ None = sym (ap (λ b. cond b (Some 0) (option_map suc (place_where p ys))) u) ∙ e in cc)
        | inr f ↦ at_behind y ys f (none_where ys (some_none (place_where p ys) (sym (ap (λ b. cond b (Some 0) (option_map suc (place_where p ys))) f) ∙ e))) m x at t
      ]

-- ---- the answer

module _ (ss : List Space) (are : AreNamespaces ss) (xs : List Item) (es : List Entry) (entries : AreEntries ss xs es) (s : OptSet) (name : List ℕ) (sign : Sign) where
  abbrev known : Namespace → Option ℕ
  known n = candidate ss es name sign n

  abbrev there : Namespace → Bool
  there n = has xs s name sign n

  abbrev live : ℕ → Bool
  live d = is_declared_at s es d

  pub known_live : (n : Namespace) (d : ℕ) → known n ≡ Some d → there n ≡ live d
  known_live n d k =
      let (x, at, t) = place_is (is_entry_of ss name sign n) es d k in
      has_as ss xs es entries s name sign n
      ∙ both_at (is_entry_of ss name sign n) (is_declared_in s) es (one_entry ss are es entries.ordered name sign n) d x at t
      ∙ ap (λ o. option_map_or (is_declared_in s) o false) (sym at)

  pub unknown_gone : (n : Namespace) → known n ≡ None → there n ≡ false
  unknown_gone n k = has_as ss xs es entries s name sign n ∙ none_of (is_entry_of ss name sign n) (is_declared_in s) es (none_where (is_entry_of ss name sign n) es k)

  abbrev Found : List Namespace → Option ℕ → Type 0
  Found ns r = MatchOption r (find there ns ≡ None) (λ d. (n : Namespace) × (find there ns ≡ Some n) × (known n ≡ Some d) × (live d ≡ true))

  later : (n : Namespace) (ns : List Namespace) → there n ≡ false → (r : Option ℕ) → Found ns r → Found (n ∷ ns) r
  later n ns f None none = ap (λ b. cond b (Some n) (find there ns)) f ∙ none
  later n ns f (Some d) (m, found, k, l) = (m, ap (λ b. cond b (Some n) (find there ns)) f ∙ found, k, l)

  by_live : (n : Namespace) (ns : List Namespace) (d : ℕ) → known n ≡ Some d → (b : Bool) → live d ≡ b → Found ns (find live (flat_map (λ n. listed (known n)) ns))
      → Found (n ∷ ns) (cond b (Some d) (find live (flat_map (λ n. listed (known n)) ns)))
  by_live n ns d k true l more = (n, ap (λ b. cond b (Some n) (find there ns)) (known_live n d k ∙ l), k, l)
  by_live n ns d k false l more = later n ns (known_live n d k ∙ l) (find live (flat_map (λ n. listed (known n)) ns)) more

  by_known : (n : Namespace) (ns : List Namespace) (o : Option ℕ) → known n ≡ o → Found ns (find live (flat_map (λ n. listed (known n)) ns))
      → Found (n ∷ ns) (find live (listed o ++ flat_map (λ n. listed (known n)) ns))
  by_known n ns None k more = later n ns (unknown_gone n k) (find live (flat_map (λ n. listed (known n)) ns)) more
  by_known n ns (Some d) k more = by_live n ns d k (live d) refl more

  first_found : (ns : List Namespace) → Found ns (find live (flat_map (λ n. listed (known n)) ns))
  first_found [] = refl
  first_found (n ∷ ns) = by_known n ns (known n) refl (first_found ns)

module _ (ss : List Space) (are : AreNamespaces ss) (xs : List Item) (es : List Entry) (entries : AreEntries ss xs es) (s : OptSet) (w : ScopedWord) where
  name_there : (n : Namespace) (d : ℕ) → found_in xs s w ≡ Some n → candidate ss es (asked w.bytes).name w.sign n ≡ Some d → is_declared_at s es d ≡ true
      → IsNamed ss xs es s w d
  name_there n d found k l =
      let (x, at, t) = place_is (is_entry_of ss (asked w.bytes).name w.sign n) es d k in
      record {
        space = n;
        found = found;
        entry = x;
        at = at;
        fits = t;
        live = ap (λ o. option_map_or (is_declared_in s) o false) (sym at) ∙ l;
        only = λ m e is u. one_entry ss are es entries.ordered (asked w.bytes).name w.sign n m d e x is at u t;
      }

  from_found : (r : Option ℕ)
      → Found ss are xs es entries s (asked w.bytes).name w.sign (spaces_asked (asked w.bytes) w.scope) r → IsAnswer ss xs es s w r
  unfolding found_in
  from_found None none = none
  from_found (Some d) (n, found, k, l) = name_there n d found k l

  pub answer_is : IsAnswer ss xs es s w (find (is_declared_at s es) (candidates_of ss es w))
  unfolding candidates_of
  answer_is = from_found _ (first_found ss are xs es entries s (asked w.bytes).name w.sign (spaces_asked (asked w.bytes) w.scope))

-- ---- an entry that is named is there

module _ (s : OptSet) (es : List Entry) where
  there_within : (d : ℕ) (o : Option Entry) → slice_get es d ≡ o → option_map_or (is_declared_in s) o false ≡ true → d < length es
  there_within d None at e = absurd (true≢false (sym e))
  there_within d (Some x) at e = slice_get_within es d x at

  pub found_within : (ds : List ℕ) → IfSome (find (is_declared_at s es) ds) (λ d. d < length es)
  found_within [] = tt
  found_within (d ∷ ds) =
      elim (cases_Bool (is_declared_at s es d)) [
        | inl t ↦ subst (λ b. IfSome (cond b (Some d) (find (is_declared_at s es) ds)) (λ k. k < length es)) (sym t) (there_within d (slice_get es d) refl t)
        | inr f ↦ subst (λ b. IfSome (cond b (Some d) (find (is_declared_at s es) ds)) (λ k. k < length es)) (sym f) (found_within ds)
      ]

-- ---- flags for entries

pub by_place : (s : OptSet) (es : List Entry) (d : ℕ) → get_or (map (is_declared_in s) es) d false ≡ is_declared_at s es d
by_place s [] d = refl
by_place s (e ∷ es) zero = refl
by_place s (e ∷ es) (suc d) = by_place s es d
