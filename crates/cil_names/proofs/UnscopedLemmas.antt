-- A word without dots whose name one entry has could name this one alone, and only where its namespace is in the scope.
use Rattle.std.proofs.Common.{◌≡◌, ◌≤◌, ◌==◌, ◌||◌, ◌+◌, ℕ, true, false, if◌then◌else◌, List, [], ◌∷◌, ◌++◌, length, map, refl, sym, ◌∙◌, ap, inl, inr, arith}
use Rattle.std.specs.Prelude.{All, MatchOption, Option, Some, None, slice_get}
use Rattle.std.specs.Option.{is_some}
use Rattle.std.specs.List.{AllByRecursion, IsDistinct, flat_map, list_any}
use Rattle.std.proofs.lemmas.Bool.{cases_Bool, eqb-true, true≢false}
use Rattle.std.proofs.lemmas.List.Elements.{All-head, recursion_from_All}
use Rattle.std.proofs.lemmas.Option.{same_Some}
use Rattle.cil_base.specs.Places.{get_contains}
use Rattle.cil_syntax.specs.declared.kind.Sign.{Sign}
use Rattle.cil_syntax.specs.declared.path.PathParts.{PathParts}
use Rattle.cil_syntax.specs.declared.term.Word.{Word}
use Rattle.cil_syntax.specs.Kinds.{is_wanted}
use Rattle.cil_faults.specs.Namespaces.{Namespace}
use Rattle.cil_syntax.specs.Scopes.{EndsGlobally, IsDotless, IsParted, Scope, ScopedWord, asked, asked_by, names_backwards, spaces_asked}
use Rattle.cil_syntax.proofs.AskedLemmas.{one_name}
use Rattle.cil_macros.specs.blocks.Space.{Space}
use Rattle.cil_macros.specs.blocks.Namespaces.{AreNamespaces, space_at}
use Rattle.cil_macros.proofs.blocks_lemmas.NamespaceLemmas.{global_at, same_number}
use Rattle.cil_names.specs.declared.entry.Entry.{Entry}
use Rattle.cil_names.specs.Entries.{AreOrdered, candidate, candidates_of, is_entry_of, listed, scope_of, scoped}
use Rattle.cil_names.specs.declared.namesakes.Namesakes.{Namesakes}
use Rattle.cil_names.specs.Soles.{AreRanked, IsOfRank, IsSole, IsSoleOf, in_scope}
use Rattle.cil_names.proofs.CandidateLemmas.{parts_of, place_none, place_some, they_are}
use Rattle.cil_names.proofs.SoleLemmas.{one_alone}

-- ---- what a word without dots asks

-- a word without dots asks its own name
plain_asked : (word : List ℕ) → IsDotless word → asked word ≡ record { global = false; inner = []; name = word }
plain_asked [] plain = refl
plain_asked (b ∷ bytes) plain =
    ap (λ o. if o then asked_by true (names_backwards bytes) else asked_by false (names_backwards (b ∷ bytes))) (All-head (λ x. (x == 46) ≡ false) b bytes plain)
    ∙ ap (asked_by false) (one_name (b ∷ bytes) plain)

-- what no dot parts has none
pub unparted : (o : Option PathParts) (names : List ℕ) → MatchOption o (IsDotless names) (λ p. IsParted names p.first.now p.rest.now) → false ≡ is_some o → IsDotless names
unparted None names so none = so
unparted (Some p) names so none = absurd (true≢false (sym none))

-- the one entry of the name of a word without dots
pub sole_plain : (es : List Entry) (w : Word) (r : ℕ) → IsDotless w.bytes → IsOfRank w.sign r → (n : Namesakes) → AreRanked es (record { name = w.bytes; rank = r }) n → n.end ≡ n.first + 1
    → IsSoleOf es w n.first
sole_plain es w r plain of_rank n ranked end = record {
  name = w.bytes;
  plain = plain_asked w.bytes plain;
  sole = one_alone es w.bytes w.sign r of_rank n ranked end;
}

id_map : (s : Scope) → map (λ (n : Namespace). [] ++ n) s ≡ s
id_map [] = refl
id_map (n ∷ ns) = ap (λ l. n ∷ l) (id_map ns)

module _ (ss : List Space) (es : List Entry) (name : List ℕ) (sign : Sign) where
  abbrev could : Namespace → List ℕ
  could n = listed (candidate ss es name sign n)

  -- it asks each namespace of the scope
  plain_candidates : (w : ScopedWord) → w.sign ≡ sign → asked w.bytes ≡ record { global = false; inner = []; name = name } → candidates_of ss es w ≡ flat_map could w.scope
  unfolding candidates_of
  plain_candidates w of_sign plain =
      (λ i. flat_map (λ n. listed (candidate ss es (plain i).name (of_sign i) n)) (spaces_asked (plain i) w.scope)) ∙ ap (flat_map could) (id_map w.scope)

  -- ---- the one entry of its name

  module _ (d : ℕ) (sole : IsSole es name sign d) where
    abbrev home : Namespace
    home = space_at ss sole.entry.space

    elsewhere_none : (n : Namespace) → (home ≡ n → ⊥) → candidate ss es name sign n ≡ None
    elsewhere_none n other =
        place_none (is_entry_of ss name sign n) es (λ m e at t.
        let (space, named, wanted) = parts_of ss name sign n e t in
        let is : sole.entry ≡ e = same_Some sole.entry e (sym sole.at ∙ ap (slice_get es) (sym (sole.only m e at named wanted)) ∙ at) in
        other (ap (λ (x : Entry). space_at ss x.space) is ∙ space))

    there_one : (n : Namespace) → home ≡ n → is_wanted sign sole.entry.kind ≡ true → candidate ss es name sign n ≡ Some d
    there_one n here wanted =
        place_some (is_entry_of ss name sign n) es d sole.entry sole.at (they_are ss name sign n sole.entry here sole.named wanted)
        (λ m e at t. let (space, named, w) = parts_of ss name sign n e t in sole.only m e at named w)

    unwanted_none : is_wanted sign sole.entry.kind ≡ false → (n : Namespace) → candidate ss es name sign n ≡ None
    unwanted_none unwanted n =
        place_none (is_entry_of ss name sign n) es (λ m e at t.
        let (space, named, wanted) = parts_of ss name sign n e t in
        let is : sole.entry ≡ e = same_Some sole.entry e (sym sole.at ∙ ap (slice_get es) (sym (sole.only m e at named wanted)) ∙ at) in
        true≢false (sym wanted ∙ ap (λ (x : Entry). is_wanted sign x.kind) (sym is) ∙ unwanted))

    -- ---- a scope that ends globally

    in_inner : home ≡ [] → is_wanted sign sole.entry.kind ≡ true → (inner : Scope) → AllByRecursion (λ (n : Namespace). n ≡ [] → ⊥) inner
        → flat_map could (inner ++ [] ∷ []) ≡ d ∷ []
    in_inner global wanted [] all = ap (λ o. listed o ++ []) (there_one [] global wanted)
    in_inner global wanted (n ∷ ns) all =
        ap (λ o. listed o ++ flat_map could (ns ++ [] ∷ [])) (elsewhere_none n (λ e. all.0 (sym e ∙ global))) ∙ in_inner global wanted ns all.1

    -- ---- a scope by numbers

    unwanted_in : is_wanted sign sole.entry.kind ≡ false → (ns : Scope) → flat_map could ns ≡ []
    unwanted_in unwanted [] = refl
    unwanted_in unwanted (n ∷ ns) = ap (λ o. listed o ++ flat_map could ns) (unwanted_none unwanted n) ∙ unwanted_in unwanted ns

    module _ (are : AreNamespaces ss) (ordered : AreOrdered ss es) where
      abbrev own : ℕ
      own = sole.entry.space

      apart_from : (k : ℕ) → k ≤ length ss → (own == k) ≡ false → home ≡ space_at ss k → ⊥
      apart_from k within other e =
          let same : own ≡ k = same_number ss are (space_at ss k) own k (record { within = ordered.within sole.entry (get_contains es d sole.entry sole.at); is = e }) (record { within = within; is = refl }) in
          true≢false (sym (itself k) ∙ ap (λ m. m == k) (sym same) ∙ other)
        where
          itself : (k : ℕ) → (k == k) ≡ true
          itself k = grind arith

      away : (k : ℕ) → k ≤ length ss → (own == k) ≡ false → (ks : List ℕ) → flat_map could (scope_of ss (k ∷ ks)) ≡ flat_map could (scope_of ss ks)
      away k within other ks = ap (λ o. listed o ++ flat_map could (scope_of ss ks)) (elsewhere_none (space_at ss k) (apart_from k within other))

      none_in : (ks : List ℕ) → AllByRecursion (λ k. k ≤ length ss) ks → list_any (λ k. own == k) ks ≡ false → flat_map could (scope_of ss ks) ≡ []
      none_in [] within none = refl
      none_in (k ∷ ks) within none =
          elim (cases_Bool (own == k)) [
            | inl is ↦ absurd (true≢false (ap (λ b. b || list_any (λ m. own == m) ks) (sym is) ∙ none))
            | inr other ↦ away k within.0 other ks ∙ none_in ks within.1 (ap (λ b. b || list_any (λ m. own == m) ks) (sym other) ∙ none)
          ]

      -- a number that those behind differ from is not among them
      behind_none : (k : ℕ) (ks : List ℕ) → AllByRecursion (λ m. (k == m) ≡ false) ks → list_any (λ m. k == m) ks ≡ false
      behind_none k [] all = refl
      behind_none k (m ∷ ms) all = ap (λ b. b || list_any (λ x. k == x) ms) all.0 ∙ behind_none k ms all.1

      one_in : is_wanted sign sole.entry.kind ≡ true → (ks : List ℕ) → AllByRecursion (λ k. k ≤ length ss) ks → IsDistinct (λ j k. j == k) ks → list_any (λ k. own == k) ks ≡ true
          → flat_map could (scope_of ss ks) ≡ d ∷ []
      unfolding IsDistinct
      one_in wanted [] within once some = absurd (true≢false (sym some))
      one_in wanted (k ∷ ks) within once some =
          elim (cases_Bool (own == k)) [
            | inl is ↦
                let same : own ≡ k = eqb-true own k is in
                let rest : list_any (λ m. own == m) ks ≡ false = ap (λ n. list_any (λ m. n == m) ks) same ∙ behind_none k ks once.0 in
                ap (λ o. listed o ++ flat_map could (scope_of ss ks)) (there_one (space_at ss k) (ap (space_at ss) same) wanted)
                ∙ ap (λ l. d ∷ l) (none_in ks within.1 rest)
            | inr other ↦ away k within.0 other ks ∙ one_in wanted ks within.1 once.1 (ap (λ b. b || list_any (λ m. own == m) ks) (sym other) ∙ some)
          ]

-- ---- the answers

module _ (es : List Entry) (w : Word) (d : ℕ) (of : IsSoleOf es w d) (e : Entry) (at : slice_get es d ≡ Some e) where
  it : of.sole.entry ≡ e
  it = same_Some of.sole.entry e (sym of.sole.at ∙ at)

  -- the one entry, whatever the scope is
  pub in_every_scope : e.space ≡ 0 → is_wanted w.sign e.kind ≡ true → (ss : List Space) (scope : Scope) → EndsGlobally scope → candidates_of ss es (in_scope scope w) ≡ d ∷ []
  in_every_scope global wanted ss scope ends =
      plain_candidates ss es of.name w.sign (in_scope scope w) refl of.plain ∙ ap (flat_map (could ss es of.name w.sign)) ends.is
      ∙ in_inner ss es of.name w.sign d of.sole (ap (λ (x : Entry). space_at ss x.space) it ∙ ap (space_at ss) global ∙ global_at ss)
      (ap (λ (x : Entry). is_wanted w.sign x.kind) it ∙ wanted) ends.inner ends.are_inner

  module _ (ss : List Space) (scope : List ℕ) where
    asks_each : candidates_of ss es (scoped ss scope w) ≡ flat_map (could ss es of.name w.sign) (scope_of ss scope)
    asks_each = plain_candidates ss es of.name w.sign (scoped ss scope w) refl of.plain

    pub of_no_kind : is_wanted w.sign e.kind ≡ false → [] ≡ candidates_of ss es (scoped ss scope w)
    of_no_kind unwanted = sym (asks_each ∙ unwanted_in ss es of.name w.sign d of.sole (ap (λ (x : Entry). is_wanted w.sign x.kind) it ∙ unwanted) (scope_of ss scope))

    module _ (are : AreNamespaces ss) (ordered : AreOrdered ss es) (within : All (λ k. k ≤ length ss) scope) where
      pub out_of_scope : list_any (λ k. e.space == k) scope ≡ false → [] ≡ candidates_of ss es (scoped ss scope w)
      out_of_scope none = sym (asks_each ∙ none_in ss es of.name w.sign d of.sole are ordered scope (recursion_from_All (λ k. k ≤ length ss) scope within) (ap (λ (x : Entry). list_any (λ k. x.space == k) scope) it ∙ none))

      pub found_in_scope : IsDistinct (λ j k. j == k) scope → is_wanted w.sign e.kind ≡ true → list_any (λ k. e.space == k) scope ≡ true → d ∷ [] ≡ candidates_of ss es (scoped ss scope w)
      found_in_scope once wanted some =
          sym (asks_each ∙ one_in ss es of.name w.sign d of.sole are ordered (ap (λ (x : Entry). is_wanted w.sign x.kind) it ∙ wanted) scope (recursion_from_All (λ k. k ≤ length ss) scope within) once
          (ap (λ (x : Entry). list_any (λ k. x.space == k) scope) it ∙ some))
