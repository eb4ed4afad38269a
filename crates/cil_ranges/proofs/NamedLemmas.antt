-- What names of levels and of ranges stand for: what statements say one after another, and what words name.
use Rattle.std.specs.Prelude.{MatchOption, Option, None, Some, length, set}
use Rattle.std.proofs.Common.{◌≡◌, ◌⊎◌, ℕ, ◌+◌, ◌<◌, ◌≤◌, true, List, get_or, refl, sym, ◌∙◌, ap, subst, inl, inr, arith}
use Rattle.std.proofs.lemmas.List.{get_or-set_other, get_or-set_same}
use Rattle.std.proofs.lemmas.Option.{none-some, same_Some}
use Rattle.cil_base.specs.Decided.{same_number}
use Rattle.cil_base.specs.Places.{get_at}
use Rattle.cil_syntax.specs.declared.kind.Kind.{Kind}
use Rattle.cil_syntax.specs.declared.kind.Kind.TheVariants as kinds
use Rattle.cil_syntax.specs.declared.kind.Sign.{Sign}
use Rattle.cil_syntax.specs.declared.kind.Sign.TheVariants as signs
use Rattle.cil_syntax.specs.Kinds.{is_wanted}
use Rattle.cil_syntax.specs.Scopes.{ScopedWord}
use Rattle.cil_syntax.specs.Terms.{Term, Leaf, Name, nil, cons}
use Rattle.cil_macros.specs.Item.{Item}
use Rattle.cil_macros.specs.Items.{Kept, item_at, items_in}
use Rattle.cil_macros.proofs.ItemLemmas.{item_there}
use Rattle.cil_names.specs.Laws.{MeansWhatItNames}
use Rattle.cil_known.specs.declared.known.Known.{Known}
use Rattle.cil_known.specs.Known.{IsKnown, enabled_in, meant_in}
use Rattle.cil_known.specs.Spaces.{names}
use Rattle.cil_mls.specs.attrs.SetFaults.{symbol_under}
use Rattle.cil_levels.proofs.BegunLemmas.{before_or_at}
use Rattle.cil_mls.specs.declared.level.Range.{Range}
use Rattle.cil_ranges.specs.DeclaredEntries.{DeclaresEntry, DeclaresJust, DeclaresNone}
use Rattle.cil_ranges.specs.Levels.{Ground, IsDeclaredAs, IsNamedRange, IsWrittenRange}
use Rattle.cil_ranges.specs.Named.{AreNamed, AreNamedBefore, DeclaresAs, NamesMore, SaysBehind}
use Rattle.cil_ranges.specs.Reading.{HasRanges, meant}
use Rattle.cil_ranges.proofs.DeclaredLemmas.{means_names, names_means}
use Rattle.cil_ranges.proofs.ReadLemmas.{match_as}

-- ---- tables

module _ {X : Type 0} (table : List (Option X)) (d : ℕ) (within : d < length table) (v : X) where
  has_set : (e : ℕ) → e ≡ d → get_or (set table d (Some v)) e None ≡ Some v
  has_set e same = ap (λ z. get_or (set table d (Some v)) z None) same ∙ get_or-set_same table d (Some v) None within

  has_others : (e : ℕ) → (e ≡ d → ⊥) → get_or (set table d (Some v)) e None ≡ get_or table e None
  has_others e differ = get_or-set_other table d e (Some v) None differ

  set_there : (e : ℕ) (u : X) → get_or (set table d (Some v)) e None ≡ Some u → (get_or table e None ≡ Some u) ⊎ ((d ≡ e) × (v ≡ u))
  set_there e u is = elim (same_number e d) [
    | inl same ↦ inr (sym same, same_Some v u (sym (has_set e same) ∙ is))
    | inr differ ↦ inl (sym (has_others e differ) ∙ is)
  ]

  set_stays : (e : ℕ) (u : X) → get_or table e None ≡ Some u → (w : X) × (get_or (set table d (Some v)) e None ≡ Some w)
  set_stays e u is = elim (same_number e d) [
    | inl same ↦ (v, has_set e same)
    | inr differ ↦ (u, has_others e differ ∙ is)
  ]

-- ---- one statement

module _ {X : Type 0} (Says : Term ScopedWord → X → Type 0) (k : Known) (xs : List Item) (kind : Kind) (old : List (Option X)) (x : Item) where
  pub nothing_named : DeclaresNone k xs kind x → NamesMore Says k xs kind old old x
  nothing_named none = record { each = λ d v e. inl e; stays = λ d v e. (v, e); every = λ d v h. absurd (none h.entry.at h.entry.name h.entry.declares) }

  module _ (d : ℕ) (just : DeclaresJust k xs kind x d) (within : d < length old) where
    pub one_named : (new : List (Option X)) (o : Option X) → MatchOption o ((v : X) → SaysBehind Says x v → ⊥) (SaysBehind Says x) → MatchOption o (new ≡ old) (λ v. new ≡ set old d (Some v))
        → NamesMore Says k xs kind old new x
    one_named new None isnt same = subst (λ t. NamesMore Says k xs kind old t x) (sym same) (record { each = λ e v h. inl h; stays = λ e v h. (v, h); every = λ e v h. absurd (isnt v h.behind) })
    one_named new (Some v) says same = subst (λ t. NamesMore Says k xs kind old t x) (sym same) (record {
      each = λ e u h. elim (set_there old d within v e u h) [
        | inl o ↦ inl o
        | inr s ↦ inr (record { entry = subst (DeclaresEntry k xs kind x) s.0 just.declares; behind = subst (SaysBehind Says x) s.1 says })
      ];
      stays = λ e u h. set_stays old d within v e u h;
      every = λ e u h. (v, has_set old d within v e (just.only e h.entry));
    })

-- ---- all of them

module _ {X : Type 0} (Says : Term ScopedWord → X → Type 0) (k : Known) (i : Kept) (kind : Kind) where
  pub more_before : (at : ℕ) (old new : List (Option X)) → AreNamedBefore Says k i kind at old → NamesMore Says k (items_in i) kind old new (item_at i at) → AreNamedBefore Says k i kind (at + 1) new
  more_before at old new are more = record {
    each = λ d v e. elim (more.each d v e) [ inl o ↦ are.each d v o | inr h ↦ (item_at i at, h) ];
    every = λ b d v l h. elim (before_or_at b at l) [
      | inl before ↦ let (u, is) = are.every b d v before h in more.stays d u is
      | inr here ↦ more.every d v (subst (λ z. DeclaresAs Says k (items_in i) kind (item_at i z) d v) here h)
    ];
  }

  pub all_named : (at : ℕ) → length (items_in i) ≤ at → (table : List (Option X)) → AreNamedBefore Says k i kind at table → AreNamed Says k (items_in i) kind table
  all_named at over table are = record {
    each = are.each;
    every = λ x d v h.
        let (b, within, there) = get_at (items_in i) x h.entry.declares.is_item in
        let same : x ≡ item_at i b = same_Some x (item_at i b) (sym there ∙ item_there i b within) in
        are.every b d v (omega (arith, within, over)) (subst (λ z. DeclaresAs Says k (items_in i) kind z d v) same h);
  }

-- ---- what words name

module _ {X : Type 0} (Says : Term ScopedWord → X → Type 0) (k : Known) (g : Ground) (kind : Kind) (sign : Sign) (wanted : is_wanted sign kind ≡ true) (sections : Kind → List (List ℕ)) (known : IsKnown k g.items sections)
    (law : MeansWhatItNames) where
  -- the word names what is declared as this
  abbrev pub NamesAs : ScopedWord → X → Type 0
  NamesAs w v = (u : Term ScopedWord) × IsDeclaredAs (enabled_in k) g kind (Leaf w) u × Says u v

  means_declared : (w : ScopedWord) (v : X) → NamesAs w v → (c : ℕ) × (meant_in k w ≡ Some c) × (x : Item) × DeclaresAs Says k g.items kind x c v
  means_declared w v (u, h, says) =
      let e : Leaf w ≡ Leaf h.word = h.is_word in
      let same : h.word ≡ w = cc in
      let named : names g.items (enabled_in k) kind w (symbol_under h.item h.name) ≡ true = ap (λ z. names g.items (enabled_in k) kind z (symbol_under h.item h.name)) (sym same) ∙ h.named in
      let (c, is, entry) = names_means k g.items kind sign wanted sections known law w (symbol_under h.item h.name) named in (
        c,
        is,
        h.item,
        record {
          entry = record { at = h.at; name = h.name; declares = h.declares; entry = entry };
          behind = record { at = h.at; name = h.name; declared = u; says = h.says; of_declared = says };
        },
      )

  declared_named : (w : ScopedWord) (d : ℕ) → meant_in k w ≡ Some d → (x : Item) (v : X) → DeclaresAs Says k g.items kind x d v → NamesAs w v
  declared_named w d is x v h =
      let declares = h.entry.declares in
      let e : cons (Name h.entry.at h.entry.name) declares.rest ≡ cons (Name h.behind.at h.behind.name) (cons h.behind.declared nil) = sym declares.says ∙ h.behind.says in
      let rest : declares.rest ≡ cons h.behind.declared nil = cc in (
        h.behind.declared,
        record {
          word = w;
          is_word = refl;
          item = x;
          at = h.entry.at;
          name = h.entry.name;
          declares = declares;
          says = declares.says ∙ ap (cons (Name h.entry.at h.entry.name)) rest;
          named = means_names k g.items kind sign wanted sections known law w d (symbol_under x h.entry.name) is h.entry.entry;
        },
        h.behind.of_declared,
      )

  module _ (table : List (Option X)) (are : AreNamed Says k g.items kind table) (w : ScopedWord) where
    pub each_named : MatchOption (meant table (meant_in k w)) ((v : X) → NamesAs w v → ⊥) (NamesAs w)
    each_named = by (meant_in k w) refl where
      there : (d : ℕ) → meant_in k w ≡ Some d → (o : Option X) → get_or table d None ≡ o → MatchOption o ((v : X) → NamesAs w v → ⊥) (NamesAs w)
      there d is None none = λ v h.
          let (c, means, x, declared) = means_declared w v h in
          let same : c ≡ d = same_Some c d (sym means ∙ is) in
          let (u, has) = are.every x c v declared in none-some u (sym none ∙ ap (λ z. get_or table z None) (sym same) ∙ has)
      there d is (Some v) has = let (x, declared) = are.each d v has in declared_named w d is x v declared

      by : (o : Option ℕ) → meant_in k w ≡ o → MatchOption (meant table o) ((v : X) → NamesAs w v → ⊥) (NamesAs w)
      by None is = λ v h. let (c, means, x, declared) = means_declared w v h in none-some c (sym is ∙ means)
      by (Some d) is = there d is (get_or table d None) refl

-- the ranges of names are there
module _ (k : Known) (g : Ground) (sections : Kind → List (List ℕ)) (known : IsKnown k g.items sections) (law : MeansWhatItNames) where
  pub have_ranges : (table : List (Option Range)) → AreNamed (IsWrittenRange (enabled_in k) g) k g.items kinds.LevelRange table → HasRanges k table g
  have_ranges table are = record {
    each = λ w.
        match_as (meant table (meant_in k w)) (λ isnt r (h : IsNamedRange (enabled_in k) g (Leaf w) r). isnt r (h.declared, h.is_declared, h.written)) (λ r (u, is, written). record { declared = u; is_declared = is; written = written })
        (each_named (IsWrittenRange (enabled_in k) g) k g kinds.LevelRange signs.LevelRanges refl sections known law table are w);
  }
