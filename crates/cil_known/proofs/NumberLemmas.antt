-- The numbers of entries are the places of their names.
use Rattle.std.proofs.Common.{◌≡◌, ℕ, ◌+◌, ◌<◌, ◌≤◌, true, false, List, [], ◌∷◌, ◌++◌, length, map, drop, get_or, refl, sym, ◌∙◌, ap, subst, inl, inr, append_assoc, append-nil}
use Rattle.std.specs.Prelude.{Contains, Option, Some, None, slice_get, nat_eq, if◌then◌else◌}
use Rattle.std.specs.List.{flat_map}
use Rattle.std.specs.List.Sorted.{IsStrictlySortedBy}
use Rattle.std.specs.Option.{option_map, unwrap_or}
use Rattle.std.specs.Cmp.Lexicographic.{bytes_decides}
use Rattle.std.proofs.lemmas.Bool.{cases_Bool, and_parts, and_from}
use Rattle.std.proofs.lemmas.List.{drop_all}
use Rattle.std.proofs.lemmas.List.Elements.{Contains-get_or}
use Rattle.std.proofs.lemmas.Option.{get_or_from_slice_get, slice_get-map}
use Rattle.cil_base.specs.Lists.{Lists, text_cmp, contains_cases, contains_here, contains_none}
use Rattle.cil_base.specs.MadeLists.{contains_flat, from_flat}
use Rattle.cil_base.specs.Places.{drop_at, get_at, get_contains}
use Rattle.cil_base.specs.Rising.{rising_nothing}
use Rattle.cil_syntax.specs.declared.kind.Kind.{Kind}
use Rattle.cil_syntax.specs.declared.kind.Kind.TheVariants as kinds
use Rattle.cil_base.specs.Sorted.{lists_of}
use Rattle.cil_syntax.specs.Spelling.{same_bytes}
use Rattle.cil_names.specs.declared.entry.Entry.{Entry}
use Rattle.cil_known.specs.declared.numbers.Sections.{Sections}
use Rattle.cil_names.specs.blocks.Space.{Space}
use Rattle.cil_names.specs.Entries.{AreOrdered, is_declared_in, place_where}
use Rattle.cil_names.specs.macros.Item.{OptSet}
use Rattle.cil_known.specs.Numbers.{AreNumbers, IsNameAmong, has_section, name_given, names_of, place_in, spelled_of}
use Rattle.cil_names.specs.Symbols.{is_of}
use Rattle.cil_syntax.specs.Kinds.{kind_number}
use Rattle.cil_names.proofs.AnswerLemmas.{none_where}
use Rattle.cil_names.proofs.CandidateLemmas.{place_is}
use Rattle.cil_syntax.proofs.KindLemmas.{one_kind, same_kind}
use Rattle.cil_names.proofs.ScopeLemmas.{passed_on}

-- ---- a name that is there has its place

there_at : (names : List (List ℕ)) (name : List ℕ) (o : Option ℕ) → place_where (λ x. same_bytes x name) names ≡ o → Contains names name → slice_get names (unwrap_or o 0) ≡ Some name
there_at names name (Some n) e c =
    let (x, at, t) = place_is (λ x. same_bytes x name) names n e in at ∙ ap Some ((bytes_decides x name).0 t)
there_at names name None e c =
    let (m, below_m, at) = get_at names name c in absurd (none_where (λ x. same_bytes x name) names e m name at ((bytes_decides name name).1 refl))

pub place_there : (names : List (List ℕ)) (name : List ℕ) → Contains names name → slice_get names (place_in names name) ≡ Some name
place_there names name c = there_at names name (place_where (λ x. same_bytes x name) names) refl c

-- ---- one more entry

pub entry_within : (ss : List Space) (es : List Entry) → AreOrdered ss es → (i : ℕ) (e : Entry) → i < length es → e ≡ get_or es i e → e.space ≤ length ss
entry_within ss es ordered i e within is = ordered.within e (subst (Contains es) (sym is) (Contains-get_or es i e within))

module _ (ss : List Space) (s : OptSet) (kind : Kind) (e : Entry) where
  pub is_given : is_of s kind e ≡ true → name_given ss s kind e ≡ spelled_of ss e ∷ []
  is_given t = ap (λ b. if b then spelled_of ss e ∷ [] else []) t

  pub not_given : is_of s kind e ≡ false → name_given ss s kind e ≡ []
  not_given f = ap (λ b. if b then spelled_of ss e ∷ [] else []) f

-- one more was made of one more
pub mapped_on : {X Y : Type 0} (g : X → Y) (xs : List X) (i : ℕ) (x d : X) → i < length xs → x ≡ get_or xs i d → (before new all : List Y) (y : Y) → before ++ map g (drop i xs) ≡ all
    → new ≡ before ++ y ∷ [] → y ≡ g x → new ++ map g (drop (i + 1) xs) ≡ all
mapped_on g xs i x d within is before new all y so push same =
    ap (λ l. l ++ map g (drop (i + 1) xs)) (push ∙ ap (λ z. before ++ z ∷ []) same)
    ∙ append_assoc before (g x ∷ []) (map g (drop (i + 1) xs))
    ∙ ap (λ l. before ++ map g l) (sym (drop_at xs i x d within is))
    ∙ so

pub all_mapped : {X Y : Type 0} (g : X → Y) (xs : List X) (i : ℕ) (new all : List Y) → length xs ≤ i → new ++ map g (drop i xs) ≡ all → new ≡ all
all_mapped g xs i new all over so = sym (append-nil new) ∙ ap (λ l. new ++ map g l) (sym (drop_all i xs over)) ∙ so

-- ---- sections

module _ (ss : List Space) (es : List Entry) (s : OptSet) (kind : Kind) where
  among_there : (name : List ℕ) → Contains (flat_map (name_given ss s kind) es) name → IsNameAmong ss es s kind name
  among_there name c =
      let (e, among, given) = from_flat (name_given ss s kind) es name c in
      elim (cases_Bool (is_of s kind e)) [
        | inl t ↦
            let (same, live) = and_parts (nat_eq (kind_number e.kind) (kind_number kind)) (is_declared_in s e) t in
            record {
              entry = e;
              among = among;
              of_kind = one_kind e.kind kind same;
              live = live;
              spelled = elim (contains_cases name (spelled_of ss e) [] (subst (λ l. Contains l name) (is_given ss s kind e t) given)) [ inl p ↦ p | inr n ↦ absurd (contains_none name n) ];
            }
        | inr f ↦ absurd (contains_none name (subst (λ l. Contains l name) (not_given ss s kind e f) given))
      ]

  among_back : (name : List ℕ) → IsNameAmong ss es s kind name → Contains (flat_map (name_given ss s kind) es) name
  among_back name is =
      let t : is_of s kind is.entry ≡ true = and_from (nat_eq (kind_number is.entry.kind) (kind_number kind)) (is_declared_in s is.entry) (same_kind is.entry.kind kind is.of_kind) is.live in
      contains_flat (name_given ss s kind) es is.entry name is.among
      (subst (λ l. Contains l name) (sym (is_given ss s kind is.entry t)) (subst (λ m. Contains (spelled_of ss is.entry ∷ []) m) is.spelled (contains_here (spelled_of ss is.entry) [])))

  pub section_lists : (names : List (List ℕ)) → Lists text_cmp (Contains (flat_map (name_given ss s kind) es)) names → Lists text_cmp (IsNameAmong ss es s kind) names
  section_lists names l =
      lists_of text_cmp (Contains (flat_map (name_given ss s kind) es)) (IsNameAmong ss es s kind) names among_there among_back l

pub all_rise : (n : Sections) → ((kind : Kind) → has_section kind ≡ true → IsStrictlySortedBy text_cmp (names_of n kind)) → (kind : Kind) → IsStrictlySortedBy text_cmp (names_of n kind)
all_rise n rise kinds.User = rise kinds.User refl
all_rise n rise kinds.Role = rise kinds.Role refl
all_rise n rise kinds.Type_ = rise kinds.Type_ refl
all_rise n rise kinds.Class = rise kinds.Class refl
all_rise n rise kinds.Boolean = rise kinds.Boolean refl
all_rise n rise kinds.Sensitivity = rise kinds.Sensitivity refl
all_rise n rise kinds.Category = rise kinds.Category refl
all_rise n rise kind = rising_nothing text_cmp

-- ---- all numbers

module _ (ss : List Space) (es : List Entry) (s : OptSet) (names : Kind → List (List ℕ)) where
  abbrev number_for : Entry → ℕ
  number_for e = place_in (names e.kind) (spelled_of ss e)

  pub numbers_are : (numbers : List ℕ) → ((kind : Kind) → has_section kind ≡ true → Lists text_cmp (IsNameAmong ss es s kind) (names kind)) → numbers ≡ map number_for es
      → AreNumbers ss es s names numbers
  numbers_are numbers lists is = record {
    lists = lists;
    at = λ d e at has live.
        let same : get_or numbers d 0 ≡ number_for e =
        get_or_from_slice_get numbers d (number_for e) 0 (ap (λ l. slice_get l d) is ∙ slice_get-map number_for es d ∙ ap (option_map number_for) at) in
        ap (slice_get (names e.kind)) same
        ∙ place_there (names e.kind) (spelled_of ss e)
        (((lists e.kind has).members (spelled_of ss e)).1 (record { entry = e; among = get_contains es d e at; of_kind = refl; live = live; spelled = refl }));
  }

-- ---- the names that are given

module _ (ss : List Space) (s : OptSet) (kind : Kind) (es : List Entry) (i : ℕ) (e : Entry) (within : i < length es) (is : e ≡ get_or es i e) (before new all : List (List ℕ))
    (so : before ++ flat_map (name_given ss s kind) (drop i es) ≡ all) where
  pub one_given : is_of s kind e ≡ true → new ≡ before ++ spelled_of ss e ∷ [] → new ++ flat_map (name_given ss s kind) (drop (i + 1) es) ≡ all
  one_given t push =
      ap (λ l. l ++ flat_map (name_given ss s kind) (drop (i + 1) es)) (push ∙ ap (λ l. before ++ l) (sym (is_given ss s kind e t)))
      ∙ passed_on (name_given ss s kind) es i e e within is before all so

  pub none_given : is_of s kind e ≡ false → new ≡ before → new ++ flat_map (name_given ss s kind) (drop (i + 1) es) ≡ all
  none_given f same =
      ap (λ l. l ++ flat_map (name_given ss s kind) (drop (i + 1) es)) (same ∙ sym (ap (λ l. before ++ l) (not_given ss s kind e f) ∙ append-nil before))
      ∙ passed_on (name_given ss s kind) es i e e within is before all so
