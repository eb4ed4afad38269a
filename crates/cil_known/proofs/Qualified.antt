-- Qualified names are one to one: two symbols whose names are spelled alike are one.
use Rattle.std.specs.List.{list_all, All, join_with_byte, slice_split}
use Rattle.std.specs.Prelude.{◌&&◌, nat_le, Contains, reverse, Some, slice_get}
use Rattle.std.proofs.lemmas.List.Elements.{All-cons, Contains-append_cases}
use Rattle.std.proofs.lemmas.Bool.{and_parts, true≢false}
use Rattle.std.proofs.lemmas.Bool.Decides.{eqb_tells}
use Rattle.cil_base.specs.Places.{get_contains}
use Rattle.cil_syntax.specs.Spelling.{begins_name, goes_on_name, is_name, longest_name}
use Rattle.std.proofs.Common.{rules, ◌≡◌, ℕ, length, get_or, ◌==◌, Bool, true, false, List, [], ◌∷◌, ◌++◌, refl, sym, ◌∙◌, ap, subst, inl, inr}
use Rattle.std.proofs.lemmas.List.{reverse-reverse, reverse-append}
use Rattle.std.proofs.lemmas.List.Splits.{slice_split_at, slice_split_none}
use Rattle.cil_base.specs.Lists.{contains_here, contains_later, contains_cases, contains_none}
use Rattle.cil_faults.specs.Namespaces.{qualified}
use Rattle.cil_syntax.specs.declared.kind.Kind.{Kind}
use Rattle.std.proofs.lemmas.Option.{same_Some}
use Rattle.cil_names.specs.declared.entry.Entry.{Entry}
use Rattle.cil_names.specs.blocks.Space.{Space}
use Rattle.cil_names.specs.Entries.{AreOrdered, by_name_cmp, key_of}
use Rattle.cil_syntax.specs.NameSpaces.{rank}
use Rattle.cil_names.specs.macros.Item.{OptSet}
use Rattle.cil_known.specs.Numbers.{AreApart, AreNumbers, ArePlain, ArePlainNames, IsPlain, has_section, spelled_of}
use Rattle.cil_names.specs.blocks.Namespaces.{AreNamespaces, space_at}
use Rattle.cil_names.proofs.OrderLemmas.{key_total, one_key}
use Rattle.cil_base.proofs.SearchLemmas.{one_number}
use Rattle.cil_names.proofs.blocks_lemmas.NamespaceLemmas.{same_number}

abbrev pub is_dot : ℕ → Bool
is_dot b = b == 46

split_joined : (x : List ℕ) (names : List (List ℕ)) → ArePlain (x ∷ names) → slice_split is_dot (join_with_byte 46 (x ∷ names)) ≡ x ∷ names
split_joined x [] plain = slice_split_none is_dot x (plain x (contains_here x [])).dotless
split_joined x (y ∷ ys) plain =
    slice_split_at is_dot x 46 (join_with_byte 46 (y ∷ ys)) (plain x (contains_here x (y ∷ ys))).dotless refl
    ∙ ap (λ l. x ∷ l) (split_joined y ys (λ z c. plain z (contains_later z x (y ∷ ys) c)))

some_bytes : (x : List ℕ) (c : ℕ) (more : List ℕ) → x ++ c ∷ more ≡ [] → ⊥
some_bytes [] c more e = cc
some_bytes (y ∷ ys) c more e = cc

never_empty : (y : List ℕ) (ys : List (List ℕ)) → IsPlain y → join_with_byte 46 (y ∷ ys) ≡ [] → ⊥
never_empty y [] plain e = plain.some e
never_empty y (z ∷ zs) plain e = some_bytes y 46 (join_with_byte 46 (z ∷ zs)) e

joined_one : (u v : List (List ℕ)) → ArePlain u → ArePlain v → join_with_byte 46 u ≡ join_with_byte 46 v → u ≡ v
joined_one [] [] p q e = refl
joined_one [] (y ∷ ys) p q e = absurd (never_empty y ys (q y (contains_here y ys)) (sym e))
joined_one (x ∷ xs) [] p q e = absurd (never_empty x xs (p x (contains_here x xs)) e)
joined_one (x ∷ xs) (y ∷ ys) p q e = sym (split_joined x xs p) ∙ ap (slice_split is_dot) e ∙ split_joined y ys q

-- the law: what is spelled alike is one
pub spelled_one : (a b : List (List ℕ)) → ArePlain (reverse a) → ArePlain (reverse b) → qualified a ≡ qualified b → a ≡ b
spelled_one a b p q e = sym (reverse-reverse a) ∙ ap reverse (joined_one (reverse a) (reverse b) p q e) ∙ reverse-reverse b

-- ---- names as the grammar has them

begins_dotless : (b : ℕ) → begins_name b ≡ true → is_dot b ≡ false
begins_dotless b e = elim (eqb_tells b 46) [ inl t ↦ absurd (true≢false (sym e ∙ ap begins_name t.1)) | inr f ↦ f.0 ]

goes_dotless : (b : ℕ) → goes_on_name b ≡ true → is_dot b ≡ false
goes_dotless b e = elim (eqb_tells b 46) [ inl t ↦ absurd (true≢false (sym e ∙ ap goes_on_name t.1)) | inr f ↦ f.0 ]

all_dotless : (bs : List ℕ) → list_all goes_on_name bs ≡ true → All (λ b. is_dot b ≡ false) bs
all_dotless [] e = search rules
all_dotless (b ∷ bs) e =
    let (first, more) = and_parts (goes_on_name b) (list_all goes_on_name bs) e in
    All-cons (λ b. is_dot b ≡ false) b bs (goes_dotless b first) (all_dotless bs more)

pub plain_name : (name : List ℕ) → is_name name ≡ true → IsPlain name
plain_name [] e = absurd (true≢false (sym e))
plain_name (b ∷ bs) e =
    let (front, few) = and_parts (begins_name b && list_all goes_on_name bs) (nat_le (length (b ∷ bs)) longest_name) e in
    let (first, more) = and_parts (begins_name b) (list_all goes_on_name bs) front in
    record { some = λ f. cc; dotless = All-cons (λ b. is_dot b ≡ false) b bs (begins_dotless b first) (all_dotless bs more) }

-- ---- the names of entries and namespaces

pub turned_plain : (l : List (List ℕ)) → ArePlain l → ArePlain (reverse l)
turned_plain [] p = p
turned_plain (x ∷ l) p =
    λ y c.
    elim (Contains-append_cases (reverse l) (x ∷ []) y (subst (λ r. Contains r y) (reverse-append (x ∷ []) l) c)) [
      | inl d ↦ turned_plain l (λ z k. p z (contains_later z x l k)) y d
      | inr d ↦ elim (contains_cases y x [] d) [ inl e ↦ p y (subst (λ z. Contains (x ∷ l) z) e (contains_here x l)) | inr k ↦ absurd (contains_none y k) ]
    ]

module _ (ss : List Space) (are : AreNamespaces ss) (es : List Entry) (ordered : AreOrdered ss es) (plain : ArePlainNames ss es) where
  plain_symbol : (e : Entry) → Contains es e → ArePlain (reverse (e.name ∷ space_at ss e.space))
  plain_symbol e c =
      turned_plain (e.name ∷ space_at ss e.space)
      (λ x d. elim (contains_cases x e.name (space_at ss e.space) d) [
        | inl p ↦ subst IsPlain p (plain_name e.name (plain.entries e c))
        | inr q ↦ plain_name x (plain.namespaces e x c q)
      ])

  same_key : (d e : Entry) → d.space ≡ e.space → d.name ≡ e.name → rank d.kind ≡ rank e.kind → key_of d ≡ key_of e
  same_key d e p q r = λ i. record { space = p i; name = q i; rank = r i }

  name_first : List (List ℕ) → List ℕ
  name_first [] = []
  name_first (x ∷ xs) = x

  names_behind : List (List ℕ) → List (List ℕ)
  names_behind [] = []
  names_behind (x ∷ xs) = xs

  -- entries of one kind whose names are spelled alike are one
  one_spelled : (d k : ℕ) (e f : Entry) → slice_get es d ≡ Some e → slice_get es k ≡ Some f → e.kind ≡ f.kind → spelled_of ss e ≡ spelled_of ss f → d ≡ k
  unfolding names_behind name_first
  one_spelled d k e f p q kinds same =
      let ce = get_contains es d e p in
      let cf = get_contains es k f q in
      let whole : e.name ∷ space_at ss e.space ≡ f.name ∷ space_at ss f.space =
      spelled_one (e.name ∷ space_at ss e.space) (f.name ∷ space_at ss f.space) (plain_symbol e ce) (plain_symbol f cf) same in
      one_number key_of by_name_cmp key_total one_key es d k e f ordered.rising p q
      (same_key e f
      (same_number ss are (space_at ss f.space) e.space f.space (record { within = ordered.within e ce; is = ap names_behind whole }) (record { within = ordered.within f cf; is = refl }))
      (ap name_first whole) (ap rank kinds))

  pub all_apart : (s : OptSet) (names : Kind → List (List ℕ)) (numbers : List ℕ) → AreNumbers ss es s names numbers → AreApart es s numbers
  all_apart s names numbers are_numbers d k e f p q kinds has le lf same =
      let here = are_numbers.at d e p has le in
      let there = are_numbers.at k f q (ap has_section (sym kinds) ∙ has) lf in
      one_spelled d k e f p q kinds
      (same_Some (spelled_of ss e) (spelled_of ss f) (sym here ∙ ap (slice_get (names e.kind)) same ∙ ap (λ kind. slice_get (names kind) (get_or numbers k 0)) kinds ∙ there))
