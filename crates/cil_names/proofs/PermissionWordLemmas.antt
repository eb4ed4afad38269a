-- What a permission word names, and that it is the same whatever is enabled.
use Rattle.std.proofs.Common.{◌≡◌, ℕ, ◌||◌, Bool, true, false, cond, List, [], ◌∷◌, refl, sym, ◌∙◌, ap, subst, inl, inr}
use Rattle.std.specs.Prelude.{◌<◌, IfSome, MatchOption, Option, Some, None, find, length, slice_get}
use Rattle.std.specs.Global.{Vec}
use Rattle.std.specs.List.{list_all, list_any}
use Rattle.std.specs.List.Sorted.{IsStrictlySortedBy}
use Rattle.cil_base.specs.Lists.{text_cmp}
use Rattle.cil_base.specs.declared.bytes.Bytes.{Bytes}
use Rattle.cil_names.specs.declared.permission_word.Class.{Class}
use Rattle.cil_names.specs.Classes.{IsClassFor}
use Rattle.std.specs.Option.{is_some, option_map_or}
use Rattle.std.proofs.lemmas.Bool.{cases_Bool, true≢false}
use Rattle.std.proofs.lemmas.Option.{same_Some}
use Rattle.cil_names.specs.declared.entry.Entry.{Entry}
use Rattle.cil_macros.specs.blocks.Space.{Space}
use Rattle.cil_names.specs.Entries.{AreEntries, IsAnswer, IsNamed, candidates_of, is_declared_at, is_declared_in, listed}
use Rattle.cil_macros.specs.Item.{Item, OptSet, nobody}
use Rattle.cil_base.specs.Searches.{or_second}
use Rattle.cil_syntax.specs.Scopes.{ScopedWord}
use Rattle.cil_names.specs.Laws.{WantedMeansWhatItNames}
use Rattle.cil_names.specs.Meanings.{meant}
use Rattle.cil_names.specs.PermissionWords.{IsAnswerFor, class_with, has_permission_at, wanted_meaning}
use Rattle.cil_names.specs.Resolves.{Wanted, Word as AWord, Permission as APermission, resolves}
use Rattle.cil_macros.specs.blocks.Namespaces.{AreNamespaces}
use Rattle.cil_names.proofs.AnswerLemmas.{answer_is}
use Rattle.cil_names.proofs.ListedLemmas.{asked_of_class, asked_of_none}

-- ---- the class of a class word, if it has the permission

module _ (has : ℕ → Bool) (m : Option ℕ) where
  pub no_class_named : None ≡ m → None ≡ find has (listed m)
  no_class_named e = ap (λ o. find has (listed o)) e

  pub class_lacks : (d : ℕ) → Some d ≡ m → has d ≡ false → None ≡ find has (listed m)
  class_lacks d e f = sym (ap (λ b. cond b (Some d) None) f) ∙ ap (λ o. find has (listed o)) e

  pub class_has : (d : ℕ) → Some d ≡ m → has d ≡ true → Some d ≡ find has (listed m)
  class_has d e t = sym (ap (λ b. cond b (Some d) None) t) ∙ ap (λ o. find has (listed o)) e

-- ---- a class that was looked up once

module _ (ss : List Space) (es : List Entry) (lists : List (Vec Bytes)) (w : ScopedWord) where
  pub class_rises : (found : Option Class) → IsClassFor ss es lists w found → IfSome found (λ k. IsStrictlySortedBy text_cmp k.permissions.now)
  class_rises None is = tt
  class_rises (Some k) is = is.rising

  pub class_within : (found : Option Class) → IsClassFor ss es lists w found → (r : Option ℕ) → IfSome r (λ d. MatchOption found ⊥ (λ k. k.entry ≡ d)) → IfSome r (λ d. d < length es)
  class_within found is None of_class = tt
  class_within None is (Some d) of_class = absurd of_class
  class_within (Some k) is (Some d) of_class = subst (λ n. n < length es) of_class is.within

-- ---- what is declared where no optional is enabled is declared

none_round : (s : OptSet) (os : List ℕ) → list_all nobody os ≡ true → list_all s os ≡ true
none_round s [] e = refl
none_round s (o ∷ os) e = absurd (true≢false (sym e))

none_rounds : (s : OptSet) (rs : List (Vec ℕ)) → list_any (λ r. list_all nobody r.items) rs ≡ true → list_any (λ r. list_all s r.items) rs ≡ true
none_rounds s [] e = absurd (true≢false (sym e))
none_rounds s (r ∷ rs) e =
    elim (cases_Bool (list_all nobody r.items)) [
      | inl t ↦ ap (λ b. b || list_any (λ r. list_all s r.items) rs) (none_round s r.items t)
      | inr f ↦ or_second (list_all s r.items) _ (none_rounds s rs (sym (ap (λ b. b || list_any (λ r. list_all nobody r.items) rs) f) ∙ e))
    ]

pub always_declared : (s : OptSet) (always : Bool) (rs : List (Vec ℕ)) → (always || list_any (λ r. list_all nobody r.items) rs) ≡ true
    → (always || list_any (λ r. list_all s r.items) rs) ≡ true
always_declared s true rs e = refl
always_declared s false rs e = none_rounds s rs e

declared_always : (s : OptSet) (es : List Entry) (d : ℕ) → is_declared_at nobody es d ≡ true → is_declared_at s es d ≡ true
declared_always s es d t = at_place (slice_get es d) t
  where
    at_place : (o : Option Entry) → option_map_or (is_declared_in nobody) o false ≡ true → option_map_or (is_declared_in s) o false ≡ true
    at_place None e = absurd (true≢false (sym e))
    at_place (Some x) e = always_declared s x.always x.rounds.items e

-- what is named where these are enabled, and is declared where none is, is what is named where none is
found_always : (s : OptSet) (es : List Entry) (d : ℕ) → is_declared_at nobody es d ≡ true → (ds : List ℕ) → Some d ≡ find (is_declared_at s es) ds → Some d ≡ find (is_declared_at nobody es) ds
found_always s es d t [] e = e
found_always s es d t (k ∷ ds) e =
    elim (cases_Bool (is_declared_at nobody es k)) [
      | inl u ↦ e ∙ ap (λ b. cond b (Some k) (find (is_declared_at s es) ds)) (declared_always s es k u) ∙ sym (ap (λ b. cond b (Some k) (find (is_declared_at nobody es) ds)) u)
      | inr f ↦
          elim (cases_Bool (is_declared_at s es k)) [
            | inl u ↦
                let same : d ≡ k = same_Some d k (e ∙ ap (λ b. cond b (Some k) (find (is_declared_at s es) ds)) u) in
                absurd (true≢false (sym t ∙ ap (is_declared_at nobody es) same ∙ f))
            | inr g ↦
                found_always s es d t ds (e ∙ ap (λ b. cond b (Some k) (find (is_declared_at s es) ds)) g)
                ∙ sym (ap (λ b. cond b (Some k) (find (is_declared_at nobody es) ds)) f)
          ]
    ]

-- the entry is declared outside all optionals
pub meant_always : (ss : List Space) (s : OptSet) (es : List Entry) (w : ScopedWord) (d : ℕ) (e : Entry) → slice_get es d ≡ Some e → e.always ≡ true → Some d ≡ meant ss es s w
    → Some d ≡ meant ss es nobody w
meant_always ss s es w d e at always named =
    found_always s es d
    (ap (λ o. option_map_or (is_declared_in nobody) o false) at ∙ ap (λ b. b || list_any (λ r. list_all nobody r.items) e.rounds.items) always)
    (candidates_of ss es w) named

-- ---- what is wanted

module _ (ss : List Space) (are : AreNamespaces ss) (xs : List Item) (es : List Entry) (entries : AreEntries ss xs es) (s : OptSet) where
  -- a permission resolves where the class that its class word names has it
  module _ (c : ScopedWord) (q : ScopedWord) where
    pub asked_unnamed : None ≡ meant ss es nobody c → false ≡ resolves xs s (APermission c q)
    asked_unnamed none = sym (asked_of_none ss xs es c (subst (IsAnswer ss xs es nobody c) (sym none) (answer_is ss are xs es entries nobody c)) s q)

    pub asked_named : (d : ℕ) → Some d ≡ meant ss es nobody c → resolves xs s (APermission c q) ≡ has_permission_at ss es xs q.bytes d
    asked_named d some = asked_of_class ss are xs es entries c d (subst (IsAnswer ss xs es nobody c) (sym some) (answer_is ss are xs es entries nobody c)) s q

  word_answer : (w : ScopedWord) (r : Option ℕ) → IsAnswer ss xs es s w r → IsAnswerFor ss xs es s (AWord w) r
  word_answer w None none = ap is_some none
  word_answer w (Some d) named = named

  module _ (c p : ScopedWord) where
    abbrev has : ℕ → Bool
    has d = has_permission_at ss es xs p.bytes d

    by_has : (d : ℕ) → IsNamed ss xs es nobody c d → (b : Bool) → has d ≡ b → IsAnswerFor ss xs es s (APermission c p) (cond b (Some d) None)
    by_has d named true t = (named, t)
    by_has d named false f = asked_of_class ss are xs es entries c d named s p ∙ f

    by_class : (m : Option ℕ) → IsAnswer ss xs es nobody c m → IsAnswerFor ss xs es s (APermission c p) (find has (listed m))
    by_class None none = asked_of_none ss xs es c none s p
    by_class (Some d) named = by_has d named (has d) refl

    pub permission_answer : IsAnswerFor ss xs es s (APermission c p) (class_with ss es xs c p)
    permission_answer = by_class (meant ss es nobody c) (answer_is ss are xs es entries nobody c)

    declared_too : (r : Option ℕ) → IsAnswerFor ss xs es s (APermission c p) r → r ≡ find (is_declared_at s es) (listed r)
    declared_too None none = refl
    declared_too (Some d) (named, t) =
        sym (ap (λ b. cond b (Some d) None)
        (ap (λ o. option_map_or (is_declared_in s) o false) named.at ∙ always_declared s named.entry.always named.entry.rounds.items named.live))

  wanted_answer : (w : Wanted) → IsAnswerFor ss xs es s w (wanted_meaning ss es xs s w)
  wanted_answer (AWord w) = word_answer w (meant ss es s w) (answer_is ss are xs es entries s w)
  wanted_answer (APermission c p) =
      subst (IsAnswerFor ss xs es s (APermission c p)) (declared_too c p (class_with ss es xs c p) (permission_answer c p)) (permission_answer c p)

pub wanted_means : WantedMeansWhatItNames
wanted_means = λ ss xs es s w are entries. wanted_answer ss are xs es entries s w
