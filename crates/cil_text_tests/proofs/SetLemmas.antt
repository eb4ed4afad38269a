-- A set to which texts are added one after another.
use Rattle.std.proofs.Common.{◌≡◌, ◌+◌, ◌<◌, ◌≤◌, ◌↔◌, ℕ, List, [], ◌∷◌, ◌++◌, Bor, map, length, take, get_or, Result, Ok, Contains, sym, ◌∙◌, subst, inl, inr}
use Rattle.std.proofs.lemmas.List.{get_or-map, length-map, take_all, take_more}
use Rattle.std.proofs.lemmas.List.Elements.{Contains-append_left, Contains-append_right, Contains-append_cases}
use Rattle.cil_base.specs.Lists.{contains_cases, contains_here, contains_none}
use Rattle.cil_modset.specs.Changes.{IsInstalled}
use Rattle.cil_modset.specs.declared.set.Installed.{Installed}
use Rattle.cil_modset.specs.declared.set.Installed.TheVariants.{New, Known}
use Rattle.cil_sexpr.specs.declared.fault.ReadError.{ReadError}
use Rattle.cil_text_tests.specs.Sets.{IsSetOf}

pub of_none : (modules : List (List ℕ)) → modules ≡ [] → IsSetOf [] modules
of_none modules e text = ((λ c. subst (λ ms. Contains ms text) e c), (λ c. subst (λ ms. Contains ms text) (sym e) c))

-- one text more
pub one_more : (texts old new : List (List ℕ)) (text : List ℕ) (result : Result Installed ReadError) (x : Installed)
    → IsInstalled old text result new → result ≡ Ok x → IsSetOf texts old → IsSetOf (texts ++ text ∷ []) new
one_more texts old new text result New i e are other = (there, back)
  where
    there : Contains new other → Contains (texts ++ text ∷ []) other
    there c = elim (((i.joined e).members other).0 c) [
      | inl d ↦ Contains-append_left texts (text ∷ []) other ((are other).0 d)
      | inr d ↦ Contains-append_right texts (text ∷ []) other d
    ]

    back : Contains (texts ++ text ∷ []) other → Contains new other
    back c = elim (Contains-append_cases texts (text ∷ []) other c) [
      | inl d ↦ ((i.joined e).members other).1 (inl ((are other).1 d))
      | inr d ↦ ((i.joined e).members other).1 (inr d)
    ]
one_more texts old new text result Known i e are other = (there, back)
  where
    there : Contains new other → Contains (texts ++ text ∷ []) other
    there c = Contains-append_left texts (text ∷ []) other ((are other).0 (subst (λ ms. Contains ms other) (i.stays e) c))

    back : Contains (texts ++ text ∷ []) other → Contains new other
    back c = elim (Contains-append_cases texts (text ∷ []) other c) [
      | inl d ↦ subst (λ ms. Contains ms other) (sym (i.stays e)) ((are other).1 d)
      | inr d ↦ elim (contains_cases other text [] d) [
        | inl s ↦ subst (λ ms. Contains ms other) (sym (i.stays e)) (subst (λ t. Contains old t) s (i.known.0 e))
        | inr n ↦ absurd (contains_none other n)
      ]
    ]

-- ---- the texts of references

abbrev pub texts_of : List (Bor (List ℕ)) → List (List ℕ)
texts_of = map (λ text. text.now)

pub all_texts : (texts : List (Bor (List ℕ))) (i : ℕ) (modules : List (List ℕ)) → length texts ≤ i → IsSetOf (take i (texts_of texts)) modules
    → IsSetOf (texts_of texts) modules
all_texts texts i modules e are =
    subst (λ ts. IsSetOf ts modules) (take_all i (texts_of texts) (subst (λ n. n ≤ i) (sym (length-map texts (λ text. text.now))) e)) are

pub next_text : (texts : List (Bor (List ℕ))) (i : ℕ) (d : Bor (List ℕ)) (old new : List (List ℕ)) (text : List ℕ) (result : Result Installed ReadError) (x : Installed)
    → i < length texts → text ≡ (get_or texts i d).now → IsInstalled old text result new → result ≡ Ok x → IsSetOf (take i (texts_of texts)) old
    → IsSetOf (take (i + 1) (texts_of texts)) new
next_text texts i d old new text result x within at installed e are =
    let here : get_or (texts_of texts) i [] ≡ text = get_or-map (λ t. t.now) texts i d [] within ∙ sym at in
    let more : take (i + 1) (texts_of texts) ≡ take i (texts_of texts) ++ get_or (texts_of texts) i [] ∷ [] =
    take_more (texts_of texts) i [] (subst (λ n. i < n) (sym (length-map texts (λ t. t.now))) within) in
    subst (λ ts. IsSetOf ts new) (sym more)
    (subst (λ t. IsSetOf (take i (texts_of texts) ++ t ∷ []) new) (sym here) (one_more (take i (texts_of texts)) old new text result x installed e are))
