-- The faults that were found are those of the step.
use Rattle.std.specs.Prelude.{Contains, if◌then◌else◌, not, ◌&&◌}
use Rattle.std.specs.List.{flat_map}
use Rattle.std.proofs.Common.{◌≡◌, ℕ, ◌+◌, ◌<◌, true, false, List, [], ◌∷◌, ◌++◌, length, drop, get_or, refl, sym, ◌∙◌, ap, subst, inl, inr}
use Rattle.std.proofs.lemmas.Bool.{and_parts, and_from, cases_Bool, not-true}
use Rattle.cil_base.specs.Lists.{contains_cases, contains_here, contains_none}
use Rattle.cil_base.specs.MadeLists.{contains_flat, from_flat}
use Rattle.cil_faults.specs.declared.code.FaultCode.TheVariants as causes
use Rattle.cil_faults.specs.declared.fault.Fault.{Fault}
use Rattle.cil_faults.specs.Reported.{fault_at}
use Rattle.cil_faults.specs.Namespaces.{Namespace}
use Rattle.cil_names.specs.Faults.{ResolveFault, unresolved}
use Rattle.cil_macros.specs.Item.{Item, OptSet}
use Rattle.cil_names.specs.Resolves.{Wanted, is_judged, resolves, told_word, words_of}
use Rattle.cil_names.specs.Unresolved.{fault_of_word, faults_in, faults_of_all, faults_of_wanted, is_outside}
use Rattle.cil_names.proofs.ScopeLemmas.{passed_on}

outside_is : (round : List ℕ) → is_outside round ≡ true → round ≡ []
outside_is [] e = refl
outside_is (o ∷ os) e = absurd (let f : false ≡ true = e in cc)

module _ (xs : List Item) (s : OptSet) (n : Namespace) (w : Wanted) where
  told_from : (f : Fault) → Contains (faults_of_wanted xs s n w) f → (is_judged xs s w ≡ true) × (resolves xs s w ≡ false) × (f ≡ fault_of_word n (told_word w))
  unfolding faults_of_wanted
  told_from f c =
      elim (cases_Bool (is_judged xs s w && not (resolves xs s w))) [
        | inl t ↦
            let (judged, missing) = and_parts (is_judged xs s w) (not (resolves xs s w)) t in (
              judged,
              not-true (resolves xs s w) missing,
              elim (contains_cases f (fault_of_word n (told_word w)) [] (subst (λ b. Contains (if b then fault_of_word n (told_word w) ∷ [] else []) f) t c)) [
                | inl e ↦ sym e
                | inr d ↦ absurd (contains_none f d)
              ],
            )
        | inr e ↦ absurd (contains_none f (subst (λ b. Contains (if b then fault_of_word n (told_word w) ∷ [] else []) f) e c))
      ]

  told_to : is_judged xs s w ≡ true → resolves xs s w ≡ false → Contains (faults_of_wanted xs s n w) (fault_of_word n (told_word w))
  unfolding faults_of_wanted
  told_to judged missing =
      subst (λ b. Contains (if b then fault_of_word n (told_word w) ∷ [] else []) (fault_of_word n (told_word w)))
      (sym (and_from (is_judged xs s w) (not (resolves xs s w)) judged (ap not missing))) (contains_here (fault_of_word n (told_word w)) [])

-- ---- all items

module _ (xs : List Item) (s : OptSet) where
  abbrev of_words : Item → List Fault
  of_words x = faults_of_all xs s x.space (words_of x)

  pub faults_outside : (x : Item) → x.round ≡ [] → faults_in xs s x ≡ of_words x
  faults_outside x e = ap (λ round. if is_outside round then of_words x else []) e

  pub faults_within : (x : Item) → is_outside x.round ≡ false → faults_in xs s x ≡ []
  faults_within x e = ap (λ b. if b then of_words x else []) e

  pub all_there : (f : Fault) → Contains (flat_map (faults_in xs s) xs) f → ResolveFault s xs f
  all_there f c =
      let (x, cx, tx) = from_flat (faults_in xs s) xs f c in
      elim (cases_Bool (is_outside x.round)) [
        | inl t ↦
            let (w, cw, tw) = from_flat (faults_of_wanted xs s x.space) (words_of x) f (subst (λ b. Contains (if b then of_words x else []) f) t tx) in
            let (judged, missing, same) = told_from xs s x.space w f tw in
            subst (ResolveFault s xs) (sym same) (unresolved x w cx (outside_is x.round t) cw judged missing)
        | inr e ↦ absurd (contains_none f (subst (λ b. Contains (if b then of_words x else []) f) e tx))
      ]

  pub all_back : (f : Fault) → ResolveFault s xs f → Contains (flat_map (faults_in xs s) xs) f
  all_back f (unresolved x w c round asks judged missing) =
      contains_flat (faults_in xs s) xs x _ c
      (subst (λ b. Contains (if b then of_words x else []) (fault_at causes.Unresolved (told_word w).at x.space (told_word w).bytes)) (sym (ap is_outside round))
      (contains_flat (faults_of_wanted xs s x.space) (words_of x) w _ asks (told_to xs s x.space w judged missing)))

-- one more instance was checked
pub told_on : {X Y : Type 0} (f : X → List Y) (xs : List X) (i : ℕ) (x : X) → i < length xs → x ≡ get_or xs i x → (before new all : List Y) → before ++ flat_map f (drop i xs) ≡ all
    → new ≡ before ++ f x → new ++ flat_map f (drop (i + 1) xs) ≡ all
told_on f xs i x within is before new all so push = ap (λ l. l ++ flat_map f (drop (i + 1) xs)) push ∙ passed_on f xs i x x within is before all so
