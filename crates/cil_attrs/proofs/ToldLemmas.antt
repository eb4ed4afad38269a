-- Faults that are told one after another.
use Rattle.std.proofs.Common.{◌≡◌, ◌⊎◌, ◌↔◌, ℕ, ◌+◌, ◌<◌, ◌≤◌, List, [], ◌∷◌, ◌++◌, get_or, length, take, sym, ◌∙◌, ap, subst, inl, inr}
use Rattle.std.specs.Prelude.{Contains}
use Rattle.std.proofs.lemmas.List.{take_all, take_more}
use Rattle.std.proofs.lemmas.List.Elements.{Contains-append_cases, Contains-append_left, Contains-append_right}
use Rattle.cil_base.specs.Lists.{contains_cases, contains_here, contains_none}
use Rattle.cil_faults.specs.declared.fault.Fault.{Fault}

-- one more of a list
pub taken_one : {X : Type 0} (xs : List X) (i : ℕ) (x : X) → i < length xs → x ≡ get_or xs i x → take (i + 1) xs ≡ take i xs ++ x ∷ []
taken_one xs i x l is = take_more xs i x l ∙ ap (λ y. take i xs ++ y ∷ []) (sym is)

-- no fault more, and one more
pub nothing_more : (old : List Fault) (P : Fault → Type 0) → ((f : Fault) → P f → ⊥) → (f : Fault) → Contains old f ↔ (Contains old f ⊎ P f)
nothing_more old P none f = ((λ c. inl c), (λ e. elim e [ inl c ↦ c | inr p ↦ absurd (none f p) ]))

pub one_more : (old new : List Fault) (g : Fault) (P : Fault → Type 0) → new ≡ old ++ g ∷ [] → ((f : Fault) → P f ↔ (f ≡ g)) → (f : Fault) → Contains new f ↔ (Contains old f ⊎ P f)
one_more old new g P push told f = (
  (λ c. elim (Contains-append_cases old (g ∷ []) f (subst (λ z. Contains z f) push c)) [
    | inl d ↦ inl d
    | inr d ↦ elim (contains_cases f g [] d) [ inl e ↦ inr ((told f).1 (sym e)) | inr n ↦ absurd (contains_none f n) ]
  ]),
  (λ e. subst (λ z. Contains z f) (sym push) (elim e [
    | inl c ↦ Contains-append_left old (g ∷ []) f c
    | inr p ↦ Contains-append_right old (g ∷ []) f (subst (λ z. Contains (z ∷ []) f) ((told f).0 p) (contains_here f []))
  ])),
)

-- the same faults, told otherwise
pub told_as : (old new : List Fault) (P Q : Fault → Type 0) → ((f : Fault) → P f ↔ Q f) → ((f : Fault) → Contains new f ↔ (Contains old f ⊎ P f)) → (f : Fault) → Contains new f ↔ (Contains old f ⊎ Q f)
told_as old new P Q same told f = (
  (λ c. elim ((told f).0 c) [ inl d ↦ inl d | inr p ↦ inr ((same f).0 p) ]),
  (λ e. (told f).1 (elim e [ inl d ↦ inl d | inr q ↦ inr ((same f).1 q) ])),
)

-- ---- one thing after another

module _ {X : Type 0} (xs : List X) (before : List Fault) (Tells : X → Fault → Type 0) where
  -- beside the faults before, those of these are told
  abbrev pub AreTold : List X → List Fault → Type 0
  AreTold some faults = (f : Fault) → Contains faults f ↔ (Contains before f ⊎ ((x : X) × Contains some x × Tells x f))

  pub none_told : (ys : List X) → AreTold (take 0 ys) before
  none_told ys f = (λ c. inl c, λ e. elim e [ inl c ↦ c | inr t ↦ absurd (nobody ys t.0 t.1) ])
    where
      nobody : (zs : List X) (x : X) → Contains (take 0 zs) x → ⊥
      nobody [] x c = contains_none x c
      nobody (z ∷ zs) x c = contains_none x c

  pub more_told : (n : ℕ) (x : X) (old new : List Fault) → take (n + 1) xs ≡ take n xs ++ x ∷ [] → ((f : Fault) → Contains new f ↔ (Contains old f ⊎ Tells x f))
      → AreTold (take n xs) old → AreTold (take (n + 1) xs) new
  more_told n x old new taken step are f = (
    λ c. elim ((step f).0 c) [
      | inl d ↦ elim ((are f).0 d) [
        | inl b ↦ inl b
        | inr t ↦ inr (t.0, subst (λ z. Contains z t.0) (sym taken) (Contains-append_left (take n xs) (x ∷ []) t.0 t.1), t.2)
      ]
      | inr h ↦ inr (x, subst (λ z. Contains z x) (sym taken) (Contains-append_right (take n xs) (x ∷ []) x (contains_here x [])), h)
    ],
    λ e. (step f).1 (elim e [
      | inl b ↦ inl ((are f).1 (inl b))
      | inr t ↦ elim (Contains-append_cases (take n xs) (x ∷ []) t.0 (subst (λ z. Contains z t.0) taken t.1)) [
        | inl d ↦ inl ((are f).1 (inr (t.0, d, t.2)))
        | inr d ↦ elim (contains_cases t.0 x [] d) [
          | inl same ↦ inr (subst (λ y. Tells y f) (sym same) t.2)
          | inr n ↦ absurd (contains_none t.0 n)
        ]
      ]
    ]),
  )

  pub all_told : (n : ℕ) (faults : List Fault) → length xs ≤ n → AreTold (take n xs) faults → AreTold xs faults
  all_told n faults over are = subst (λ ys. AreTold ys faults) (take_all n xs over) are
