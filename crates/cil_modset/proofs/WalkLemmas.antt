-- One step of the walk over two rising lists, and what it has found in the end.
use Rattle.std.proofs.Common.{◌≡◌, ℕ, ◌+◌, ◌<◌, ◌≤◌, ◌⊎◌, List, [], ◌∷◌, ◌++◌, length, take, drop, subst, inl, inr, arith}
use Rattle.std.specs.Prelude.{Contains}
use Rattle.std.proofs.lemmas.Bool.{cases_lt}
use Rattle.std.proofs.lemmas.List.{take-append-drop, take_more}
use Rattle.std.proofs.lemmas.List.Elements.{Contains-append_left, Contains-push, Contains-push_cases}
use Rattle.cil_base.specs.Lists.{contains_here, contains_later, contains_cases, contains_none}
use Rattle.cil_modset.specs.Faults.{AllBelow}
use Rattle.cil_modset.specs.Gather.{AreApart}
use Rattle.cil_modset.specs.Modules.{IsBelow, IsRising, IsUnion, AreModules, module_of}
use Rattle.cil_modset.specs.NewTexts.{AreNew, HasPassed}
use Rattle.cil_modset.proofs.RisingLemmas.{compared, below_trans, not_below_itself, rising_none, rising_push, rising_at, rising_front, rising_across, number_of_member}

-- a text is in a list, or it is not
pub decided : (xs : List (List ℕ)) (t : List ℕ) → Contains xs t ⊎ (Contains xs t → ⊥)
decided [] t = inr (contains_none t)
decided (x ∷ xs) t =
    elim (decided xs t) [
      | inl c ↦ inl (contains_later t x xs c)
      | inr absent ↦ elim (compared x t) [
        | inl p ↦ inr (λ c. elim (contains_cases t x xs c) [ inl e ↦ not_below_itself t (subst (λ w. IsBelow w t) e p) | inr d ↦ absent d ])
        | inr q ↦ elim q [
          | inl e ↦ inl (subst (λ w. Contains (x ∷ xs) w) e (contains_here x xs))
          | inr p ↦ inr (λ c. elim (contains_cases t x xs c) [ inl e ↦ not_below_itself t (subst (λ w. IsBelow t w) e p) | inr d ↦ absent d ])
        ]
      ]
    ]

-- all of ours up to where the walk stops come before the text
stopped_below : (ours seen : List (List ℕ)) (text : List ℕ) (from at : ℕ) → HasPassed ours seen from → AllBelow seen text
    → ((k : ℕ) → from ≤ k → k < at → IsBelow (module_of ours k) text) → (k : ℕ) → k < at → IsBelow (module_of ours k) text
stopped_below ours seen text from at passed above below k lt =
    elim (cases_lt k from) [ inl less ↦ passed.below k text less above | inr more ↦ below k more lt ]

-- where the walk stops stands the text, if it is ours
pub stopped_at : (ours seen : List (List ℕ)) (text : List ℕ) (from at : ℕ) → IsRising ours → HasPassed ours seen from → AllBelow seen text
    → ((k : ℕ) → from ≤ k → k < at → IsBelow (module_of ours k) text) → (at < length ours → IsBelow (module_of ours at) text → ⊥)
    → Contains ours text → (at < length ours) × (module_of ours at ≡ text)
stopped_at ours seen text from at rising passed above below stops c =
    let (k, within, is) = number_of_member ours text c in
    elim (cases_lt k at) [
      | inl lt ↦ absurd (not_below_itself text (subst (λ w. IsBelow w text) is (stopped_below ours seen text from at passed above below k lt)))
      | inr le ↦ elim (cases_lt at k) [
        | inl lt ↦ absurd (stops (omega arith) (subst (λ w. IsBelow (module_of ours at) w) is (rising_at ours at k rising lt within)))
        | inr ge ↦ let e : k ≡ at = omega arith in (omega arith, subst (λ (j : ℕ). module_of ours j ≡ text) e is)
      ]
    ]

-- the walk has passed as many of ours when it has seen the text too
pub passed_on : (ours seen : List (List ℕ)) (text : List ℕ) (from at : ℕ) → HasPassed ours seen from → AllBelow seen text → at ≤ length ours
    → ((k : ℕ) → from ≤ k → k < at → IsBelow (module_of ours k) text) → HasPassed ours (seen ++ text ∷ []) at
passed_on ours seen text from at passed above within below = record {
  within = within;
  below = λ k t lt all. below_trans (module_of ours k) text t
      (stopped_below ours seen text from at passed above below k lt) (all text (Contains-push seen text));
}

pub passed_none : (ours : List (List ℕ)) → HasPassed ours [] 0
passed_none ours = record { within = omega arith; below = λ k t lt all. absurd (omega arith) }

pub new_none : (ours : List (List ℕ)) → AreNew ours [] []
new_none ours = record {
  rising = rising_none;
  members = λ t. (λ c. absurd (contains_none t c), λ h. absurd (contains_none t h.0));
}

-- a text that is ours is no newcomer
pub new_known : (ours seen fresh : List (List ℕ)) (text : List ℕ) → AreNew ours seen fresh → Contains ours text → AreNew ours (seen ++ text ∷ []) fresh
new_known ours seen fresh text new known = record {
  rising = new.rising;
  members = λ t. (
    λ c. let h = (new.members t).0 c in (Contains-append_left seen (text ∷ []) t h.0, h.1),
    λ h. elim (Contains-push_cases seen text t h.0) [
      | inl c ↦ (new.members t).1 (c, h.1)
      | inr e ↦ absurd (h.1 (subst (λ w. Contains ours w) e known))
    ],
  );
}

-- a text that is not ours is the last newcomer
pub new_kept : (ours seen fresh : List (List ℕ)) (text : List ℕ) → AreNew ours seen fresh → (Contains ours text → ⊥) → AllBelow seen text
    → AreNew ours (seen ++ text ∷ []) (fresh ++ text ∷ [])
new_kept ours seen fresh text new unknown above = record {
  rising = rising_push fresh text new.rising (λ x c. above x ((new.members x).0 c).0);
  members = λ t. (
    λ c. elim (Contains-push_cases fresh text t c) [
      | inl d ↦ let h = (new.members t).0 d in (Contains-append_left seen (text ∷ []) t h.0, h.1)
      | inr e ↦ subst (λ w. Contains (seen ++ text ∷ []) w × (Contains ours w → ⊥)) e (Contains-push seen text, unknown)
    ],
    λ h. elim (Contains-push_cases seen text t h.0) [
      | inl d ↦ Contains-append_left fresh (text ∷ []) t ((new.members t).1 (d, h.1))
      | inr e ↦ subst (λ w. Contains (fresh ++ text ∷ []) w) e (Contains-push fresh text)
    ],
  );
}

-- the text of a number comes behind those of lesser numbers
pub above_front : (theirs : List (List ℕ)) (i : ℕ) → IsRising theirs → i < length theirs → AllBelow (take i theirs) (module_of theirs i)
above_front theirs i rising within x c =
    let more : take (i + 1) theirs ≡ take i theirs ++ module_of theirs i ∷ [] = take_more theirs i [] within in
    let front : IsRising (take (i + 1) theirs) =
    rising_front (take (i + 1) theirs) (drop (i + 1) theirs) (rw (take-append-drop (i + 1) theirs) rising) in
    rising_across (take i theirs) (module_of theirs i ∷ []) (rw more at front) x (module_of theirs i) c (contains_here (module_of theirs i) [])

-- the new texts of a set are a set, and it has none of ours
pub new_modules : (ours theirs fresh : List (List ℕ)) → AreNew ours theirs fresh → AreModules theirs → AreModules fresh
new_modules ours theirs fresh new modules = record {
  rising = new.rising;
  readable = λ t c. modules.readable t ((new.members t).0 c).0;
}

pub new_apart : (ours theirs fresh : List (List ℕ)) → AreNew ours theirs fresh → AreApart ours fresh
new_apart ours theirs fresh new t c d = ((new.members t).0 d).1 c

-- with the new texts comes all of the other set
pub new_union : (ours theirs fresh both : List (List ℕ)) → AreNew ours theirs fresh → IsRising theirs → IsUnion ours fresh both → IsUnion ours theirs both
new_union ours theirs fresh both new rising union = record {
  first = union.first;
  second = rising;
  rising = union.rising;
  members = λ t. (
    λ c. elim ((union.members t).0 c) [ inl x ↦ inl x | inr x ↦ inr ((new.members t).0 x).0 ],
    λ h. elim h [
      | inl x ↦ (union.members t).1 (inl x)
      | inr x ↦ elim (decided ours t) [
        | inl d ↦ (union.members t).1 (inl d)
        | inr absent ↦ (union.members t).1 (inr ((new.members t).1 (x, absent)))
      ]
    ],
  );
}

-- the union of two sets of readable texts is one
pub union_modules : (a b both : List (List ℕ)) → AreModules a → AreModules b → IsUnion a b both → AreModules both
union_modules a b both p q union = record {
  rising = union.rising;
  readable = λ t c. elim ((union.members t).0 c) [ inl x ↦ p.readable t x | inr x ↦ q.readable t x ];
}

-- nothing is taken in
pub union_none : (a b : List (List ℕ)) → IsRising a → b ≡ [] → IsUnion a b a
union_none a b rising none = rw none (record {
  first = rising;
  second = rising_none;
  rising = rising;
  members = λ t. (λ c. inl c, λ h. elim h [ inl c ↦ c | inr c ↦ absurd (contains_none t c) ]);
})
