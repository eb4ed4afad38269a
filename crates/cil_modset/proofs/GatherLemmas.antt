-- Two rising lists taken apart from their ends, and what was taken put together.
use Rattle.std.proofs.Common.{◌≡◌, ℕ, ◌+◌, ◌⊎◌, List, [], ◌∷◌, ◌++◌, length, refl, sym, ◌∙◌, ap, subst, inl, inr, arith}
use Rattle.std.specs.Prelude.{Contains, ◌↔◌, reverse}
use Rattle.std.specs.Global.{Vec}
use Rattle.std.proofs.lemmas.List.{map-append, append_assoc, append-nil, length_push, map_push, reverse-append}
use Rattle.std.proofs.lemmas.List.Elements.{Contains-append_left, Contains-push, Contains-push_cases}
use Rattle.cil_base.specs.Lists.{contains_here, contains_later, contains_cases, contains_none}
use Rattle.cil_modset.specs.Gather.{AreApart, EndsLast, IsTakenOff, IsTakenFrom}
use Rattle.cil_modset.specs.Modules.{IsBelow, IsRising, IsUnion, texts_of}
use Rattle.cil_modset.proofs.RisingLemmas.{compared, below_trans, rising_join, rising_front, rising_back, rising_across}

-- what is left of two lists and what was taken off, in order, are the lists
pub record Gathered (low_all high_all low high rest : List (List ℕ)) : Type 0 where
  pub low_rises : IsRising (low ++ rest)
  pub high_rises : IsRising (high ++ rest)
  pub apart : AreApart low high
  pub members : (t : List ℕ) → (Contains low_all t ⊎ Contains high_all t) ↔ ((Contains low t ⊎ Contains high t) ⊎ Contains rest t)
  pub size : length low_all + length high_all ≡ length low + length high + length rest

-- a list is empty, or it has a last text
pub ends_with : (xs : List (List ℕ)) → (xs ≡ []) ⊎ ((front : List (List ℕ)) × (y : List ℕ) × (xs ≡ front ++ y ∷ []))
ends_with [] = inl refl
ends_with (x ∷ xs) =
    elim (ends_with xs) [
      | inl e ↦ inr ([], x, ap (λ (w : List (List ℕ)). x ∷ w) e)
      | inr h ↦ inr (x ∷ h.0, h.1, ap (λ (w : List (List ℕ)). x ∷ w) h.2)
    ]

-- a text behind which the other list does not end comes behind all of it
others_below : (low other front : List (List ℕ)) (text y : List ℕ) → IsRising other → AreApart (low ++ text ∷ []) other
    → EndsLast (low ++ text ∷ []) other → other ≡ front ++ y ∷ [] → (x : List ℕ) → Contains other x → IsBelow x text
others_below low other front text y rising apart last is x c =
    let up : IsRising (front ++ y ∷ []) = rw is at rising in
    let within : Contains (front ++ y ∷ []) x = rw is at c in
    let end : Contains other y = rw is (Contains-push front y) in
    let y_below : IsBelow y text = elim (compared y text) [
      | inl p ↦ p
      | inr q ↦ elim q [
        | inl e ↦ absurd (apart y (rw e (Contains-push low text)) end)
        | inr p ↦ absurd (last text y low front refl is p)
      ]
    ] in
    elim (Contains-push_cases front y x within) [
      | inl d ↦ below_trans x y text (rising_across front (y ∷ []) up x y d (contains_here y [])) y_below
      | inr e ↦ subst (λ w. IsBelow w text) e y_below
    ]

all_below : (low other : List (List ℕ)) (text : List ℕ) → IsRising other → AreApart (low ++ text ∷ []) other
    → EndsLast (low ++ text ∷ []) other → (x : List ℕ) → Contains other x → IsBelow x text
all_below low other text rising apart last x c =
    elim (ends_with other) [
      | inl e ↦ absurd (contains_none x (rw e at c))
      | inr h ↦ others_below low other h.0 text h.1 rising apart last h.2 x c
    ]

-- one text more is taken off the first list
taken_more : (low_all high_all shorter high rest : List (List ℕ)) (text : List ℕ)
    → Gathered low_all high_all (shorter ++ text ∷ []) high rest → EndsLast (shorter ++ text ∷ []) high
    → Gathered low_all high_all shorter high (text ∷ rest)
taken_more low_all high_all shorter high rest text g last =
    let low_up : IsRising (shorter ++ text ∷ rest) = rw (append_assoc shorter (text ∷ []) rest) at g.low_rises in
    let below = all_below shorter high text (rising_front high rest g.high_rises) g.apart last in
    record {
      low_rises = low_up;
      high_rises = rising_join high (text ∷ rest) (rising_front high rest g.high_rises) (rising_back shorter (text ∷ rest) low_up)
          (λ a b c d. elim (contains_cases b text rest d) [
            | inl e ↦ subst (λ w. IsBelow a w) e (below a c)
            | inr k ↦ rising_across high rest g.high_rises a b c k
          ]);
      apart = λ t c d. g.apart t (Contains-append_left shorter (text ∷ []) t c) d;
      members = λ t. (
        λ h. elim ((g.members t).0 h) [
          | inl k ↦ elim k [
            | inl c ↦ elim (Contains-push_cases shorter text t c) [
              | inl d ↦ inl (inl d)
              | inr e ↦ inr (subst (λ w. Contains (text ∷ rest) w) e (contains_here text rest))
            ]
            | inr c ↦ inl (inr c)
          ]
          | inr c ↦ inr (contains_later t text rest c)
        ],
        λ h. (g.members t).1 (elim h [
          | inl k ↦ elim k [
            | inl c ↦ inl (inl (Contains-append_left shorter (text ∷ []) t c))
            | inr c ↦ inl (inr c)
          ]
          | inr c ↦ elim (contains_cases t text rest c) [
            | inl e ↦ inl (inl (subst (λ w. Contains (shorter ++ text ∷ []) w) e (Contains-push shorter text)))
            | inr d ↦ inr d
          ]
        ]),
      );
      size = omega (arith, g.size, length_push shorter text);
    }

taken_off : (low_all high_all low high rest shorter kept : List (List ℕ)) (text : List ℕ) → Gathered low_all high_all low high rest
    → IsTakenOff low shorter high kept text → Gathered low_all high_all shorter kept (text ∷ rest)
taken_off low_all high_all low high rest shorter kept text g off =
    rw off.stays (taken_more low_all high_all shorter high rest text (rw off.ended at g) (rw off.ended at off.last))

pub swapped : (low_all high_all low high rest : List (List ℕ)) → Gathered low_all high_all low high rest → Gathered high_all low_all high low rest
swapped low_all high_all low high rest g = record {
  low_rises = g.high_rises;
  high_rises = g.low_rises;
  apart = λ t c d. g.apart t d c;
  members = λ t. (
    λ h. elim ((g.members t).0 (elim h [ inl x ↦ inr x | inr x ↦ inl x ])) [
      | inl k ↦ elim k [ inl x ↦ inl (inr x) | inr x ↦ inl (inl x) ]
      | inr k ↦ inr k
    ],
    λ h. elim ((g.members t).1 (elim h [ inl k ↦ elim k [ inl x ↦ inl (inr x) | inr x ↦ inl (inl x) ] | inr k ↦ inr k ])) [
      | inl x ↦ inr x
      | inr x ↦ inl x
    ],
  );
  size = omega (arith, g.size);
}

-- one text more is taken off
pub taken_from : (low_all high_all low high rest low_left high_left : List (List ℕ)) (text : List ℕ) → Gathered low_all high_all low high rest
    → IsTakenFrom low high low_left high_left text → Gathered low_all high_all low_left high_left (text ∷ rest)
taken_from low_all high_all low high rest low_left high_left text g h =
    elim h [
      | inl off ↦ taken_off low_all high_all low high rest low_left high_left text g off
      | inr off ↦ swapped high_all low_all high_left low_left (text ∷ rest)
          (taken_off high_all low_all high low rest high_left low_left text (swapped low_all high_all low high rest g) off)
    ]

-- before the first
pub gathered_none : (low high : List (List ℕ)) → IsRising low → IsRising high → AreApart low high → Gathered low high low high []
gathered_none low high p q apart = record {
  low_rises = rw (append-nil low) p;
  high_rises = rw (append-nil high) q;
  apart = apart;
  members = λ t. (λ h. inl h, λ h. elim h [ inl k ↦ k | inr c ↦ absurd (contains_none t c) ]);
  size = omega arith;
}

-- when both are empty, what was taken off is the union
pub gathered_all : (low_all high_all rest : List (List ℕ)) → IsRising low_all → IsRising high_all → Gathered low_all high_all [] [] rest → IsUnion low_all high_all rest
gathered_all low_all high_all rest p q g = record {
  first = p;
  second = q;
  rising = g.low_rises;
  members = λ t. (
    λ c. (g.members t).1 (inr c),
    λ h. elim ((g.members t).0 h) [
      | inl k ↦ elim k [ inl c ↦ absurd (contains_none t c) | inr c ↦ absurd (contains_none t c) ]
      | inr c ↦ c
    ],
  );
}

-- the texts of a turned list of vectors
pub texts_of-reverse : (vs : List (Vec ℕ)) → texts_of (reverse vs) ≡ reverse (texts_of vs)
texts_of-reverse [] = refl
texts_of-reverse (v ∷ vs) =
    ap texts_of (reverse-append (v ∷ []) vs)
    ∙ map-append (λ (w : Vec ℕ). w.items) (reverse vs) (v ∷ [])
    ∙ ap (λ (w : List (List ℕ)). w ++ v.items ∷ []) (texts_of-reverse vs)
    ∙ sym (reverse-append (v.items ∷ []) (texts_of vs))

-- what is pushed comes first when the list is turned
pub reverse_push : (vs : List (Vec ℕ)) (v : Vec ℕ) → reverse (texts_of (vs ++ v ∷ [])) ≡ v.items ∷ reverse (texts_of vs)
reverse_push vs v = rw (map_push (λ (w : Vec ℕ). w.items) vs v, reverse-append (texts_of vs) (v.items ∷ [])) refl
