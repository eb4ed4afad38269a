-- Which sets hold a type, one set after another.
use Rattle.std.specs.Int.{w64}
use Rattle.std.specs.Prelude.{◌↔◌, ◌⊎◌, Contains, IsBitSet, IsTrue, bit_or, false, replicate}
use Rattle.std.proofs.Common.{◌≡◌, ℕ, zero, suc, ◌+◌, ◌-◌, ◌*◌, ◌/◌, ◌%◌, ◌^◌, ◌<◌, ◌≤◌, List, [], ◌∷◌, ◌++◌, length, take, get_or, sym, ◌∙◌, ap, subst, inl, inr, refl, arith}
use Rattle.std.proofs.Math.ListN.{get_or-append, get_or-eq_default, set}
use Rattle.std.proofs.Math.Seq.{get_or-append_seam}
use Rattle.std.proofs.lemmas.Bool.{cases_eq, cases_lt}
use Rattle.std.proofs.lemmas.Nat.Bits.{bit_at_set_other, bit_at_set_same}
use Rattle.std.proofs.lemmas.List.{get_or-replicate, get_or_append_left, get_or_default, get_or-set_other, get_or-set_same, length-append, take_all, take_more}
use Rattle.std.proofs.lemmas.List.Elements.{Contains-append_cases, Contains-append_left, Contains-append_right}
use Rattle.cil_base.specs.Lists.{contains_cases, contains_here, contains_none}
use Rattle.cil_rules.proofs.classes_lemmas.BitLemmas.{none_set, set_in_either, set_is_one}
use Rattle.cil_index.specs.declared.memberships.Memberships.{Memberships}
use Rattle.cil_index.specs.Memberships.{AreAtMost, AreFilters, AreMemberships, AreNoted, AreNotedBelow, AreNotedSets, IsAlone, HasBit, IsFilter, IsKnownFor, IsNoted, IsNotedIn, IsNotedSet}
use Rattle.cil_index.specs.Sets.{all_sets, set_of}
use Rattle.cil_index.proofs.SetLemmas.{empty_there, in_one, several_there, small_there}

-- the sets of several types, and those of one, are known for their types
module _ (ones : ℕ) (several sets : List (List ℕ)) (m : Memberships) (is : all_sets ones several ≡ sets) (noted : AreNotedBelow ones several m) where
  place_of : (n : ℕ) → ones ≤ n → suc n - ones - 1 + ones + 1 ≡ suc n
  place_of n ge = omega (arith, ge)

  known_for : (n t : ℕ) → Contains (set_of (all_sets ones several) n) t → IsAlone (all_sets ones several) m n t ⊎ IsKnownFor m t n
  known_for zero t has = absurd (contains_none t (subst (λ l. Contains l t) (empty_there ones several) has))
  known_for (suc n) t has = elim (cases_lt n ones) [
    | inl less ↦ let same : n ≡ t = (in_one n t).0 (subst (λ l. Contains l t) (small_there ones n several less) has) in
        let first = noted.first in
        inl (record { has_number = ap suc same; is_one = small_there ones n several less ∙ ap (λ k. k ∷ []) same; before = omega (arith, less, first) })
    | inr ge ↦ inr (elim (cases_lt (suc n) m.first_large) [
      | inl below ↦ let at : Contains (get_or several (suc n - ones - 1) []) t = subst (λ l. Contains l t) (several_there ones (suc n) several (omega (arith, ge))) has in
          inr (subst (Contains (get_or m.lists.items t [])) (place_of n ge) (noted.each (suc n - ones - 1) t (subst (λ k. k < m.first_large) (sym (place_of n ge)) below) at))
      | inr large ↦ inl large
    ])
  ]

  noted_for : (n t : ℕ) → Contains (get_or m.lists.items t []) n → Contains (set_of (all_sets ones several) n) t
  noted_for n t c =
      let (place, at, member) = noted.only n t c in
      let same : place ≡ n - ones - 1 = omega (arith, at) in
      subst (λ l. Contains l t) (ap (λ k. get_or several k []) same ∙ sym (several_there ones n several (omega (arith, at)))) member

  pub noted_all : AreMemberships sets m
  noted_all = subst (λ l. AreMemberships l m) is (record { known = known_for; noted = noted_for; within = noted.within; filtered = noted.filtered })

-- ---- the list of a type

pub list_there : (lists slice : List (List ℕ)) (t : ℕ) (list : List ℕ) → slice ≡ lists → t < length slice → list ≡ get_or slice t list → list ≡ get_or lists t []
list_there lists slice t list same within is = is ∙ get_or_default slice t list [] within ∙ ap (λ (z : List (List ℕ)). get_or z t []) same

pub list_none : (lists slice : List (List ℕ)) (t : ℕ) → slice ≡ lists → length slice ≤ t → get_or lists t [] ≡ []
list_none lists slice t same past = ap (λ (z : List (List ℕ)). get_or z t []) (sym same) ∙ get_or-eq_default slice [] past

-- a filter that is not there has no bit
pub no_word : (filters slice : List (List ℕ)) (t n : ℕ) → slice ≡ filters → length slice ≤ t → IsTrue false ↔ HasBit (get_or filters t []) n
no_word filters slice t n same past = (
  λ yes_. absurd cc,
  λ has. absurd (none_set (n % 64) (subst (λ (l : List ℕ). HasBit l n) (list_none filters slice t same past) has)),
)

-- one set more
pub noted_more : (ones : ℕ) (several : List (List ℕ)) (k : ℕ) (set : List ℕ) (number : ℕ) (old new : List (List ℕ)) → set ≡ get_or several k [] → number ≡ k + ones + 1 → AreNoted ones several k old
    → IsNotedIn old set number new → AreNoted ones several (k + 1) new
noted_more ones several k set number old new is is_number noted step = record {
  each = λ place t below has. elim (cases_lt place k) [
    | inl less ↦ step.stays t (place + ones + 1) (noted.each place t less has)
    | inr ge ↦ let same : place ≡ k = omega (arith, below, ge) in
        let added : Contains (get_or new t []) number = step.added t (subst (λ l. Contains l t) (sym is) (subst (λ p. Contains (get_or several p []) t) same has)) in
        subst (Contains (get_or new t [])) (is_number ∙ ap (λ p. p + ones + 1) (sym same)) added
  ];
  only = λ n t c. elim (step.only t n c) [
    | inl d ↦ noted.only n t d
    | inr d ↦ (k, d.1 ∙ is_number, subst (λ l. Contains l t) is d.0)
  ];
  below = λ t n c. elim (step.only t n c) [
    | inl d ↦ let le = noted.below t n d in omega (arith, le)
    | inr d ↦ let same = d.1 in omega (arith, same, is_number)
  ];
}

pub at_most_next : (ones k number : ℕ) (lists : List (List ℕ)) → number ≡ k + ones + 1 → AreAtMost (k + ones) lists → AreAtMost number lists
at_most_next ones k number lists is below t n c = let le = below t n c in omega (arith, le, is)

-- no list has a number
pub none_noted : (ones : ℕ) (several lists : List (List ℕ)) → lists ≡ [] → AreNoted ones several 0 lists
none_noted ones several lists none = record {
  each = λ place t below has. absurd (omega (arith, below));
  only = λ n t c. absurd (contains_none n (subst (λ (l : List (List ℕ)). Contains (get_or l t []) n) none c));
  below = λ t n c. absurd (contains_none n (subst (λ (l : List (List ℕ)). Contains (get_or l t []) n) none c));
}

-- all below the first large one
pub noted_below : (ones : ℕ) (several : List (List ℕ)) (k small : ℕ) (m : Memberships) → small ≡ k → m.first_several ≡ ones + 1 → m.first_large ≡ small + ones + 1 → AreNoted ones several k m.lists.items
    → AreFilters m.lists.items m.filters.items → AreNotedBelow ones several m
noted_below ones several k small m end first large noted filtered = record {
  first = first;
  within = λ t n c. let (place, is, _) = noted.only n t c in let most = noted.below t n c in record { from = omega (arith, first, is); below = omega (arith, most, large, end) };
  each = λ place t below has. noted.each place t (omega (arith, below, large, end)) has;
  only = noted.only;
  filtered = filtered;
}

-- ---- one set

pub none_added : (old : List (List ℕ)) (number : ℕ) → IsNotedIn old [] number old
none_added old number = record { stays = λ u n c. c; added = λ t c. absurd (contains_none t c); only = λ u n c. inl c }

pub added_more : (old mid new : List (List ℕ)) (types : List ℕ) (i t number : ℕ) → i < length types → t ≡ get_or types i t → IsNotedIn old (take i types) number mid → IsNoted mid t number new
    → IsNotedIn old (take (i + 1) types) number new
added_more old mid new types i t number within is so_far step = record {
  stays = λ u n c. step.stays u n (so_far.stays u n c);
  added = λ u c. elim (Contains-append_cases (take i types) (t ∷ []) u (subst (λ l. Contains l u) one_more c)) [
    | inl d ↦ step.stays u number (so_far.added u d)
    | inr d ↦ elim (contains_cases u t [] d) [ inl e ↦ subst (λ z. Contains (get_or new z []) number) e step.added | inr m ↦ absurd (contains_none u m) ]
  ];
  only = λ u n c. elim (step.only u n c) [
    | inl d ↦ elim (so_far.only u n d) [
      | inl o ↦ inl o
      | inr o ↦ inr (subst (λ l. Contains l u) (sym one_more) (Contains-append_left (take i types) (t ∷ []) u o.0), o.1)
    ]
    | inr d ↦ inr (subst (λ l. Contains l u) (sym one_more) (Contains-append_right (take i types) (t ∷ []) u (subst (Contains (t ∷ [])) (sym d.0) (contains_here t []))), d.1)
  ];
}
  where
    one_more : take (i + 1) types ≡ take i types ++ t ∷ []
    one_more = take_more types i t within ∙ ap (λ z. take i types ++ z ∷ []) (sym is)

pub at_most_added : (old new : List (List ℕ)) (types : List ℕ) (number : ℕ) → AreAtMost number old → IsNotedIn old types number new → AreAtMost number new
at_most_added old new types number below step t n c = elim (step.only t n c) [ inl d ↦ below t n d | inr d ↦ let same = d.1 in omega (arith, same) ]

pub added_all : (old new : List (List ℕ)) (types set : List ℕ) (i number : ℕ) → length types ≤ i → types ≡ set → IsNotedIn old (take i types) number new → IsNotedIn old set number new
added_all old new types set i number over is noted = subst (λ l. IsNotedIn old l number new) (take_all i types over ∙ is) noted

-- ---- one type

order : (j at : ℕ) → (j < at) ⊎ ((j ≡ at) ⊎ (at < j))
order j at = grind arith

pub pushed_is : (xs ys list : List ℕ) (n : ℕ) → ys ≡ xs → list ≡ ys ++ n ∷ [] → (v : ℕ) → Contains list v ↔ (Contains xs v ⊎ (v ≡ n))
pushed_is xs ys list n same push v = (
  λ c. elim (Contains-append_cases xs (n ∷ []) v (subst (λ l. Contains l v) (push ∙ ap (λ z. z ++ n ∷ []) same) c)) [
    | inl d ↦ inl d
    | inr d ↦ elim (contains_cases v n [] d) [ inl e ↦ inr (sym e) | inr none ↦ absurd (contains_none v none) ]
  ],
  λ c. subst (λ l. Contains l v) (sym (push ∙ ap (λ z. z ++ n ∷ []) same)) (elim c [
    | inl d ↦ Contains-append_left xs (n ∷ []) v d
    | inr e ↦ Contains-append_right xs (n ∷ []) v (subst (Contains (n ∷ [])) (sym e) (contains_here n []))
  ]),
)

pub noted_at : (old mid new : List (List ℕ)) (t number : ℕ) (list : List ℕ) → ((u : ℕ) → get_or mid u [] ≡ get_or old u []) → t < length mid → new ≡ set mid t list
    → ((v : ℕ) → Contains list v ↔ (Contains (get_or mid t []) v ⊎ (v ≡ number))) → IsNoted old t number new
noted_at old mid new t number list same within made are = record {
  stays = λ u n c. subst (λ l. Contains (get_or l u []) n) (sym made) (stays u n (subst (λ l. Contains l n) (sym (same u)) c) (order u t));
  added = subst (λ l. Contains (get_or l t []) number) (sym made) (subst (λ l. Contains l number) (sym (get_or-set_same mid t list [] within)) ((are number).1 (inr refl)));
  only = λ u n c. only u n (subst (λ l. Contains (get_or l u []) n) made c) (order u t);
}
  where
    stays : (u n : ℕ) → Contains (get_or mid u []) n → (u < t) ⊎ ((u ≡ t) ⊎ (t < u)) → Contains (get_or (set mid t list) u []) n
    stays u n c (inl less) = subst (λ l. Contains l n) (sym (get_or-set_other mid t u list [] (λ e. omega (arith, e, less)))) c
    stays u n c (inr (inr more)) = subst (λ l. Contains l n) (sym (get_or-set_other mid t u list [] (λ e. omega (arith, e, more)))) c
    stays u n c (inr (inl e)) = subst (λ w. Contains (get_or (set mid t list) w []) n) (sym e)
        (subst (λ l. Contains l n) (sym (get_or-set_same mid t list [] within)) ((are n).1 (inl (subst (λ w. Contains (get_or mid w []) n) e c))))

    only : (u n : ℕ) → Contains (get_or (set mid t list) u []) n → (u < t) ⊎ ((u ≡ t) ⊎ (t < u)) → Contains (get_or old u []) n ⊎ ((u ≡ t) × (n ≡ number))
    only u n c (inl less) = inl (subst (λ l. Contains l n) (get_or-set_other mid t u list [] (λ e. omega (arith, e, less)) ∙ same u) c)
    only u n c (inr (inr more)) = inl (subst (λ l. Contains l n) (get_or-set_other mid t u list [] (λ e. omega (arith, e, more)) ∙ same u) c)
    only u n c (inr (inl e)) = elim ((are n).0 (subst (λ l. Contains l n) (ap (λ w. get_or (set mid t list) w []) e ∙ get_or-set_same mid t list [] within) c)) [
      | inl d ↦ inl (subst (λ l. Contains l n) (same t ∙ ap (λ w. get_or old w []) (sym e)) d)
      | inr d ↦ inr (e, d)
    ]

-- an empty list more changes no list
pub grown : (lists more : List (List ℕ)) (added : List ℕ) → added ≡ [] → more ≡ lists ++ added ∷ [] → (t : ℕ) → get_or more t [] ≡ get_or lists t []
grown lists more added none made t = ap (λ (l : List (List ℕ)). get_or l t []) (made ∙ ap (λ (z : List ℕ). lists ++ z ∷ []) none) ∙ at (order t (length lists))
  where
    at : (t < length lists) ⊎ ((t ≡ length lists) ⊎ (length lists < t)) → get_or (lists ++ [] ∷ []) t [] ≡ get_or lists t []
    at (inl less) = get_or-append lists ([] ∷ []) [] t less
    at (inr (inl e)) = ap (λ k. get_or (lists ++ [] ∷ []) k []) e ∙ get_or-append_seam lists [] [] [] ∙ sym (get_or-eq_default lists [] (omega (arith, e)))
    at (inr (inr more)) = get_or-eq_default (lists ++ [] ∷ []) [] (let size = length-append lists ([] ∷ []) in omega (arith, size, more)) ∙ sym (get_or-eq_default lists [] (omega (arith, more)))

-- ---- bits

bit_added : (bits n : ℕ) → IsBitSet (bit_or bits (1 * 2 ^ (n % 64) % 2 ^ 64)) (n % 64)
bit_added bits n = (set_is_one (bit_or bits (1 * 2 ^ (n % 64) % 2 ^ 64)) (n % 64)).1 (bit_at_set_same w64 bits (n % 64) (omega arith))

pub bit_there : (words : List ℕ) (number word : ℕ) → number / 64 % 8 < length words → HasBit (set words (number / 64 % 8) (bit_or word (1 * 2 ^ (number % 64) % 2 ^ 64))) number
bit_there words number word within =
    subst (λ k. IsBitSet k (number % 64)) (sym (get_or-set_same words (number / 64 % 8) (bit_or word (1 * 2 ^ (number % 64) % 2 ^ 64)) 0 within)) (bit_added word number)

pub bit_stays : (words : List ℕ) (number word : ℕ) → word ≡ get_or words (number / 64 % 8) 0 → number / 64 % 8 < length words
    → (n : ℕ) → HasBit words n → HasBit (set words (number / 64 % 8) (bit_or word (1 * 2 ^ (number % 64) % 2 ^ 64))) n
bit_stays words number word is within n has = elim (cases_eq (n / 64 % 8) (number / 64 % 8)) [
  | inl same ↦ subst (λ k. IsBitSet (get_or (set words (number / 64 % 8) (bit_or word (1 * 2 ^ (number % 64) % 2 ^ 64))) k 0) (n % 64)) (sym same)
      (subst (λ k. IsBitSet k (n % 64)) (sym (get_or-set_same words (number / 64 % 8) (bit_or word (1 * 2 ^ (number % 64) % 2 ^ 64)) 0 within))
      ((set_in_either word (1 * 2 ^ (number % 64) % 2 ^ 64) (n % 64)).1 (inl (subst (λ k. IsBitSet k (n % 64)) (ap (λ k. get_or words k 0) same ∙ sym is) has))))
  | inr other ↦ subst (λ k. IsBitSet k (n % 64)) (sym (get_or-set_other words (number / 64 % 8) (n / 64 % 8) (bit_or word (1 * 2 ^ (number % 64) % 2 ^ 64)) 0 other)) has
]

-- a bit that was not there is that of the number
pub bit_only : (words : List ℕ) (number word : ℕ) → word ≡ get_or words (number / 64 % 8) 0 → number / 64 % 8 < length words
    → (n : ℕ) → HasBit (set words (number / 64 % 8) (bit_or word (1 * 2 ^ (number % 64) % 2 ^ 64))) n → HasBit words n ⊎ (number % 512 ≡ n % 512)
bit_only words number word is within n has = elim (cases_eq (n / 64 % 8) (number / 64 % 8)) [
  | inl same ↦
      let made : IsBitSet (bit_or word (1 * 2 ^ (number % 64) % 2 ^ 64)) (n % 64) =
      subst (λ k. IsBitSet k (n % 64)) (get_or-set_same words (number / 64 % 8) (bit_or word (1 * 2 ^ (number % 64) % 2 ^ 64)) 0 within)
      (subst (λ k. IsBitSet (get_or (set words (number / 64 % 8) (bit_or word (1 * 2 ^ (number % 64) % 2 ^ 64))) k 0) (n % 64)) same has) in
      elim (cases_eq (n % 64) (number % 64)) [
        | inl e ↦ inr (omega (arith, same, e))
        | inr other ↦ inl (subst (λ k. IsBitSet k (n % 64)) (is ∙ ap (λ k. get_or words k 0) (sym same))
            ((set_is_one word (n % 64)).1 (sym (bit_at_set_other w64 word (number % 64) (omega arith) (n % 64) other) ∙ (set_is_one (bit_or word (1 * 2 ^ (number % 64) % 2 ^ 64)) (n % 64)).0 made)))
      ]
  | inr other ↦ inl (subst (λ k. IsBitSet k (n % 64)) (get_or-set_other words (number / 64 % 8) (n / 64 % 8) (bit_or word (1 * 2 ^ (number % 64) % 2 ^ 64)) 0 other) has)
]

-- no bit is there
pub no_bit : (words : List ℕ) → words ≡ replicate 8 0 → (n : ℕ) → HasBit words n → ⊥
no_bit words none n has = none_set (n % 64) (subst (λ k. IsBitSet k (n % 64)) (ap (λ (l : List ℕ). get_or l (n / 64 % 8) 0) none ∙ get_or-replicate 8 (n / 64 % 8) 0 0 (omega arith)) has)

-- the words have the bit of each of the first numbers, and no other
pub record IsFirstFilter (numbers : List ℕ) (i : ℕ) (words : List ℕ) : Type 0 where
  pub all : (k : ℕ) → k < i → HasBit words (get_or numbers k 0)
  pub only : (n : ℕ) → HasBit words n → (k : ℕ) × (k < i) × (get_or numbers k 0 % 512 ≡ n % 512)

pub filter_none : (numbers words : List ℕ) → words ≡ replicate 8 0 → IsFirstFilter numbers 0 words
filter_none numbers words none = record { all = λ k below. absurd (omega (arith, below)); only = λ n has. absurd (no_bit words none n has) }

pub filter_more : (numbers : List ℕ) (i number : ℕ) (old new : List ℕ) → i < length numbers → number ≡ get_or numbers i number → HasBit new number → ((n : ℕ) → HasBit old n → HasBit new n)
    → ((n : ℕ) → HasBit new n → HasBit old n ⊎ (number % 512 ≡ n % 512)) → IsFirstFilter numbers i old → IsFirstFilter numbers (i + 1) new
filter_more numbers i number old new within is added stays only so_far =
    let here : number ≡ get_or numbers i 0 = is ∙ get_or_default numbers i number 0 within in record {
      all = λ k below. elim (cases_lt k i) [
        | inl less ↦ stays (get_or numbers k 0) (so_far.all k less)
        | inr ge ↦ let same : i ≡ k = omega (arith, ge, below) in subst (HasBit new) (here ∙ ap (λ j. get_or numbers j 0) same) added
      ];
      only = λ n has. elim (only n has) [
        | inl before ↦ let (k, less, like) = so_far.only n before in (k, omega (arith, less), like)
        | inr like ↦ (i, omega arith, ap (λ j. j % 512) (sym here) ∙ like)
      ];
    }

pub filter_all : (numbers : List ℕ) (i : ℕ) (words : List ℕ) → length numbers ≤ i → i ≤ length numbers → IsFirstFilter numbers i words → IsFilter numbers words
filter_all numbers i words over within so_far = record {
  all = λ n (k, less, at). subst (HasBit words) (get_or_default numbers k 0 n less ∙ at) (so_far.all k (omega (arith, less, over)));
  only = λ n has. let (k, less, like) = so_far.only n has in (get_or numbers k 0, (k, omega (arith, less, within), get_or_default numbers k (get_or numbers k 0) 0 (omega (arith, less, within))), like);
}

-- a type whose filter is not there is in no set
pub no_filter : (lists filters : List (List ℕ)) (t : ℕ) (words : List ℕ) → words ≡ replicate 8 0 → AreFilters lists filters → get_or filters t [] ≡ [] → IsFilter (get_or lists t []) words
no_filter lists filters t words empty are none = record {
  all = λ n has. absurd (none_set (n % 64) (subst (λ (l : List ℕ). HasBit l n) none ((are t).all n has)));
  only = λ n has. absurd (no_bit words empty n has);
}

-- the first lists have their bits
abbrev pub AreFirstFilters : List (List ℕ) → ℕ → List (List ℕ) → Type 0
AreFirstFilters lists i filters = (length filters ≡ i) × ((t : ℕ) → t < i → IsFilter (get_or lists t []) (get_or filters t []))

pub no_filters : (lists filters : List (List ℕ)) → filters ≡ [] → AreFirstFilters lists 0 filters
no_filters lists filters e = (ap (λ (z : List (List ℕ)). length z) e, λ t below. absurd (omega (arith, below)))

pub filters_more : (lists : List (List ℕ)) (i : ℕ) (numbers words : List ℕ) (old new : List (List ℕ)) → numbers ≡ get_or lists i [] → IsFilter numbers words → new ≡ old ++ words ∷ []
    → AreFirstFilters lists i old → AreFirstFilters lists (i + 1) new
filters_more lists i numbers words old new is filter push (size, so_far) = (
  ap (λ (z : List (List ℕ)). length z) push ∙ length-append old (words ∷ []) ∙ ap (λ k. k + 1) size,
  λ t below. elim (cases_lt t i) [
    | inl less ↦ let at : get_or new t [] ≡ get_or old t [] = ap (λ z. get_or z t []) push ∙ get_or_append_left old (words ∷ []) [] t (omega (arith, less, size)) in
        subst (IsFilter (get_or lists t [])) (sym at) (so_far t less)
    | inr ge ↦ let same : i ≡ t = omega (arith, ge, below) in
        let at : get_or new i [] ≡ words = ap (λ z. get_or z i []) push ∙ ap (λ k. get_or (old ++ words ∷ []) k []) (sym size) ∙ get_or-append_seam old words [] [] in
        subst (λ k. IsFilter (get_or lists k []) (get_or new k [])) same (subst (IsFilter (get_or lists i [])) (sym at) (subst (λ l. IsFilter l words) is filter))
  ],
)

pub filters_all : (lists : List (List ℕ)) (i : ℕ) (filters : List (List ℕ)) → length lists ≤ i → i ≤ length lists → AreFirstFilters lists i filters → AreFilters lists filters
filters_all lists i filters over within (size, so_far) t = elim (cases_lt t (length lists)) [
  | inl less ↦ so_far t (omega (arith, less, over))
  | inr past ↦ record {
    all = λ n has. absurd (contains_none n (subst (λ l. Contains l n) (get_or-eq_default lists [] past) has));
    only = λ n has. absurd (none_set (n % 64) (subst (λ (l : List ℕ). HasBit l n) (get_or-eq_default filters [] (omega (arith, past, size, within))) has));
  }
]

-- ---- where each set has a bit of its own

pub own_bit : (m : Memberships) (t set : ℕ) → m.first_large ≤ m.first_several + 512 → IsNotedSet m set → AreNotedSets m → AreFilters m.lists.items m.filters.items
    → HasBit (get_or m.filters.items t []) set → Contains (get_or m.lists.items t []) set
own_bit m t set few noted within are bit =
    let (k, listed, like) = (are t).only set bit in
    let other = within t k listed in
    let from = noted.from in
    let below = noted.below in
    let from_other = other.from in
    let below_other = other.below in
    let same : k ≡ set = omega (arith, like, few, from, below, from_other, below_other) in subst (Contains (get_or m.lists.items t [])) same listed
