-- A text put at its place in a rising list.
use Rattle.std.proofs.Common.{◌≡◌, ℕ, ◌+◌, ◌<◌, ◌≤◌, Bool, true, false, List, [], ◌∷◌, ◌++◌, length, take, drop, get_or, refl, sym, ◌∙◌, subst, inl, inr, arith}
use Rattle.std.specs.Prelude.{Contains, ◌↔◌, Result, Ok, Err, OnOk, IfErr, IsTrue, is_ok}
use Rattle.std.specs.Global.{Vec}
use Rattle.std.specs.declared.cmp.Ordering.{Ordering}
use Rattle.std.specs.declared.cmp.Ordering.TheVariants.{Less, Equal, Greater}
use Rattle.std.specs.Ordering.{is_lt}
use Rattle.std.specs.List.{insert}
use Rattle.std.specs.List.Sorted.{IsPartitionedBy, IsPartitionPoint}
use Rattle.std.proofs.lemmas.Bool.{cases_lt}
use Rattle.std.proofs.lemmas.List.{take-append-drop, get_or-take, get_or-drop, length-take, length-drop, map-append, take-map, drop-map, get_or-map}
use Rattle.std.proofs.lemmas.List.Elements.{Contains-append_left, Contains-append_right, Contains-append_cases}
use Rattle.cil_base.specs.Lists.{text_cmp, contains_here, contains_later, contains_cases, contains_none}
use Rattle.cil_modset.specs.Modules.{IsBelow, IsRising, IsUnion, IsPlaceOf, module_of, texts_of}
use Rattle.cil_modset.proofs.RisingLemmas.{compared, below_trans, not_below_itself, rising_join, rising_front, rising_back, rising_across, rising_one, rising_at, number_of_member, length-texts_of}

-- the texts before a place come before the text
front_below : (xs : List (List ℕ)) (text : List ℕ) (place : ℕ) → IsPlaceOf xs text place → (x : List ℕ) → Contains (take place xs) x → IsBelow x text
front_below xs text place at x c =
    let (k, within, is) = number_of_member (take place xs) x c in
    let less : k < place = omega (arith, length-take place xs) in
    subst (λ w. IsBelow w text) (sym (get_or-take place xs k [] less) ∙ is) (at.before k less)

-- the texts from a place on come behind it
back_above : (xs : List (List ℕ)) (text : List ℕ) (place : ℕ) → IsPlaceOf xs text place → (x : List ℕ) → Contains (drop place xs) x → IsBelow text x
back_above xs text place at x c =
    let (k, within, is) = number_of_member (drop place xs) x c in
    let less : place + k < length xs = omega (arith, length-drop place xs) in
    subst (λ w. IsBelow text w) (sym (get_or-drop place xs k []) ∙ is) (at.behind (place + k) (omega arith) less)

-- put at its place, the text makes the union
pub insert_union : (xs : List (List ℕ)) (text : List ℕ) (place : ℕ) → IsRising xs → IsPlaceOf xs text place → IsUnion xs (text ∷ []) (insert xs place text)
insert_union xs text place rising at =
    let whole : IsRising (take place xs ++ drop place xs) = rw (take-append-drop place xs) rising in
    let back : IsRising (text ∷ drop place xs) =
    rising_join (text ∷ []) (drop place xs) (rising_one text) (rising_back (take place xs) (drop place xs) whole)
    (λ a b c d. elim (contains_cases a text [] c) [
      | inl e ↦ subst (λ w. IsBelow w b) e (back_above xs text place at b d)
      | inr k ↦ absurd (contains_none a k)
    ]) in
    record {
      first = rising;
      second = rising_one text;
      rising = rising_join (take place xs) (text ∷ drop place xs) (rising_front (take place xs) (drop place xs) whole) back
          (λ a b c d. elim (contains_cases b text (drop place xs) d) [
            | inl e ↦ subst (λ w. IsBelow a w) e (front_below xs text place at a c)
            | inr k ↦ rising_across (take place xs) (drop place xs) whole a b c k
          ]);
      members = λ t. (
        λ c. elim (Contains-append_cases (take place xs) (text ∷ drop place xs) t c) [
          | inl d ↦ inl (rw (take-append-drop place xs) at (Contains-append_left (take place xs) (drop place xs) t d))
          | inr d ↦ elim (contains_cases t text (drop place xs) d) [
            | inl e ↦ inr (subst (λ w. Contains (text ∷ []) w) e (contains_here text []))
            | inr k ↦ inl (rw (take-append-drop place xs) at (Contains-append_right (take place xs) (drop place xs) t k))
          ]
        ],
        λ h. elim h [
          | inl d ↦ let split : Contains (take place xs ++ drop place xs) t = rw (take-append-drop place xs) d in
              elim (Contains-append_cases (take place xs) (drop place xs) t split) [
                | inl k ↦ Contains-append_left (take place xs) (text ∷ drop place xs) t k
                | inr k ↦ Contains-append_right (take place xs) (text ∷ drop place xs) t (contains_later t text (drop place xs) k)
              ]
          | inr d ↦ elim (contains_cases t text [] d) [
            | inl e ↦ Contains-append_right (take place xs) (text ∷ drop place xs) t
                (subst (λ w. Contains (text ∷ drop place xs) w) e (contains_here text (drop place xs)))
            | inr k ↦ absurd (contains_none t k)
          ]
        ],
      );
    }

-- a text with a place is not in the list
pub place_absent : (xs : List (List ℕ)) (text : List ℕ) (place : ℕ) → IsPlaceOf xs text place → Contains xs text → ⊥
place_absent xs text place at c =
    let (k, within, is) = number_of_member xs text c in
    elim (cases_lt k place) [
      | inl lt ↦ not_below_itself text (subst (λ w. IsBelow w text) is (at.before k lt))
      | inr le ↦ not_below_itself text (subst (λ w. IsBelow text w) is (at.behind k le within))
    ]

-- the texts in memory, with one more at a place
pub insert-texts_of : (vs : List (Vec ℕ)) (place : ℕ) (v : Vec ℕ) → texts_of (insert vs place v) ≡ insert (texts_of vs) place v.items
insert-texts_of vs place v =
    map-append (λ (w : Vec ℕ). w.items) (take place vs) (v ∷ drop place vs)
    ∙ rw (take-map (λ (w : Vec ℕ). w.items) place vs, drop-map (λ (w : Vec ℕ). w.items) place vs) refl

-- whether a vector's text comes before another
abbrev pub comes_before : List ℕ → Vec ℕ → Bool
comes_before text v = is_lt (text_cmp v.items text)

lt_is : (o : Ordering) → is_lt o ≡ true → o ≡ Less
lt_is Less e = refl
lt_is Equal e = absurd cc
lt_is Greater e = absurd cc

is_lt_from : (o : Ordering) → o ≡ Less → is_lt o ≡ true
is_lt_from Less e = refl
is_lt_from Equal e = absurd cc
is_lt_from Greater e = absurd cc

vector_at : (vs : List (Vec ℕ)) (i : ℕ) (d : Vec ℕ) → i < length vs → (get_or vs i d).items ≡ module_of (texts_of vs) i
vector_at vs i d within = sym (get_or-map (λ (w : Vec ℕ). w.items) vs i d [] within)

pub place_parted : (vs : List (Vec ℕ)) (text : List ℕ) → IsRising (texts_of vs) → IsPartitionedBy (comes_before text) vs
place_parted vs text rising i j d le within e =
    let less : IsBelow (module_of (texts_of vs) j) text =
    rw (vector_at vs j d within) at (lt_is (text_cmp (get_or vs j d).items text) e) in
    let at_i : (get_or vs i d).items ≡ module_of (texts_of vs) i = vector_at vs i d (omega arith) in
    is_lt_from (text_cmp (get_or vs i d).items text) (rw at_i (elim (cases_lt i j) [
      | inl lt ↦ below_trans (module_of (texts_of vs) i) (module_of (texts_of vs) j) text
          (rising_at (texts_of vs) i j rising lt (omega (arith, length-texts_of vs))) less
      | inr ge ↦ let same : j ≡ i = omega arith in subst (λ (k : ℕ). IsBelow (module_of (texts_of vs) k) text) same less
    ]))

place_with : (vs : List (Vec ℕ)) (text : List ℕ) (place : ℕ) (d : Vec ℕ) → IsRising (texts_of vs) → place ≤ length vs
    → IsPartitionPoint (λ v. comes_before text v ≡ true) (λ v. comes_before text v ≡ false) vs place
    → (place < length vs → module_of (texts_of vs) place ≡ text → ⊥) → IsPlaceOf (texts_of vs) text place
place_with vs text place d rising within point differs = record {
  within = omega (arith, length-texts_of vs);
  before = λ k lt. rw (vector_at vs k d (omega arith)) at (lt_is (text_cmp (get_or vs k d).items text) (point.0 k d (omega arith) lt));
  behind = λ k le less.
      let size : length (texts_of vs) ≡ length vs = length-texts_of vs in
      let first : IsBelow text (module_of (texts_of vs) place) = elim (compared text (module_of (texts_of vs) place)) [
        | inl p ↦ p
        | inr q ↦ elim q [
          | inl e ↦ absurd (differs (omega arith) (sym e))
          | inr p ↦ let yes = is_lt_from (text_cmp (get_or vs place d).items text) (rw (vector_at vs place d (omega arith)) p) in
              let no = point.1 place d (omega arith) (omega arith) in absurd (cc (yes, no))
        ]
      ] in
      elim (cases_lt place k) [
        | inl lt ↦ below_trans text (module_of (texts_of vs) place) (module_of (texts_of vs) k) first (rising_at (texts_of vs) place k rising lt less)
        | inr ge ↦ let same : place ≡ k = omega arith in subst (λ (j : ℕ). IsBelow text (module_of (texts_of vs) j)) same first
      ];
}

-- where the partition ends and the text does not stand, it has its place
pub place_is : (vs : List (Vec ℕ)) (text : List ℕ) (place : ℕ) → IsRising (texts_of vs) → place ≤ length vs
    → IsPartitionPoint (λ v. comes_before text v ≡ true) (λ v. comes_before text v ≡ false) vs place
    → (place < length vs → module_of (texts_of vs) place ≡ text → ⊥) → IsPlaceOf (texts_of vs) text place
place_is [] text place rising within point differs = record {
  within = within;
  before = λ k lt. absurd (omega (arith, within));
  behind = λ k le less. absurd (omega (arith, less));
}
place_is (v ∷ vs) text place rising within point differs = place_with (v ∷ vs) text place v rising within point differs

-- whether a text has a place that is found says whether it is in the list
pub found_or_absent : (xs : List (List ℕ)) (text : List ℕ) (r : Result ℕ ℕ) → OnOk r (Contains xs text) → IfErr r (IsPlaceOf xs text)
    → IsTrue (is_ok r) ↔ Contains xs text
found_or_absent xs text (Ok i) found absent = (λ e. found, λ c. refl)
found_or_absent xs text (Err i) found absent = (λ e. absurd cc, λ c. absurd (place_absent xs text i absent c))
