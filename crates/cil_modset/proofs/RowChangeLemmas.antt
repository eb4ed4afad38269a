-- Texts in rows: a row that gets a text, a row that is parted, and all rows made one.
use Rattle.std.proofs.Common.{◌≡◌, ℕ, ◌+◌, ◌<◌, ◌≤◌, List, [], ◌∷◌, ◌++◌, length, get_or, set, take, drop, refl, sym, ◌∙◌, ap, subst, inl, inr, arith}
use Rattle.cil_sexpr.specs.declared.fault.ReadError.{ReadError}
use Rattle.std.proofs.lemmas.Result.{on_err_weaker}
use Rattle.std.specs.Prelude.{Bool, true, false, Result, Ok, Err, Contains, All}
use Rattle.std.specs.Global.{Vec}
use Rattle.std.specs.List.{insert}
use Rattle.std.proofs.lemmas.List.{append_assoc, drop_more, take_more_set, drop-set-lt, map-append, length-append}
use Rattle.std.proofs.lemmas.List.Concat.{flat_map-append}
use Rattle.std.proofs.lemmas.List.Elements.{All-cons, All-set, All-append, All-take, All-drop, Contains-append_left, Contains-append_right, Contains-append_cases}
use Rattle.cil_base.specs.Lists.{contains_cases, contains_none}
use Rattle.cil_modset.specs.Modules.{IsBelow, IsRising, IsUnion, texts_of}
use Rattle.cil_modset.specs.Rows.{joined, IsFilled, AreInOrder, IsHomeOf, IsOffered}
use Rattle.cil_modset.proofs.RisingLemmas.{rising_join, rising_front, rising_back, rising_across, length-texts_of}
use Rattle.cil_modset.proofs.RowLemmas.{row_of, joined_at, joined_set, joined_more, home_contains}

-- ---- one text more

-- a text that comes to a part in the middle, where all in front is before it and all behind is behind it
pub union_within : (front part back new : List (List ℕ)) (text : List ℕ) → IsRising (front ++ (part ++ back))
    → ((t : List ℕ) → Contains front t → IsBelow t text) → ((t : List ℕ) → Contains back t → IsBelow text t)
    → IsUnion part (text ∷ []) new → IsUnion (front ++ (part ++ back)) (text ∷ []) (front ++ (new ++ back))
union_within front part back new text rising before behind union = record {
  first = rising;
  second = union.second;
  rising = rising_join front (new ++ back) (rising_front front (part ++ back) rising)
      (rising_join new back union.rising (rising_back part back (rising_back front (part ++ back) rising))
      (λ x y c d. elim ((union.members x).0 c) [
        | inl e ↦ rising_across part back (rising_back front (part ++ back) rising) x y e d
        | inr e ↦ elim (contains_cases x text [] e) [
          | inl same ↦ subst (λ (w : List ℕ). IsBelow w y) same (behind y d)
          | inr none ↦ absurd (contains_none x none)
        ]
      ]))
      (λ x y c d. elim (Contains-append_cases new back y d) [
        | inr f ↦ rising_across front (part ++ back) rising x y c (Contains-append_right part back y f)
        | inl e ↦ elim ((union.members y).0 e) [
          | inl f ↦ rising_across front (part ++ back) rising x y c (Contains-append_left part back y f)
          | inr f ↦ elim (contains_cases y text [] f) [
            | inl same ↦ subst (λ (w : List ℕ). IsBelow x w) same (before x c)
            | inr none ↦ absurd (contains_none y none)
          ]
        ]
      ]);
  members = λ t. (
    λ c. elim (Contains-append_cases front (new ++ back) t c) [
      | inl a ↦ inl (Contains-append_left front (part ++ back) t a)
      | inr b ↦ elim (Contains-append_cases new back t b) [
        | inl e ↦ elim ((union.members t).0 e) [
          | inl f ↦ inl (Contains-append_right front (part ++ back) t (Contains-append_left part back t f))
          | inr f ↦ inr f
        ]
        | inr e ↦ inl (Contains-append_right front (part ++ back) t (Contains-append_right part back t e))
      ]
    ],
    λ h. elim h [
      | inl c ↦ elim (Contains-append_cases front (part ++ back) t c) [
        | inl a ↦ Contains-append_left front (new ++ back) t a
        | inr b ↦ Contains-append_right front (new ++ back) t (elim (Contains-append_cases part back t b) [
          | inl e ↦ Contains-append_left new back t ((union.members t).1 (inl e))
          | inr e ↦ Contains-append_right new back t e
        ])
      ]
      | inr c ↦ Contains-append_right front (new ++ back) t (Contains-append_left new back t ((union.members t).1 (inr c)))
    ],
  );
}

-- the row of its place gets the text
pub home_union : (rows : List (Vec (Vec ℕ))) (home : ℕ) (d row : Vec (Vec ℕ)) (text : List ℕ) → IsRising (joined rows) → IsHomeOf rows text home
    → IsUnion (row_of rows home d) (text ∷ []) (texts_of row.items) → IsUnion (joined rows) (text ∷ []) (joined (set rows home row))
home_union rows home d row text rising is union =
    rw (joined_set rows home row is.within, joined_at rows home d is.within)
    (union_within (joined (take home rows)) (row_of rows home d) (joined (drop (home + 1) rows)) (texts_of row.items) text
    (rw (joined_at rows home d is.within) at rising) is.before is.behind union)

pub length_set : (rows : List (Vec (Vec ℕ))) (k : ℕ) (d row : Vec (Vec ℕ)) → k < length rows
    → length (texts_of row.items) ≡ length (row_of rows k d) + 1 → length (joined (set rows k row)) ≡ length (joined rows) + 1
length_set rows k d row h one =
    let front = joined (take k rows) in
    let back = joined (drop (k + 1) rows) in
    let new = ap length (joined_set rows k row h) ∙ length-append front (texts_of row.items ++ back) in
    let old = ap length (joined_at rows k d h) ∙ length-append front (row_of rows k d ++ back) in
    omega (arith, new, old, one, length-append (texts_of row.items) back, length-append (row_of rows k d) back)

-- a row in the place of one with the same texts
pub joined_same : (rows : List (Vec (Vec ℕ))) (k : ℕ) (row new : Vec (Vec ℕ)) → k < length rows → row ≡ get_or rows k row
    → texts_of new.items ≡ texts_of row.items → joined (set rows k new) ≡ joined rows
joined_same rows k row new h is same =
    let here : texts_of new.items ≡ row_of rows k row = same ∙ ap (λ (r : Vec (Vec ℕ)). texts_of r.items) is in
    joined_set rows k new h
    ∙ ap (λ (w : List (List ℕ)). joined (take k rows) ++ (w ++ joined (drop (k + 1) rows))) here
    ∙ sym (joined_at rows k row h)

pub order_same : (rows : List (Vec (Vec ℕ))) (k : ℕ) (row new : Vec (Vec ℕ)) → AreInOrder rows → k < length rows → row ≡ get_or rows k row
    → texts_of new.items ≡ texts_of row.items → AreInOrder (set rows k new)
order_same rows k row new order h is same =
    let here : texts_of new.items ≡ row_of rows k row = same ∙ ap (λ (r : Vec (Vec ℕ)). texts_of r.items) is in
    let size = ap length here in
    let some = order.filled k row h in
    record {
      rising = rw (joined_same rows k row new h is same) order.rising;
      filled = All-set IsFilled rows k new
          (omega (arith, size, some, length-texts_of new.items, length-texts_of (get_or rows k row).items)) order.filled;
    }

-- ---- a text that is offered to the row of its place

pub home_offered : (rows : List (Vec (Vec ℕ))) (home : ℕ) (row new : Vec (Vec ℕ)) (text : List ℕ) (r : Result Bool ReadError) → AreInOrder rows
    → IsHomeOf rows text home → row ≡ get_or rows home row → IsOffered (texts_of row.items) text r (texts_of new.items)
    → IsOffered (joined rows) text r (joined (set rows home new))
home_offered rows home row new text r order at is offered =
    let within = home_contains rows home row text at is in
    let here : IsOffered (row_of rows home row) text r (texts_of new.items) =
    subst (λ (w : Vec (Vec ℕ)). IsOffered (texts_of w.items) text r (texts_of new.items)) is offered in
    record {
      known = (λ e. within.0 (offered.known.0 e), λ c. offered.known.1 (within.1 c));
      stays = λ e. joined_same rows home row new at.within is (offered.stays e);
      union = λ e. home_union rows home row new text order.rising at (here.union e);
      one_more = λ e. length_set rows home row new at.within (here.one_more e);
      readable = offered.readable;
      refusal = offered.refusal;
      err = on_err_weaker r (λ same. joined_same rows home row new at.within is same) offered.err;
    }

pub order_offered : (rows : List (Vec (Vec ℕ))) (home : ℕ) (row new : Vec (Vec ℕ)) (text : List ℕ) (r : Result Bool ReadError) → AreInOrder rows
    → IsHomeOf rows text home → row ≡ get_or rows home row → IsOffered (texts_of row.items) text r (texts_of new.items)
    → AreInOrder (set rows home new)
order_offered rows home row new text (Ok true) order at is offered =
    let all = home_offered rows home row new text (Ok true) order at is offered in
    let one = offered.one_more refl in
    let union = all.union refl in
    record {
      rising = union.rising;
      filled = All-set IsFilled rows home new (omega (arith, one, length-texts_of new.items)) order.filled;
    }
order_offered rows home row new text (Ok false) order at is offered = order_same rows home row new order at.within is (offered.stays refl)
order_offered rows home row new text (Err e) order at is offered = order_same rows home row new order at.within is offered.err

-- ---- two rows of one

pub joined_parted : (rows : List (Vec (Vec ℕ))) (k : ℕ) (row front back : Vec (Vec ℕ)) → k < length rows → row ≡ get_or rows k row
    → front.items ++ back.items ≡ row.items → joined (insert (set rows k front) (k + 1) back) ≡ joined rows
joined_parted rows k row front back h is halves =
    let last = drop (k + 1) rows in
    let made : insert (set rows k front) (k + 1) back ≡ (take k rows ++ front ∷ []) ++ back ∷ last =
    ap (λ (w : List (Vec (Vec ℕ))). w ++ back ∷ drop (k + 1) (set rows k front)) (take_more_set rows k front h)
    ∙ ap (λ (w : List (Vec (Vec ℕ))). (take k rows ++ front ∷ []) ++ back ∷ w) (drop-set-lt (k + 1) rows k front (omega arith)) in
    let whole : texts_of front.items ++ texts_of back.items ≡ row_of rows k row =
    sym (map-append (λ (v : Vec ℕ). v.items) front.items back.items) ∙ ap texts_of halves ∙ ap (λ (r : Vec (Vec ℕ)). texts_of r.items) is in
    ap joined (made ∙ append_assoc (take k rows) (front ∷ []) (back ∷ last))
    ∙ flat_map-append (λ (r : Vec (Vec ℕ)). texts_of r.items) (take k rows) (front ∷ back ∷ last)
    ∙ ap (λ (w : List (List ℕ)). joined (take k rows) ++ w)
    (sym (append_assoc (texts_of front.items) (texts_of back.items) (joined last)) ∙ ap (λ (w : List (List ℕ)). w ++ joined last) whole)
    ∙ sym (joined_at rows k row h)

-- ---- a row parted

pub order_parted : (rows : List (Vec (Vec ℕ))) (k : ℕ) (row front back : Vec (Vec ℕ)) → AreInOrder rows → k < length rows → row ≡ get_or rows k row
    → front.items ++ back.items ≡ row.items → IsFilled front → IsFilled back → AreInOrder (insert (set rows k front) (k + 1) back)
order_parted rows k row front back order h is halves some rest =
    let set_filled : All IsFilled (set rows k front) = All-set IsFilled rows k front some order.filled in
    record {
      rising = rw (joined_parted rows k row front back h is halves) order.rising;
      filled = All-append IsFilled (take (k + 1) (set rows k front)) (back ∷ drop (k + 1) (set rows k front))
          (All-take IsFilled (k + 1) (set rows k front) set_filled)
          (All-cons IsFilled back (drop (k + 1) (set rows k front)) rest (All-drop IsFilled (k + 1) (set rows k front) set_filled));
    }

-- ---- all rows made one

-- two lists that are the same from a place on
pub same_from : (xs ys : List (Vec (Vec ℕ))) (k : ℕ) (d : Vec (Vec ℕ)) → drop k xs ≡ drop k ys → k < length xs → k < length ys
    → (get_or xs k d ≡ get_or ys k d) × (drop (k + 1) xs ≡ drop (k + 1) ys)
same_from xs ys k d e p q =
    let left = drop_more xs k d p in
    let right = drop_more ys k d q in
    (cc, cc)

pub room_left : (rows : List (Vec (Vec ℕ))) (k : ℕ) (d : Vec (Vec ℕ)) → k < length rows
    → length (joined (take k rows)) + length (get_or rows k d).items ≤ length (joined rows)
room_left rows k d h =
    let front = joined (take k rows) in
    let back = joined (drop (k + 1) rows) in
    let all = ap length (joined_at rows k d h) ∙ length-append front (row_of rows k d ++ back) in
    omega (arith, all, length-append (row_of rows k d) back, length-texts_of (get_or rows k d).items)

pub taken_row : (rows : List (Vec (Vec ℕ))) (k : ℕ) (d : Vec (Vec ℕ)) (taken longer row : List (Vec ℕ)) → k < length rows
    → texts_of taken ≡ joined (take k rows) → row ≡ (get_or rows k d).items → longer ≡ taken ++ row → texts_of longer ≡ joined (take (k + 1) rows)
taken_row rows k d taken longer row h same is more =
    ap texts_of more
    ∙ map-append (λ (v : Vec ℕ). v.items) taken row
    ∙ ap (λ (w : List (List ℕ)). w ++ texts_of row) same
    ∙ ap (λ (w : List (Vec ℕ)). joined (take k rows) ++ texts_of w) is
    ∙ sym (joined_more rows k d h)
