-- Texts in rows: what a row has, what is before and behind it, and where a text has its place.
use Rattle.std.proofs.Common.{◌≡◌, ℕ, zero, suc, ◌+◌, ◌<◌, List, [], ◌∷◌, ◌++◌, length, get_or, set, take, drop, sym, ◌∙◌, ap, subst, inl, inr, add-one, arith}
use Rattle.std.specs.Prelude.{Contains, ◌↔◌}
use Rattle.std.specs.Global.{Vec}
use Rattle.std.proofs.lemmas.List.{append-nil, take-append-drop, drop_more, take_more, set_split, get_or_append_left}
use Rattle.std.proofs.lemmas.List.Concat.{flat_map-append, get_or-flat_map}
use Rattle.std.proofs.lemmas.List.Elements.{All-nil, All-cons, Contains-append_left, Contains-append_right, Contains-append_cases}
use Rattle.cil_modset.specs.Modules.{IsBelow, IsRising, module_of, texts_of}
use Rattle.cil_modset.specs.Rows.{joined, IsFilled, AreInOrder, IsHomeOf}
use Rattle.cil_modset.proofs.RisingLemmas.{compared, below_trans, not_below_itself, rising_front, rising_back, rising_across, rising_at, rising_none, rising_one, number_of_member, member_of_number, text_read, length-texts_of}

-- ---- one row and what is before and behind it

abbrev pub row_of : List (Vec (Vec ℕ)) → ℕ → Vec (Vec ℕ) → List (List ℕ)
row_of rows k d = texts_of (get_or rows k d).items

pub joined_from : (rows : List (Vec (Vec ℕ))) (k : ℕ) (d : Vec (Vec ℕ)) → k < length rows → joined (drop k rows) ≡ row_of rows k d ++ joined (drop (k + 1) rows)
joined_from rows k d h = ap joined (drop_more rows k d h)

pub joined_split : (rows : List (Vec (Vec ℕ))) (k : ℕ) → joined rows ≡ joined (take k rows) ++ joined (drop k rows)
joined_split rows k =
    ap joined (sym (take-append-drop k rows)) ∙ flat_map-append (λ (row : Vec (Vec ℕ)). texts_of row.items) (take k rows) (drop k rows)

pub joined_at : (rows : List (Vec (Vec ℕ))) (k : ℕ) (d : Vec (Vec ℕ)) → k < length rows
    → joined rows ≡ joined (take k rows) ++ (row_of rows k d ++ joined (drop (k + 1) rows))
joined_at rows k d h =
    joined_split rows k ∙ ap (λ (w : List (List ℕ)). joined (take k rows) ++ w) (joined_from rows k d h)

-- another row put in the place of one
pub joined_set : (rows : List (Vec (Vec ℕ))) (k : ℕ) (row : Vec (Vec ℕ)) → k < length rows
    → joined (set rows k row) ≡ joined (take k rows) ++ (texts_of row.items ++ joined (drop (k + 1) rows))
joined_set rows k row h =
    let split : set rows k row ≡ take k rows ++ row ∷ drop (k + 1) rows = rw add-one (set_split rows k row h) in
    ap joined split ∙ flat_map-append (λ (r : Vec (Vec ℕ)). texts_of r.items) (take k rows) (row ∷ drop (k + 1) rows)

-- ---- rows in order

pub order_none : AreInOrder []
order_none = record { rising = rising_none; filled = All-nil IsFilled }

pub order_first : (row : Vec (Vec ℕ)) (text : List ℕ) → texts_of row.items ≡ text ∷ [] → AreInOrder (row ∷ [])
order_first row text is = record {
  rising = rw (append-nil (texts_of row.items), is) (rising_one text);
  filled = All-cons IsFilled row []
      (let size = ap length is in omega (arith, size, length-texts_of row.items)) (All-nil IsFilled);
}

pub joined_first : (row : Vec (Vec ℕ)) (text : List ℕ) → texts_of row.items ≡ text ∷ [] → joined (row ∷ []) ≡ text ∷ []
joined_first row text is = append-nil (texts_of row.items) ∙ is

-- ---- rows that are gone through

pub joined_push : (ws : List (Vec (Vec ℕ))) (row : Vec (Vec ℕ)) → joined (ws ++ row ∷ []) ≡ joined ws ++ texts_of row.items
joined_push ws row =
    flat_map-append (λ (r : Vec (Vec ℕ)). texts_of r.items) ws (row ∷ [])
    ∙ ap (λ (w : List (List ℕ)). joined ws ++ w) (append-nil (texts_of row.items))

pub joined_more : (rows : List (Vec (Vec ℕ))) (k : ℕ) (d : Vec (Vec ℕ)) → k < length rows
    → joined (take (k + 1) rows) ≡ joined (take k rows) ++ row_of rows k d
joined_more rows k d h = ap joined (take_more rows k d h) ∙ joined_push (take k rows) (get_or rows k d)

-- the text that is found when the texts of the rows before are counted
pub text_found : (rows : List (Vec (Vec ℕ))) (k left i : ℕ) (row : Vec (Vec ℕ)) (text : Vec ℕ) → k < length rows → row ≡ get_or rows k row
    → length (joined (take k rows)) + left ≡ i → left < length row.items → text ≡ get_or row.items left text → text.items ≡ module_of (joined rows) i
text_found rows k left i row text h row_is count within text_is =
    let here : left < length (row_of rows k row) = rw (← row_is) (omega (arith, within, length-texts_of row.items)) in
    sym (text_read row.items left text within text_is)
    ∙ ap (λ (r : Vec (Vec ℕ)). module_of (texts_of r.items) left) row_is
    ∙ sym (get_or-flat_map (λ (r : Vec (Vec ℕ)). texts_of r.items) rows k left row [] h here)
    ∙ ap (λ (n : ℕ). module_of (joined rows) n) count

-- ---- the search for the row

-- a text before the first of a row is before all from there on
pub all_behind : (rows : List (Vec (Vec ℕ))) (k : ℕ) (d : Vec (Vec ℕ)) (text : List ℕ) → IsRising (joined rows) → k < length rows
    → 0 < length (get_or rows k d).items → IsBelow text (module_of (row_of rows k d) 0) → (t : List ℕ) → Contains (joined (drop k rows)) t → IsBelow text t
all_behind rows k d text rising h some below t c =
    let xs = joined (drop k rows) in
    let up : IsRising xs = rising_back (joined (take k rows)) xs (rw (joined_split rows k) at rising) in
    let first : module_of xs 0 ≡ module_of (row_of rows k d) 0 =
    ap (λ (w : List (List ℕ)). module_of w 0) (joined_from rows k d h)
    ∙ get_or_append_left (row_of rows k d) (joined (drop (k + 1) rows)) [] 0 (omega (arith, length-texts_of (get_or rows k d).items)) in
    let (j, within, is) = number_of_member xs t c in
    from_first xs text t j up (rw (sym first) at below) within is
  where
    from_first : (xs : List (List ℕ)) (text t : List ℕ) (j : ℕ) → IsRising xs → IsBelow text (module_of xs 0) → j < length xs → module_of xs j ≡ t → IsBelow text t
    from_first xs text t zero up below within is = subst (λ (w : List ℕ). IsBelow text w) is below
    from_first xs text t (suc j) up below within is =
        below_trans text (module_of xs 0) t below (subst (λ (w : List ℕ). IsBelow (module_of xs 0) w) is (rising_at xs 0 (suc j) up (omega arith) within))

-- where a text is not before the first of a row, all before that row is before the text
pub all_before : (rows : List (Vec (Vec ℕ))) (k : ℕ) (d : Vec (Vec ℕ)) (text : List ℕ) → IsRising (joined rows) → k < length rows
    → 0 < length (get_or rows k d).items → (IsBelow text (module_of (row_of rows k d) 0) → ⊥) → (t : List ℕ) → Contains (joined (take k rows)) t → IsBelow t text
all_before rows k d text rising h some not_below t c =
    let first = module_of (row_of rows k d) 0 in
    let here : Contains (row_of rows k d) first = member_of_number (row_of rows k d) 0 (omega (arith, length-texts_of (get_or rows k d).items)) in
    let there : Contains (row_of rows k d ++ joined (drop (k + 1) rows)) first = Contains-append_left (row_of rows k d) (joined (drop (k + 1) rows)) first here in
    let under : IsBelow t first =
    rising_across (joined (take k rows)) (row_of rows k d ++ joined (drop (k + 1) rows)) (rw (joined_at rows k d h) at rising) t first c there in
    elim (compared first text) [
      | inl p ↦ below_trans t first text under p
      | inr q ↦ elim q [
        | inl e ↦ subst (λ (w : List ℕ). IsBelow t w) e under
        | inr p ↦ absurd (not_below p)
      ]
    ]

-- a text is in the rows where it is in the row of its place
pub at_home : (rows : List (Vec (Vec ℕ))) (home : ℕ) (d : Vec (Vec ℕ)) (text : List ℕ) → IsHomeOf rows text home
    → Contains (row_of rows home d) text ↔ Contains (joined rows) text
at_home rows home d text is = (
  λ c. rw (joined_at rows home d is.within) (Contains-append_right (joined (take home rows)) (row_of rows home d ++ joined (drop (home + 1) rows)) text
      (Contains-append_left (row_of rows home d) (joined (drop (home + 1) rows)) text c)),
  λ c. elim (Contains-append_cases (joined (take home rows)) (row_of rows home d ++ joined (drop (home + 1) rows)) text (rw (joined_at rows home d is.within) at c)) [
    | inl a ↦ absurd (not_below_itself text (is.before text a))
    | inr b ↦ elim (Contains-append_cases (row_of rows home d) (joined (drop (home + 1) rows)) text b) [
      | inl e ↦ e
      | inr f ↦ absurd (not_below_itself text (is.behind text f))
    ]
  ],
)

-- ---- the steps of the search

pub home_behind : (rows : List (Vec (Vec ℕ))) (k : ℕ) (row : Vec (Vec ℕ)) (text : List ℕ) → AreInOrder rows → k < length rows → row ≡ get_or rows k row
    → IsBelow text (module_of (texts_of row.items) 0) → (t : List ℕ) → Contains (joined (drop k rows)) t → IsBelow text t
home_behind rows k row text order h is below =
    all_behind rows k row text order.rising h (order.filled k row h)
    (subst (λ (r : Vec (Vec ℕ)). IsBelow text (module_of (texts_of r.items) 0)) is below)

pub home_before : (rows : List (Vec (Vec ℕ))) (k : ℕ) (row : Vec (Vec ℕ)) (text : List ℕ) → AreInOrder rows → k < length rows → row ≡ get_or rows k row
    → (IsBelow text (module_of (texts_of row.items) 0) → ⊥) → (t : List ℕ) → Contains (joined (take k rows)) t → IsBelow t text
home_before rows k row text order h is not_below =
    all_before rows k row text order.rising h (order.filled k row h)
    (subst (λ (r : Vec (Vec ℕ)). IsBelow text (module_of (texts_of r.items) 0) → ⊥) is not_below)

-- ---- the row of a place, as it was read

pub home_contains : (rows : List (Vec (Vec ℕ))) (home : ℕ) (row : Vec (Vec ℕ)) (text : List ℕ) → IsHomeOf rows text home → row ≡ get_or rows home row
    → Contains (texts_of row.items) text ↔ Contains (joined rows) text
home_contains rows home row text at is =
    subst (λ (r : Vec (Vec ℕ)). Contains (texts_of r.items) text ↔ Contains (joined rows) text) (sym is) (at_home rows home row text at)

rising_middle : (front part back : List (List ℕ)) → IsRising (front ++ (part ++ back)) → IsRising part
rising_middle front part back p = rising_front part back (rising_back front (part ++ back) p)

pub row_rising : (rows : List (Vec (Vec ℕ))) (k : ℕ) (d : Vec (Vec ℕ)) → IsRising (joined rows) → k < length rows → IsRising (row_of rows k d)
row_rising rows k d rising h =
    rising_middle (joined (take k rows)) (row_of rows k d) (joined (drop (k + 1) rows)) (rw (joined_at rows k d h) at rising)

pub row_rises : (rows : List (Vec (Vec ℕ))) (k : ℕ) (row : Vec (Vec ℕ)) → AreInOrder rows → k < length rows → row ≡ get_or rows k row
    → IsRising (texts_of row.items)
row_rises rows k row order h is =
    subst (λ (r : Vec (Vec ℕ)). IsRising (texts_of r.items)) (sym is) (row_rising rows k row order.rising h)
