-- Cells: each is one number, or the number of a permission or of a list.
use Rattle.std.proofs.Common.{◌≡◌, ℕ, suc, zero, ◌+◌, ◌-◌, ◌<◌, ◌≤◌, Bool, true, false, cond, List, [], ◌∷◌, ◌++◌, length, get_or, refl, sym, ◌∙◌, ap, append-nil, arith, subst, take}
use Rattle.std.specs.Prelude.{Err, None, Ok, OnErr, OnOk, Option, Result, Some, nat_lt, slice_get}
use Rattle.cil_base.specs.Places.{none_some, some_same}
use Rattle.cil_names.specs.Entries.{listed}
use Rattle.cil_names.specs.Rows.{lists_at}
use Rattle.cil_names.proofs.RowLemmas.{how_many}
use Rattle.std.proofs.lemmas.List.{length-append, take_all}
use Rattle.std.proofs.lemmas.Bool.{ltb-false, ltb-true, lt-ltb, le-ltb}
use Rattle.cil_words.specs.Cells.{AreCells, IsCell, IsLonger, IsPlaced, cell_ask, cell_asks, many, pair_ask, pair_with, paired}
use Rattle.cil_words.specs.Table.{Ask, word_ask}

-- ---- lists that grow

pub longer_by_none : {X : Type 0} (xs : List X) → IsLonger xs xs
longer_by_none xs = ([], sym (append-nil xs))

pub longer_length : {X : Type 0} (old new : List X) → IsLonger old new → length old ≤ length new
longer_length old new is = let n = ap length is.1 ∙ length-append old is.0 in omega (arith, n)

front_got : {X : Type 0} (xs more : List X) (k : ℕ) → k < length xs → slice_get (xs ++ more) k ≡ slice_get xs k
front_got [] more k h = absurd (omega (arith, h))
front_got (x ∷ xs) more zero h = refl
front_got (x ∷ xs) more (suc k) h = front_got xs more k (omega (arith, h))

pub longer_got : {X : Type 0} (old new : List X) → IsLonger old new → (k : ℕ) → k < length old → slice_get new k ≡ slice_get old k
longer_got old new is k h = ap (λ l. slice_get l k) is.1 ∙ front_got old is.0 k h

pub last_got : {X : Type 0} (xs new : List X) (x : X) (k : ℕ) → new ≡ xs ++ x ∷ [] → k ≡ length xs → slice_get new k ≡ Some x
last_got xs new x k is at = (λ i. slice_get (is i) (at i)) ∙ seam xs x
  where
    seam : {X : Type 0} (ys : List X) (y : X) → slice_get (ys ++ y ∷ []) (length ys) ≡ Some y
    seam [] y = refl
    seam (z ∷ zs) y = seam zs y

get_front : (lists : List (List ℕ)) (l : List ℕ) (k : ℕ) → k < length lists → get_or (lists ++ l ∷ []) k [] ≡ get_or lists k []
get_front [] l k h = absurd (omega (arith, h))
get_front (x ∷ xs) l zero h = refl
get_front (x ∷ xs) l (suc k) h = get_front xs l k (omega (arith, h))

get_last : (lists : List (List ℕ)) (l : List ℕ) → get_or (lists ++ l ∷ []) (length lists) [] ≡ l
get_last [] l = refl
get_last (x ∷ xs) l = get_last xs l

-- ---- cells that are there

pub kept_cells : (cells : List ℕ) (n m k n' m' k' : ℕ) → n ≤ n' → m ≤ m' → k ≤ k' → AreCells n m k cells → AreCells n' m' k' cells
kept_cells [] n m k n' m' k' h i j all = tt
kept_cells (c ∷ cs) n m k n' m' k' h i j (here, rest) = (
  (let a = here.0 in omega (arith, j, a), λ b. (let a = (here.1 b).0 in omega (arith, h, a), let a = (here.1 b).1 in omega (arith, i, a))),
  kept_cells cs n m k n' m' k' h i j rest,
)

pub one_more_cell : (cells : List ℕ) (n m k n' m' k' c : ℕ) → n ≤ n' → m ≤ m' → k ≤ k' → IsCell n' m' k' c → AreCells n m k cells → AreCells n' m' k' (cells ++ c ∷ [])
one_more_cell [] n m k n' m' k' c h i j is all = (is, tt)
one_more_cell (d ∷ ds) n m k n' m' k' c h i j is (here, rest) = (
  (let a = here.0 in omega (arith, j, a), λ b. (let a = (here.1 b).0 in omega (arith, h, a), let a = (here.1 b).1 in omega (arith, i, a))),
  one_more_cell ds n m k n' m' k' c h i j is rest,
)

pub lists_more : (cells : List ℕ) (n m k k' : ℕ) → k ≤ k' → AreCells n m k cells → AreCells n m k' cells
lists_more cells n m k k' h all = kept_cells cells n m k n m k' (omega arith) (omega arith) h all

pub pairs_more : (cells : List ℕ) (n m k n' m' : ℕ) → n ≤ n' → m ≤ m' → AreCells n m k cells → AreCells n' m' k cells
pairs_more cells n m k n' m' h i all = kept_cells cells n m k n' m' k h i (omega arith) all

-- one more cell of each kind
pub one_more : (cells : List ℕ) (n m k c : ℕ) → c < paired → AreCells n m k cells → AreCells n m k (cells ++ c ∷ [])
one_more cells n m k c h all = one_more_cell cells n m k n m k c (omega arith) (omega arith) (omega arith) (omega (arith, h), λ b. (omega (arith, h), omega (arith, h))) all

pub one_more_list : (cells : List ℕ) (n m k k' g : ℕ) → k ≤ k' → g < k' → AreCells n m k cells → AreCells n m k' (cells ++ (many + g) ∷ [])
one_more_list cells n m k k' g h within all =
    one_more_cell cells n m k n m k' (many + g) (omega arith) (omega arith) h (omega (arith, within), λ low. absurd (omega (arith, low))) all

pub one_more_pair : (cells : List ℕ) (n m k n' m' g : ℕ) → n ≤ n' → m ≤ m' → g < n' → g < m' → paired + g < many → AreCells n m k cells → AreCells n' m' k (cells ++ (paired + g) ∷ [])
one_more_pair cells n m k n' m' g h i a b few all =
    one_more_cell cells n m k n' m' k (paired + g) h i (omega arith) (omega (arith, few), λ low. (omega (arith, a), omega (arith, b))) all

-- the number of a permission is below those of lists
pub below_many : (g : ℕ) → g < paired → paired + g < many
below_many g h = omega (arith, h)

-- a number was put behind the others, or nothing was
pub after_push : {X E : Type 0} (r : Result X E) (P : List ℕ → Type 0) (old new : List ℕ) (n : ℕ) → OnOk r (new ≡ old ++ n ∷ []) → OnErr r (new ≡ old) → P old → P (old ++ n ∷ []) → P new
after_push (Ok x) P old new n put same before after = subst P (sym put) after
after_push (Err e) P old new n put same before after = subst P (sym same) before

-- ---- what grows leaves the cells that were there

module _ (owners owners' : List ℕ) (places places' : List (Option ℕ)) (lists lists' : List (List ℕ)) (more_owners : IsLonger owners owners') (more_places : IsLonger places places')
    (stay : (k : ℕ) → k < length lists → get_or lists' k [] ≡ get_or lists k []) where
  pair_stays : (g : ℕ) → g < length owners → g < length places → pair_ask owners' places' g ≡ pair_ask owners places g
  pair_stays g h k = λ i. record { could = listed (longer_got owners owners' more_owners g h i); number = longer_got places places' more_places g k i }

  in_cell : (c : ℕ) (a b : Bool) → nat_lt c paired ≡ a → nat_lt c many ≡ b → IsCell (length owners) (length places) (length lists) c
      → cond a (word_ask (c ∷ [])) (cond b (pair_ask owners' places' (c - paired)) (word_ask (get_or lists' (c - many) [])))
      ≡ cond a (word_ask (c ∷ [])) (cond b (pair_ask owners places (c - paired)) (word_ask (get_or lists (c - many) [])))
  in_cell c true b e f is = refl
  in_cell c false true e f is =
      let low = ltb-false c paired e in
      let high = ltb-true c many f in
      let there = is.1 high in
      let a = there.0 in
      let b = there.1 in
      pair_stays (c - paired) (omega (arith, low, a)) (omega (arith, low, b))
  in_cell c false false e f is = let low = ltb-false c many f in let a = is.0 in ap word_ask (stay (c - many) (omega (arith, low, a)))

  cells_stay : (cells : List ℕ) → AreCells (length owners) (length places) (length lists) cells → cell_asks owners' places' lists' cells ≡ cell_asks owners places lists cells
  cells_stay [] all = refl
  cells_stay (c ∷ cs) (here, rest) = λ i. in_cell c (nat_lt c paired) (nat_lt c many) refl refl here i ∷ cells_stay cs rest i

  mapped_on : (cells : List ℕ) (c : ℕ) → cell_asks owners' places' lists' (cells ++ c ∷ []) ≡ cell_asks owners' places' lists' cells ++ cell_ask owners' places' lists' c ∷ []
  mapped_on [] c = refl
  mapped_on (d ∷ ds) c = ap (λ l. cell_ask owners' places' lists' d ∷ l) (mapped_on ds c)

  -- a cell was put behind the others
  pub pushed_cell : (cells new : List ℕ) (c : ℕ) (value : List Ask) (k : Ask) → AreCells (length owners) (length places) (length lists) cells → cell_asks owners places lists cells ≡ value
      → new ≡ cells ++ c ∷ [] → cell_ask owners' places' lists' c ≡ k → cell_asks owners' places' lists' new ≡ value ++ k ∷ []
  pushed_cell cells new c value k are is put says =
      ap (cell_asks owners' places' lists') put ∙ mapped_on cells c ∙ (λ i. (cells_stay cells are ∙ is) i ++ says i ∷ [])

-- lists behind which one more stands
pub list_stays : (lists all : List (List ℕ)) (l : List ℕ) → all ≡ lists ++ l ∷ [] → (k : ℕ) → k < length lists → get_or all k [] ≡ get_or lists k []
list_stays lists all l is k h = ap (λ ls. get_or ls k []) is ∙ get_front lists l k h

pub lists_same : (lists : List (List ℕ)) (k : ℕ) → k < length lists → get_or lists k [] ≡ get_or lists k []
lists_same lists k h = refl

-- ---- lists that have a number

-- a list that was put behind the others
pub placed_last : (old new : List (List ℕ)) (list : List ℕ) (place : ℕ) → place ≡ length old → new ≡ old ++ list ∷ [] → IsPlaced old new list place
placed_last old new list place at is = record {
  within = let n = ap length is ∙ length-append old (list ∷ []) in omega (arith, n, at);
  is_there = (λ i. get_or (is i) (at i) []) ∙ get_last old list;
  stay = list_stays old new list is;
}

-- a list that was there
pub placed_there : (lists : List (List ℕ)) (list row : List ℕ) (place : ℕ) → place < length lists → row ≡ get_or lists place [] → row ≡ list → IsPlaced lists lists list place
placed_there lists list row place within is same = record { within = within; is_there = sym is ∙ same; stay = lists_same lists }

-- the same numbers at all places
pub same_numbers : (xs ys : List ℕ) (i : ℕ) → length xs ≡ length ys → length xs ≤ i → take i xs ≡ take i ys → xs ≡ ys
same_numbers xs ys i long past same = sym (take_all i xs past) ∙ same ∙ take_all i ys (omega (arith, long, past))

-- ---- what a cell says

module _ (owners : List ℕ) (places : List (Option ℕ)) (lists : List (List ℕ)) (c : ℕ) where
  abbrev above : Ask
  above = cond (nat_lt c many) (pair_ask owners places (c - paired)) (word_ask (get_or lists (c - many) []))

  pub says_one : c < paired → cell_ask owners places lists c ≡ word_ask (c ∷ [])
  says_one h = ap (λ b. cond b (word_ask (c ∷ [])) above) (lt-ltb c paired h)

  pub says_pair : (g : ℕ) → paired + g ≡ c → c < many → cell_ask owners places lists c ≡ pair_ask owners places g
  says_pair g e h =
      ap (λ b. cond b (word_ask (c ∷ [])) above) (le-ltb c paired (omega (arith, e)))
      ∙ ap (λ b. cond b (pair_ask owners places (c - paired)) (word_ask (get_or lists (c - many) []))) (lt-ltb c many h)
      ∙ ap (pair_ask owners places) (let f : c - paired ≡ g = omega (arith, e) in f)

  pub says_many : (k : ℕ) → many + k ≡ c → cell_ask owners places lists c ≡ word_ask (get_or lists k [])
  says_many k e =
      ap (λ b. cond b (word_ask (c ∷ [])) above) (le-ltb c paired (omega (arith, e)))
      ∙ ap (λ b. cond b (pair_ask owners places (c - paired)) (word_ask (get_or lists (c - many) []))) (le-ltb c many (omega (arith, e)))
      ∙ ap (λ m. word_ask (get_or lists m [])) (let f : c - many ≡ k = omega (arith, e) in f)

-- the last list
pub says_last : (owners : List ℕ) (places : List (Option ℕ)) (lists all : List (List ℕ)) (l : List ℕ) (c : ℕ) → all ≡ lists ++ l ∷ [] → many + length lists ≡ c
    → cell_ask owners places all c ≡ word_ask l
says_last owners places lists all l c is e = says_many owners places all c (length lists) e ∙ ap (λ ls. word_ask (get_or ls (length lists) [])) is ∙ ap word_ask (get_last lists l)

-- a list by its number
pub says_placed : (owners : List ℕ) (places : List (Option ℕ)) (lists all : List (List ℕ)) (l : List ℕ) (k c : ℕ) → IsPlaced lists all l k → many + k ≡ c → cell_ask owners places all c ≡ word_ask l
says_placed owners places lists all l k c is e = says_many owners places all c k e ∙ ap word_ask is.is_there

-- a permission that is there
pub says_permission : (owners : List ℕ) (places : List (Option ℕ)) (lists : List (List ℕ)) (c g d : ℕ) (n : Option ℕ) → paired + g ≡ c → c < many → slice_get owners g ≡ Some d → slice_get places g ≡ Some n
    → cell_ask owners places lists c ≡ pair_with d n
says_permission owners places lists c g d n e h owner place = says_pair owners places lists c g e h ∙ (λ i. record { could = listed (owner i); number = place i })

-- more starts are no fewer lists, whatever the numbers
pub no_fewer : (starts more begins numbers all : List ℕ) (old : List (List ℕ)) → lists_at starts numbers ≡ old → begins ≡ starts ++ more → length old ≤ length (lists_at begins all)
no_fewer starts more begins numbers all old p q =
    let a : length old ≡ length starts = ap length (sym p) ∙ how_many numbers starts in
    let b : length (lists_at begins all) ≡ length starts + length more = how_many all begins ∙ ap length q ∙ length-append starts more in
    omega (arith, a, b)

-- ---- a list by its number

module _ (owners : List ℕ) (places : List (Option ℕ)) (lists : List (List ℕ)) where
  none_at : (cells : List ℕ) (i : ℕ) → None ≡ slice_get cells i → word_ask [] ≡ get_or (cell_asks owners places lists cells) i (word_ask [])
  none_at [] i e = refl
  none_at (c ∷ cs) zero e = absurd (none_some c e)
  none_at (c ∷ cs) (suc i) e = none_at cs i e

  cell_there : (cells : List ℕ) (i c : ℕ) → Some c ≡ slice_get cells i → get_or (cell_asks owners places lists cells) i (word_ask []) ≡ cell_ask owners places lists c
  cell_there [] i c e = absurd (none_some c (sym e))
  cell_there (d ∷ ds) zero c e = ap (cell_ask owners places lists) (some_same d c (sym e))
  cell_there (d ∷ ds) (suc i) c e = cell_there ds i c e

  module _ (cells got : List ℕ) (value : List Ask) (is : cell_asks owners places lists cells ≡ value) (same : got ≡ cells) (i : ℕ) where
    pub row_of_none : None ≡ slice_get got i → word_ask [] ≡ get_or value i (word_ask [])
    row_of_none e = none_at cells i (e ∙ ap (λ l. slice_get l i) same) ∙ ap (λ v. get_or v i (word_ask [])) is

    module _ (c : ℕ) (at : Some c ≡ slice_get got i) where
      its_cell : cell_ask owners places lists c ≡ get_or value i (word_ask [])
      its_cell = sym (cell_there cells i c (at ∙ ap (λ l. slice_get l i) same)) ∙ ap (λ v. get_or v i (word_ask [])) is

      pub row_of_one : c < paired → word_ask (c ∷ []) ≡ get_or value i (word_ask [])
      row_of_one h = sym (says_one owners places lists c h) ∙ its_cell

      pub row_of_pair : (g : ℕ) → paired + g ≡ c → c < many → pair_ask owners places g ≡ get_or value i (word_ask [])
      row_of_pair g e h = sym (says_pair owners places lists c g e h) ∙ its_cell

      pub row_of_many : (k : ℕ) → many + k ≡ c → word_ask (get_or lists k []) ≡ get_or value i (word_ask [])
      row_of_many k e = sym (says_many owners places lists c k e) ∙ its_cell
