-- The rows of the table: one more, and a word of one.
use Rattle.std.proofs.Common.{◌≡◌, ℕ, zero, suc, ◌+◌, ◌-◌, ◌<◌, ◌≤◌, Bool, List, [], ◌∷◌, length, get_or, refl, sym, ◌∙◌, ap, arith, drop, map}
use Rattle.std.specs.Prelude.{Some, Option, find, slice_get, slice_range}
use Rattle.std.specs.Global.{Vec}
use Rattle.std.specs.Option.{option_map, option_map_or}
use Rattle.std.proofs.lemmas.List.{get_or-drop, get_or-take, length-drop, length-map, length-take-le}
use Rattle.std.proofs.lemmas.Option.{get_or_from_slice_get, slice_get-get_or, slice_get-map}
use Rattle.std.proofs.lemmas.Simd.{map-map}
use Rattle.cil_base.specs.declared.bytes.Bytes.{Bytes}
use Rattle.cil_blocks.specs.declared.namespaces.Space.{Space}
use Rattle.cil_macros.specs.Item.{Item, OptSet}
use Rattle.cil_macros.specs.Items.{Kept, item_at, items_in, namespaces_in}
use Rattle.cil_macros.proofs.ItemLemmas.{item_got}
use Rattle.cil_names.specs.declared.entry.Entry.{Entry}
use Rattle.cil_names.specs.Entries.{candidates_of, is_declared_at, is_declared_in, is_in, listed}
use Rattle.cil_names.specs.PermissionWords.{class_with, meanings, number_with, value_of}
use Rattle.cil_names.specs.Resolves.{Permission as APermission, Wanted, Word as AWord, words_of}
use Rattle.cil_names.specs.Unresolved.{ArePermissions}
use Rattle.cil_names.proofs.AnswerLemmas.{by_place}
use Rattle.cil_names.proofs.PermissionNumberLemmas.{number_or_nothing}
use Rattle.cil_words.specs.Table.{AreAsks, AreNumberedAsks, Ask, ask_of, ask_value, asks, could_in, could_of, numbered_asks, word_ask}

-- with a flag for each entry, what is found is what is found by the optionals
found_flagged : (s : OptSet) (es : List Entry) (flags : List Bool) → flags ≡ map (is_declared_in s) es → (ds : List ℕ) → find (is_in flags) ds ≡ find (is_declared_at s es) ds
found_flagged s es flags e ds = ap (λ l. find (is_in l) ds) e ∙ (λ i. find (λ d. by_place s es d i) ds)

-- ---- a word of a row

module _ {Y : Type 0} (d : Y) where
  past : (row : List Y) (j : ℕ) → length row ≤ j → get_or row j d ≡ d
  past [] j h = refl
  past (x ∷ xs) zero h = absurd (omega (arith, h))
  past (x ∷ xs) (suc j) h = past xs j (omega (arith, h))

  module _ (ys : List Y) (a b : ℕ) (row : List Y) (is : slice_range ys a b ≡ row) (within : b ≤ length ys) where
    pub its_length : b - a ≡ length row
    its_length = sym (ap length (sym is) ∙ length-take-le (b - a) (drop a ys) (let n = length-drop a ys in omega (arith, n, within)))

    pub word_there : (k j : ℕ) → k ≡ a + j → k < b → get_or ys k d ≡ get_or row j d
    word_there k j e h =
        ap (λ m. get_or ys m d) e
        ∙ sym (get_or-drop a ys j d)
        ∙ sym (get_or-take (b - a) (drop a ys) j d (omega (arith, e, h)))
        ∙ ap (λ l. get_or l j d) is

    pub word_past : (j : ℕ) → b ≤ a + j → d ≡ get_or row j d
    word_past j h = let n = its_length in sym (past row j (omega (arith, n, h)))

-- ---- what a word means

got_map : {X Y : Type 0} (f : X → Y) (xs : List X) (i : ℕ) (x : X) → slice_get xs i ≡ Some x → slice_get (map f xs) i ≡ Some (f x)
got_map f xs i x at = slice_get-map f xs i ∙ ap (option_map f) at

-- the row of the statement at a place
pub row_there : (i : Kept) (es : List Entry) (rows : List (List (List ℕ))) (at : ℕ) → at < length (items_in i) → AreAsks (namespaces_in i) es (items_in i) rows
    → get_or rows at [] ≡ asks (namespaces_in i) es (items_in i) (item_at i at)
row_there i es rows at within are =
    let x = item_at i at in
    let f = asks (namespaces_in i) es (items_in i) in
    let there : slice_get (items_in i) at ≡ Some x = slice_get-get_or (items_in i) at x within ∙ ap Some (sym (item_got i at within x)) in
    ap (λ rs. get_or rs at []) are ∙ get_or_from_slice_get (map f (items_in i)) at (f x) [] (got_map f (items_in i) at x there)

-- ---- what could be named, and what has a number

could_row : (row : List Ask) (j : ℕ) → get_or (could_of row) j [] ≡ (get_or row j (word_ask [])).could
could_row [] j = refl
could_row (k ∷ ks) zero = refl
could_row (k ∷ ks) (suc j) = could_row ks j

pub could_rows : (rows : List (List Ask)) (i : ℕ) → get_or (could_in rows) i [] ≡ could_of (get_or rows i [])
could_rows [] i = refl
could_rows (r ∷ rs) zero = refl
could_rows (r ∷ rs) (suc i) = could_rows rs i

-- what a word could name, by its place
pub could_got : (rows : List (List Ask)) (i j : ℕ) → (get_or (get_or rows i []) j (word_ask [])).could ≡ get_or (get_or (could_in rows) i []) j []
could_got rows i j = sym (ap (λ r. get_or r j []) (could_rows rows i) ∙ could_row (get_or rows i []) j)

-- how many words there are
pub could_count : (rows : List (List Ask)) (i : ℕ) → length (get_or (could_in rows) i []) ≡ length (get_or rows i [])
could_count rows i = ap length (could_rows rows i) ∙ length-map (get_or rows i []) (λ (k : Ask). k.could)

-- the table with numbers is the table
pub are_asks : (ss : List Space) (es : List Entry) (xs : List Item) (lists : List (Vec Bytes)) (rows : List (List Ask)) → AreNumberedAsks ss es xs lists rows → AreAsks ss es xs (could_in rows)
are_asks ss es xs lists rows are =
    ap could_in are
    ∙ map-map could_of (numbered_asks ss es xs lists) xs
    ∙ (λ i. map (λ x. map-map (λ (k : Ask). k.could) (ask_of ss es xs lists) (words_of x) i) xs)

-- ---- values

module _ (ss : List Space) (es : List Entry) (xs : List Item) (lists : List (Vec Bytes)) (permissions : ArePermissions ss es xs lists) (s : OptSet) (flags : List Bool)
    (flagged : flags ≡ map (is_declared_in s) es) where
  value_is : (w : Wanted) → ask_value (is_in flags) (ask_of ss es xs lists w) ≡ value_of ss es lists s w
  value_is (AWord w) = found_flagged s es flags flagged (candidates_of ss es w)
  value_is (APermission c p) =
      ap (option_map_or (λ (n : Option ℕ). n) (number_with ss es xs lists c p)) (found_flagged s es flags flagged (listed (class_with ss es xs c p)))
      ∙ number_or_nothing ss es xs lists c p permissions s

  row_means : (x : Item) → map (ask_value (is_in flags)) (numbered_asks ss es xs lists x) ≡ meanings ss es lists s x
  row_means x = map-map (ask_value (is_in flags)) (ask_of ss es xs lists) (words_of x) ∙ (λ i. map (λ w. value_is w i) (words_of x))

  -- what the rows mean, by flags of the entries
  pub rows_mean : (rows : List (List Ask)) → AreNumberedAsks ss es xs lists rows → map (map (ask_value (is_in flags))) rows ≡ map (meanings ss es lists s) xs
  rows_mean rows are =
      ap (map (map (ask_value (is_in flags)))) are
      ∙ map-map (map (ask_value (is_in flags))) (numbered_asks ss es xs lists) xs
      ∙ (λ i. map (λ x. row_means x i) xs)
