-- What a statement asks for and does not get, by its row of the table.
use Rattle.std.specs.Prelude.{Some, find, if◌then◌else◌, not, ◌&&◌, slice_get}
use Rattle.std.specs.Global.{Vec}
use Rattle.std.specs.List.{flat_map, list_all, list_any}
use Rattle.std.proofs.Common.{◌≡◌, ℕ, zero, suc, ◌+◌, ◌<◌, ◌||◌, Bool, true, false, cond, List, [], ◌∷◌, ◌++◌, map, length, take, get_or, refl, sym, ◌∙◌, ap, arith, append-nil}
use Rattle.std.proofs.lemmas.List.Concat.{get_or-flat_map}
use Rattle.std.proofs.lemmas.List.Folds.{flat_map-map}
use Rattle.std.proofs.lemmas.Grind.{flat_map-append}
use Rattle.std.proofs.lemmas.List.{length-append, length-map}
use Rattle.std.proofs.lemmas.Option.{get_or_from_slice_get, slice_get-get_or, slice_get-map}
use Rattle.std.specs.Option.{is_some, option_map}
use Rattle.cil_base.specs.MadeLists.{one_flat}
use Rattle.cil_base.specs.Places.{none_some}
use Rattle.cil_faults.specs.Namespaces.{Namespace}
use Rattle.cil_faults.specs.declared.fault.Fault.{Fault}
use Rattle.cil_macros.specs.declared.placed_word.PlacedWord.{PlacedWord}
use Rattle.cil_macros.specs.Item.{Item, OptSet}
use Rattle.cil_macros.specs.Items.{item_at, namespaces_in, scoped_by}
use Rattle.cil_macros.specs.Placed.{Placed}
use Rattle.cil_names.specs.Asked.{wanted_by}
use Rattle.cil_names.specs.declared.asked.Asked.{Asked}
use Rattle.cil_names.specs.declared.asked.Asked.TheVariants as asked
use Rattle.cil_names.specs.declared.entry.Entry.{Entry}
use Rattle.cil_names.specs.Resolves.{Permission as APermission, Wanted, Word as AWord, is_judged, resolves, told_word}
use Rattle.cil_names.specs.Unresolved.{fault_of_word, faults_of_all, faults_of_wanted, is_outside}
use Rattle.cil_names.proofs.AnswerLemmas.{by_place}
use Rattle.cil_names.proofs.AskedLemmas.{each_mapped}
use Rattle.cil_names.proofs.ResolvesLemmas.{resolves_by}
use Rattle.cil_syntax.specs.Scopes.{ScopedWord}
use Rattle.cil_words.specs.declared.judge.Judge.{Judge}
use Rattle.cil_words.specs.Judged.{IsJudge, StandAt, could_by, has_one, items_by, row_by, unless, wanted_behind}
use Rattle.cil_words.specs.Table.{asks, could_in}
use Rattle.cil_words.proofs.RowLemmas.{row_there}

-- ---- what a search finds

-- some item passes where a search finds one
module _ {X : Type 0} (p : X → Bool) where
  found_step : (x : X) (xs : List X) (b : Bool) → is_some (find p xs) ≡ list_any p xs → is_some (cond b (Some x) (find p xs)) ≡ (b || list_any p xs)
  found_step x xs true rest = refl
  found_step x xs false rest = rest

  pub any_found : (xs : List X) → is_some (find p xs) ≡ list_any p xs
  any_found [] = refl
  any_found (x ∷ xs) = found_step x xs (p x) (any_found xs)

-- ---- faults of one thing

module _ (xs : List Item) (s : OptSet) (n : Namespace) where
  turned : (b : Bool) (f : Fault) → (if not b then f ∷ [] else []) ≡ unless b f
  turned true f = refl
  turned false f = refl

  neither : (a b : Bool) (f : Fault) → b ≡ true → (if a && not b then f ∷ [] else []) ≡ []
  neither true true f e = refl
  neither false true f e = refl
  neither a false f e = absurd (let g : false ≡ true = e in cc)

  unjudged : (a b : Bool) (f : Fault) → a ≡ false → (if a && not b then f ∷ [] else []) ≡ []
  unjudged false b f e = refl
  unjudged true b f e = absurd (let g : true ≡ false = e in cc)

  pub judged_so : (w : Wanted) (b : Bool) → is_judged xs s w ≡ true → b ≡ resolves xs s w → unless b (fault_of_word n (told_word w)) ≡ faults_of_wanted xs s n w
  unfolding faults_of_wanted
  judged_so w b e same =
      ap (λ z. unless z (fault_of_word n (told_word w))) same
      ∙ sym (turned (resolves xs s w) (fault_of_word n (told_word w)))
      ∙ sym (ap (λ z. if z && not (resolves xs s w) then fault_of_word n (told_word w) ∷ [] else []) e)

  pub no_fault : (w : Wanted) → resolves xs s w ≡ true → faults_of_wanted xs s n w ≡ []
  unfolding faults_of_wanted
  no_fault w e = neither (is_judged xs s w) (resolves xs s w) (fault_of_word n (told_word w)) e

  pub unasked : (c p : ScopedWord) → resolves xs s (AWord c) ≡ false → faults_of_wanted xs s n (APermission c p) ≡ []
  unfolding faults_of_wanted
  unasked c p e = unjudged (resolves xs s (AWord c)) (resolves xs s (APermission c p)) (fault_of_word n p) e

  all_unasked : (ps : List Placed) (c : ScopedWord) (ws : List PlacedWord) → resolves xs s (AWord c) ≡ false
      → flat_map (λ w. faults_of_wanted xs s n (APermission c (scoped_by ps w))) ws ≡ []
  all_unasked ps c [] e = refl
  all_unasked ps c (w ∷ ws) e = (λ i. unasked c (scoped_by ps w) e i ++ all_unasked ps c ws e i)

  -- a class list, whose class is there or is not
  module _ (ps : List Placed) (c : ScopedWord) (ws : List PlacedWord) where
    abbrev pub behind_class : List Fault
    behind_class = flat_map (λ w. faults_of_wanted xs s n (APermission c (scoped_by ps w))) ws

    whole : faults_of_all xs s n (wanted_behind ps c ws) ≡ faults_of_wanted xs s n (AWord c) ++ behind_class
    whole = ap (λ l. faults_of_wanted xs s n (AWord c) ++ l) (flat_map-map (faults_of_wanted xs s n) (λ w. APermission c (scoped_by ps w)) ws)

    pub class_there : (old new : List Fault) → resolves xs s (AWord c) ≡ true → new ≡ old ++ behind_class → new ≡ old ++ faults_of_all xs s n (wanted_behind ps c ws)
    class_there old new e put = put ∙ sym (ap (λ l. old ++ l) (whole ∙ ap (λ l. l ++ behind_class) (no_fault (AWord c) e)))

    pub class_missing : (old new : List Fault) → resolves xs s (AWord c) ≡ false → new ≡ old ++ fault_of_word n c ∷ [] → new ≡ old ++ faults_of_all xs s n (wanted_behind ps c ws)
    class_missing old new e put =
        put ∙ ap (λ l. old ++ l)
        (sym (whole
        ∙ (λ i. sym (judged_so (AWord c) false refl (sym e)) i ++ all_unasked ps c ws e i)
        ∙ append-nil (fault_of_word n c ∷ [])))

  -- what several things ask for
  pub all_faults : {X : Type 0} (g : X → List Wanted) (them : List X) → flat_map (λ one. faults_of_all xs s n (g one)) them ≡ faults_of_all xs s n (flat_map g them)
  all_faults g [] = refl
  all_faults g (one ∷ them) = ap (λ l. faults_of_all xs s n (g one) ++ l) (all_faults g them) ∙ sym (flat_map-append (faults_of_wanted xs s n) (g one) (flat_map g them))

-- ---- rows

module _ (j : Judge) (es : List Entry) (s : OptSet) (is : IsJudge j es s) where
  -- a list in the table tells whether the word resolves
  pub live_is : (w : Wanted) (ds : List ℕ) → ds ≡ could_by j es w → has_one j.declared.now ds ≡ resolves (items_by j) s w
  live_is w ds e =
      ap (has_one j.declared.now) e
      ∙ ap (λ flags. has_one flags (could_by j es w)) is.declared
      ∙ (λ i. list_any (λ d. by_place s es d i) (could_by j es w))
      ∙ sym (resolves_by (namespaces_in j.instances.now) (items_by j) es s w is.namespaces is.entries)

  first_yes : (a b : Bool) → (a && b) ≡ true → a ≡ true
  first_yes true b e = refl
  first_yes false b e = absurd (let g : false ≡ true = e in cc)

  rest_yes : (a b : Bool) → (a && b) ≡ true → b ≡ true
  rest_yes true b e = e
  rest_yes false b e = absurd (let g : false ≡ true = e in cc)

  -- a row in which each word names something has no fault
  pub none_in : (n : Namespace) (ws : List Wanted) → list_all (has_one j.declared.now) (map (could_by j es) ws) ≡ true → faults_of_all (items_by j) s n ws ≡ []
  none_in n [] e = refl
  none_in n (w ∷ ws) e =
      let first = first_yes (has_one j.declared.now (could_by j es w)) (list_all (has_one j.declared.now) (map (could_by j es) ws)) e in
      let rest = rest_yes (has_one j.declared.now (could_by j es w)) (list_all (has_one j.declared.now) (map (could_by j es) ws)) e in
      (λ i. no_fault (items_by j) s n w (sym (live_is w (could_by j es w) refl) ∙ first) i ++ none_in n ws rest i)

  pub row_is : (at : ℕ) → at < length (items_by j) → row_by j at ≡ asks (namespaces_in j.instances.now) es (items_by j) (item_at j.instances.now at)
  row_is at within = row_there j.instances.now es (could_in j.asks.now) at within is.asks

-- ---- places in a row

got_map : {X Y : Type 0} (f : X → Y) (xs : List X) (i : ℕ) (x : X) → slice_get xs i ≡ Some x → slice_get (map f xs) i ≡ Some (f x)
got_map f xs i x at = slice_get-map f xs i ∙ ap (option_map f) at

within_got : {X : Type 0} (xs : List X) (i : ℕ) (x : X) → slice_get xs i ≡ Some x → i < length xs
within_got [] i x at = absurd (none_some x at)
within_got (y ∷ ys) zero x at = omega arith
within_got (y ∷ ys) (suc i) x at = let h = within_got ys i x at in omega (arith, h)

same_count : {X : Type 0} (g : X → List Wanted) (could : Wanted → List ℕ) (xs : List X) → length (flat_map g xs) ≡ length (flat_map (λ x. map could (g x)) xs)
same_count g could xs = sym (ap length (each_mapped could g xs) ∙ length-map (flat_map g xs) could)

within_one : (ws vs : List Wanted) (could : Wanted → List ℕ) (k : ℕ) (w : Wanted) → ws ≡ vs → slice_get ws k ≡ Some w → k < length (map could vs)
within_one ws vs could k w same at = let h = within_got ws k w at in let e = ap length same in let m = length-map vs could in omega (arith, h, e, m)

-- what one of several things asks for stands behind what those before it ask for
pub stand_in : {X : Type 0} (g : X → List Wanted) (could : Wanted → List ℕ) (them : List X) (row : List (List ℕ)) (i : ℕ) (one d : X) (number : ℕ)
    → row ≡ map could (flat_map g them) → i < length them → one ≡ get_or them i d → number ≡ length (flat_map g (take i them)) → StandAt could row number (g one)
stand_in g could them row i one d number are within is counted = λ k w at.
    ap (λ r. get_or r (number + k) []) (are ∙ sym (each_mapped could g them))
    ∙ ap (λ m. get_or (flat_map (λ x. map could (g x)) them) (m + k) []) (counted ∙ same_count g could (take i them))
    ∙ get_or-flat_map (λ x. map could (g x)) them i k d [] within (within_one (g one) (g (get_or them i d)) could k w (ap g is) at)
    ∙ ap (λ x. get_or (map could (g x)) k []) (sym is)
    ∙ get_or_from_slice_get (map could (g one)) k (could w) [] (got_map could (g one) k w at)

-- a permission behind its class word
pub stand_behind : (ps : List Placed) (c : ScopedWord) (ws : List PlacedWord) (could : Wanted → List ℕ) (row : List (List ℕ)) (number k place : ℕ) (w : PlacedWord) → StandAt could row number (wanted_behind ps c ws)
    → slice_get ws k ≡ Some w → place ≡ number + suc k → get_or row place [] ≡ could (APermission c (scoped_by ps w))
stand_behind ps c ws could row number k place w stand at e =
    ap (λ m. get_or row m []) e ∙ stand (suc k) (APermission c (scoped_by ps w)) (got_map (λ v. APermission c (scoped_by ps v)) ws k w at)

-- ---- a thing at its place

module _ (ps : List Placed) (could : Wanted → List ℕ) (row : List (List ℕ)) (number : ℕ) (one : Asked) (stand : StandAt could row number (wanted_by ps one)) where
  first_is : (w : Wanted) → slice_get (wanted_by ps one) 0 ≡ Some w → get_or row number [] ≡ could w
  first_is w at = ap (λ m. get_or row m []) (let e : number ≡ number + 0 = omega arith in e) ∙ stand 0 w at

  pub word_cell : (w : PlacedWord) → one ≡ asked.Word w → get_or row number [] ≡ could (AWord (scoped_by ps w))
  word_cell w is = first_is (AWord (scoped_by ps w)) (ap (λ o. slice_get (wanted_by ps o) 0) is)

  pub class_cell : (c : PlacedWord) (ws : Vec PlacedWord) → one ≡ asked.ClassList c ws → get_or row number [] ≡ could (AWord (scoped_by ps c))
  class_cell c ws is = first_is (AWord (scoped_by ps c)) (ap (λ o. slice_get (wanted_by ps o) 0) is)

-- how many words come before the next thing
pub counted : {X : Type 0} (g : X → List Wanted) (xs : List X) (k : ℕ) (x d : X) (n m : ℕ) → k < length xs → x ≡ get_or xs k d → n ≡ length (flat_map g (take k xs)) → m ≡ length (g x) + n
    → m ≡ length (flat_map g (take (k + 1) xs))
counted g xs k x d n m within is so more =
    let whole = ap length (one_flat g xs k x d (flat_map g (take k xs)) (flat_map g (take k xs) ++ g x) within is refl refl) in
    let parts = length-append (flat_map g (take k xs)) (g x) in
    omega (arith, whole, parts, so, more)

pub not_outside : (round : List ℕ) → (round ≡ [] → ⊥) → is_outside round ≡ false
not_outside [] no_way = absurd (no_way refl)
not_outside (o ∷ os) no_way = refl

-- the permission of a number
pub permission_there : (ws : List PlacedWord) (k : ℕ) (w d : PlacedWord) → k < length ws → w ≡ get_or ws k d → slice_get ws k ≡ Some w
permission_there ws k w d within is = slice_get-get_or ws k d within ∙ ap Some (sym is)
