-- The values of expressions over permissions, by the numbers of their words.
use Rattle.std.specs.Prelude.{◌⊎◌, ◌==◌, ◌&&◌, ◌||◌, Option, Some, None, cond, slice_get}
use Rattle.std.specs.Option.{option_map}
use Rattle.std.specs.Global.{Vec}
use Rattle.std.specs.List.Sorted.{IsStrictlySortedBy}
use Rattle.std.specs.Cmp.Lexicographic.{bytes_decides}
use Rattle.std.specs.declared.cmp.Ordering.TheVariants.{Equal, Less}
use Rattle.std.proofs.Common.{◌≡◌, ℕ, zero, suc, ◌+◌, ◌<◌, ◌≤◌, Bool, true, false, List, [], ◌∷◌, ◌++◌, length, take, drop, get_or, refl, sym, ◌∙◌, ap, subst, inl, inr, arith, append_assoc}
use Rattle.std.proofs.lemmas.Bool.{cases_Bool, true≢false}
use Rattle.std.proofs.lemmas.Bool.Decides.{nat_tests}
use Rattle.std.proofs.lemmas.Cmp.{nat_list_cmp_total, tied_itself}
use Rattle.std.proofs.lemmas.List.{length-map, map-append, take_all, take_more, take-append-drop}
use Rattle.std.proofs.lemmas.Option.{same_Some}
use Rattle.cil_base.specs.Lists.{text_cmp}
use Rattle.cil_base.specs.Places.{none_some, some_same}
use Rattle.cil_base.specs.Rising.{rises_between}
use Rattle.cil_base.specs.declared.bytes.Bytes.{Bytes}
use Rattle.cil_faults.specs.Spots.{spot_at}
use Rattle.cil_faults.specs.declared.spot.Spot.{Spot}
use Rattle.cil_syntax.specs.Expressions.{Complement, EachOf, Everything, OddOf, RangeOf, SomeOf, Way, by_way, differ, is_in, is_in_each, is_in_odd, is_in_some, way_of}
use Rattle.cil_syntax.specs.declared.term.LookedUp.{LookedUp}
use Rattle.cil_syntax.specs.declared.term.Op.{Op}
use Rattle.cil_syntax.specs.declared.term.Term as rust
use Rattle.cil_syntax.specs.declared.term.Word.{Word}
use Rattle.cil_syntax.specs.Said.{all_said, word_in}
use Rattle.cil_syntax.specs.Scopes.{ScopedWord}
use Rattle.cil_syntax.specs.Spelling.{same_bytes}
use Rattle.cil_syntax.specs.Terms.{Term, Leaf, Name, Form, Terms, nil, cons}
use Rattle.cil_syntax.proofs.SaidLemmas.{form_said, leaf_said, name_said}
use Rattle.cil_macros.specs.Item.{all_replaced, replaced, words_in}
use Rattle.cil_names.specs.Entries.{place_where}
use Rattle.cil_names.specs.PermissionWords.{number_among}
use Rattle.cil_names.specs.Unresolved.{term_with, terms_with}
use Rattle.cil_known.proofs.LeafLemmas.{all_leaves, leaves_form, leaves_leaf, leaves_more, leaves_none, leaves_of}
use Rattle.cil_classes.specs.Numbers.{AreNumbered, IsTallied, combined_of, is_number, numbers_of}
use Rattle.cil_classes.specs.Values.{in_each_there, in_odd_there, in_some_there, in_value, in_value_there}

-- ---- where nothing is there nothing is in a value

mutual
  unfolding is_in is_in_some is_in_each is_in_odd

  none_in : (e : Term ScopedWord) → is_in (λ (w : ScopedWord). false) false (λ parts. false) e ≡ false
  none_in (Leaf w) = refl
  none_in (Name at x) = refl
  none_in (Form at op ts) =
      ap (λ b. by_way (way_of op) false b (is_in_each (λ (w : ScopedWord). false) false (λ parts. false) ts) (is_in_odd (λ (w : ScopedWord). false) false (λ parts. false) ts) false) (none_in_some ts)
      ∙ ap (λ b. by_way (way_of op) false false b (is_in_odd (λ (w : ScopedWord). false) false (λ parts. false) ts) false) (none_in_each ts)
      ∙ ap (λ b. by_way (way_of op) false false false b false) (none_in_odd ts)
      ∙ nothing (way_of op)
    where
      nothing : (way : Way) → by_way way false false false false false ≡ false
      nothing Everything = refl
      nothing Complement = refl
      nothing SomeOf = refl
      nothing EachOf = refl
      nothing OddOf = refl
      nothing RangeOf = refl

  none_in_some : (ts : Terms ScopedWord) → is_in_some (λ (w : ScopedWord). false) false (λ parts. false) ts ≡ false
  none_in_some nil = refl
  none_in_some (cons t ts) = ap (λ b. b || is_in_some (λ (w : ScopedWord). false) false (λ parts. false) ts) (none_in t) ∙ none_in_some ts

  none_in_each : (ts : Terms ScopedWord) → is_in_each (λ (w : ScopedWord). false) false (λ parts. false) ts ≡ false
  none_in_each nil = refl
  none_in_each (cons t ts) = ap (λ b. b && is_in_each (λ (w : ScopedWord). false) false (λ parts. false) ts) (none_in t)

  none_in_odd : (ts : Terms ScopedWord) → is_in_odd (λ (w : ScopedWord). false) false (λ parts. false) ts ≡ false
  none_in_odd nil = refl
  none_in_odd (cons t ts) = ap (λ b. differ b (is_in_odd (λ (w : ScopedWord). false) false (λ parts. false) ts)) (none_in t) ∙ none_in_odd ts

-- a permission is in a value where it is there, and in the value of the expression over what is there
pub value_there : (has : List ℕ → Bool) (e : Term ScopedWord) (p : List ℕ) → in_value has e p ≡ (has p && in_value_there e p)
value_there has e p = step (has p)
  where
    step : (b : Bool) → is_in (λ w. b && same_bytes w.bytes p) b (λ parts. false) e ≡ (b && in_value_there e p)
    step true = refl
    step false = none_in e

-- ---- places

module _ (name : List ℕ) where
  found_later : (x : List ℕ) (xs : List (List ℕ)) (n : ℕ) (o : Option ℕ) → option_map suc o ≡ Some n → ((k : ℕ) → o ≡ Some k → slice_get xs k ≡ Some name) → slice_get (x ∷ xs) n ≡ Some name
  found_later x xs n None f more = absurd (none_some n f)
  found_later x xs n (Some k) f more = subst (λ j. slice_get (x ∷ xs) j ≡ Some name) (same_Some (suc k) n f) (more k refl)

  found_step : (x : List ℕ) (xs : List (List ℕ)) (n : ℕ) (b : Bool) → same_bytes x name ≡ b → cond b (Some 0) (option_map suc (place_where (λ y. same_bytes y name) xs)) ≡ Some n
      → ((k : ℕ) → number_among xs name ≡ Some k → slice_get xs k ≡ Some name) → slice_get (x ∷ xs) n ≡ Some name
  found_step x xs n true t f more = subst (λ j. slice_get (x ∷ xs) j ≡ Some name) (same_Some 0 n f) (ap Some ((bytes_decides x name).0 t))
  found_step x xs n false t f more = found_later x xs n (place_where (λ y. same_bytes y name) xs) f more

  -- where a name is found it stands
  pub found_at : (ns : List (List ℕ)) (n : ℕ) → number_among ns name ≡ Some n → slice_get ns n ≡ Some name
  unfolding place_where
  found_at [] n e = absurd (none_some n e)
  found_at (x ∷ xs) n e = found_step x xs n (same_bytes x name) refl e (found_at xs)

  here_step : (x : List ℕ) (xs : List (List ℕ)) (b : Bool) → same_bytes x name ≡ b → (n : ℕ) → slice_get (x ∷ xs) n ≡ Some name
      → ((k : ℕ) → slice_get xs k ≡ Some name → (j : ℕ) × (number_among xs name ≡ Some j)) → (k : ℕ) × (cond b (Some 0) (option_map suc (place_where (λ y. same_bytes y name) xs)) ≡ Some k)
  here_step x xs true t n f more = (0, refl)
  here_step x xs false t zero f more = absurd (true≢false (sym ((bytes_decides x name).1 (some_same x name f)) ∙ t))
  here_step x xs false t (suc n) f more = let r = more n f in (suc r.0, ap (option_map suc) r.1)

  -- what stands in a list is found there
  pub found_here : (ns : List (List ℕ)) (n : ℕ) → slice_get ns n ≡ Some name → (k : ℕ) × (number_among ns name ≡ Some k)
  unfolding place_where
  found_here [] n e = absurd (none_some name e)
  found_here (x ∷ xs) n e = here_step x xs (same_bytes x name) refl n e (found_here xs)

-- ---- one permission, by the first number

which : (i j : ℕ) → (i < j) ⊎ ((i ≡ j) ⊎ (j < i))
which i j = grind arith

-- each permission has one number
pub apart : (ps : List (List ℕ)) → IsStrictlySortedBy text_cmp ps → (i j : ℕ) (p : List ℕ) → slice_get ps i ≡ Some p → slice_get ps j ≡ Some p → i ≡ j
apart ps rising i j p at bt = elim (which i j) [
  | inl less ↦ absurd (impossible (rises_between text_cmp ps i j p p rising at bt less))
  | inr rest ↦ elim rest [ inl e ↦ e | inr more ↦ absurd (impossible (rises_between text_cmp ps j i p p rising bt at more)) ]
]
  where
    impossible : text_cmp p p ≡ Less → ⊥
    impossible less = let f : Less ≡ Equal = sym less ∙ tied_itself nat_list_cmp_total p in cc

equal_test : (a b : ℕ) → a ≡ b → (a == b) ≡ true
equal_test a b e = grind (arith, nat_tests)

equal_number : (a b : ℕ) → (a == b) ≡ true → a ≡ b
equal_number a b e = grind (arith, nat_tests)

module _ (ps : List (List ℕ)) (rising : IsStrictlySortedBy text_cmp ps) (number : ℕ) (p : List ℕ) (at : slice_get ps number ≡ Some p) where
  -- the number is that of a name just where the name is the permission
  number_is_its : (name : List ℕ) → is_number number (number_among ps name) ≡ same_bytes name p
  number_is_its name = step (number_among ps name) refl
    where
      step : (o : Option ℕ) → number_among ps name ≡ o → is_number number o ≡ same_bytes name p
      step None e = elim (cases_Bool (same_bytes name p)) [
        | inl t ↦
            let here = found_here name ps number (at ∙ ap Some (sym ((bytes_decides name p).0 t))) in
            absurd (none_some here.0 (sym e ∙ here.1))
        | inr f ↦ sym f
      ]
      step (Some n) e =
          let there = found_at name ps n e in
          elim (cases_Bool (same_bytes name p)) [
            | inl t ↦ equal_test n number (apart ps rising n number name there (at ∙ ap Some (sym ((bytes_decides name p).0 t)))) ∙ sym t
            | inr f ↦ elim (cases_Bool (n == number)) [
              | inl t ↦
                  let same : name ≡ p = some_same name p (sym there ∙ ap (slice_get ps) (equal_number n number t) ∙ at) in
                  absurd (true≢false (sym ((bytes_decides name p).1 same) ∙ f))
              | inr g ↦ g ∙ sym f
            ]
          ]

-- ---- values

or_false : (b : Bool) → (b || false) ≡ b
or_false true = refl
or_false false = refl

and_true : (b : Bool) → (b && true) ≡ b
and_true true = refl
and_true false = refl

or_assoc : (a b c : Bool) → (a || (b || c)) ≡ ((a || b) || c)
or_assoc true b c = refl
or_assoc false b c = refl

and_assoc : (a b c : Bool) → (a && (b && c)) ≡ ((a && b) && c)
and_assoc true b c = refl
and_assoc false b c = refl

differ_false : (b : Bool) → differ b false ≡ b
differ_false true = refl
differ_false false = refl

differ_assoc : (a b c : Bool) → differ a (differ b c) ≡ differ (differ a b) c
differ_assoc true true true = refl
differ_assoc true true false = refl
differ_assoc true false true = refl
differ_assoc true false false = refl
differ_assoc false b c = refl

module _ (f : Word → ScopedWord) (m : ℕ) (p : List ℕ) where
  abbrev value : rust.Term → Bool
  value t = in_value_there (term_with f m t) p

  -- ---- operands, one after another

  some_cons : (x : rust.Term) (xs : List rust.Term) → in_some_there (terms_with f m (x ∷ xs)) p ≡ (value x || in_some_there (terms_with f m xs) p)
  unfolding is_in_some all_replaced
  some_cons x xs = refl

  each_cons : (x : rust.Term) (xs : List rust.Term) → in_each_there (terms_with f m (x ∷ xs)) p ≡ (value x && in_each_there (terms_with f m xs) p)
  unfolding is_in_each all_replaced
  each_cons x xs = refl

  odd_cons : (x : rust.Term) (xs : List rust.Term) → in_odd_there (terms_with f m (x ∷ xs)) p ≡ differ (value x) (in_odd_there (terms_with f m xs) p)
  unfolding is_in_odd all_replaced
  odd_cons x xs = refl

  pub none_tallied : IsTallied p (terms_with f m []) false true false
  unfolding is_in_some is_in_each is_in_odd all_replaced
  none_tallied = record { in_some = refl; in_each = refl; in_odd = refl }

  some_two : (xs : List rust.Term) (x : rust.Term) → in_some_there (terms_with f m (xs ++ x ∷ [])) p ≡ (in_some_there (terms_with f m xs) p || value x)
  some_two [] x = some_cons x [] ∙ ap (λ b. value x || b) (sym none_tallied.in_some) ∙ or_false (value x) ∙ ap (λ b. b || value x) none_tallied.in_some
  some_two (y ∷ ys) x =
      some_cons y (ys ++ x ∷ []) ∙ ap (λ b. value y || b) (some_two ys x)
      ∙ or_assoc (value y) (in_some_there (terms_with f m ys) p) (value x) ∙ ap (λ b. b || value x) (sym (some_cons y ys))

  each_two : (xs : List rust.Term) (x : rust.Term) → in_each_there (terms_with f m (xs ++ x ∷ [])) p ≡ (in_each_there (terms_with f m xs) p && value x)
  each_two [] x = each_cons x [] ∙ ap (λ b. value x && b) (sym none_tallied.in_each) ∙ and_true (value x) ∙ ap (λ b. b && value x) none_tallied.in_each
  each_two (y ∷ ys) x =
      each_cons y (ys ++ x ∷ []) ∙ ap (λ b. value y && b) (each_two ys x)
      ∙ and_assoc (value y) (in_each_there (terms_with f m ys) p) (value x) ∙ ap (λ b. b && value x) (sym (each_cons y ys))

  odd_two : (xs : List rust.Term) (x : rust.Term) → in_odd_there (terms_with f m (xs ++ x ∷ [])) p ≡ differ (in_odd_there (terms_with f m xs) p) (value x)
  odd_two [] x = odd_cons x [] ∙ ap (λ b. differ (value x) b) (sym none_tallied.in_odd) ∙ differ_false (value x) ∙ ap (λ b. differ b (value x)) none_tallied.in_odd
  odd_two (y ∷ ys) x =
      odd_cons y (ys ++ x ∷ []) ∙ ap (λ b. differ (value y) b) (odd_two ys x)
      ∙ differ_assoc (value y) (in_odd_there (terms_with f m ys) p) (value x) ∙ ap (λ b. differ b (value x)) (sym (odd_cons y ys))

  pub tallied_more : (xs : List rust.Term) (i : ℕ) (x : rust.Term) (some each odd more_some more_each more_odd : Bool) → i < length xs → x ≡ get_or xs i x → IsTallied p (terms_with f m (take i xs)) some each odd
      → more_some ≡ (some || value x) → more_each ≡ (each && value x) → more_odd ≡ differ odd (value x) → IsTallied p (terms_with f m (take (i + 1) xs)) more_some more_each more_odd
  tallied_more xs i x some each odd more_some more_each more_odd l is c e1 e2 e3 =
      let next : take (i + 1) xs ≡ take i xs ++ x ∷ [] = take_more xs i x l ∙ ap (λ z. take i xs ++ z ∷ []) (sym is) in
      subst (λ ys. IsTallied p (terms_with f m ys) more_some more_each more_odd) (sym next) (record {
        in_some = e1 ∙ ap (λ b. b || value x) c.in_some ∙ sym (some_two (take i xs) x);
        in_each = e2 ∙ ap (λ b. b && value x) c.in_each ∙ sym (each_two (take i xs) x);
        in_odd = e3 ∙ ap (λ b. differ b (value x)) c.in_odd ∙ sym (odd_two (take i xs) x);
      })

  pub tallied_all : (xs : List rust.Term) (i : ℕ) (some each odd : Bool) → length xs ≤ i → IsTallied p (terms_with f m (take i xs)) some each odd → IsTallied p (terms_with f m xs) some each odd
  tallied_all xs i some each odd over c = subst (λ ys. IsTallied p (terms_with f m ys) some each odd) (take_all i xs over) c

  -- ---- what an operator makes of them

  by_op : (op : Op) (at : Spot) (ts : Terms ScopedWord) (some each odd : Bool) → IsTallied p ts some each odd → combined_of op some each odd ≡ in_value_there (Form at op ts) p
  unfolding is_in
  by_op op at ts some each odd c =
      ap (λ b. by_way (way_of op) true b each odd false) c.in_some
      ∙ ap (λ b. by_way (way_of op) true (in_some_there ts p) b odd false) c.in_each
      ∙ ap (λ b. by_way (way_of op) true (in_some_there ts p) (in_each_there ts p) b false) c.in_odd

  form_across : (at : Spot) (op : Op) (parts : Terms Word) → replaced (λ at. at) f (Form at op parts) ≡ Form at op (all_replaced (λ at. at) f parts)
  unfolding replaced
  form_across at op parts = refl

  pub form_held : (t : rust.Term) (at : ℕ) (op : Op) (parts : Vec rust.Term) (some each odd : Bool) → t ≡ rust.Form op at parts → IsTallied p (terms_with f m parts.items) some each odd
      → combined_of op some each odd ≡ value t
  form_held t at op parts some each odd is c =
      by_op op (spot_at m at) (terms_with f m parts.items) some each odd c
      ∙ sym (ap (λ e. in_value_there e p) (ap (term_with f m) is ∙ ap (replaced (λ at. at) f) (form_said m at op parts) ∙ form_across (spot_at m at) op (all_said m parts.items)))

  name_value : (at : Spot) (bytes : List ℕ) → in_value_there (replaced (λ at. at) f (Name at bytes)) p ≡ false
  unfolding is_in replaced
  name_value at bytes = refl

  pub name_held : (t : rust.Term) (at : ℕ) (bytes : Bytes) → t ≡ rust.Name at bytes → false ≡ value t
  name_held t at bytes is = sym (ap value is ∙ ap (λ e. in_value_there (replaced (λ at. at) f e) p) (name_said m at bytes) ∙ name_value (spot_at m at) bytes)

  leaf_across : (w : Word) → in_value_there (replaced (λ at. at) f (Leaf w)) p ≡ same_bytes (f w).bytes p
  unfolding is_in replaced
  leaf_across w = refl

  pub leaf_value : (t : rust.Term) (w : LookedUp) → t ≡ rust.Leaf w → value t ≡ same_bytes (f (word_in m w)).bytes p
  leaf_value t w is = ap (λ e. in_value_there e p) (ap (term_with f m) is ∙ ap (replaced (λ at. at) f) (leaf_said m w)) ∙ leaf_across (word_in m w)

  pub leaf_held : (ps : List (List ℕ)) (number : ℕ) (t : rust.Term) (w : LookedUp) (numbers : List (Option ℕ)) (first : Option ℕ) (r : Bool) → IsStrictlySortedBy text_cmp ps → slice_get ps number ≡ Some p
      → t ≡ rust.Leaf w → AreNumbered ps f (leaves_of m t) numbers → first ≡ get_or numbers 0 None → r ≡ is_number number first → r ≡ value t
  leaf_held ps number t w numbers first r rising at is are begins found =
      found
      ∙ ap (is_number number) (begins ∙ ap (λ ns. get_or ns 0 None) (are.are ∙ ap (λ ls. numbers_of ps f ls ++ are.more) (leaves_leaf m t w is)))
      ∙ number_is_its ps rising number p at (f (word_in m w)).bytes
      ∙ sym (leaf_value t w is)

-- ---- numbers along the operands

leaves_first : (m : ℕ) (y : rust.Term) (ys : List rust.Term) → all_leaves m (y ∷ ys) ≡ leaves_of m y ++ all_leaves m ys
unfolding words_in
leaves_first m y ys = refl

behind_some : {X : Type 0} (xs ys : List X) → drop (length xs) (xs ++ ys) ≡ ys
behind_some [] ys = refl
behind_some (x ∷ xs) ys = behind_some xs ys

module _ (ps : List (List ℕ)) (f : Word → ScopedWord) (m : ℕ) where
  pub numbered_form : (t : rust.Term) (at : ℕ) (op : Op) (parts : Vec rust.Term) (numbers : List (Option ℕ)) → t ≡ rust.Form op at parts → AreNumbered ps f (leaves_of m t) numbers
      → AreNumbered ps f (all_leaves m parts.items) numbers
  numbered_form t at op parts numbers is are = subst (λ ls. AreNumbered ps f ls numbers) (leaves_form m t at op parts is) are

  leaves_append : (ys zs : List rust.Term) → all_leaves m (ys ++ zs) ≡ all_leaves m ys ++ all_leaves m zs
  leaves_append [] zs = sym (ap (λ z. z ++ all_leaves m zs) (leaves_none m))
  leaves_append (y ∷ ys) zs =
      leaves_first m y (ys ++ zs) ∙ ap (λ z. leaves_of m y ++ z) (leaves_append ys zs) ∙ sym (append_assoc (leaves_of m y) (all_leaves m ys) (all_leaves m zs))
      ∙ ap (λ z. z ++ all_leaves m zs) (sym (leaves_first m y ys))

  leaves_split : (xs : List rust.Term) (i : ℕ) (x : rust.Term) → i < length xs → x ≡ get_or xs i x → (more : List Word) × (all_leaves m xs ≡ all_leaves m (take i xs) ++ (leaves_of m x ++ more))
  leaves_split xs i x l is = (
    all_leaves m (drop (i + 1) xs),
    ap (all_leaves m) (sym (take-append-drop (i + 1) xs))
        ∙ leaves_append (take (i + 1) xs) (drop (i + 1) xs)
        ∙ ap (λ z. z ++ all_leaves m (drop (i + 1) xs)) (leaves_more m xs i x l is)
        ∙ append_assoc (all_leaves m (take i xs)) (leaves_of m x) (all_leaves m (drop (i + 1) xs)),
  )

  abbrev number : Word → Option ℕ
  number w = number_among ps (f w).bytes

  pub numbered_part : (xs : List rust.Term) (i : ℕ) (x : rust.Term) (numbers rest : List (Option ℕ)) → i < length xs → x ≡ get_or xs i x → AreNumbered ps f (all_leaves m xs) numbers
      → rest ≡ drop (length (all_leaves m (take i xs))) numbers → AreNumbered ps f (leaves_of m x) rest
  numbered_part xs i x numbers rest l is are at =
      let split = leaves_split xs i x l is in
      let front = numbers_of ps f (all_leaves m (take i xs)) in
      let back = numbers_of ps f (leaves_of m x) ++ (numbers_of ps f split.0 ++ are.more) in
      let whole : numbers ≡ front ++ back =
      are.are
      ∙ ap (λ ls. numbers_of ps f ls ++ are.more) split.1
      ∙ ap (λ z. z ++ are.more) (map-append number (all_leaves m (take i xs)) (leaves_of m x ++ split.0))
      ∙ append_assoc front (numbers_of ps f (leaves_of m x ++ split.0)) are.more
      ∙ ap (λ z. front ++ z)
      (ap (λ z. z ++ are.more) (map-append number (leaves_of m x) split.0) ∙ append_assoc (numbers_of ps f (leaves_of m x)) (numbers_of ps f split.0) are.more) in
      record {
        more = numbers_of ps f split.0 ++ are.more;
        are =
            at
            ∙ ap (drop (length (all_leaves m (take i xs)))) whole
            ∙ ap (λ n. drop n (front ++ back)) (sym (length-map (all_leaves m (take i xs)) number))
            ∙ behind_some front back;
      }
