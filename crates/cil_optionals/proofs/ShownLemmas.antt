-- What the tests over parts show is that a choice is right.
use Rattle.std.specs.Prelude.{Some, None, slice_get, not, map, take, ◌==◌}
use Rattle.std.proofs.Common.{◌≡◌, ℕ, zero, suc, Bool, true, false, ◌&&◌, ◌||◌, ◌++◌, List, [], ◌∷◌, refl, sym, subst, ap, ◌∙◌}
use Rattle.std.proofs.lemmas.List.{append_assoc, map-append}
use Rattle.std.proofs.lemmas.List.Folds.{list_any-append}
use Rattle.cil_base.specs.Among.{among, equal_number}
use Rattle.cil_blocks.specs.declared.namespaces.Space.{Space}
use Rattle.cil_macros.specs.Item.{Item, OptSet}
use Rattle.cil_names.specs.declared.entry.Entry.{Entry}
use Rattle.cil_names.specs.Laws.{ResolvesByCandidates}
use Rattle.cil_optionals.specs.declared.reason.Reason.{Reason}
use Rattle.cil_optionals.specs.Certificate.{left_out, Holds, InOrder, no_more, one_more, IsRight}
use Rattle.cil_optionals.specs.Greatest.{is_optional_at}
use Rattle.cil_optionals.specs.Parts.{ArePartsOf, IsShown, Part, holds_in, is_optional_part, is_step, is_well, left_after, names_one}
use Rattle.cil_optionals.proofs.BoolLemmas.{and_left, and_of, and_right, any_at, map_from, not_true, true_not}
use Rattle.cil_optionals.proofs.PartLemmas.{good_from, good_to, holds_from, holds_to, left_is, optional_same, same_number}

-- the order of what is out does not matter
or_swap : (a b c : Bool) → (a || (b || c)) ≡ (b || (a || c))
or_swap true true c = refl
or_swap true false c = refl
or_swap false b c = refl

or_last : (a b : Bool) → (a || (b || false)) ≡ (b || a)
or_last true true = refl
or_last true false = refl
or_last false true = refl
or_last false false = refl

abbrev pub AreSame : List ℕ → List Reason → Type 0
AreSame out rs = (o : ℕ) → among out o ≡ among (map left_out rs) o

pub pushed : (rs : List Reason) (r : Reason) (o : ℕ) → among (map left_out (rs ++ r ∷ [])) o ≡ ((left_out r == o) || among (map left_out rs) o)
pushed rs r o =
    ap (λ l. among l o) (map-append left_out rs (r ∷ [])) ∙ list_any-append (λ k. k == o) (map left_out rs) (left_out r ∷ [])
    ∙ or_last (among (map left_out rs) o) (left_out r == o)

pub one_more_out : (out : List ℕ) (rs : List Reason) (r : Reason) → AreSame out rs → AreSame (left_out r ∷ out) (rs ++ r ∷ [])
one_more_out out rs r same o = ap (λ b. (left_out r == o) || b) (same o) ∙ sym (pushed rs r o)

one_item : (a b : Reason) → Some a ≡ Some b → a ≡ b
one_item a b e = cc

-- what is left and the optionals that went are all
left_or_out : (a e out : Bool) → e ≡ (a && not out) → (out ≡ true → a ≡ true) → a ≡ (e || out)
left_or_out true e true h f = sym (ap (λ b. b || true) h)
left_or_out true e false h f = sym (ap (λ b. b || false) h)
left_or_out false e true h f = absurd (let g : false ≡ true = f refl in cc)
left_or_out false e false h f = sym (ap (λ b. b || false) h)

left_apart : (a e out : Bool) → e ≡ (a && not out) → (e && out) ≡ false
left_apart true e true h = ap (λ b. b && true) h
left_apart true e false h = ap (λ b. b && false) h
left_apart false e true h = ap (λ b. b && true) h
left_apart false e false h = ap (λ b. b && false) h

left_by : (a e out : Bool) → a ≡ (e || out) → (e && out) ≡ false → e ≡ (a && not out)
left_by a true true h g = absurd (let k : true ≡ false = g in cc)
left_by a true false h g = ap (λ b. b && true) (sym h)
left_by a false true h g = ap (λ b. b && false) (sym h)
left_by a false false h g = ap (λ b. b && true) (sym h)

or_out : (e out : Bool) → out ≡ true → (e || out) ≡ true
or_out true out h = refl
or_out false out h = h

module _ (law : ResolvesByCandidates) (ss : List Space) (es : List Entry) (xs : List Item) (ps : List Part) (of : ArePartsOf ss es xs ps) where
  -- the reason holds after these
  abbrev IsStepAfter : List Reason → Reason → Type 0
  IsStepAfter rs r = is_step ps (left_after ps rs) (names_one es (left_after ps rs)) r ≡ true

  abbrev AreSteps : List Reason → List Reason → Type 0
  AreSteps before rs = (k : ℕ) (r : Reason) → slice_get rs k ≡ Some r → IsStepAfter (before ++ take k rs) r

  fresh_of : (a b : Bool) → (a && not b) ≡ true → b ≡ false
  fresh_of true b h = not_true b h
  fresh_of false b h = absurd (let e : false ≡ true = h in cc)

  fresh_to : (a b : Bool) → a ≡ true → b ≡ false → (a && not b) ≡ true
  fresh_to true b e h = true_not b h
  fresh_to false b e h = absurd (let g : false ≡ true = e in cc)

  step_holds : (before : List Reason) (out : List ℕ) (r : Reason) → AreSame out before → IsStepAfter before r → (among out (left_out r) ≡ false) × Holds xs out r
  step_holds before out r same h =
      let s = left_after ps before in (
        same (left_out r) ∙ fresh_of (is_optional_part ps (left_out r)) (among (map left_out before) (left_out r)) (and_left (s (left_out r)) (holds_in ps s (names_one es s) r) h),
        holds_from law ss es xs ps of out r
            (ap (λ t. holds_in ps t (names_one es t) r) (sym (left_is law ss es xs ps of before out same)) ∙ and_right (s (left_out r)) (holds_in ps s (names_one es s) r) h),
      )

  holds_step : (before : List Reason) (out : List ℕ) (r : Reason) → AreSame out before → is_optional_at xs (left_out r) ≡ true → among out (left_out r) ≡ false
      → Holds xs out r → IsStepAfter before r
  holds_step before out r same optional fresh holds =
      let s = left_after ps before in
      and_of (s (left_out r)) (holds_in ps s (names_one es s) r)
      (fresh_to (is_optional_part ps (left_out r)) (among (map left_out before) (left_out r)) (optional_same law ss es xs ps of (left_out r) ∙ optional) (sym (same (left_out r)) ∙ fresh))
      (ap (λ t. holds_in ps t (names_one es t) r) (left_is law ss es xs ps of before out same) ∙ holds_to law ss es xs ps of out r holds)

  order_from : (before rs : List Reason) (out : List ℕ) → AreSame out before → AreSteps before rs → InOrder xs out rs
  order_from before [] out same steps = no_more out
  order_from before (r ∷ rs) out same steps =
      let h = step_holds before out r same (subst (λ q. IsStepAfter q r) (append_nil before) (steps 0 r refl)) in
      one_more out r rs h.0 h.1
      (order_from (before ++ r ∷ []) rs (left_out r ∷ out) (one_more_out out before r same)
      (λ k q e. subst (λ z. IsStepAfter z q) (sym (append_assoc before (r ∷ []) (take k rs))) (steps (suc k) q e)))
    where
      append_nil : (l : List Reason) → l ++ [] ≡ l
      append_nil [] = refl
      append_nil (x ∷ l) = ap (λ z. x ∷ z) (append_nil l)

  order_to : (before rs : List Reason) (out : List ℕ) → AreSame out before → ((k : ℕ) (r : Reason) → slice_get rs k ≡ Some r → is_optional_at xs (left_out r) ≡ true)
      → InOrder xs out rs → AreSteps before rs
  order_to before [] out same optional order k q e = absurd (let g : None ≡ Some q = e in cc)
  order_to before (r ∷ rs) out same optional (one_more o t ts fresh holds order) zero q e =
      subst (λ z. IsStepAfter z q) (sym (append_nil before))
      (subst (IsStepAfter before) (one_item r q e) (holds_step before out r same (optional 0 r refl) fresh holds))
    where
      append_nil : (l : List Reason) → l ++ [] ≡ l
      append_nil [] = refl
      append_nil (x ∷ l) = ap (λ z. x ∷ z) (append_nil l)
  order_to before (r ∷ rs) out same optional (one_more o t ts fresh holds order) (suc k) q e =
      subst (λ z. IsStepAfter z q) (append_assoc before (r ∷ []) (take k rs))
      (order_to (before ++ r ∷ []) rs (left_out r ∷ out) (one_more_out out before r same) (λ i p h. optional (suc i) p h) order k q e)

  -- what is out was left before
  out_optional : (rs : List Reason) → AreSteps [] rs → (o : ℕ) → among (map left_out rs) o ≡ true → is_optional_at xs o ≡ true
  out_optional rs steps o h =
      let at = any_at (λ k. k == o) (map left_out rs) h in
      let r = map_from left_out rs at.0 at.1 at.2 in
      let s = left_after ps (take at.0 rs) in
      let left = and_left (s (left_out r.0)) (holds_in ps s (names_one es s) r.0) (steps at.0 r.0 r.1) in
      let same : left_out r.0 ≡ o = sym r.2 ∙ equal_number at.1 o at.3 in
      subst (λ z. is_optional_at xs z ≡ true) same
      (sym (optional_same law ss es xs ps of (left_out r.0)) ∙ and_left (is_optional_part ps (left_out r.0)) (not (among (map left_out (take at.0 rs)) (left_out r.0))) left)

  pub shown_right : (enabled : OptSet) (rs : List Reason) → IsShown ps es enabled rs → IsRight xs enabled rs
  shown_right enabled rs shown =
      let same : enabled ≡ left_after ps rs = λ i o. shown.left o i in
      let by : (o : ℕ) → enabled o ≡ (is_optional_at xs o && not (among (map left_out rs) o)) =
      λ o. shown.left o ∙ ap (λ b. b && not (among (map left_out rs) o)) (optional_same law ss es xs ps of o) in record {
        good = good_from law ss es xs ps of enabled (λ o h. and_left (is_optional_at xs o) (not (among (map left_out rs) o)) (sym (by o) ∙ h))
            (subst (λ s. (at : ℕ) (p : Part) → slice_get ps at ≡ Some p → is_well s (names_one es s) at p ≡ true) (sym same) shown.well);
        order = order_from [] rs [] (λ o. refl) shown.steps;
        each = λ o. left_or_out (is_optional_at xs o) (enabled o) (among (map left_out rs) o) (by o) (out_optional rs shown.steps o);
        apart = λ o. left_apart (is_optional_at xs o) (enabled o) (among (map left_out rs) o) (by o);
      }

  pub right_shown : (enabled : OptSet) (rs : List Reason) → IsRight xs enabled rs → IsShown ps es enabled rs
  right_shown enabled rs right =
      let by : (o : ℕ) → enabled o ≡ left_after ps rs o =
      λ o. left_by (is_optional_at xs o) (enabled o) (among (map left_out rs) o) (right.each o) (right.apart o)
      ∙ ap (λ b. b && not (among (map left_out rs) o)) (sym (optional_same law ss es xs ps of o)) in
      let same : enabled ≡ left_after ps rs = λ i o. by o i in
      let optional : (k : ℕ) (r : Reason) → slice_get rs k ≡ Some r → is_optional_at xs (left_out r) ≡ true =
      λ k r e. right.each (left_out r) ∙ or_out (enabled (left_out r)) (among (map left_out rs) (left_out r)) (is_among rs k r e) in record {
        steps = order_to [] rs [] (λ o. refl) optional right.order;
        left = by;
        well = subst (λ s. (at : ℕ) (p : Part) → slice_get ps at ≡ Some p → is_well s (names_one es s) at p ≡ true) same (good_to law ss es xs ps of enabled right.good);
      }
    where
      or_here : (a b : Bool) → a ≡ true → (a || b) ≡ true
      or_here true b h = refl
      or_here false b h = absurd (let e : false ≡ true = h in cc)

      is_among : (rs : List Reason) (k : ℕ) (r : Reason) → slice_get rs k ≡ Some r → among (map left_out rs) (left_out r) ≡ true
      is_among [] k r e = absurd (let g : None ≡ Some r = e in cc)
      is_among (q ∷ qs) zero r e =
          or_here (left_out q == left_out r) (among (map left_out qs) (left_out r))
          (ap (λ z. left_out q == left_out z) (one_item r q (sym e)) ∙ same_number (left_out q))
      is_among (q ∷ qs) (suc k) r e = or_out (left_out q == left_out r) (among (map left_out qs) (left_out r)) (is_among qs k r e)
