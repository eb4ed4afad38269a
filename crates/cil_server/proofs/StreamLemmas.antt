-- Bytes taken from a reader and told to a writer, part by part.
use Rattle.std.specs.Prelude.{Option, None, Some, Bool, true, false, not}
use Rattle.std.specs.Borrow.{GName}
use Rattle.std.specs.Option.{unwrap_or}
use Rattle.std.specs.Io.KnownBytes.{Appends, Consumes, IsAtEnd, Keeps}
use Rattle.std.specs.List.{flat_map}
use Rattle.std.proofs.Common.{◌≡◌, ℕ, ◌+◌, ◌<◌, ◌≤◌, List, [], ◌∷◌, ◌++◌, length, take, get_or, refl, sym, ◌∙◌, ap, subst, arith}
use Rattle.std.proofs.lemmas.Grind.{flat_map-append}
use Rattle.std.proofs.lemmas.List.{append_assoc, append-nil, take_all, take_more}
use Rattle.std.proofs.lemmas.List.Concat.{flat_map-cons}
use Rattle.cil_server.specs.Devices.{AppendsFront, IsFront}
use Rattle.cil_server.specs.Given.{Gives, GivesCounted}
use Rattle.cil_server.specs.Streams.{Grows, Holds, HoldsIn, IsHeld, OutputState, Tells, Writes, one_if}

-- ---- taken

pub consumes_both : (a b c : Option (List ℕ)) (xs ys : List ℕ) → Consumes a b xs → Consumes b c ys → Consumes a c (xs ++ ys)
consumes_both None b c xs ys f g = f
consumes_both (Some p) (Some q) (Some r) xs ys f g = f ∙ ap (λ z. xs ++ z) g ∙ sym (append_assoc xs ys r)
consumes_both (Some p) None c xs ys f g = absurd f
consumes_both (Some p) (Some q) None xs ys f g = absurd g

pub consumes_same : (a b : Option (List ℕ)) (xs ys : List ℕ) → Consumes a b xs → xs ≡ ys → Consumes a b ys
consumes_same a b xs ys f e = subst (Consumes a b) e f

pub consumes_kept : (a b c : Option (List ℕ)) (xs : List ℕ) → Consumes a b xs → Keeps b c → Consumes a c xs
consumes_kept None b c xs f k = f
consumes_kept (Some p) (Some q) (Some r) xs f k = f ∙ ap (λ z. xs ++ z) (sym k)
consumes_kept (Some p) None c xs f k = absurd f
consumes_kept (Some p) (Some q) None xs f k = absurd k

pub keeps_consumes : (a b c : Option (List ℕ)) (xs : List ℕ) → Keeps a b → Consumes b c xs → Consumes a c xs
keeps_consumes None b c xs k f = k
keeps_consumes (Some p) (Some q) c xs k f = subst (λ z. Consumes (Some z) c xs) k f
keeps_consumes (Some p) None c xs k f = absurd k

pub keeps_same : (a : Option (List ℕ)) → Keeps a a
keeps_same None = tt
keeps_same (Some p) = refl

pub consumes_none : (a b : Option (List ℕ)) → Keeps a b → Consumes a b []
consumes_none None b k = k
consumes_none (Some p) (Some q) k = sym k
consumes_none (Some p) None k = absurd k

pub consumed : (a b : Option (List ℕ)) (bytes part : List ℕ) → Consumes a b part → a ≡ Some bytes → (rest : List ℕ) × (b ≡ Some rest) × (bytes ≡ part ++ rest)
consumed None b bytes part f e = absurd (none_some e)
  where
    none_some : {x : List ℕ} → None ≡ Some x → ⊥
    none_some h = cc
consumed (Some p) None bytes part f e = absurd f
consumed (Some p) (Some q) bytes part f e = (q, refl, sym (ap (λ o. unwrap_or o p) e) ∙ f)

pub at_end : (a : Option (List ℕ)) (rest : List ℕ) → IsAtEnd a → a ≡ Some rest → rest ≡ []
at_end None rest h e = absurd (none_some e)
  where
    none_some : {x : List ℕ} → None ≡ Some x → ⊥
    none_some h = cc
at_end (Some p) rest h e = sym (ap (λ o. unwrap_or o p) e) ∙ h

-- ---- a writer's bytes grow

appends_none : (a : Option (List ℕ)) → Appends a a []
appends_none None = tt
appends_none (Some p) = sym (append-nil p)

appends_both : (a b c : Option (List ℕ)) (xs ys : List ℕ) → Appends a b xs → Appends b c ys → Appends a c (xs ++ ys)
appends_both None b c xs ys f g = f
appends_both (Some p) (Some q) (Some r) xs ys f g = g ∙ ap (λ z. z ++ ys) f ∙ append_assoc p xs ys
appends_both (Some p) None c xs ys f g = absurd f
appends_both (Some p) (Some q) None xs ys f g = absurd g

pub grows_both : (a b c : Option (List ℕ)) → Grows a b → Grows b c → Grows a c
grows_both a b c f g = (f.0 ++ g.0, appends_both a b c f.0 g.0 f.1 g.1)

-- ---- told

pub writes_none : (w : OutputState) → Writes w w
writes_none w = record { counts = refl; lasting = λ h. h; writer = refl }

pub writes_both : (w v u : OutputState) → Writes w v → Writes v u → Writes w u
writes_both w v u f g = record { counts = all _ _ _ _ _ _ f.counts g.counts; lasting = λ h. g.lasting (f.lasting h); writer = g.writer ∙ f.writer }
  where
    all : (a b c x y z : ℕ) → b + x ≡ a + y → c + y ≡ b + z → c + x ≡ a + z
    all a b c x y z e h = omega (arith, e, h)

pub tells_none : (w : OutputState) → Tells w w []
tells_none w = record { told = λ before told h. subst (Holds before w) (sym (append-nil told)) h; grows = ([], appends_none w.written); writes = writes_none w }

pub tells_both : (w v u : OutputState) (xs ys : List ℕ) → Tells w v xs → Tells v u ys → Tells w u (xs ++ ys)
tells_both w v u xs ys f g = record {
  told = λ before told h. subst (Holds before u) (append_assoc told xs ys) (g.told before (told ++ xs) (f.told before told h));
  grows = grows_both w.written v.written u.written f.grows g.grows;
  writes = writes_both w v u f.writes g.writes;
}

-- three and four after another
pub tells_three : (w v u t : OutputState) (xs ys zs : List ℕ) → Tells w v xs → Tells v u ys → Tells u t zs → Tells w t (xs ++ ys ++ zs)
tells_three w v u t xs ys zs f g h = tells_both w u t (xs ++ ys) zs (tells_both w v u xs ys f g) h

pub tells_four : (w v u t s : OutputState) (xs ys zs us : List ℕ) → Tells w v xs → Tells v u ys → Tells u t zs → Tells t s us → Tells w s (xs ++ ys ++ zs ++ us)
tells_four w v u t s xs ys zs us f g h k = tells_both w t s (xs ++ ys ++ zs) us (tells_three w v u t xs ys zs f g h) k

pub tells_after : (w v u : OutputState) (ys : List ℕ) → Tells w v [] → Tells v u ys → Tells w u ys
tells_after w v u ys f g = tells_both w v u [] ys f g

pub tells_before : (w v u : OutputState) (xs : List ℕ) → Tells w v xs → Tells v u [] → Tells w u xs
tells_before w v u xs f g = subst (Tells w u) (append-nil xs) (tells_both w v u xs [] f g)

front_more : (front told more : List ℕ) → IsFront front told → IsFront front (told ++ more)
front_more front told more f = record { rest = f.rest ++ more; whole = ap (λ z. z ++ more) f.whole ∙ append_assoc front f.rest more }

front_of : (out front xs more : List ℕ) → xs ≡ front ++ more → IsFront (out ++ front) (out ++ xs)
front_of out front xs more e = record { rest = more; whole = ap (λ z. out ++ z) e ∙ sym (append_assoc out front more) }

-- after a failure nothing is written
pub tells_lost : (w v : OutputState) (xs : List ℕ) → w.has_failed ≡ true → v.has_failed ≡ true → v.written ≡ w.written → v.failures ≡ w.failures → v.writer ≡ w.writer
    → Tells w v xs
tells_lost w v xs e f same count name = record {
  told = λ before told h. subst (λ o. HoldsIn before o v (told ++ xs)) (sym same) (lost before told w.written h);
  grows = ([], subst (λ o. Appends w.written o []) (sym same) (appends_none w.written));
  writes = record { counts = counts w.has_failed v.has_failed e f count; lasting = λ h. f; writer = name };
}
  where
    lost : (before told : List ℕ) (o : Option (List ℕ)) → HoldsIn before o w told → HoldsIn before o v (told ++ xs)
    lost before told None h = absurd h
    lost before told (Some written) h =
        let front : IsFront h.0 told = subst (λ z. IsHeld z w.waiting h.0 told) e h.2 in
        (h.0, h.1, subst (λ z. IsHeld z v.waiting h.0 (told ++ xs)) (sym f) (front_more h.0 told xs front))

    counts : (b c : Bool) → b ≡ true → c ≡ true → v.failures ≡ w.failures → v.failures + one_if b ≡ w.failures + one_if c
    counts b c e f h = ap (λ z. v.failures + one_if z) e ∙ ap (λ n. n + 1) h ∙ ap (λ z. w.failures + one_if z) (sym f)

-- bytes are put behind those that wait
pub tells_waits : (w v : OutputState) (xs : List ℕ) → v.has_failed ≡ w.has_failed → v.written ≡ w.written → v.failures ≡ w.failures → v.writer ≡ w.writer
    → v.waiting ≡ w.waiting ++ xs → Tells w v xs
tells_waits w v xs e same count name more = record {
  told = λ before told h. subst (λ o. HoldsIn before o v (told ++ xs)) (sym same) (waits before told w.written h);
  grows = ([], subst (λ o. Appends w.written o []) (sym same) (appends_none w.written));
  writes = record {
    counts = ap (λ n. n + one_if w.has_failed) count ∙ ap (λ z. w.failures + one_if z) (sym e);
    lasting = λ h. e ∙ h;
    writer = name;
  };
}
  where
    by_state : (b : Bool) (out told : List ℕ) → IsHeld b w.waiting out told → IsHeld b v.waiting out (told ++ xs)
    by_state true out told h = front_more out told xs h
    by_state false out told h = ap (λ z. z ++ xs) h ∙ append_assoc out w.waiting xs ∙ ap (λ z. out ++ z) (sym more)

    waits : (before told : List ℕ) (o : Option (List ℕ)) → HoldsIn before o w told → HoldsIn before o v (told ++ xs)
    waits before told None h = absurd h
    waits before told (Some written) h = (h.0, h.1, subst (λ z. IsHeld z v.waiting h.0 (told ++ xs)) (sym e) (by_state w.has_failed h.0 told h.2))

-- some bytes are given to the writer: those that wait, or where none wait those that are told
pub tells_given : (w v : OutputState) (given xs : List ℕ) (r : Bool) → w.has_failed ≡ false → w.waiting ++ xs ≡ given → v.has_failed ≡ not r → v.waiting ≡ []
    → Gives w.written v.written given r → GivesCounted w.failures v.failures r → v.writer ≡ w.writer → Tells w v xs
tells_given w v given xs true fine e f none gives count name = record {
  told = λ before told h. given_in before told w.written v.written gives h;
  grows = (given, gives);
  writes = record {
    counts = ap (λ z. v.failures + one_if z) fine ∙ ap (λ n. n + 0) count ∙ ap (λ z. w.failures + one_if z) (sym f);
    lasting = λ h. absurd (false_true (sym fine ∙ h));
    writer = name;
  };
}
  where
    false_true : false ≡ true → ⊥
    false_true h = cc

    given_in : (before told : List ℕ) (a b : Option (List ℕ)) → Appends a b given → HoldsIn before a w told → HoldsIn before b v (told ++ xs)
    given_in before told None b g h = absurd h
    given_in before told (Some written) None g h = absurd g
    given_in before told (Some written) (Some now) g h =
        let held : told ≡ h.0 ++ w.waiting = subst (λ z. IsHeld z w.waiting h.0 told) fine h.2 in
        let all : told ++ xs ≡ (h.0 ++ given) ++ v.waiting =
        ap (λ z. z ++ xs) held ∙ append_assoc h.0 w.waiting xs ∙ ap (λ z. h.0 ++ z) e ∙ sym (append-nil (h.0 ++ given)) ∙ ap (λ z. (h.0 ++ given) ++ z) (sym none) in
        (h.0 ++ given, g ∙ ap (λ z. z ++ given) h.1 ∙ append_assoc before h.0 given, subst (λ z. IsHeld z v.waiting (h.0 ++ given) (told ++ xs)) (sym f) all)
tells_given w v given xs false fine e f none gives count name = record {
  told = λ before told h. given_in before told w.written v.written gives h;
  grows = (gives.front, gives.appends);
  writes = record {
    counts = ap (λ z. v.failures + one_if z) fine ∙ lift (v.failures) (w.failures) count ∙ ap (λ z. w.failures + one_if z) (sym f);
    lasting = λ h. f;
    writer = name;
  };
}
  where
    lift : (m n : ℕ) → m ≡ n + 1 → m + 0 ≡ n + 1
    lift m n e = omega (arith, e)

    given_in : (before told : List ℕ) (a b : Option (List ℕ)) → AppendsFront a b given → HoldsIn before a w told → HoldsIn before b v (told ++ xs)
    given_in before told None b g h = absurd h
    given_in before told (Some written) None g h = absurd g.appends
    given_in before told (Some written) (Some now) g h =
        let held : told ≡ h.0 ++ w.waiting = subst (λ z. IsHeld z w.waiting h.0 told) fine h.2 in
        let all : told ++ xs ≡ h.0 ++ given = ap (λ z. z ++ xs) held ∙ append_assoc h.0 w.waiting xs ∙ ap (λ z. h.0 ++ z) e in
        let front : IsFront (h.0 ++ g.front) (told ++ xs) = subst (IsFront (h.0 ++ g.front)) (sym all) (front_of h.0 g.front given g.is_front.rest g.is_front.whole) in (
          h.0 ++ g.front,
          g.appends ∙ ap (λ z. z ++ g.front) h.1 ∙ append_assoc before h.0 g.front,
          subst (λ z. IsHeld z v.waiting (h.0 ++ g.front) (told ++ xs)) (sym f) front,
        )

-- bytes are written at once, behind those that waited; the output's parts are known
pub through_when : (a : Option (List ℕ)) (bs : List ℕ) (failed : Bool) (n : ℕ) (name : GName) (w v u : OutputState) (xs : List ℕ) (r : Bool)
    → record { written = a; waiting = bs; has_failed = failed; failures = n; writer = name } ≡ v → Tells w v [] → v.waiting ≡ [] → failed ≡ false → u.has_failed ≡ not r
    → u.waiting ≡ bs → Gives a u.written xs r → GivesCounted n u.failures r → u.writer ≡ name → Tells w u xs
through_when a bs failed n name w v u xs r e told none fine f same gives count kept =
    let parts : OutputState = record { written = a; waiting = bs; has_failed = failed; failures = n; writer = name } in
    let empty : bs ≡ [] = ap (λ z. z.waiting) e ∙ none in
    tells_after w parts u xs (subst (λ z. Tells w z []) (sym e) told)
    (tells_given parts u xs xs r fine (ap (λ z. z ++ xs) empty) f (same ∙ empty) gives count kept)

-- ---- a list, told item by item

module _ {X : Type 0} (f : X → List ℕ) (front : List ℕ) (items : List X) (w v : OutputState) where
  pub items_none : Tells w v front → Tells w v (front ++ flat_map f (take 0 items))
  items_none told = subst (Tells w v) (sym (append-nil front)) told

  pub items_more : (u : OutputState) (i : ℕ) (d : X) → i < length items → Tells w v (front ++ flat_map f (take i items)) → Tells v u (f (get_or items i d))
      → Tells w u (front ++ flat_map f (take (i + 1) items))
  items_more u i d within told more =
      let last : flat_map f (get_or items i d ∷ []) ≡ f (get_or items i d) = flat_map-cons f (get_or items i d) [] ∙ append-nil (f (get_or items i d)) in
      let all : flat_map f (take (i + 1) items) ≡ flat_map f (take i items) ++ f (get_or items i d) =
      ap (flat_map f) (take_more items i d within) ∙ flat_map-append f (take i items) (get_or items i d ∷ []) ∙ ap (λ z. flat_map f (take i items) ++ z) last in
      subst (Tells w u) (append_assoc front (flat_map f (take i items)) (f (get_or items i d)) ∙ ap (λ z. front ++ z) (sym all))
      (tells_both w v u (front ++ flat_map f (take i items)) (f (get_or items i d)) told more)

  -- the same, for an item that stands there
  pub items_next : (u : OutputState) (i : ℕ) (x : X) → i < length items → x ≡ get_or items i x → Tells w v (front ++ flat_map f (take i items)) → Tells v u (f x)
      → Tells w u (front ++ flat_map f (take (i + 1) items))
  items_next u i x within is told more = items_more u i x within told (subst (λ z. Tells v u (f z)) is more)

  pub items_all : (i : ℕ) → length items ≤ i → Tells w v (front ++ flat_map f (take i items)) → Tells w v (front ++ flat_map f items)
  items_all i over told = subst (λ z. Tells w v (front ++ flat_map f z)) (take_all i items over) told
