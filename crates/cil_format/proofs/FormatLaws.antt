-- The laws of formats, once for each way to make one: what is read has just these bytes, what has bytes is read from them, and a fault other
-- than the end stays whatever follows.
use Rattle.std.proofs.Common.{◌≡◌, ℕ, zero, suc, ◌+◌, ◌-◌, ◌^◌, ◌<◌, ◌≤◌, ◌⊎◌, Bool, true, false, cond, ltb, List, [], ◌∷◌, ◌++◌, length, get_or, take, drop, Option, Some, None, Result, Ok, Err, refl, sym, ap, subst, ◌∙◌, append_assoc, arith, inl, inr}
use Rattle.std.specs.Int.{Width, byte_len, from_be_bytes, to_be_bytes}
use Rattle.std.specs.List.{flat_map, AllByRecursion}
use Rattle.std.proofs.lemmas.Bool.{ltb-false, le-ltb}
use Rattle.std.proofs.lemmas.List.{take_at, drop_at, take-append-drop, length-append, length-take}
use Rattle.std.proofs.lemmas.List.Concat.{flat_map-cons}
use Rattle.cil_format.specs.declared.fault.TableFault.{TableFault}
use Rattle.cil_format.specs.declared.fault.TableFault.TheVariants.{Short, NotCanonical}
use Rattle.cil_format.specs.Format.{Taken, ◌>>=◌, Format, both, then_read, as_type, keyed, only, refused, judged, checked, number, number_at, run, run_at, many, many_at, comes_after, rise, front_of, judged_after, rising_at, rising_after, each_at, each_fits, each_spelled, each_by, spelled_by}
use Rattle.cil_format.proofs.Bytes.{IsBytes, IsBytes-take, IsBytes-rest, IsWide}

abbrev done : {A : Type 0} → A → Result A TableFault
done x = Ok x

pub ok_is : {A : Type 0} (x y : A) → done x ≡ done y → x ≡ y
ok_is x y e = cc

pub not_both : {A : Type 0} (x : A) (e : TableFault) → done x ≡ Err e → ⊥
not_both x e h = cc

pub bind_ok : {A B : Type 0} (r : Result A TableFault) (f : A → Result B TableFault) (y : B) → (r >>= f) ≡ Ok y → (x : A) × (r ≡ Ok x) × (f x ≡ Ok y)
bind_ok (Ok x) f y e = (x, refl, e)
bind_ok (Err d) f y e = absurd cc

pub bind_err : {A B : Type 0} (r : Result A TableFault) (f : A → Result B TableFault) (d : TableFault) → (r >>= f) ≡ Err d → (r ≡ Err d) ⊎ ((x : A) × (r ≡ Ok x) × (f x ≡ Err d))
bind_err (Ok x) f d e = inr (x, refl, e)
bind_err (Err c) f d e = inl (let h : c ≡ d = cc in ap Err h)

pub chosen : {A : Type 0} (b : Bool) (x y z : A) → cond b x y ≡ z → ((b ≡ true) × (x ≡ z)) ⊎ ((b ≡ false) × (y ≡ z))
chosen true x y z e = inl (refl, e)
chosen false x y z e = inr (refl, e)

pub record IsTaken {X : Type 0} (f : Format X) (bytes : List ℕ) (x : X) (rest : List ℕ) : Type 0 where
  pub parts : bytes ≡ f.spell x ++ rest
  pub fits : f.Fits x

pub record IsExact {X : Type 0} (f : Format X) : Type 0 where
  -- what is read is laid out so
  pub takes : (bytes : List ℕ) (x : X) (rest : List ℕ) → IsBytes bytes → f.read bytes ≡ Ok (x, rest) → IsTaken f bytes x rest
  -- what is laid out so is read, whatever follows
  pub again : (x : X) (rest : List ℕ) → f.Fits x → f.read (f.spell x ++ rest) ≡ Ok (x, rest)
  -- more bytes mend no fault but the end
  pub stays : (bytes more : List ℕ) (d : TableFault) → IsBytes bytes → f.read bytes ≡ Err d → (d ≡ Short) ⊎ (f.read (bytes ++ more) ≡ Err d)

-- what was read is read where more bytes follow
pub goes_on : {X : Type 0} (f : Format X) → IsExact f → (bytes : List ℕ) (x : X) (rest more : List ℕ) → IsBytes bytes → f.read bytes ≡ Ok (x, rest)
    → f.read (bytes ++ more) ≡ Ok (x, rest ++ more)
goes_on f exact bytes x rest more is e =
    let t = exact.takes bytes x rest is e in
    ap f.read (ap (λ (w : List ℕ). w ++ more) t.parts ∙ append_assoc (f.spell x) rest more) ∙ exact.again x (rest ++ more) t.fits

-- ---- one after another

module _ {A B : Type 0} (first : Format A) (second : A → Format B) (f : IsExact first) (s : (a : A) → first.Fits a → IsExact (second a)) where
  both_takes : (bytes : List ℕ) (x : A × B) (rest : List ℕ) → IsBytes bytes → (both first second).read bytes ≡ Ok (x, rest) → IsTaken (both first second) bytes x rest
  both_takes bytes x rest is e =
      let (a, ra, ea) = bind_ok (first.read bytes) (then_read second) (x, rest) e in
      let (b, rb, eb) = bind_ok ((second a.0).read a.1) (λ b. Ok ((a.0, b.0), b.1)) (x, rest) ea in
      let ta = f.takes bytes a.0 a.1 is ra in
      let tb = (s a.0 ta.fits).takes a.1 b.0 b.1 (IsBytes-rest bytes (first.spell a.0) a.1 ta.parts is) rb in
      let parts : bytes ≡ (first.spell a.0 ++ (second a.0).spell b.0) ++ b.1 =
      ta.parts ∙ ap (λ (w : List ℕ). first.spell a.0 ++ w) tb.parts ∙ sym (append_assoc (first.spell a.0) ((second a.0).spell b.0) b.1) in
      let whole : IsTaken (both first second) bytes (a.0, b.0) b.1 = record { parts = parts; fits = (ta.fits, tb.fits) } in
      subst (λ (y : (A × B) × List ℕ). IsTaken (both first second) bytes y.0 y.1) (ok_is ((a.0, b.0), b.1) (x, rest) eb) whole

  both_again : (x : A × B) (rest : List ℕ) → (both first second).Fits x → (both first second).read ((both first second).spell x ++ rest) ≡ Ok (x, rest)
  both_again x rest fits =
      let e1 = f.again x.0 ((second x.0).spell x.1 ++ rest) fits.0 in
      let e2 = (s x.0 fits.0).again x.1 rest fits.1 in
      ap (both first second).read (append_assoc (first.spell x.0) ((second x.0).spell x.1) rest) ∙ rw (e1, e2) refl

  both_stays : (bytes more : List ℕ) (d : TableFault) → IsBytes bytes → (both first second).read bytes ≡ Err d → (d ≡ Short) ⊎ ((both first second).read (bytes ++ more) ≡ Err d)
  both_stays bytes more d is e =
      elim (bind_err (first.read bytes) (then_read second) d e) [
        | inl early ↦ elim (f.stays bytes more d is early) [
          | inl short ↦ inl short
          | inr still ↦ inr (rw still refl)
        ]
        | inr (a, ra, ea) ↦
            elim (bind_err ((second a.0).read a.1) (λ b. Ok ((a.0, b.0), b.1)) d ea) [
              | inl late ↦
                  let ta = f.takes bytes a.0 a.1 is ra in
                  elim ((s a.0 ta.fits).stays a.1 more d (IsBytes-rest bytes (first.spell a.0) a.1 ta.parts is) late) [
                    | inl short ↦ inl short
                    | inr still ↦ inr (rw (goes_on first f bytes a.0 a.1 more is ra, still) refl)
                  ]
              | inr (b, rb, eb) ↦ absurd (not_both ((a.0, b.0), b.1) d eb)
            ]
      ]

  pub both_exact : IsExact (both first second)
  both_exact = record { takes = both_takes; again = both_again; stays = both_stays }

-- ---- another type

module _ {A B : Type 0} (to : A → B) (from : B → A) (f : Format A) (from_to : (a : A) → f.Fits a → from (to a) ≡ a) (exact : IsExact f) where
  as_takes : (bytes : List ℕ) (x : B) (rest : List ℕ) → IsBytes bytes → (as_type to from f).read bytes ≡ Ok (x, rest) → IsTaken (as_type to from f) bytes x rest
  as_takes bytes x rest is e =
      let (a, ra, ea) = bind_ok (f.read bytes) (λ a. Ok (to a.0, a.1)) (x, rest) e in
      let t = exact.takes bytes a.0 a.1 is ra in
      let back = from_to a.0 t.fits in
      let whole : IsTaken (as_type to from f) bytes (to a.0) a.1 =
      record { parts = t.parts ∙ ap (λ (w : A). f.spell w ++ a.1) (sym back); fits = (subst f.Fits (sym back) t.fits, ap to back) } in
      subst (λ (y : B × List ℕ). IsTaken (as_type to from f) bytes y.0 y.1) (ok_is (to a.0, a.1) (x, rest) ea) whole

  as_again : (x : B) (rest : List ℕ) → (as_type to from f).Fits x → (as_type to from f).read ((as_type to from f).spell x ++ rest) ≡ Ok (x, rest)
  as_again x rest fits = rw (exact.again (from x) rest fits.0) (ap (λ (w : B). Ok (w, rest)) fits.1)

  as_stays : (bytes more : List ℕ) (d : TableFault) → IsBytes bytes → (as_type to from f).read bytes ≡ Err d → (d ≡ Short) ⊎ ((as_type to from f).read (bytes ++ more) ≡ Err d)
  as_stays bytes more d is e =
      elim (bind_err (f.read bytes) (λ a. Ok (to a.0, a.1)) d e) [
        | inl early ↦ elim (exact.stays bytes more d is early) [
          | inl short ↦ inl short
          | inr still ↦ inr (rw still refl)
        ]
        | inr (a, ra, ea) ↦ absurd (not_both (to a.0, a.1) d ea)
      ]

  pub as_exact : IsExact (as_type to from f)
  as_exact = record { takes = as_takes; again = as_again; stays = as_stays }

-- ---- bytes that are told in another way

module _ {A : Type 0} (spell : A → List ℕ) (f : Format A) (same : (a : A) → f.Fits a → spell a ≡ f.spell a) (exact : IsExact f) where
  spelled_takes : (bytes : List ℕ) (x : A) (rest : List ℕ) → IsBytes bytes → f.read bytes ≡ Ok (x, rest) → IsTaken (spelled_by spell f) bytes x rest
  spelled_takes bytes x rest is e =
      let t = exact.takes bytes x rest is e in
      record { parts = t.parts ∙ ap (λ (w : List ℕ). w ++ rest) (sym (same x t.fits)); fits = t.fits }

  spelled_again : (x : A) (rest : List ℕ) → f.Fits x → f.read (spell x ++ rest) ≡ Ok (x, rest)
  spelled_again x rest fits = ap (λ (w : List ℕ). f.read (w ++ rest)) (same x fits) ∙ exact.again x rest fits

  pub spelled_exact : IsExact (spelled_by spell f)
  spelled_exact = record { takes = spelled_takes; again = spelled_again; stays = exact.stays }

-- ---- a key in front

module _ {K A : Type 0} (key : A → K) (front : Format K) (body : K → Format A) (tells : (k : K) (a : A) → (body k).Fits a → key a ≡ k) (f : IsExact front)
    (s : (k : K) → front.Fits k → IsExact (body k)) where
  keyed_takes : (bytes : List ℕ) (x : A) (rest : List ℕ) → IsBytes bytes → (keyed key front body).read bytes ≡ Ok (x, rest) → IsTaken (keyed key front body) bytes x rest
  keyed_takes bytes x rest is e =
      let (k, rk, ek) = bind_ok (front.read bytes) (λ k. (body k.0).read k.1) (x, rest) e in
      let tk = f.takes bytes k.0 k.1 is rk in
      let ta = (s k.0 tk.fits).takes k.1 x rest (IsBytes-rest bytes (front.spell k.0) k.1 tk.parts is) ek in
      let parts : bytes ≡ (front.spell k.0 ++ (body k.0).spell x) ++ rest =
      tk.parts ∙ ap (λ (w : List ℕ). front.spell k.0 ++ w) ta.parts ∙ sym (append_assoc (front.spell k.0) ((body k.0).spell x) rest) in
      let at : k.0 ≡ key x = sym (tells k.0 x ta.fits) in
      record {
        parts = subst (λ (j : K). bytes ≡ (front.spell j ++ (body j).spell x) ++ rest) at parts;
        fits = subst (λ (j : K). front.Fits j × (body j).Fits x) at (tk.fits, ta.fits);
      }

  keyed_again : (x : A) (rest : List ℕ) → (keyed key front body).Fits x → (keyed key front body).read ((keyed key front body).spell x ++ rest) ≡ Ok (x, rest)
  keyed_again x rest fits =
      let e1 = f.again (key x) ((body (key x)).spell x ++ rest) fits.0 in
      ap (keyed key front body).read (append_assoc (front.spell (key x)) ((body (key x)).spell x) rest) ∙ rw e1 ((s (key x) fits.0).again x rest fits.1)

  keyed_stays : (bytes more : List ℕ) (d : TableFault) → IsBytes bytes → (keyed key front body).read bytes ≡ Err d → (d ≡ Short) ⊎ ((keyed key front body).read (bytes ++ more) ≡ Err d)
  keyed_stays bytes more d is e =
      elim (bind_err (front.read bytes) (λ k. (body k.0).read k.1) d e) [
        | inl early ↦ elim (f.stays bytes more d is early) [
          | inl short ↦ inl short
          | inr still ↦ inr (rw still refl)
        ]
        | inr (k, rk, ek) ↦
            let tk = f.takes bytes k.0 k.1 is rk in
            elim ((s k.0 tk.fits).stays k.1 more d (IsBytes-rest bytes (front.spell k.0) k.1 tk.parts is) ek) [
              | inl short ↦ inl short
              | inr still ↦ inr (rw (goes_on front f bytes k.0 k.1 more is rk) still)
            ]
      ]

  pub keyed_exact : IsExact (keyed key front body)
  keyed_exact = record { takes = keyed_takes; again = keyed_again; stays = keyed_stays }

-- ---- one value, and none

pub only_exact : {A : Type 0} (a : A) → IsExact (only a)
only_exact {A} a = record {
  takes = λ bytes x rest is e.
      subst (λ (y : A × List ℕ). IsTaken (only a) bytes y.0 y.1) (ok_is (a, bytes) (x, rest) e) record { parts = refl; fits = refl };
  again = λ x rest fits. ap (λ (w : A). Ok (w, rest)) (sym fits);
  stays = λ bytes more d is e. absurd (not_both _ d e);
}

pub refused_exact : {A : Type 0} (fault : TableFault) → IsExact {X = A} (refused fault)
refused_exact {A} fault = record {
  takes = λ bytes x rest is e. absurd (not_both (x, rest) fault (sym e));
  again = λ x rest fits. absurd fits;
  stays = λ bytes more d is e. inr e;
}

-- ---- judged at its end

module _ {A : Type 0} (test : A → Bool) (fault : TableFault) (f : Format A) (exact : IsExact f) where
  checked_takes : (bytes : List ℕ) (x : A) (rest : List ℕ) → IsBytes bytes → (checked test fault f).read bytes ≡ Ok (x, rest) → IsTaken (checked test fault f) bytes x rest
  checked_takes bytes x rest is e =
      let (a, ra, ea) = bind_ok (f.read bytes) (judged test fault) (x, rest) e in
      elim (chosen (test a.0) (Ok a) (Err fault) (Ok (x, rest)) ea) [
        | inl (yes_, same) ↦
            let t = exact.takes bytes a.0 a.1 is ra in
            let whole : IsTaken (checked test fault f) bytes a.0 a.1 = record { parts = t.parts; fits = (t.fits, yes_) } in
            subst (λ (y : A × List ℕ). IsTaken (checked test fault f) bytes y.0 y.1) (ok_is a (x, rest) same) whole
        | inr (no_, other) ↦ absurd (not_both (x, rest) fault (sym other))
      ]

  checked_again : (x : A) (rest : List ℕ) → (checked test fault f).Fits x → (checked test fault f).read ((checked test fault f).spell x ++ rest) ≡ Ok (x, rest)
  checked_again x rest fits = rw (exact.again x rest fits.0, fits.1) refl

  checked_stays : (bytes more : List ℕ) (d : TableFault) → IsBytes bytes → (checked test fault f).read bytes ≡ Err d → (d ≡ Short) ⊎ ((checked test fault f).read (bytes ++ more) ≡ Err d)
  checked_stays bytes more d is e =
      elim (bind_err (f.read bytes) (judged test fault) d e) [
        | inl early ↦ elim (exact.stays bytes more d is early) [
          | inl short ↦ inl short
          | inr still ↦ inr (rw still refl)
        ]
        | inr (a, ra, ea) ↦
            elim (chosen (test a.0) (Ok a) (Err fault) (Err d) ea) [
              | inl (yes_, same) ↦ absurd (not_both a d same)
              | inr (no_, other) ↦ inr (rw (goes_on f exact bytes a.0 a.1 more is ra, no_) other)
            ]
      ]

  pub checked_exact : IsExact (checked test fault f)
  checked_exact = record { takes = checked_takes; again = checked_again; stays = checked_stays }

-- ---- numbers and runs

pub number_exact : (w : Width) (limit : ℕ) → IsWide w limit → IsExact (number w limit)
number_exact w limit wide = record {
  takes = λ bytes x rest is e.
      elim (chosen (ltb (length bytes) (byte_len w)) (Err Short) (Ok (from_be_bytes w (take (byte_len w) bytes), drop (byte_len w) bytes)) (Ok (x, rest)) e) [
        | inl (short, other) ↦ absurd (not_both (x, rest) Short (sym other))
        | inr (long, same) ↦
            let le : byte_len w ≤ length bytes = ltb-false _ _ long in
            let back = wide.back (take (byte_len w) bytes) (omega (arith, length-take (byte_len w) bytes)) (IsBytes-take (byte_len w) bytes is) in
            let whole : IsTaken (number w limit) bytes (from_be_bytes w (take (byte_len w) bytes)) (drop (byte_len w) bytes) =
            record {
              parts = rw back (sym (take-append-drop (byte_len w) bytes));
              fits = wide.below (take (byte_len w) bytes) (IsBytes-take (byte_len w) bytes is);
            } in
            subst (λ (y : ℕ × List ℕ). IsTaken (number w limit) bytes y.0 y.1) (ok_is _ (x, rest) same) whole
      ];
  again = λ n rest lt.
      let long : ltb (length (to_be_bytes w n ++ rest)) (byte_len w) ≡ false = le-ltb _ _ (omega (arith, length-append (to_be_bytes w n) rest, wide.len n)) in
      rw (long, take_at (to_be_bytes w n) rest (byte_len w) (wide.len n), drop_at (to_be_bytes w n) rest (byte_len w) (wide.len n), wide.again n lt) refl;
  stays = λ bytes more d is e.
      elim (chosen (ltb (length bytes) (byte_len w)) (Err Short) (Ok (from_be_bytes w (take (byte_len w) bytes), drop (byte_len w) bytes)) (Err d) e) [
        | inl (short, other) ↦ inl (let h : Short ≡ d = cc in sym h)
        | inr (long, same) ↦ absurd (not_both _ d same)
      ];
}

pub run_exact : (n : ℕ) → IsExact (run n)
run_exact n = record {
  takes = λ bytes x rest is e.
      elim (chosen (ltb (length bytes) n) (Err Short) (Ok (take n bytes, drop n bytes)) (Ok (x, rest)) e) [
        | inl (short, other) ↦ absurd (not_both (x, rest) Short (sym other))
        | inr (long, same) ↦
            let le : n ≤ length bytes = ltb-false _ _ long in
            let whole : IsTaken (run n) bytes (take n bytes) (drop n bytes) = record { parts = sym (take-append-drop n bytes); fits = omega (arith, length-take n bytes) } in
            subst (λ (y : List ℕ × List ℕ). IsTaken (run n) bytes y.0 y.1) (ok_is _ (x, rest) same) whole
      ];
  again = λ xs rest len.
      let long : ltb (length (xs ++ rest)) n ≡ false = le-ltb _ _ (omega (arith, length-append xs rest, len)) in
      rw (long, take_at xs rest n len, drop_at xs rest n len) refl;
  stays = λ bytes more d is e.
      elim (chosen (ltb (length bytes) n) (Err Short) (Ok (take n bytes, drop n bytes)) (Err d) e) [
        | inl (short, other) ↦ inl (let h : Short ≡ d = cc in sym h)
        | inr (long, same) ↦ absurd (not_both _ d same)
      ];
}

-- ---- many

module _ {A : Type 0} (f : Format A) (exact : IsExact f) where
  many_takes : (n : ℕ) (bytes : List ℕ) (x : List A × List ℕ) → IsBytes bytes → many_at f.read n bytes ≡ Ok x → IsTaken (many f n) bytes x.0 x.1
  unfolding many_at
  many_takes zero bytes x is e =
      subst (λ (y : List A × List ℕ). IsTaken (many f 0) bytes y.0 y.1) (ok_is ([], bytes) x e) record { parts = refl; fits = (refl, tt) }
  many_takes (suc n) bytes x is e =
      let (a, ra, ea) = bind_ok (f.read bytes) (λ a. many_at f.read n a.1 >>= λ more. Ok (a.0 ∷ more.0, more.1)) x e in
      let (more, rm, em) = bind_ok (many_at f.read n a.1) (λ more. Ok (a.0 ∷ more.0, more.1)) x ea in
      let ta = exact.takes bytes a.0 a.1 is ra in
      let tm = many_takes n a.1 more (IsBytes-rest bytes (f.spell a.0) a.1 ta.parts is) rm in
      let parts : bytes ≡ flat_map f.spell (a.0 ∷ more.0) ++ more.1 =
      ta.parts ∙ ap (λ (w : List ℕ). f.spell a.0 ++ w) tm.parts ∙ sym (append_assoc (f.spell a.0) (flat_map f.spell more.0) more.1)
      ∙ ap (λ (w : List ℕ). w ++ more.1) (sym (flat_map-cons f.spell a.0 more.0)) in
      let whole : IsTaken (many f (suc n)) bytes (a.0 ∷ more.0) more.1 =
      record { parts = parts; fits = (ap suc tm.fits.0, (ta.fits, tm.fits.1)) } in
      subst (λ (y : List A × List ℕ). IsTaken (many f (suc n)) bytes y.0 y.1) (ok_is (a.0 ∷ more.0, more.1) x em) whole

  many_again : (n : ℕ) (xs : List A) (rest : List ℕ) → (many f n).Fits xs → many_at f.read n (flat_map f.spell xs ++ rest) ≡ Ok (xs, rest)
  unfolding many_at
  many_again zero [] rest fits = refl
  many_again zero (x ∷ xs) rest fits = absurd (omega (arith, fits.0))
  many_again (suc n) [] rest fits = absurd (omega (arith, fits.0))
  many_again (suc n) (x ∷ xs) rest fits =
      let regrouped : flat_map f.spell (x ∷ xs) ++ rest ≡ f.spell x ++ (flat_map f.spell xs ++ rest) =
      ap (λ (w : List ℕ). w ++ rest) (flat_map-cons f.spell x xs) ∙ append_assoc (f.spell x) (flat_map f.spell xs) rest in
      let len : length xs ≡ n = omega (arith, fits.0) in
      ap (many_at f.read (suc n)) regrouped ∙ rw (exact.again x (flat_map f.spell xs ++ rest) fits.1.0, many_again n xs rest (len, fits.1.1)) refl

  many_stays : (n : ℕ) (bytes more : List ℕ) (d : TableFault) → IsBytes bytes → many_at f.read n bytes ≡ Err d → (d ≡ Short) ⊎ (many_at f.read n (bytes ++ more) ≡ Err d)
  unfolding many_at
  many_stays zero bytes more d is e = absurd (not_both _ d e)
  many_stays (suc n) bytes more d is e =
      elim (bind_err (f.read bytes) (λ a. many_at f.read n a.1 >>= λ more. Ok (a.0 ∷ more.0, more.1)) d e) [
        | inl early ↦ elim (exact.stays bytes more d is early) [
          | inl short ↦ inl short
          | inr still ↦ inr (rw still refl)
        ]
        | inr (a, ra, ea) ↦
            elim (bind_err (many_at f.read n a.1) (λ more. Ok (a.0 ∷ more.0, more.1)) d ea) [
              | inl late ↦
                  let ta = exact.takes bytes a.0 a.1 is ra in
                  elim (many_stays n a.1 more d (IsBytes-rest bytes (f.spell a.0) a.1 ta.parts is) late) [
                    | inl short ↦ inl short
                    | inr still ↦ inr (rw (goes_on f exact bytes a.0 a.1 more is ra, still) refl)
                  ]
              | inr (others, ro, eo) ↦ absurd (not_both _ d eo)
            ]
      ]

  pub many_exact : (n : ℕ) → IsExact (many f n)
  many_exact n = record { takes = λ bytes x rest is e. many_takes n bytes (x, rest) is e; again = many_again n; stays = many_stays n }

-- ---- each in a format that those before it give

module _ {A : Type 0} (format : List A → Format A) (exact : (before : List A) → IsExact (format before)) where
  abbrev reads : List A → List ℕ → Taken A
  reads before bytes = (format before).read bytes

  each_parts : (before : List A) (a : A) (more : List A) (bytes behind rest : List ℕ) → bytes ≡ (format before).spell a ++ behind → behind ≡ each_spelled format (before ++ a ∷ []) more ++ rest
      → bytes ≡ each_spelled format before (a ∷ more) ++ rest
  each_parts before a more bytes behind rest p q =
      p ∙ ap (λ (w : List ℕ). (format before).spell a ++ w) q ∙ sym (append_assoc ((format before).spell a) (each_spelled format (before ++ a ∷ []) more) rest)

  each_takes : (n : ℕ) (before : List A) (bytes : List ℕ) (x : List A × List ℕ) → IsBytes bytes → each_at reads before n bytes ≡ Ok x → IsTaken (each_by format before n) bytes x.0 x.1
  unfolding each_at
  each_takes zero before bytes x is e =
      subst (λ (y : List A × List ℕ). IsTaken (each_by format before 0) bytes y.0 y.1) (ok_is ([], bytes) x e) record { parts = refl; fits = (refl, tt) }
  each_takes (suc n) before bytes x is e =
      let (a, ra, ea) = bind_ok ((format before).read bytes) (λ a. each_at reads (before ++ a.0 ∷ []) n a.1 >>= λ more. Ok (a.0 ∷ more.0, more.1)) x e in
      let (more, rm, em) = bind_ok (each_at reads (before ++ a.0 ∷ []) n a.1) (λ more. Ok (a.0 ∷ more.0, more.1)) x ea in
      let ta = (exact before).takes bytes a.0 a.1 is ra in
      let tm = each_takes n (before ++ a.0 ∷ []) a.1 more (IsBytes-rest bytes ((format before).spell a.0) a.1 ta.parts is) rm in
      let whole : IsTaken (each_by format before (suc n)) bytes (a.0 ∷ more.0) more.1 =
      record { parts = each_parts before a.0 more.0 bytes a.1 more.1 ta.parts tm.parts; fits = (ap suc tm.fits.0, (ta.fits, tm.fits.1)) } in
      subst (λ (y : List A × List ℕ). IsTaken (each_by format before (suc n)) bytes y.0 y.1) (ok_is (a.0 ∷ more.0, more.1) x em) whole

  each_again : (n : ℕ) (before xs : List A) (rest : List ℕ) → (each_by format before n).Fits xs → each_at reads before n (each_spelled format before xs ++ rest) ≡ Ok (xs, rest)
  unfolding each_at
  each_again zero before [] rest fits = refl
  each_again zero before (x ∷ xs) rest fits = absurd (omega (arith, fits.0))
  each_again (suc n) before [] rest fits = absurd (omega (arith, fits.0))
  each_again (suc n) before (x ∷ xs) rest fits =
      let after = each_spelled format (before ++ x ∷ []) xs ++ rest in
      let regrouped : each_spelled format before (x ∷ xs) ++ rest ≡ (format before).spell x ++ after =
      append_assoc ((format before).spell x) (each_spelled format (before ++ x ∷ []) xs) rest in
      let len : length xs ≡ n = omega (arith, fits.0) in
      ap (each_at reads before (suc n)) regrouped ∙ rw ((exact before).again x after fits.1.0, each_again n (before ++ x ∷ []) xs rest (len, fits.1.1)) refl

  each_stays : (n : ℕ) (before : List A) (bytes more : List ℕ) (d : TableFault) → IsBytes bytes → each_at reads before n bytes ≡ Err d → (d ≡ Short) ⊎ (each_at reads before n (bytes ++ more) ≡ Err d)
  unfolding each_at
  each_stays zero before bytes more d is e = absurd (not_both _ d e)
  each_stays (suc n) before bytes more d is e =
      elim (bind_err ((format before).read bytes) (λ a. each_at reads (before ++ a.0 ∷ []) n a.1 >>= λ more. Ok (a.0 ∷ more.0, more.1)) d e) [
        | inl early ↦ elim ((exact before).stays bytes more d is early) [
          | inl short ↦ inl short
          | inr still ↦ inr (rw still refl)
        ]
        | inr (a, ra, ea) ↦
            elim (bind_err (each_at reads (before ++ a.0 ∷ []) n a.1) (λ more. Ok (a.0 ∷ more.0, more.1)) d ea) [
              | inl late ↦
                  let ta = (exact before).takes bytes a.0 a.1 is ra in
                  elim (each_stays n (before ++ a.0 ∷ []) a.1 more d (IsBytes-rest bytes ((format before).spell a.0) a.1 ta.parts is) late) [
                    | inl short ↦ inl short
                    | inr still ↦ inr (rw (goes_on (format before) (exact before) bytes a.0 a.1 more is ra, still) refl)
                  ]
              | inr (others, ro, eo) ↦ absurd (not_both _ d eo)
            ]
      ]

  pub each_exact : (before : List A) (n : ℕ) → IsExact (each_by format before n)
  each_exact before n = record { takes = λ bytes x rest is e. each_takes n before bytes (x, rest) is e; again = each_again n before; stays = each_stays n before }

-- ---- each after the one before it

-- what was taken are the bytes of the value
front_is : (bytes front rest : List ℕ) → bytes ≡ front ++ rest → front_of bytes rest ≡ front
front_is bytes front rest e =
    let n : length bytes - length rest ≡ length front = omega (arith, ap length e, length-append front rest) in
    rw n (ap (take (length front)) e ∙ take_at front rest (length front) refl)

module _ {A : Type 0} (less : List ℕ → List ℕ → Bool) (f : Format A) (exact : IsExact f) where
  abbrev next : Option (List ℕ) → Format A
  next last = record {
    Fits = λ a. f.Fits a × (comes_after less last (f.spell a) ≡ true);
    spell = f.spell;
    read = λ bytes. f.read bytes >>= judged_after less last bytes;
  }

  next_takes : (last : Option (List ℕ)) (bytes : List ℕ) (x : A) (rest : List ℕ) → IsBytes bytes → (next last).read bytes ≡ Ok (x, rest) → IsTaken (next last) bytes x rest
  next_takes last bytes x rest is e =
      let (a, ra, ea) = bind_ok (f.read bytes) (judged_after less last bytes) (x, rest) e in
      elim (chosen (comes_after less last (front_of bytes a.1)) (Ok a) (Err NotCanonical) (Ok (x, rest)) ea) [
        | inl (yes_, same) ↦
            let t = exact.takes bytes a.0 a.1 is ra in
            let after : comes_after less last (f.spell a.0) ≡ true = ap (comes_after less last) (sym (front_is bytes (f.spell a.0) a.1 t.parts)) ∙ yes_ in
            let whole : IsTaken (next last) bytes a.0 a.1 = record { parts = t.parts; fits = (t.fits, after) } in
            subst (λ (y : A × List ℕ). IsTaken (next last) bytes y.0 y.1) (ok_is a (x, rest) same) whole
        | inr (no_, other) ↦ absurd (not_both (x, rest) NotCanonical (sym other))
      ]

  next_again : (last : Option (List ℕ)) (x : A) (rest : List ℕ) → (next last).Fits x → (next last).read (f.spell x ++ rest) ≡ Ok (x, rest)
  next_again last x rest fits = rw (exact.again x rest fits.0, front_is (f.spell x ++ rest) (f.spell x) rest refl, fits.1) refl

  next_stays : (last : Option (List ℕ)) (bytes more : List ℕ) (d : TableFault) → IsBytes bytes → (next last).read bytes ≡ Err d → (d ≡ Short) ⊎ ((next last).read (bytes ++ more) ≡ Err d)
  next_stays last bytes more d is e =
      elim (bind_err (f.read bytes) (judged_after less last bytes) d e) [
        | inl early ↦ elim (exact.stays bytes more d is early) [
          | inl short ↦ inl short
          | inr still ↦ inr (rw still refl)
        ]
        | inr (a, ra, ea) ↦
            elim (chosen (comes_after less last (front_of bytes a.1)) (Ok a) (Err NotCanonical) (Err d) ea) [
              | inl (yes_, same) ↦ absurd (not_both a d same)
              | inr (no_, other) ↦
                  let t = exact.takes bytes a.0 a.1 is ra in
                  let same_front : front_of (bytes ++ more) (a.1 ++ more) ≡ front_of bytes a.1 =
                  front_is (bytes ++ more) (f.spell a.0) (a.1 ++ more) (ap (λ (w : List ℕ). w ++ more) t.parts ∙ append_assoc (f.spell a.0) a.1 more)
                  ∙ sym (front_is bytes (f.spell a.0) a.1 t.parts) in
                  inr (rw (goes_on f exact bytes a.0 a.1 more is ra, same_front, no_) other)
            ]
      ]

  next_exact : (last : Option (List ℕ)) → IsExact (next last)
  next_exact last = record { takes = next_takes last; again = next_again last; stays = next_stays last }

  rising_takes : (n : ℕ) (last : Option (List ℕ)) (bytes : List ℕ) (x : List A × List ℕ) → IsBytes bytes → rising_at less f.read last n bytes ≡ Ok x
      → IsTaken (rising_after less f last n) bytes x.0 x.1
  unfolding rising_at
  rising_takes zero last bytes x is e =
      subst (λ (y : List A × List ℕ). IsTaken (rising_after less f last 0) bytes y.0 y.1) (ok_is ([], bytes) x e) record { parts = refl; fits = (refl, tt, tt) }
  rising_takes (suc n) last bytes x is e =
      let (a, ra, ea) = bind_ok ((next last).read bytes) (λ a. rising_at less f.read (Some (front_of bytes a.1)) n a.1 >>= λ more. Ok (a.0 ∷ more.0, more.1)) x e in
      let (more, rm, em) = bind_ok (rising_at less f.read (Some (front_of bytes a.1)) n a.1) (λ more. Ok (a.0 ∷ more.0, more.1)) x ea in
      let ta = (next_exact last).takes bytes a.0 a.1 is ra in
      let same = front_is bytes (f.spell a.0) a.1 ta.parts in
      let tm = rising_takes n (Some (front_of bytes a.1)) a.1 more (IsBytes-rest bytes (f.spell a.0) a.1 ta.parts is) rm in
      let parts : bytes ≡ flat_map f.spell (a.0 ∷ more.0) ++ more.1 =
      ta.parts ∙ ap (λ (w : List ℕ). f.spell a.0 ++ w) tm.parts ∙ sym (append_assoc (f.spell a.0) (flat_map f.spell more.0) more.1)
      ∙ ap (λ (w : List ℕ). w ++ more.1) (sym (flat_map-cons f.spell a.0 more.0)) in
      let up : rise less f.spell (Some (f.spell a.0)) more.0 = subst (λ (w : List ℕ). rise less f.spell (Some w) more.0) same tm.fits.2 in
      let whole : IsTaken (rising_after less f last (suc n)) bytes (a.0 ∷ more.0) more.1 =
      record { parts = parts; fits = (ap suc tm.fits.0, (ta.fits.0, tm.fits.1), (ta.fits.1, up)) } in
      subst (λ (y : List A × List ℕ). IsTaken (rising_after less f last (suc n)) bytes y.0 y.1) (ok_is (a.0 ∷ more.0, more.1) x em) whole

  rising_again : (n : ℕ) (last : Option (List ℕ)) (xs : List A) (rest : List ℕ) → (rising_after less f last n).Fits xs → rising_at less f.read last n (flat_map f.spell xs ++ rest) ≡ Ok (xs, rest)
  unfolding rising_at
  rising_again zero last [] rest fits = refl
  rising_again zero last (x ∷ xs) rest fits = absurd (omega (arith, fits.0))
  rising_again (suc n) last [] rest fits = absurd (omega (arith, fits.0))
  rising_again (suc n) last (x ∷ xs) rest fits =
      let after = flat_map f.spell xs ++ rest in
      let regrouped : flat_map f.spell (x ∷ xs) ++ rest ≡ f.spell x ++ (flat_map f.spell xs ++ rest) =
      ap (λ (w : List ℕ). w ++ rest) (flat_map-cons f.spell x xs) ∙ append_assoc (f.spell x) (flat_map f.spell xs) rest in
      let len : length xs ≡ n = omega (arith, fits.0) in
      ap (rising_at less f.read last (suc n)) regrouped
      ∙ rw (
        next_again last x (flat_map f.spell xs ++ rest) (fits.1.0, fits.2.0),
        front_is (f.spell x ++ (flat_map f.spell xs ++ rest)) (f.spell x) (flat_map f.spell xs ++ rest) refl,
        rising_again n (Some (f.spell x)) xs rest (len, fits.1.1, fits.2.1),
      ) refl

  rising_stays : (n : ℕ) (last : Option (List ℕ)) (bytes more : List ℕ) (d : TableFault) → IsBytes bytes → rising_at less f.read last n bytes ≡ Err d
      → (d ≡ Short) ⊎ (rising_at less f.read last n (bytes ++ more) ≡ Err d)
  unfolding rising_at
  rising_stays zero last bytes more d is e = absurd (not_both _ d e)
  rising_stays (suc n) last bytes more d is e =
      elim (bind_err ((next last).read bytes) (λ a. rising_at less f.read (Some (front_of bytes a.1)) n a.1 >>= λ more. Ok (a.0 ∷ more.0, more.1)) d e) [
        | inl early ↦ elim ((next_exact last).stays bytes more d is early) [
          | inl short ↦ inl short
          | inr still ↦ inr (rw still refl)
        ]
        | inr (a, ra, ea) ↦
            elim (bind_err (rising_at less f.read (Some (front_of bytes a.1)) n a.1) (λ more. Ok (a.0 ∷ more.0, more.1)) d ea) [
              | inl late ↦
                  let ta = (next_exact last).takes bytes a.0 a.1 is ra in
                  let same_front : front_of (bytes ++ more) (a.1 ++ more) ≡ front_of bytes a.1 =
                  front_is (bytes ++ more) (f.spell a.0) (a.1 ++ more) (ap (λ (w : List ℕ). w ++ more) ta.parts ∙ append_assoc (f.spell a.0) a.1 more)
                  ∙ sym (front_is bytes (f.spell a.0) a.1 ta.parts) in
                  elim (rising_stays n (Some (front_of bytes a.1)) a.1 more d (IsBytes-rest bytes (f.spell a.0) a.1 ta.parts is) late) [
                    | inl short ↦ inl short
                    | inr still ↦ inr (rw (goes_on (next last) (next_exact last) bytes a.0 a.1 more is ra, same_front, still) refl)
                  ]
              | inr (others, ro, eo) ↦ absurd (not_both _ d eo)
            ]
      ]

  pub rising_exact : (last : Option (List ℕ)) (n : ℕ) → IsExact (rising_after less f last n)
  rising_exact last n = record { takes = λ bytes x rest is e. rising_takes n last bytes (x, rest) is e; again = rising_again n last; stays = rising_stays n last }
