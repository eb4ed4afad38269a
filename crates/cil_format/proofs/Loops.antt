-- Reading many values, as a loop does.
use Rattle.std.proofs.Common.{◌≡◌, ℕ, zero, suc, ◌-◌, ◌+◌, ◌≤◌, ◌<◌, Bool, true, false, cond, List, [], ◌∷◌, ◌++◌, length, drop, Option, Some, None, Result, Ok, Err, refl, sym, ap, subst, ◌∙◌, append_assoc, arith}
use Rattle.std.proofs.lemmas.List.{append-nil}
use Rattle.cil_format.specs.declared.fault.TableFault.{TableFault}
use Rattle.cil_format.specs.declared.fault.TableFault.TheVariants.{NotCanonical}
use Rattle.cil_format.specs.declared.fault.TableError.{TableError}
use Rattle.cil_format.specs.declared.fault.TableError.TheVariants as errors
use Rattle.cil_format.specs.Format.{Taken, ◌>>=◌, many_at, rising_at, comes_after, front_of, judged_after}
use Rattle.cil_format.specs.Takes.{Fails}

-- what was read before, and what is still read
abbrev pub with_front : {A : Type 0} → List A → Taken (List A) → Taken (List A)
with_front front read = read >>= λ x. Ok (front ++ x.0, x.1)

pub regroup : {A : Type 0} (front : List A) (a : A) (read : Taken (List A)) → with_front front (read >>= λ x. Ok (a ∷ x.0, x.1)) ≡ with_front (front ++ a ∷ []) read
regroup {A} front a (Ok x) = ap (λ (w : List A). Ok (w, x.1)) (sym (append_assoc front (a ∷ []) x.0))
regroup front a (Err f) = refl

module _ {A : Type 0} (read : List ℕ → Taken A) where
  pub more : (front : List A) (count i : ℕ) (bytes : List ℕ) (a : A) (after : List ℕ) (total : Taken (List A)) → i < count → read bytes ≡ Ok (a, after)
      → with_front front (many_at read (count - i) bytes) ≡ total → with_front (front ++ a ∷ []) (many_at read (count - (i + 1)) after) ≡ total
  unfolding many_at
  more front count i bytes a after total lt h so_far =
      let k : count - i ≡ suc (count - (i + 1)) = omega arith in
      let one : with_front front (many_at read (count - i) bytes) ≡ with_front (front ++ a ∷ []) (many_at read (count - (i + 1)) after) =
      rw (k, h) (regroup front a (many_at read (count - (i + 1)) after)) in
      sym one ∙ so_far

  pub stops : (e : TableError) (front : List A) (count i : ℕ) (bytes : List ℕ) (total : Taken (List A)) → i < count → Fails e (read bytes)
      → with_front front (many_at read (count - i) bytes) ≡ total → Fails e total
  unfolding many_at
  stops errors.NoMemory front count i bytes total lt h so_far = tt
  stops (errors.Fault f) front count i bytes total lt h so_far =
      let k : count - i ≡ suc (count - (i + 1)) = omega arith in
      let one : with_front front (many_at read (count - i) bytes) ≡ Err f = rw (k, h) refl in
      sym so_far ∙ one

  pub ended : (front : List A) (count i : ℕ) (bytes : List ℕ) (total : Taken (List A)) → count ≤ i → with_front front (many_at read (count - i) bytes) ≡ total → total ≡ Ok (front, bytes)
  unfolding many_at
  ended front count i bytes total le so_far =
      let k : count - i ≡ 0 = omega arith in
      let one : with_front front (many_at read (count - i) bytes) ≡ Ok (front, bytes) = rw k (ap (λ (ns : List A). Ok (ns, bytes)) (append-nil front)) in
      sym so_far ∙ one

  module _ (less : List ℕ → List ℕ → Bool) where
    rising_on : (front : List A) (count i : ℕ) (last : Option (List ℕ)) (bytes : List ℕ) (a : A) (after : List ℕ) (total : Taken (List A)) → i < count
        → read bytes ≡ Ok (a, after) → comes_after less last (front_of bytes after) ≡ true
        → with_front front (rising_at less read last (count - i) bytes) ≡ total
        → with_front (front ++ a ∷ []) (rising_at less read (Some (front_of bytes after)) (count - (i + 1)) after) ≡ total
    unfolding rising_at
    rising_on front count i last bytes a after total lt h up so_far =
        let k : count - i ≡ suc (count - (i + 1)) = omega arith in
        let one : with_front front (rising_at less read last (count - i) bytes)
        ≡ with_front (front ++ a ∷ []) (rising_at less read (Some (front_of bytes after)) (count - (i + 1)) after) =
        rw (k, h, up) (regroup front a (rising_at less read (Some (front_of bytes after)) (count - (i + 1)) after)) in
        sym one ∙ so_far

    pub rising_more : (front : List A) (count i : ℕ) (last : Option (List ℕ)) (bytes raw : List ℕ) (a : A) (after : List ℕ) (total : Taken (List A)) → i < count
        → read bytes ≡ Ok (a, after) → front_of bytes after ≡ raw → comes_after less last raw ≡ true
        → with_front front (rising_at less read last (count - i) bytes) ≡ total → with_front (front ++ a ∷ []) (rising_at less read (Some raw) (count - (i + 1)) after) ≡ total
    rising_more front count i last bytes raw a after total lt h raw_is up so_far =
        subst (λ (w : List ℕ). with_front (front ++ a ∷ []) (rising_at less read (Some w) (count - (i + 1)) after) ≡ total) raw_is
        (rising_on front count i last bytes a after total lt h (ap (comes_after less last) raw_is ∙ up) so_far)

    pub rising_stops : (e : TableError) (front : List A) (count i : ℕ) (last : Option (List ℕ)) (bytes : List ℕ) (total : Taken (List A)) → i < count → Fails e (read bytes)
        → with_front front (rising_at less read last (count - i) bytes) ≡ total → Fails e total
    unfolding rising_at
    rising_stops errors.NoMemory front count i last bytes total lt h so_far = tt
    rising_stops (errors.Fault f) front count i last bytes total lt h so_far =
        let k : count - i ≡ suc (count - (i + 1)) = omega arith in
        let one : with_front front (rising_at less read last (count - i) bytes) ≡ Err f = rw (k, h) refl in
        sym so_far ∙ one

    falls_at : (front : List A) (count i : ℕ) (last : Option (List ℕ)) (bytes : List ℕ) (a : A) (after : List ℕ) (total : Taken (List A)) → i < count
        → read bytes ≡ Ok (a, after) → comes_after less last (front_of bytes after) ≡ false
        → with_front front (rising_at less read last (count - i) bytes) ≡ total → total ≡ Err NotCanonical
    unfolding rising_at
    falls_at front count i last bytes a after total lt h down so_far =
        let k : count - i ≡ suc (count - (i + 1)) = omega arith in
        let one : with_front front (rising_at less read last (count - i) bytes) ≡ Err NotCanonical = rw (k, h, down) refl in
        sym so_far ∙ one

    pub falls : (front : List A) (count i : ℕ) (last : Option (List ℕ)) (bytes raw : List ℕ) (a : A) (after : List ℕ) (total : Taken (List A)) → i < count
        → read bytes ≡ Ok (a, after) → front_of bytes after ≡ raw → comes_after less last raw ≡ false
        → with_front front (rising_at less read last (count - i) bytes) ≡ total → total ≡ Err NotCanonical
    falls front count i last bytes raw a after total lt h raw_is down so_far =
        falls_at front count i last bytes a after total lt h (ap (comes_after less last) raw_is ∙ down) so_far

    pub rising_ended : (front : List A) (count i : ℕ) (last : Option (List ℕ)) (bytes : List ℕ) (total : Taken (List A)) → count ≤ i
        → with_front front (rising_at less read last (count - i) bytes) ≡ total → total ≡ Ok (front, bytes)
    unfolding rising_at
    rising_ended front count i last bytes total le so_far =
        let k : count - i ≡ 0 = omega arith in
        let one : with_front front (rising_at less read last (count - i) bytes) ≡ Ok (front, bytes) = rw k (ap (λ (ns : List A). Ok (ns, bytes)) (append-nil front)) in
        sym so_far ∙ one
