-- Reading many values, each in a format that those before it give, as a loop does.
use Rattle.std.proofs.Common.{◌≡◌, ℕ, suc, ◌-◌, ◌+◌, ◌≤◌, ◌<◌, List, [], ◌∷◌, ◌++◌, Ok, Err, refl, sym, ap, ◌∙◌, arith}
use Rattle.std.proofs.lemmas.List.{append-nil}
use Rattle.cil_format.specs.declared.fault.TableError.{TableError}
use Rattle.cil_format.specs.declared.fault.TableError.TheVariants as errors
use Rattle.cil_format.specs.Format.{Taken, each_at}
use Rattle.cil_format.specs.Takes.{Fails}
use Rattle.cil_format.proofs.Loops.{with_front, regroup}

module _ {A : Type 0} (reads : List A → List ℕ → Taken A) where
  pub each_more : (front : List A) (count i : ℕ) (bytes : List ℕ) (a : A) (after : List ℕ) (total : Taken (List A)) → i < count → reads front bytes ≡ Ok (a, after)
      → with_front front (each_at reads front (count - i) bytes) ≡ total → with_front (front ++ a ∷ []) (each_at reads (front ++ a ∷ []) (count - (i + 1)) after) ≡ total
  unfolding each_at
  each_more front count i bytes a after total lt h so_far =
      let k : count - i ≡ suc (count - (i + 1)) = omega arith in
      let one : with_front front (each_at reads front (count - i) bytes) ≡ with_front (front ++ a ∷ []) (each_at reads (front ++ a ∷ []) (count - (i + 1)) after) =
      rw (k, h) (regroup front a (each_at reads (front ++ a ∷ []) (count - (i + 1)) after)) in
      sym one ∙ so_far

  pub each_stops : (e : TableError) (front : List A) (count i : ℕ) (bytes : List ℕ) (total : Taken (List A)) → i < count → Fails e (reads front bytes)
      → with_front front (each_at reads front (count - i) bytes) ≡ total → Fails e total
  unfolding each_at
  each_stops errors.NoMemory front count i bytes total lt h so_far = tt
  each_stops (errors.Fault f) front count i bytes total lt h so_far =
      let k : count - i ≡ suc (count - (i + 1)) = omega arith in
      let one : with_front front (each_at reads front (count - i) bytes) ≡ Err f = rw (k, h) refl in
      sym so_far ∙ one

  pub each_ended : (front : List A) (count i : ℕ) (bytes : List ℕ) (total : Taken (List A)) → count ≤ i → with_front front (each_at reads front (count - i) bytes) ≡ total
      → total ≡ Ok (front, bytes)
  unfolding each_at
  each_ended front count i bytes total le so_far =
      let k : count - i ≡ 0 = omega arith in
      let one : with_front front (each_at reads front (count - i) bytes) ≡ Ok (front, bytes) = rw k (ap (λ (ns : List A). Ok (ns, bytes)) (append-nil front)) in
      sym so_far ∙ one
