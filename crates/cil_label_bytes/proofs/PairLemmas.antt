-- Two lists of one length as a list of pairs, and sensitivities so.
use Rattle.std.proofs.Common.{◌≡◌, ℕ, ◌-◌, ◌+◌, ◌≤◌, ◌<◌, List, [], ◌∷◌, ◌++◌, length, Ok, Err, Result, refl, sym, ap, subst, ◌∙◌, arith}
use Rattle.std.specs.Prelude.{◌^◌, IfOk, nat_le}
use Rattle.std.specs.Int.{w32}
use Rattle.std.proofs.lemmas.List.{length-append}
use Rattle.std.specs.Borrow.{Bor}
use Rattle.cil_mls.specs.declared.categories.Categories.{Categories}
use Rattle.cil_format.specs.declared.fault.TableError.{TableError}
use Rattle.cil_format.specs.declared.fault.TableError.TheVariants as errors
use Rattle.cil_format.specs.declared.fault.TableFault.TheVariants.{OutOfRange}
use Rattle.cil_format.specs.Format.{Format, Taken, both, checked, each_at, number}
use Rattle.cil_format.specs.Takes.{Fails, Takes}
use Rattle.cil_format.proofs.Loops.{with_front}
use Rattle.cil_label_bytes.specs.declared.listings.Sensitivities.{Sensitivities}
use Rattle.cil_label_bytes.specs.Layout.{new_name, lists_of, zipped, sensitivity, sensitivities}
use Rattle.cil_label_bytes.specs.Sets.{categories_below}
use Rattle.cil_label_bytes.proofs.EachLoops.{each_more, each_stops, each_ended}

module _ {A B : Type 0} where
  pub lists_back : (xs : List A) (bs : List B) → length xs ≡ length bs → lists_of (zipped xs bs) ≡ (xs, bs)
  lists_back [] [] e = refl
  lists_back [] (b ∷ bs) e = absurd (omega (arith, e))
  lists_back (a ∷ xs) [] e = absurd (omega (arith, e))
  lists_back (a ∷ xs) (b ∷ bs) e = let rest : length xs ≡ length bs = omega (arith, e) in ap (λ (p : List A × List B). (a ∷ p.0, b ∷ p.1)) (lists_back xs bs rest)

  pub zipped_push : (xs : List A) (bs : List B) (a : A) (b : B) → length xs ≡ length bs → zipped xs bs ++ (a, b) ∷ [] ≡ zipped (xs ++ a ∷ []) (bs ++ b ∷ [])
  zipped_push [] [] a b e = refl
  zipped_push [] (d ∷ ds) a b e = absurd (omega (arith, e))
  zipped_push (c ∷ cs) [] a b e = absurd (omega (arith, e))
  zipped_push (c ∷ cs) (d ∷ ds) a b e = let rest : length cs ≡ length ds = omega (arith, e) in ap (λ w. (c, d) ∷ w) (zipped_push cs ds a b rest)

-- ---- sensitivities, read one by one

module _ (count : ℕ) where
  abbrev pub one : List (List ℕ) → Format (List ℕ × Categories)
  one names = both (new_name names) (λ n. categories_below count)

  abbrev pub reads : List (List ℕ × Categories) → List ℕ → Taken (List ℕ × Categories)
  reads done bytes = (sensitivity count done).read bytes

  module _ (names : List (List ℕ)) (permitted : List Categories) (same : length names ≡ length permitted) where
    names_are : (lists_of (zipped names permitted)).0 ≡ names
    names_are = ap (λ (p : List (List ℕ) × List Categories). p.0) (lists_back names permitted same)

    module _ (most i : ℕ) (bytes : List ℕ) (total : Taken (List (List ℕ × Categories)))
        (so_far : with_front (zipped names permitted) (each_at reads (zipped names permitted) (most - i) bytes) ≡ total) where
      pub one_more : (text : List ℕ) (set : Categories) (after : List ℕ) (new_names : List (List ℕ)) (new_sets : List Categories) → i < most → (one names).read bytes ≡ Ok ((text, set), after)
          → new_names ≡ names ++ text ∷ [] → new_sets ≡ permitted ++ set ∷ []
          → (with_front (zipped new_names new_sets) (each_at reads (zipped new_names new_sets) (most - (i + 1)) after) ≡ total) × (length new_names ≡ length new_sets)
      one_more text set after new_names new_sets lt read is_names is_sets =
          let there : reads (zipped names permitted) bytes ≡ Ok ((text, set), after) = ap (λ ns. (one ns).read bytes) names_are ∙ read in
          let step = each_more reads (zipped names permitted) most i bytes (text, set) after total lt there so_far in
          let grown : zipped names permitted ++ (text, set) ∷ [] ≡ zipped new_names new_sets =
          zipped_push names permitted text set same ∙ ap (λ ns. zipped ns (permitted ++ set ∷ [])) (sym is_names) ∙ ap (zipped new_names) (sym is_sets) in
          let n = length-append names (text ∷ []) in
          let m = length-append permitted (set ∷ []) in
          let k = ap length is_names in
          let l = ap length is_sets in (
            subst (λ (w : List (List ℕ × Categories)). with_front w (each_at reads w (most - (i + 1)) after) ≡ total) grown step,
            omega (arith, same, n, m, k, l),
          )

      pub one_stops : (e : TableError) → i < most → Fails e ((one names).read bytes) → Fails e total
      one_stops e lt fails = each_stops reads e (zipped names permitted) most i bytes total lt (subst (λ ns. Fails e ((one ns).read bytes)) (sym names_are) fails) so_far

      pub all_ended : most ≤ i → total ≡ Ok (zipped names permitted, bytes)
      all_ended le = each_ended reads (zipped names permitted) most i bytes total le so_far

  -- sensitivities that were read so are those of the section
  pub section_read : (r : Result (Sensitivities × Bor (List ℕ)) TableError) (bytes rest : List ℕ) (most : ℕ)
      → (checked (λ n. nat_le n 256) OutOfRange (number w32 (2 ^ 32))).read bytes ≡ Ok (most, rest)
      → Takes (λ x. (zipped x.0.names x.0.permitted.items, x.1.now)) r (each_at reads [] most rest) → IfOk r (λ x. length x.0.names ≡ length x.0.permitted.items)
      → Takes (λ x. ((x.0.names, x.0.permitted.items), x.1.now)) r ((sensitivities count).read bytes)
  section_read (Ok x) bytes rest most sized takes paired =
      rw (sized, takes) (ap (λ (p : List (List ℕ) × List Categories). Ok (p, x.1.now)) (lists_back x.0.names x.0.permitted.items paired))
  section_read (Err errors.NoMemory) bytes rest most sized takes paired = tt
  section_read (Err (errors.Fault f)) bytes rest most sized takes paired = rw (sized, takes) refl
