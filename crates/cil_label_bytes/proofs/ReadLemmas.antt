-- Sections 1 to 5, read one behind the other.
use Rattle.std.proofs.Common.{◌≡◌, ℕ, Bool, List, length, Ok, Err, refl, subst}
use Rattle.cil_labels.specs.Parts.{AreApart}
use Rattle.cil_mls.specs.declared.categories.Categories.{Categories}
use Rattle.cil_mls.specs.declared.level.Range.{Range}
use Rattle.cil_mls.specs.declared.named.Named.{Named}
use Rattle.cil_format.specs.declared.fault.TableError.{TableError}
use Rattle.cil_format.specs.declared.fault.TableError.TheVariants as errors
use Rattle.cil_format.specs.declared.fault.TableFault.{TableFault}
use Rattle.cil_format.specs.Format.{Taken}
use Rattle.cil_format.specs.Takes.{Fails}
use Rattle.cil_format.proofs.Bytes.{IsBytes}
use Rattle.cil_label_bytes.specs.Layout.{LabelNames, category_part, labels, labels_of, sensitivity_part, users}
use Rattle.cil_label_bytes.proofs.ApartLemmas.{are_apart}
use Rattle.cil_label_bytes.proofs.Exact.{labels_exact}

-- whatever memory says, a fault is that of the whole
handed : {X Y : Type 0} (e : TableError) (first : Taken X) (whole : Taken Y) → ((f : TableFault) → first ≡ Err f → whole ≡ Err f) → Fails e first → Fails e whole
handed errors.NoMemory first whole on fails = tt
handed (errors.Fault f) first whole on fails = on f fails

module _ (are_on : Bool) (bytes : List ℕ) where
  pub no_categories : (e : TableError) → Fails e (category_part.read bytes) → Fails e ((labels are_on).read bytes)
  unfolding labels
  no_categories e fails = handed e (category_part.read bytes) ((labels are_on).read bytes) (λ f h. rw h refl) fails

  module _ (names : List (List ℕ)) (rows : List Named) (rest : List ℕ) (read : category_part.read bytes ≡ Ok ((names, rows), rest)) where
    pub no_sensitivities : (e : TableError) (count : ℕ) → count ≡ length names → Fails e ((sensitivity_part count).read rest) → Fails e ((labels are_on).read bytes)
    unfolding labels
    no_sensitivities e count is fails =
        handed e ((sensitivity_part (length names)).read rest) ((labels are_on).read bytes) (λ f h. rw (read, h) refl) (subst (λ n. Fails e ((sensitivity_part n).read rest)) is fails)

    module _ (count : ℕ) (is : count ≡ length names) (more : List (List ℕ)) (sets : List Categories) (others : List Named) (left : List ℕ)
        (next : (sensitivity_part count).read rest ≡ Ok (((more, sets), others), left)) where
      behind : (sensitivity_part (length names)).read rest ≡ Ok (((more, sets), others), left)
      behind = subst (λ n. (sensitivity_part n).read rest ≡ Ok (((more, sets), others), left)) is next

      pub no_users : (e : TableError) (n : ℕ) (permitted : List Categories) → n ≡ length names → permitted ≡ sets → Fails e ((users are_on n permitted).read left) → Fails e ((labels are_on).read bytes)
      unfolding labels
      no_users e n permitted p q fails =
          handed e ((users are_on (length names) sets).read left) ((labels are_on).read bytes) (λ f h. rw (read, behind, h) refl)
          (subst (λ ps. Fails e ((users are_on (length names) ps).read left)) q (subst (λ m. Fails e ((users are_on m permitted).read left)) p fails))

      pub all_read : (n : ℕ) (permitted : List Categories) → n ≡ length names → permitted ≡ sets → (user_names : List (List ℕ)) (ranges : List Range) (last : List ℕ)
          → (users are_on n permitted).read left ≡ Ok ((user_names, ranges), last) → (labels are_on).read bytes ≡ Ok (labels_of are_on ((names, rows), (((more, sets), others), (user_names, ranges))), last)
      unfolding labels
      all_read n permitted p q user_names ranges last ended =
          let there : (users are_on (length names) sets).read left ≡ Ok ((user_names, ranges), last) =
          subst (λ ps. (users are_on (length names) ps).read left ≡ Ok ((user_names, ranges), last)) q (subst (λ m. (users are_on m permitted).read left ≡ Ok ((user_names, ranges), last)) p ended) in
          rw (read, behind, there) refl

-- what is read keeps what labels ask of tables
pub read_apart : (are_on : Bool) (bytes : List ℕ) (t : LabelNames) (rest : List ℕ) → IsBytes bytes → (labels are_on).read bytes ≡ Ok (t, rest) → AreApart t.levels
read_apart are_on bytes t rest is e = let taken = (labels_exact are_on).takes bytes t rest is e in are_apart are_on t taken.fits
