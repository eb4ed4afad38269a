-- The laws of the formats of fields and sections, and of formats that a tag chooses.
use Rattle.std.proofs.Common.{◌≡◌, ℕ, ◌^◌, Bool, true, false, List, [], length, Option, None, refl, sym, ◌∙◌}
use Rattle.std.specs.Prelude.{◌==◌}
use Rattle.std.specs.Int.{Width, w8, w16, w32}
use Rattle.std.proofs.lemmas.Bool.{eqb-true}
use Rattle.cil_format.specs.declared.fault.TableFault.{TableFault}
use Rattle.cil_format.specs.declared.fault.TableFault.TheVariants.{NotCanonical, OutOfRange}
use Rattle.cil_format.specs.Format.{Format, choose, checked, number, run, many, rising_after, each_by, sized, section, listing}
use Rattle.cil_format.specs.Fields.{byte_below, mask, this_byte, small, rises, set, text}
use Rattle.cil_format.proofs.Bytes.{IsWide, wide8, wide16, wide32}
use Rattle.cil_format.proofs.FormatLaws.{IsExact, keyed_exact, checked_exact, number_exact, run_exact, many_exact, rising_exact, each_exact}

pub choose_exact : {A : Type 0} (b : Bool) (f g : Format A) → IsExact f → IsExact g → IsExact (choose b f g)
choose_exact true f g p q = p
choose_exact false f g p q = q

-- the value of a chosen format has the tag that chose it
pub chosen_tells : {A : Type 0} (tag_of : A → ℕ) (tag k : ℕ) (f g : Format A) (a : A) → (f.Fits a → tag_of a ≡ k) → (g.Fits a → tag_of a ≡ tag) → (choose (tag == k) f g).Fits a → tag_of a ≡ tag
chosen_tells tag_of tag k f g a here there fits = go (tag == k) refl fits
  where
    go : (b : Bool) → (tag == k) ≡ b → (choose b f g).Fits a → tag_of a ≡ tag
    go true e fit = here fit ∙ sym (eqb-true tag k e)
    go false e fit = there fit

pub sized_exact : {A : Type 0} (w : Width) (limit : ℕ) (wide : IsWide w limit) (test : ℕ → Bool) (body : ℕ → Format (List A)) → ((n : ℕ) (xs : List A) → (body n).Fits xs → length xs ≡ n)
    → ((n : ℕ) → IsExact (body n)) → IsExact (sized w limit test body)
sized_exact w limit wide test body tells exact =
    keyed_exact length (checked test OutOfRange (number w limit)) body tells (checked_exact test OutOfRange (number w limit) (number_exact w limit wide)) (λ n fits. exact n)

pub section_exact : {A : Type 0} (less : List ℕ → List ℕ → Bool) (test : ℕ → Bool) (f : Format A) → IsExact f → IsExact (section less test f)
section_exact less test f exact = sized_exact w32 (2 ^ 32) wide32 test (rising_after less f None) (λ n xs fits. fits.0) (rising_exact less f exact None)

pub listing_exact : {A : Type 0} (test : ℕ → Bool) (format : List A → Format A) → ((before : List A) → IsExact (format before)) → IsExact (listing test format)
listing_exact test format exact = sized_exact w32 (2 ^ 32) wide32 test (each_by format []) (λ n xs fits. fits.0) (each_exact format exact [])

pub byte_exact : (limit : ℕ) → IsExact (byte_below limit)
byte_exact limit = checked_exact (λ n. _) OutOfRange (number w8 (2 ^ 8)) (number_exact w8 (2 ^ 8) wide8)

pub this_exact : (fault : TableFault) (b : ℕ) → IsExact (this_byte fault b)
this_exact fault b = checked_exact (λ n. _) fault (number w8 (2 ^ 8)) (number_exact w8 (2 ^ 8) wide8)

pub small_exact : (limit : ℕ) → IsExact (small limit)
small_exact limit = checked_exact (λ n. _) OutOfRange (number w16 (2 ^ 16)) (number_exact w16 (2 ^ 16) wide16)

pub mask_exact : (widths : List ℕ) (class : ℕ) → IsExact (mask widths class)
mask_exact widths class = checked_exact (λ m. _) OutOfRange (number w32 (2 ^ 32)) (number_exact w32 (2 ^ 32) wide32)

pub set_exact : (limit : ℕ) → IsExact (set limit)
set_exact limit =
    sized_exact w16 (2 ^ 16) wide16 (λ n. _) (λ n. checked rises NotCanonical (many (small limit) n)) (λ n xs fits. fits.0.0)
    (λ n. checked_exact rises NotCanonical (many (small limit) n) (many_exact (small limit) (small_exact limit) n))

pub text_exact : IsExact text
text_exact = sized_exact w32 (2 ^ 32) wide32 (λ n. true) run (λ n xs fits. fits) run_exact
