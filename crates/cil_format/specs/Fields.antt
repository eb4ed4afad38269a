-- The fields of records: numbers, masks of permissions, sets of numbers, texts, and lists of texts. This project's profile.
use Rattle.std.specs.Prelude.{ℕ, ◌^◌, Bool, true, List, [], ◌∷◌, take, drop, get_or, nat_le, nat_lt, ◌==◌, ◌&&◌}
use Rattle.std.specs.Int.{w8, w16, w32, from_be_bytes}
use Rattle.std.specs.Cmp.Lexicographic.{slice_cmp}
use Rattle.std.specs.Ordering.{nat_cmp, is_lt}
use Rattle.cil_format.specs.declared.fault.TableFault.{TableFault}
use Rattle.cil_format.specs.declared.fault.TableFault.TheVariants.{NotCanonical, OutOfRange}
use Rattle.cil_format.specs.Format.{Format, checked, many, number, run, sized}

-- ---- numbers

-- a byte below a limit
abbrev pub byte_below : ℕ → Format ℕ
byte_below limit = checked (λ n. nat_lt n limit) OutOfRange (number w8 (2 ^ 8))

-- this byte and no other
abbrev pub this_byte : TableFault → ℕ → Format ℕ
this_byte fault b = checked (λ n. n == b) fault (number w8 (2 ^ 8))

-- a number of two bytes below a limit
abbrev pub small : ℕ → Format ℕ
small limit = checked (λ n. nat_lt n limit) OutOfRange (number w16 (2 ^ 16))

-- ---- permissions of a class

-- permissions of a class, where each class has so many: no bit past them
abbrev pub mask : List ℕ → ℕ → Format ℕ
mask widths class = checked (λ m. nat_lt m (2 ^ get_or widths class 0)) OutOfRange (number w32 (2 ^ 32))

-- ---- sets of numbers

-- each is above the one before it
abbrev pub rises : List ℕ → Bool
rises [] = true
rises (a ∷ []) = true
rises (a ∷ b ∷ more) = nat_lt a b && rises (b ∷ more)

-- how many numbers there are, at most as many as there can be, and these, rising: a number out of range is told before their order
abbrev pub set : ℕ → Format (List ℕ)
set limit = sized w16 (2 ^ 16) (λ n. nat_le n limit) (λ n. checked rises NotCanonical (many (small limit) n))

-- ---- texts

-- how many bytes it has, and these
abbrev pub text : Format (List ℕ)
text = sized w32 (2 ^ 32) (λ n. true) run

-- byte order
abbrev pub below : List ℕ → List ℕ → Bool
below a b = is_lt (slice_cmp nat_cmp a b)

-- each is above the one before it
abbrev pub texts_rise : List (List ℕ) → Bool
texts_rise [] = true
texts_rise (a ∷ []) = true
texts_rise (a ∷ b ∷ more) = below a b && texts_rise (b ∷ more)

-- the text at the front of the bytes of a record
abbrev pub text_in : List ℕ → List ℕ
text_in bytes = take (from_be_bytes w32 (take 4 bytes)) (drop 4 bytes)

-- records in the byte order of the texts at their fronts
abbrev pub by_text : List ℕ → List ℕ → Bool
by_text a b = below (text_in a) (text_in b)
