-- How values are laid out as bytes. One description of a format says which values it has, the bytes of each, and what is read from the
-- front of any bytes, with the fault that is met first. Formats are made of formats in the ways below. This project's profile.
use Rattle.std.specs.Prelude.{◌≡◌, ℕ, zero, suc, ◌<◌, ◌-◌, ◌^◌, Bool, true, false, List, [], ◌∷◌, ◌++◌, length, take, drop, Option, Some, None, Result, Ok, Err, nat_lt, if◌then◌else◌}
use Rattle.std.specs.List.{flat_map, AllByRecursion}
use Rattle.std.specs.Int.{Width, w32, byte_len, from_be_bytes, to_be_bytes}
use Rattle.cil_format.specs.declared.fault.TableFault.{TableFault}
use Rattle.cil_format.specs.declared.fault.TableFault.TheVariants.{Short, NotCanonical, OutOfRange, Trailing}

-- a value and the bytes after it, or the first fault
abbrev pub Taken : Type 0 → Type 0
Taken X = Result (X × List ℕ) TableFault

infixl 10 ◌>>=◌
abbrev pub ◌>>=◌ : {A B : Type 0} → Result A TableFault → (A → Result B TableFault) → Result B TableFault
(Ok x) >>= f = f x
(Err e) >>= f = Err e

pub record Format (X : Type 0) : Type 1 where
  pub Fits : X → Type 0  -- the values that have a layout
  pub spell : X → List ℕ  -- the bytes of a value
  pub read : List ℕ → Taken X  -- what stands at the front of some bytes

-- ---- one after another

-- a value, and then one whose format may depend on it
abbrev pub then_read : {A B : Type 0} → (A → Format B) → A × List ℕ → Taken (A × B)
then_read second a = (second a.0).read a.1 >>= λ b. Ok ((a.0, b.0), b.1)

abbrev pub both : {A B : Type 0} → Format A → (A → Format B) → Format (A × B)
both first second = record {
  Fits = λ p. first.Fits p.0 × (second p.0).Fits p.1;
  spell = λ p. first.spell p.0 ++ (second p.0).spell p.1;
  read = λ bytes. first.read bytes >>= then_read second;
}

-- the same bytes, as values of another type: those that `to` makes
abbrev pub as_type : {A B : Type 0} → (A → B) → (B → A) → Format A → Format B
as_type to from f = record {
  Fits = λ b. f.Fits (from b) × (to (from b) ≡ b);
  spell = λ b. f.spell (from b);
  read = λ bytes. f.read bytes >>= λ a. Ok (to a.0, a.1);
}

-- the same values, whose bytes are told in another way
abbrev pub spelled_by : {A : Type 0} → (A → List ℕ) → Format A → Format A
spelled_by spell f = record { Fits = f.Fits; spell = spell; read = f.read }

-- what a value has in front (a size, a tag), and then the value in the format that this asks for
abbrev pub keyed : {K A : Type 0} → (A → K) → Format K → (K → Format A) → Format A
keyed key front body = record {
  Fits = λ a. front.Fits (key a) × (body (key a)).Fits a;
  spell = λ a. front.spell (key a) ++ (body (key a)).spell a;
  read = λ bytes. front.read bytes >>= λ k. (body k.0).read k.1;
}

-- one value without bytes
abbrev pub only : {A : Type 0} → A → Format A
only a = record { Fits = λ b. b ≡ a; spell = λ b. []; read = λ bytes. Ok (a, bytes) }

-- no value
abbrev pub refused : {A : Type 0} → TableFault → Format A
refused fault = record { Fits = λ a. ⊥; spell = λ a. []; read = λ bytes. Err fault }

-- a value that passes a test, which is judged at its end
abbrev pub judged : {A : Type 0} → (A → Bool) → TableFault → A × List ℕ → Taken A
judged test fault a = if test a.0 then Ok a else Err fault

abbrev pub checked : {A : Type 0} → (A → Bool) → TableFault → Format A → Format A
checked test fault f = record {
  Fits = λ a. f.Fits a × (test a ≡ true);
  spell = f.spell;
  read = λ bytes. f.read bytes >>= judged test fault;
}

-- one of two formats
abbrev pub choose : {A : Type 0} → Bool → Format A → Format A → Format A
choose true f g = f
choose false f g = g

-- ---- numbers and runs of bytes

abbrev pub number_at : Width → List ℕ → Taken ℕ
number_at w bytes = if nat_lt (length bytes) (byte_len w) then Err Short else Ok (from_be_bytes w (take (byte_len w) bytes), drop (byte_len w) bytes)

-- a number of a width: what is below its limit
abbrev pub number : Width → ℕ → Format ℕ
number w limit = record { Fits = λ n. n < limit; spell = to_be_bytes w; read = number_at w }

abbrev pub run_at : ℕ → List ℕ → Taken (List ℕ)
run_at n bytes = if nat_lt (length bytes) n then Err Short else Ok (take n bytes, drop n bytes)

-- so many bytes
abbrev pub run : ℕ → Format (List ℕ)
run n = record { Fits = λ xs. length xs ≡ n; spell = λ xs. xs; read = run_at n }

-- ---- many

unfoldable pub many_at : {A : Type 0} → (List ℕ → Taken A) → ℕ → List ℕ → Taken (List A)
many_at read zero bytes = Ok ([], bytes)
many_at read (suc n) bytes = read bytes >>= λ a. many_at read n a.1 >>= λ more. Ok (a.0 ∷ more.0, more.1)

-- so many, one behind the other
abbrev pub many : {A : Type 0} → Format A → ℕ → Format (List A)
many f n = record { Fits = λ xs. (length xs ≡ n) × AllByRecursion f.Fits xs; spell = flat_map f.spell; read = many_at f.read n }

-- so many, each in a format that those before it give
unfoldable pub each_at : {A : Type 0} → (List A → List ℕ → Taken A) → List A → ℕ → List ℕ → Taken (List A)
each_at read before zero bytes = Ok ([], bytes)
each_at read before (suc n) bytes = read before bytes >>= λ a. each_at read (before ++ a.0 ∷ []) n a.1 >>= λ more. Ok (a.0 ∷ more.0, more.1)

abbrev pub each_fits : {A : Type 0} → (List A → Format A) → List A → List A → Type 0
each_fits format before [] = Unit {0}
each_fits format before (a ∷ more) = (format before).Fits a × each_fits format (before ++ a ∷ []) more

abbrev pub each_spelled : {A : Type 0} → (List A → Format A) → List A → List A → List ℕ
each_spelled format before [] = []
each_spelled format before (a ∷ more) = (format before).spell a ++ each_spelled format (before ++ a ∷ []) more

abbrev pub each_by : {A : Type 0} → (List A → Format A) → List A → ℕ → Format (List A)
each_by format before n = record {
  Fits = λ xs. (length xs ≡ n) × each_fits format before xs;
  spell = each_spelled format before;
  read = each_at (λ done bytes. (format done).read bytes) before n;
}

-- the bytes that were taken from the front
abbrev pub front_of : List ℕ → List ℕ → List ℕ
front_of bytes rest = take (length bytes - length rest) bytes

-- the next comes after the last one, if there is one: by their bytes
abbrev pub comes_after : (List ℕ → List ℕ → Bool) → Option (List ℕ) → List ℕ → Bool
comes_after less None next = true
comes_after less (Some last) next = less last next

-- the bytes of each come after those of the one before it
abbrev pub rise : {A : Type 0} → (List ℕ → List ℕ → Bool) → (A → List ℕ) → Option (List ℕ) → List A → Type 0
rise less spell last [] = Unit {0}
rise less spell last (a ∷ more) = (comes_after less last (spell a) ≡ true) × rise less spell (Some (spell a)) more

-- a record is judged at its end: does it come after the last one
abbrev pub judged_after : {A : Type 0} → (List ℕ → List ℕ → Bool) → Option (List ℕ) → List ℕ → A × List ℕ → Taken A
judged_after less last bytes a = if comes_after less last (front_of bytes a.1) then Ok a else Err NotCanonical

unfoldable pub rising_at : {A : Type 0} → (List ℕ → List ℕ → Bool) → (List ℕ → Taken A) → Option (List ℕ) → ℕ → List ℕ → Taken (List A)
rising_at less read last zero bytes = Ok ([], bytes)
rising_at less read last (suc n) bytes =
    read bytes >>= judged_after less last bytes >>= λ a. rising_at less read (Some (front_of bytes a.1)) n a.1 >>= λ more. Ok (a.0 ∷ more.0, more.1)

-- so many records, each after the one before it
abbrev pub rising_after : {A : Type 0} → (List ℕ → List ℕ → Bool) → Format A → Option (List ℕ) → ℕ → Format (List A)
rising_after less f last n = record {
  Fits = λ xs. (length xs ≡ n) × AllByRecursion f.Fits xs × rise less f.spell last xs;
  spell = flat_map f.spell;
  read = rising_at less f.read last n;
}

-- ---- forms that come again

-- how many there are, and then these: the count passes a test
abbrev pub sized : {A : Type 0} → Width → ℕ → (ℕ → Bool) → (ℕ → Format (List A)) → Format (List A)
sized w limit test body = keyed length (checked test OutOfRange (number w limit)) body

-- a section whose records stand in an order of their own: how many there are, and these, each in a format that those before it give
abbrev pub listing : {A : Type 0} → (ℕ → Bool) → (List A → Format A) → Format (List A)
listing test format = sized w32 (2 ^ 32) test (each_by format [])

-- a section: how many records there are, and these, in a stated order
abbrev pub section : {A : Type 0} → (List ℕ → List ℕ → Bool) → (ℕ → Bool) → Format A → Format (List A)
section less test f = sized w32 (2 ^ 32) test (rising_after less f None)
