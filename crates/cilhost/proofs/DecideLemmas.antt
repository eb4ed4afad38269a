-- The bytes of a file of tables.
use Rattle.std.proofs.Common.{◌≡◌, ◌∙◌, ◌<◌, ◌≤◌, List, None, Some, arith, length, suc, take, ℕ}
use Rattle.std.specs.Prelude.{IfSome}
use Rattle.std.proofs.lemmas.List.{length-take, take_all}
use Rattle.cilhost.specs.Decides.{AreBytesOf, IsTooLong, longest_tables}
use Rattle.cilhost.specs.Reading.{Known}

-- what is read of a file has at most this length, and is all of the file
all_taken : (n : ℕ) (all : List ℕ) → length (take (suc n) all) ≤ n → take (suc n) all ≡ all
all_taken n all few = take_all (suc n) all (omega (arith, length-take (suc n) all, few))

pub are_all : (known : Known) (bytes : List ℕ) → IfSome known (λ all. bytes ≡ take (suc longest_tables) all) → length bytes ≤ longest_tables → AreBytesOf known bytes
are_all None bytes read few = record { same = tt {0}; few = few }
are_all (Some all) bytes read few = record { same = read ∙ all_taken longest_tables all (rw read at few); few = few }

-- or the file is longer
more_taken : (n : ℕ) (all : List ℕ) → n < length (take (suc n) all) → n < length all
more_taken n all more = omega (arith, length-take (suc n) all, more)

pub is_long : (known : Known) (bytes : List ℕ) → IfSome known (λ all. bytes ≡ take (suc longest_tables) all) → longest_tables < length bytes → IsTooLong known
is_long None bytes read more = tt {0}
is_long (Some all) bytes read more = more_taken longest_tables all (rw read at more)
