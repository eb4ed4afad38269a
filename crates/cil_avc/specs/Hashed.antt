-- What a key writes to a hasher: numbers of eight bytes each. This project's profile. No other crate needs these words.
use Rattle.std.specs.Prelude.{ℕ, ◌*◌, ◌%◌, ◌^◌, ◌++◌, List, fold, bit_xor}
use Rattle.std.specs.Hash as fed
use Rattle.cil_decide.specs.mls.Level.{Level}
use Rattle.cil_decide.specs.constraints_crate.Context.{Context}

-- a number with one word more mixed in; the factor is 2 ^ 64 divided by the golden ratio, rounded down
abbrev pub mixed_more : ℕ → ℕ → ℕ
mixed_more number word = bit_xor number word * 11400714819323198485 % 2 ^ 64

-- a number with these words mixed in
abbrev pub mixed : ℕ → List ℕ → ℕ
mixed first words = fold mixed_more first words

-- the number of a level: equal levels have one; others seldom do
abbrev pub level_number : Level → ℕ
level_number level = mixed level.sensitivity level.categories.words

-- what a context writes
abbrev pub context_writes : Context → List (List ℕ)
context_writes c = fed.usize c.user ++ fed.usize c.role ++ fed.usize c.kind ++ fed.u64 (level_number c.low) ++ fed.u64 (level_number c.high)
