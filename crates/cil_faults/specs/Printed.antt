-- The lines in which faults are printed: `CODE MODULE AT SPACE WORD`. This project's profile.
use Rattle.std.specs.Prelude.{ℕ, List, [], ◌∷◌, ◌++◌, decimal}
use Rattle.std.specs.List.{flat_map}
use Rattle.cil_faults.specs.declared.fault.Fault.{Fault}
use Rattle.cil_faults.specs.Codes.{number_of}

-- a namespace as it is printed: a dot for the global one
abbrev pub printed_space : List ℕ → List ℕ
printed_space [] = 46 ∷ []
printed_space (b ∷ bs) = b ∷ bs

-- a word as it is printed: a hyphen where none is named
abbrev pub printed_word : List ℕ → List ℕ
printed_word [] = 45 ∷ []
printed_word (b ∷ bs) = b ∷ bs

-- the line of a fault: five fields with a space between, and a newline
abbrev pub printed_fault : Fault → List ℕ
printed_fault f =
    decimal (number_of f.code) ++ (32 ∷ decimal f.«module») ++ (32 ∷ decimal f.at) ++ (32 ∷ printed_space f.space)
    ++ (32 ∷ printed_word f.word) ++ 10 ∷ []

-- the lines, one after another
abbrev pub printed : List Fault → List ℕ
printed = flat_map printed_fault
