-- Rising numbers.
use Rattle.std.specs.Prelude.{◌<◌, ◌≤◌, ℕ, List, get_or, length}

-- no number is below one in front of it
abbrev pub AreRising : List ℕ → Type 0
AreRising numbers = (i j : ℕ) → i ≤ j → j < length numbers → get_or numbers i 0 ≤ get_or numbers j 0
