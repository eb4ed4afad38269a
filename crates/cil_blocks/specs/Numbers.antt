-- Lists of numbers: of namespaces, as a scope, and numbers of which many in front are 0.
use Rattle.std.specs.Prelude.{◌≤◌, ◌==◌, ◌||◌, ℕ, zero, suc, if◌then◌else◌, List, [], ◌∷◌, ◌++◌, length, fold, get_or, replicate, Contains, Option, Some, None}
use Rattle.std.specs.List.{list_any}
use Rattle.cil_blocks.specs.declared.namespaces.Space.{Space}
use Rattle.cil_blocks.specs.Namespaces.{inner_at}

-- so many zeros, and then others
abbrev pub behind_zeros : ℕ → List ℕ → List ℕ
behind_zeros zeros others = replicate zeros 0 ++ others

-- the number at a place; 0, that of the global namespace, where there is no place
abbrev pub number_in : List ℕ → Option ℕ → ℕ
number_in ks None = 0
number_in ks (Some k) = get_or ks k 0

-- these are numbers of namespaces
abbrev pub AreWithin : List Space → List ℕ → Type 0
AreWithin ss ks = (k : ℕ) → Contains ks k → k ≤ length ss

-- a number behind others, unless it is there, or that of the global namespace
abbrev pub with_number : List ℕ → ℕ → List ℕ
with_number ks k = if (k == 0) || list_any (λ m. k == m) ks then ks else ks ++ k ∷ []

abbrev pub with_numbers : List ℕ → List ℕ → List ℕ
with_numbers ks more = fold with_number ks more

-- ---- the namespaces round one

abbrev pub chain_through : ℕ → Option Space → (ℕ → List ℕ) → List ℕ
chain_through k None round = []
chain_through k (Some s) round = k ∷ round s.outer

-- the numbers of a namespace and of those round it, the innermost first; so many at most
unfoldable pub chain_within : List Space → ℕ → ℕ → List ℕ
chain_within ss zero k = []
chain_within ss (suc most) k = chain_through k (inner_at ss k) (chain_within ss most)

-- the numbers of a namespace and of those round it: they fall, so that there are no more than the first says
abbrev pub chain_numbers : List Space → ℕ → List ℕ
chain_numbers ss k = chain_within ss k k

-- of each of these numbers all that is round it is in a list, with itself
abbrev pub AreGoneUp : List Space → List ℕ → List ℕ → Type 0
AreGoneUp ss gone ks = (k : ℕ) → Contains gone k → (m : ℕ) → Contains (chain_numbers ss k) m → Contains ks m
