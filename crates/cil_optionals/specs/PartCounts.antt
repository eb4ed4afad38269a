-- The look-ups by the parts of statements, where entries are numbers. No other crate needs these words.
use Rattle.std.specs.Prelude.{◌≡◌, ℕ, ◌+◌, Bool, not, cond, List, map, count_by, sum_by, is_some}
use Rattle.cil_macros.specs.Item.{Item, OptSet}
use Rattle.cil_names.specs.declared.entry.Entry.{Entry}
use Rattle.cil_names.specs.Entries.{is_declared_in, is_in}
use Rattle.cil_optionals.specs.Parts.{Part}
use Rattle.cil_optionals.specs.Counts.{is_lost}

-- how many of these entries are not declared, by a flag for each
abbrev pub lost_of : List Bool → List ℕ → ℕ
lost_of declared ds = count_by (λ d. not (is_in declared d)) ds

-- the same of what each word could name
abbrev pub lost_among : List Bool → List (List ℕ) → ℕ
lost_among declared asked = sum_by (lost_of declared) asked

-- the same of the words of a statement, if it is in an optional
abbrev pub lost_inside : List Bool → Part → ℕ
lost_inside declared p = cond (is_some p.inside) (lost_among declared p.asked) 0

-- how many entries that are not declared the words in optionals could name, each word by itself
unfoldable pub lost_by : List Entry → OptSet → List Part → ℕ
lost_by es s ps = sum_by (lost_inside (map (is_declared_in s) es)) ps

-- so many look-ups belong to this set
abbrev pub AreLookups : List Item → List Part → List Entry → OptSet → ℕ → Type 0
AreLookups xs ps es s n = n ≡ count_by (is_lost s) xs + lost_by es s ps
