-- What all instances ask for: a row for each instance, and in it for each word or permission the entries that it could name, and
-- for a permission its number among those of its class.
use Rattle.std.specs.Prelude.{◌≡◌, ℕ, Bool, List, None, Option, find, map}
use Rattle.std.specs.Global.{Vec}
use Rattle.std.specs.Option.{option_map_or}
use Rattle.cil_base.specs.declared.bytes.Bytes.{Bytes}
use Rattle.cil_blocks.specs.declared.namespaces.Space.{Space}
use Rattle.cil_macros.specs.Item.{Item}
use Rattle.cil_names.specs.declared.entry.Entry.{Entry}
use Rattle.cil_names.specs.PermissionWords.{number_with, wanted_candidates}
use Rattle.cil_names.specs.Resolves.{Permission, Wanted, Word, words_of}

-- for each thing that an item asks for, in order, the entries that it could name, whatever is enabled
abbrev pub asks : List Space → List Entry → List Item → Item → List (List ℕ)
asks ss es xs x = map (wanted_candidates ss es xs) (words_of x)

-- the rows are those of all items, in order
abbrev pub AreAsks : List Space → List Entry → List Item → List (List (List ℕ)) → Type 0
AreAsks ss es xs rows = rows ≡ map (asks ss es xs) xs

-- ---- with the numbers of permissions

-- something that an item asks for
pub record Ask : Type 0 where
  -- the entries that it could name, whatever is enabled
  pub could : List ℕ
  -- for a permission that its class has, its number among those of the class, if these have numbers
  pub number : Option (Option ℕ)

abbrev pub word_ask : List ℕ → Ask
word_ask ds = record { could = ds; number = None }

abbrev pub wanted_number : List Space → List Entry → List Item → List (Vec Bytes) → Wanted → Option (Option ℕ)
wanted_number ss es xs lists (Word w) = None
wanted_number ss es xs lists (Permission c p) = number_with ss es xs lists c p

abbrev pub ask_of : List Space → List Entry → List Item → List (Vec Bytes) → Wanted → Ask
ask_of ss es xs lists w = record { could = wanted_candidates ss es xs w; number = wanted_number ss es xs lists w }

-- all that an item asks for, in order
abbrev pub numbered_asks : List Space → List Entry → List Item → List (Vec Bytes) → Item → List Ask
numbered_asks ss es xs lists x = map (ask_of ss es xs lists) (words_of x)

-- the rows are those of all items, in order
abbrev pub AreNumberedAsks : List Space → List Entry → List Item → List (Vec Bytes) → List (List Ask) → Type 0
AreNumberedAsks ss es xs lists rows = rows ≡ map (numbered_asks ss es xs lists) xs

-- what each thing could name
abbrev pub could_of : List Ask → List (List ℕ)
could_of row = map (λ (k : Ask). k.could) row

abbrev pub could_in : List (List Ask) → List (List (List ℕ))
could_in rows = map could_of rows

-- the number of a permission, and else the first entry that the word could name and that is declared
abbrev pub ask_value : (ℕ → Bool) → Ask → Option ℕ
ask_value declared k = option_map_or (λ (n : Option ℕ). n) k.number (find declared k.could)
