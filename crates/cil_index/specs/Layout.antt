-- Records stand in the order of their index. Another list says for each of them, in the order of the table, where it stands.
use Rattle.std.specs.Prelude.{◌≡◌, ◌<◌, ℕ, List, map, length, get_or, Contains}
use Rattle.cil_index.specs.declared.key.Entry.{Entry}
use Rattle.cil_index.specs.declared.record.Record.{Record}

-- what is read where there is no record
abbrev pub no_record : Record
no_record = record { branch = 0; source = 0; target = 0; class = 0; mask = 0 }

-- the records at some places, one after another
abbrev pub in_order : List Record → List ℕ → List Record
in_order records order = map (λ at. get_or records at no_record) order

-- these are places of records, and no record is left out
pub record IsOrder (records : List Record) (order : List ℕ) : Type 0 where
  pub within : (at : ℕ) → Contains order at → at < length records
  pub all : (k : Record) → Contains records k → Contains (in_order records order) k

-- ---- private words: entries, by which records are put in the order of their index

-- the record of an entry
abbrev pub record_of_entry : List Record → Entry → Record
record_of_entry records e = get_or records e.place no_record

-- entries are of records before a place
abbrev pub AreOfFirst : ℕ → List Entry → Type 0
AreOfFirst count entries = (e : Entry) → Contains entries e → e.place < count

-- for this place the order names an entry that is of it
pub record IsPlaced (entries : List Entry) (order : List ℕ) (place : ℕ) : Type 0 where
  pub within : get_or order place 0 < length entries
  pub same : (d : Entry) → (get_or entries (get_or order place 0) d).place ≡ place

-- and so it does for the place of each entry
pub record AreAllPlaced (count : ℕ) (entries : List Entry) (order : List ℕ) : Type 0 where
  pub long : length order ≡ count
  pub each : (e : Entry) → Contains entries e → IsPlaced entries order e.place
