-- The index of rules: each record is found by its heading, its class and its other side.
use Rattle.std.specs.Prelude.{◌≡◌, ◌⊎◌, ◌<◌, ◌≤◌, ◌+◌, ◌*◌, ◌/◌, ◌%◌, ℕ, cond, nat_lt, length, get_or, List, [], ◌∷◌, Contains, Option, None, Some, slice_get}
use Rattle.std.specs.List.Sorted.{IsPartitionPoint, IsSorted}
use Rattle.std.specs.Cmp.{IsTotalOrder}
use Rattle.std.proofs.lemmas.Cmp.{on_total, nat_list_cmp_total}
use Rattle.std.specs.Ordering.{on}
use Rattle.std.specs.declared.cmp.Ordering.{Ordering}
use Rattle.cil_base.specs.Lists.{text_cmp}
use Rattle.cil_index.specs.declared.index.Bounds.{Bounds}
use Rattle.cil_index.specs.declared.index.Index.{Index}
use Rattle.cil_index.specs.declared.key.Entry.{Entry}
use Rattle.cil_index.specs.declared.record.Record.{Record}
use Rattle.cil_index.specs.Sets.{set_of}

-- as this one stand the classes behind it too
abbrev pub last_class : ℕ
last_class = 1023

-- what stands for a class
abbrev pub in_class : ℕ → ℕ
in_class n = cond (nat_lt n last_class) n last_class

-- what stands for a set for whose number there is no room
abbrev pub beyond : ℕ
beyond = 4194302

-- the target of a rule from several types to themselves
abbrev pub itself : ℕ
itself = 4194303

-- from here on stands what is not one type
abbrev pub several : ℕ
several = 2097152

-- as this one stand the types behind it too
abbrev pub last_type : ℕ
last_type = 2097151

-- what stands for one type alone
abbrev pub alone_key : ℕ → ℕ
alone_key t = cond (nat_lt t last_type) t last_type

-- what stands for the set of this number, of several types or none
abbrev pub set_key : ℕ → ℕ
set_key n = cond (nat_lt n 2097150) (several + n) beyond

-- a set stands as its type, where it has just one
abbrev pub key_of_set : ℕ → List ℕ → ℕ
key_of_set other [] = other
key_of_set other (t ∷ []) = alone_key t
key_of_set other (t ∷ u ∷ rest) = other

-- what stands for what is reached: the set of a number, or these sources themselves. One source that reaches itself reaches one type
abbrev pub reached_key : Option (List ℕ) → ℕ → List ℕ → ℕ
reached_key (Some set) number sources = key_of_set (set_key number) set
reached_key None number sources = key_of_set itself sources

-- what stands for the target of a record, where these are the sets
abbrev pub target_key : List (List ℕ) → ℕ → ℕ → ℕ
target_key sets target source = reached_key (slice_get sets target) target (set_of sets source)

-- a rule whose target is one type alone has this type for its heading, behind all sets, and another the set of its sources
abbrev pub heading_of : List (List ℕ) → (source target : ℕ) → ℕ
heading_of sets source target = cond (nat_lt target several) (length sets + target) source

-- what stands for its other side: for the sources, or for the target
abbrev pub other_side : List (List ℕ) → (source target : ℕ) → ℕ
other_side sets source target = cond (nat_lt target several) (key_of_set (set_key source) (set_of sets source)) target

-- a class and what stands for a set as one number
abbrev pub aim_of : ℕ → ℕ → ℕ
aim_of class_ other = class_ * 4194304 + other

-- the aims under a heading stand in eight parts, by what 8 leaves of the class
abbrev pub part_of : (heading aim : ℕ) → ℕ
part_of heading aim = heading * 8 + aim / 4194304 % 8

-- the heading of a record
abbrev pub heading_of_record : List (List ℕ) → Record → ℕ
heading_of_record sets k = heading_of sets k.source (target_key sets k.target k.source)

-- the class and the other side of a record
abbrev pub aim_of_record : List (List ℕ) → Record → ℕ
aim_of_record sets k = aim_of (in_class k.class) (other_side sets k.source (target_key sets k.target k.source))

-- ---- the index: the aims of records, and where each part begins

-- the aims of a part and of no other stand here
pub record IsInPart (starts : List ℕ) (part at : ℕ) : Type 0 where
  pub begins : get_or starts part 0 ≤ at
  pub ends : at < get_or starts (part + 1) 0

-- a record with this heading and this aim that stands at the place is found
pub record IsFoundAt (index : Index) (heading aim at : ℕ) : Type 0 where
  pub in_part : IsInPart index.starts.items (part_of heading aim) at
  pub aim_is : get_or index.aims.items at 0 ≡ aim

-- these aims rise from one place on and up to another
abbrev pub RiseIn : List ℕ → ℕ → ℕ → Type 0
RiseIn aims start end = (i j : ℕ) → start ≤ i → i ≤ j → j < end → get_or aims i 0 ≤ get_or aims j 0

-- the aims of each part rise
pub record IsLaidOut (index : Index) : Type 0 where
  pub within : (part : ℕ) → get_or index.starts.items part 0 ≤ length index.aims.items
  pub rising : (part : ℕ) → RiseIn index.aims.items (get_or index.starts.items part 0) (get_or index.starts.items (part + 1) 0)

-- and each record is found where it stands
pub record IsIndex (sets : List (List ℕ)) (records : List Record) (index : Index) : Type 0 where
  pub laid_out : IsLaidOut index
  pub each : (at : ℕ) (k : Record) → slice_get records at ≡ Some k → IsFoundAt index (heading_of_record sets k) (aim_of_record sets k) at

-- ---- private words: entries, by which the index is made

-- the entry of the record at a place
abbrev pub entry_of : List (List ℕ) → Record → ℕ → Entry
entry_of sets k place = record { part = part_of (heading_of_record sets k) (aim_of_record sets k); aim = aim_of_record sets k; place = place }

abbrev pub entry_fields : Entry → List ℕ
entry_fields e = e.part ∷ e.aim ∷ []

-- entries stand by part and aim
abbrev pub entry_cmp : Entry → Entry → Ordering
entry_cmp = on entry_fields text_cmp

pub entry_total : IsTotalOrder entry_cmp
entry_total = on_total entry_fields nat_list_cmp_total

-- the entry is that of the record at its place
pub record IsEntry (sets : List (List ℕ)) (records : List Record) (e : Entry) : Type 0 where
  pub kept : Record
  pub is_there : slice_get records e.place ≡ Some kept
  pub is_its : e ≡ entry_of sets kept e.place

-- each record has an entry, and there is no other entry
pub record HasEntries (sets : List (List ℕ)) (records : List Record) (entries : List Entry) : Type 0 where
  pub each : (place : ℕ) (k : Record) → slice_get records place ≡ Some k → Contains entries (entry_of sets k place)
  pub only : (e : Entry) → Contains entries e → IsEntry sets records e

-- and the entries are sorted
pub record AreEntries (sets : List (List ℕ)) (records : List Record) (entries : List Entry) : Type 0 where
  pub sorted : IsSorted entry_cmp entries
  pub has : HasEntries sets records entries

-- the entries of a part and of later ones begin at this place
pub record BeginAt (entries : List Entry) (part place : ℕ) : Type 0 where
  pub bound : place ≤ length entries
  pub parts : IsPartitionPoint (λ e. e.part < part) (λ e. part ≤ e.part) entries place

-- the entries before a place are of parts before a part
abbrev pub AreBefore : List Entry → (part at : ℕ) → Type 0
AreBefore entries part at = (k : ℕ) (d : Entry) → k < at → k < length entries → (get_or entries k d).part < part

-- where the entries of each part begin
abbrev pub AreStarts : List Entry → List ℕ → Type 0
AreStarts entries starts = (p : ℕ) → p < length starts → BeginAt entries p (get_or starts p 0)

-- and those of the next one, for each part with an entry
pub record AreAllStarts (entries : List Entry) (starts : List ℕ) : Type 0 where
  pub begin : AreStarts entries starts
  pub each : (e : Entry) → Contains entries e → e.part + 1 < length starts

-- what each entry has, in their order
pub record IsColumn {X : Type 0} (of_entry : Entry → X) (entries : List Entry) (column : List X) : Type 0 where
  pub long : length column ≡ length entries
  pub each : (k : ℕ) (d : Entry) (x : X) → k < length entries → get_or column k x ≡ of_entry (get_or entries k d)

-- the index has what these entries have
pub record HasAll (entries : List Entry) (index : Index) : Type 0 where
  pub aims : IsColumn (λ e. e.aim) entries index.aims.items
  pub starts : AreAllStarts entries index.starts.items

-- where the aims of a part begin and end
pub record AreBounds (index : Index) (part : ℕ) (b : Bounds) : Type 0 where
  pub within : b.to ≤ length index.aims.items
  pub rising : RiseIn index.aims.items b.start b.to
  pub all : (at : ℕ) → IsInPart index.starts.items part at → (b.start ≤ at) × (at < b.to)

-- each aim before a place, from the start on, is below an aim
abbrev pub AreBelow : List ℕ → (start end aim : ℕ) → Type 0
AreBelow aims start end aim = (i : ℕ) → start ≤ i → i < end → get_or aims i 0 < aim

-- the later of two places if the aim there is below an aim, or else the other one
abbrev pub IsLater : List ℕ → (low middle aim place : ℕ) → Type 0
IsLater aims low middle aim place = ((place ≡ middle) × (get_or aims middle 0 < aim)) ⊎ (place ≡ low)
