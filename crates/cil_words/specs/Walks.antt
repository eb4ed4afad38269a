-- The walk over what a placed statement asks for. No other crate needs these words.
use Rattle.std.specs.Prelude.{◌≡◌, List, ◌++◌, map, Contains}
use Rattle.std.specs.Global.{Vec}
use Rattle.std.specs.List.Sorted.{IsStrictlySortedBy}
use Rattle.cil_base.specs.Lists.{text_cmp}
use Rattle.cil_base.specs.declared.bytes.Bytes.{Bytes}
use Rattle.cil_blocks.specs.declared.namespaces.Space.{Space}
use Rattle.cil_macros.specs.Item.{Item}
use Rattle.cil_macros.specs.Items.{namespaces_in}
use Rattle.cil_names.specs.Entries.{AreEntries, AreOrdered}
use Rattle.cil_names.specs.Readings.{IsReading}
use Rattle.cil_names.specs.Resolves.{Wanted}
use Rattle.cil_names.specs.Unresolved.{ArePermissions}
use Rattle.cil_words.specs.declared.walk.Walk.{Walk}
use Rattle.cil_words.specs.Table.{Ask, ask_of}

abbrev pub spaces_by : Walk → List Space
spaces_by k = namespaces_in k.reading.instances.now

-- what a walk goes by
pub record IsWalk (k : Walk) : Type 0 where
  pub reading : IsReading k.reading
  pub ordered : AreOrdered (spaces_by k) k.names.now
  pub rising : (v : Vec Bytes) → Contains k.permissions.now v → IsStrictlySortedBy text_cmp v.items

-- what is asked for by what is wanted is behind what was there
abbrev pub AddsFor : Walk → List Wanted → List Ask → List Ask → Type 0
AddsFor k ws old new = (xs : List Item) → AreEntries (spaces_by k) xs k.names.now → ArePermissions (spaces_by k) k.names.now xs k.permissions.now
    → new ≡ old ++ map (ask_of (spaces_by k) k.names.now xs k.permissions.now) ws
