-- What statements one after another add. No other crate needs these words.
use Rattle.std.specs.Prelude.{List, Contains}
use Rattle.cil_faults.specs.declared.fault.Fault.{Fault}
use Rattle.cil_macros.specs.Item.{Item}
use Rattle.cil_known.specs.declared.known.Known.{Known}
use Rattle.cil_known.specs.Known.{enabled_in}
use Rattle.cil_ranges.specs.declared.own.Judge.{Judge}
use Rattle.cil_ranges.specs.LevelFaults.{IsFaultInside, IsFaultSaid}
use Rattle.cil_ranges.specs.Levels.{Ground}
use Rattle.cil_ranges.specs.Reading.{HaveMore, Judges}

module _ (k : Known) (by : Judge) (old new : List Fault) where
  -- what is wrong inside of what a statement says
  abbrev pub AddsInside : Item → Type 0
  AddsInside x = (g : Ground) → Judges k by g → HaveMore old new (IsFaultInside (enabled_in k) g x.space x.args)

  -- where it is enabled, and of those that have levels
  abbrev pub AddsSaid : Item → Type 0
  AddsSaid x = (g : Ground) → Judges k by g → HaveMore old new (IsFaultSaid (enabled_in k) g x)

  -- what is wrong with some of these
  abbrev pub AddsAmong : List Item → Type 0
  AddsAmong xs = (g : Ground) → Judges k by g → HaveMore old new (λ f. (x : Item) × Contains xs x × IsFaultSaid (enabled_in k) g x f)
