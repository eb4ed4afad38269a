use Rattle.std.proofs.Common.{◌≡◌, length}
use Rattle.cil_syntax.specs.declared.kind.Kind.TheVariants as variants
use Rattle.cil_known.specs.Known.{enabled_in}
use Rattle.cil_ranges.specs.Levels.{Ground, IsWrittenLevel}
use Rattle.cil_ranges.specs.Named.{AreNamedBefore}
use Rattle.cil_ranges.specs.Reading.{Measures}
use Rattle.cil_ranges.proofs.named.named_levels.Given as goal

abbrev pub invariant-loop-at : goal.invariant-loop-at
invariant-loop-at l = record {
  room : length l.levels.items ≡ length l.known.lookup.names.now;
  named : (g : Ground) → Measures l.known l.scale g → AreNamedBefore (IsWrittenLevel (enabled_in l.known) g) l.known l.instances variants.Level l.at l.levels.items;
}
