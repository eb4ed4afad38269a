use Rattle.std.proofs.Common.{◌≡◌, ◌≤◌, length}
use Rattle.cil_index.specs.Entries.{AreBefore, AreStarts}
use Rattle.cil_index.proofs.index.starts_of.Given as goal

abbrev pub invariant-loop-part : goal.invariant-loop-part
invariant-loop-part l = ((l.at ≤ length l.entries) × AreBefore l.entries l.part l.at) × ((length l.starts.items ≡ l.part) × AreStarts l.entries l.starts.items)
