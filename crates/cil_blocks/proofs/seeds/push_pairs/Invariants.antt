use Rattle.std.proofs.Common.{◌≡◌, ◌++◌, take}
use Rattle.cil_blocks.specs.Seeds.{paired_with}
use Rattle.cil_blocks.proofs.seeds.push_pairs.Given as goal

abbrev pub invariant-loop-other : goal.invariant-loop-other
invariant-loop-other l = l.pairs.items ≡ l.fn.pairs.items ++ paired_with l.one (take l.other-index l.others)
