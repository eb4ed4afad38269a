use Rattle.std.proofs.Common.{◌≡◌, take}
use Rattle.cil_avc.specs.Hashed.{mixed}
use Rattle.cil_avc.proofs.key.mixed_of.Given as goal

abbrev pub invariant-loop-word : goal.invariant-loop-word
invariant-loop-word l = l.mixed ≡ mixed l.first (take l.word-index l.words)
