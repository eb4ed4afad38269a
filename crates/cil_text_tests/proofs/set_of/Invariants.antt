use Rattle.std.proofs.Common.{map, take}
use Rattle.cil_text_tests.specs.Sets.{IsSetOf}
use Rattle.cil_text_tests.proofs.set_of.Given as goal

abbrev pub invariant-loop-text : goal.invariant-loop-text
invariant-loop-text l = IsSetOf (take l.text-index (map (λ text. text.now) l.texts)) l.modules
