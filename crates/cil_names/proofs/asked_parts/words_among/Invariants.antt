use Rattle.std.proofs.Common.{◌≡◌, List}
use Rattle.cil_macros.specs.Listed.{parts_there, words_in_parts}
use Rattle.cil_macros.specs.Placed.{Placed}
use Rattle.cil_names.proofs.AskedPartLemmas.{words_left}
use Rattle.cil_names.proofs.asked_parts.words_among.Given as goal

abbrev pub invariant-loop-part : goal.invariant-loop-part
invariant-loop-part l = (ps : List Placed) → words_left ps l.parts l.part-index l.words.items ≡ words_in_parts (parts_there ps l.parts)
