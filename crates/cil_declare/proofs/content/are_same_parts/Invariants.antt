use Rattle.cil_macros.specs.Items.{all_placed}
use Rattle.cil_declare.specs.Rows.{bare_part}
use Rattle.cil_declare.proofs.ContentLemmas.{IsLeft}
use Rattle.cil_declare.proofs.content.are_same_parts.Given as goal

abbrev pub invariant-loop-i : goal.invariant-loop-i
invariant-loop-i l = IsLeft (bare_part (all_placed l.instances)) l.a l.b l.i
