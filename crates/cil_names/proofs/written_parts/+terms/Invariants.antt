use Rattle.std.proofs.Common.{◌≡◌, ◌++◌, drop}
use Rattle.cil_macros.specs.Items.{all_placed, word_at}
use Rattle.cil_macros.specs.Listed.{parts_there}
use Rattle.cil_names.proofs.WrittenPartLemmas.{all_parts_at}
use Rattle.cil_names.proofs.written_parts.+terms.Given as goal

abbrev pub invariant-push_terms-loop-term : goal.invariant-push_terms-loop-term
invariant-push_terms-loop-term l =
    let ps = all_placed l.instances in
    let all = all_parts_at (word_at l.instances l.there.at) l.there.«module» in
    parts_there ps l.parts.items ++ all (drop l.term-index l.terms) ≡ parts_there ps l.fn.parts.items ++ all l.terms
