use Rattle.std.proofs.Common.{rules, is_lt}
use Rattle.std.proofs.lemmas.Fn.{always_returns_same}
use Rattle.cil_blocks.specs.WrittenSpaces.{numbered_cmp, numbered_name}
use Rattle.cil_blocks.proofs.RunLemmas.{numbered_total, one_name, weak}
use Rattle.cil_blocks.proofs.doubled.by_written_name.Goals as goal

pub returns-clause-sorted : goal.returns-clause-sorted
returns-clause-sorted c =
    let nested = c.requires in
    let key = numbered_name c.args.statements.now c.args.spaces.now.numbers in
    c.sort_unstable_by.ensures.sorted (λ x y. is_lt (numbered_cmp (key x) (key y))) (weak key numbered_cmp numbered_total one_name)
    (always_returns_same _ _ _ (λ a r f' k. search (rules, nested)))
