use Rattle.std.proofs.Common.{subst, List, ℕ}
use Rattle.cil_blocks.specs.Doubled.{AreOthers}
use Rattle.cil_blocks.specs.WrittenSpaces.{numbered_name}
use Rattle.cil_blocks.proofs.DoubledLemmas.{are_written, if_ok}
use Rattle.cil_blocks.proofs.doubled.written_twice.Goals as goal

pub returns : goal.returns
returns c =
    if_ok _ _ c.with_others.result
    (λ found is. are_written c.args.statements.now c.requires.nested c.args.spaces.now c.requires.written _ c.in_ok-named_numbers.field-0.items c.by_written_name-named.result.items found.items
    c.in_ok-named_numbers.ensures c.by_written_name-named.ensures.same
    (subst (λ (named : List ℕ). AreOthers (numbered_name c.args.statements.now c.args.spaces.now.numbers) named found.items) c.as_slice.ensures.value is))
    c.with_others.ensures
