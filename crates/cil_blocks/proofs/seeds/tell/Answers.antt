use Rattle.cil_syntax.specs.Program.{program_of}
use Rattle.cil_blocks.specs.Seeds.{IsDoubledBy, IsNext}
use Rattle.cil_blocks.proofs.Reached.{those_over}
use Rattle.cil_blocks.proofs.seeds.tell.Goals as goal

pub returns : goal.returns
returns c =
    let ws = program_of c.args.statements.now in
    let ps = c.args.parts.now in
    let ts = c.args.targets.now in
    record {
      doubled = c.as_slice.result.now;
      are_doubled = those_over (IsDoubledBy ws ps ts c.args.pair) _ _ c.as_slice.ensures.value c.in_ok-matched.ensures.doubled;
      is_found = c.in_ok-extend_from_slice.ensures.items;
      next = c.as_slice-2.result.now;
      are_next = those_over (IsNext ws ps ts c.args.pair) _ _ c.as_slice-2.ensures.value c.in_ok-matched.ensures.next;
      is_joined = c.in_ok-insert_pairs.ensures;
    }
