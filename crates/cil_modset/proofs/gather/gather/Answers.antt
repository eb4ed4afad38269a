use Rattle.std.proofs.Common.{arith, ap, length}
use Rattle.cil_modset.proofs.GatherLemmas.{gathered_none, taken_from, gathered_all, reverse_push, texts_of-reverse}
use Rattle.cil_modset.proofs.RisingLemmas.{length-texts_of}
use Rattle.cil_modset.proofs.gather.gather.Goals as goal

pub loop-text-init : goal.loop-text-init
loop-text-init c = record {
  gathered = rw c.requires.empty (gathered_none _ _ c.requires.low c.requires.high c.requires.apart);
  fits = let none = ap length c.requires.empty in omega (arith, c.requires.room, none, length-texts_of c.args.room.items);
}

pub unwrap-requires : goal.unwrap-requires
unwrap-requires c = c.push.ensures.succeeds (omega (arith, c.in-Some.ensures.len, c.loop-text.invariant.fits))

pub loop-text-smaller : goal.loop-text-smaller
loop-text-smaller c = omega (arith, c.in-Some.ensures.len)

pub loop-text-preserved : goal.loop-text-preserved
loop-text-preserved c =
    let items = rw c.unwrap.ensures at c.push.ensures.items in
    let len = rw c.unwrap.ensures at c.push.ensures.len in
    record {
      gathered = rw (items, reverse_push c.loop-text.room.items c.in-Some.text)
          (taken_from _ _ _ _ _ _ _ c.in-Some.text.items c.loop-text.invariant.gathered c.in-Some.ensures.taken);
      fits = omega (arith, len, c.in-Some.ensures.len, c.push.ensures.capacity);
    }

pub returns-clause-union : goal.returns-clause-union
returns-clause-union c =
    let none = c.in_default.ensures.none in
    rw (c.reverse.ensures.items, texts_of-reverse c.loop-text.room.items)
    (gathered_all _ _ _ c.requires.low c.requires.high (rw (none.0, none.1) at c.loop-text.invariant.gathered))

pub returns-clause-length : goal.returns-clause-length
returns-clause-length c =
    let none = c.in_default.ensures.none in
    let all = rw (none.0, none.1) at c.loop-text.invariant.gathered in
    rw (c.reverse.ensures.items, texts_of-reverse c.loop-text.room.items) (omega (arith, all.size))
