use Rattle.std.proofs.Common.{ℕ, ◌≡◌, ◌+◌, length, get_or, ap, ◌∙◌, arith}
use Rattle.std.specs.Global.{Vec}
use Rattle.std.proofs.lemmas.List.{length-set, drop-set-lt}
use Rattle.cil_modset.proofs.RowChangeLemmas.{same_from, room_left, taken_row}
use Rattle.cil_modset.proofs.RisingLemmas.{length-texts_of}
use Rattle.cil_modset.proofs.rows.take_all.Goals as goal

pub unwrap-requires : goal.unwrap-requires
unwrap-requires c =
    let rows = c.args.rows.now.items in
    let i = c.loop-i.i in
    let row = c.index_mut-in-loop-i.result.now in
    let same = same_from c.loop-i.rows.items rows i row c.loop-i.invariant.left (omega arith) (omega arith) in
    let is : row ≡ get_or rows i row = c.index_mut-in-loop-i.ensures.value ∙ same.0 in
    let size = ap length c.loop-i.invariant.taken in
    let here = ap (λ (r : Vec (Vec ℕ)). length r.items) is in
    c.append.ensures.succeeds (omega (arith, c.requires, size, here, length-texts_of c.loop-i.all.items, room_left rows i row (omega arith), c.loop-i.invariant.room))

pub loop-i-preserved : goal.loop-i-preserved
loop-i-preserved c =
    let rows = c.args.rows.now.items in
    let i = c.loop-i.i in
    let row = c.index_mut-in-loop-i.result.now in
    let same = same_from c.loop-i.rows.items rows i row c.loop-i.invariant.left (omega arith) (omega arith) in
    let items = rw c.unwrap.ensures at c.append.ensures.items in
    record {
      taken = taken_row rows i row c.loop-i.all.items c.append.new.self.items row.items (omega arith) c.loop-i.invariant.taken
          (ap (λ (r : Vec (Vec ℕ)). r.items) (c.index_mut-in-loop-i.ensures.value ∙ same.0)) items;
      left = drop-set-lt (i + 1) c.loop-i.rows.items i c.append.new.other (omega arith) ∙ same.1;
      size = length-set c.loop-i.rows.items i c.append.new.other ∙ c.loop-i.invariant.size;
      room = omega (arith, c.append.ensures.capacity);
    }
