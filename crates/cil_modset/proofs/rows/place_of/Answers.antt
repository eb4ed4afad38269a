use Rattle.std.proofs.Common.{arith, rules, ◌∙◌, sym}
use Rattle.std.proofs.lemmas.List.Sorted.{IsPartitionPoint-from_clause}
use Rattle.cil_modset.proofs.RisingLemmas.{text_read}
use Rattle.cil_modset.proofs.PlaceLemmas.{comes_before, place_parted, place_is}
use Rattle.cil_modset.proofs.rows.place_of.Goals as goal
use Rattle.cil_modset.proofs.rows.place_of.Goals.{else-place-texts-via-then-place-texts+else-is_same, else-place-texts-via-else-place-texts}

pub returns-else-place-texts-clause-absent : goal.returns-else-place-texts-clause-absent
returns-else-place-texts-clause-absent c =
    let point = IsPartitionPoint-from_clause (comes_before c.args.text.now) _ _ c.partition_point-place.ensures.partitioned
    (place_parted c.args.texts.now c.args.text.now c.requires) (λ a r f' k. search rules) in
    place_is c.args.texts.now c.args.text.now c.partition_point-place.result c.requires c.partition_point-place.ensures.bound point
    (elim c.else-place-texts.branch [
      | else-place-texts-via-then-place-texts+else-is_same w ↦ λ within is.
          let read = text_read c.args.texts.now c.partition_point-place.result w.index-texts-place.result within w.index-texts-place.is in
          let same = w.is_same.ensures.1 (rw w.as_slice.ensures.value (sym read ∙ is)) in absurd (cc (same, w.if-is_same.false))
      | else-place-texts-via-else-place-texts w ↦ λ within is. absurd (omega (arith, w.if-place-texts.false, within))
    ])
