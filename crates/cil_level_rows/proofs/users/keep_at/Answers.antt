use Rattle.std.proofs.Common.{◌<◌, ◌∙◌, arith, length, sym}
use Rattle.std.proofs.lemmas.List.{length-set}
use Rattle.cil_base.proofs.AtPlace.{at_place}
use Rattle.cil_level_rows.proofs.KeptLemmas.{one_kept}
use Rattle.cil_level_rows.proofs.users.keep_at.Goals as goal

pub returns : goal.returns
returns c =
    let found = c.in-Some.ensures.lookup in
    let below = c.if-number-len.false in
    let len = c.len.ensures in
    let within : c.number_at-number.result < length c.args.kept.now.items = omega (arith, below, len) in
    record {
      len = length-set c.args.kept.now.items c.number_at-number.result c.range_at.result;
      kept = one_kept c.args.known.now c.args.ranges.now c.args.d c.in-Some.entry.now
          (at_place c.entries.result.now c.args.known.now.lookup.names.now c.args.d c.entries.ensures.value c.in-Some.entry.now found.3.0 found.1)
          (sym c.is_declared_as.ensures ∙ c.if-not-is_declared_as.false) c.number_at-number.result (sym c.number_at-number.ensures) c.args.kept.now.items within c.range_at.result c.range_at.ensures;
    }
