use Rattle.std.proofs.Common.{◌∙◌, ap, arith}
use Rattle.cil_index.specs.Entries.{aim_of, heading_of, other_side}
use Rattle.cil_index.proofs.IndexLemmas.{entry_made}
use Rattle.cil_index.proofs.index.entry_at.Goals as goal

pub returns : goal.returns
returns c = λ k at.
    entry_made c.args.sets.now c.args.records.now c.args.place _ c.aim-aim.result c.heading_of-heading.result _ _ k c.requires
    (c.aim-aim.ensures ∙ ap (λ n. aim_of n c.other_side-other.result) c.class_key.ensures.key ∙ ap (aim_of _) (c.other_side-other.ensures.key ∙ ap (other_side c.args.sets.now _) c.target_of-target.ensures.key))
    (c.heading_of-heading.ensures ∙ ap (heading_of c.args.sets.now _) c.target_of-target.ensures.key)
    (c.in_ok-part.ensures ∙ c.part_of.ensures.same (omega (arith, c.in_ok-part.ensures))) c.in_ok-place.ensures at
