use Rattle.std.proofs.Common.{arith, ◌∙◌, ap, subst, sym}
use Rattle.std.specs.List.{flat_map}
use Rattle.cil_base.specs.MadeLists.{all_flat}
use Rattle.cil_sets.specs.Kept.{AreParts, members_in}
use Rattle.cil_sets.proofs.AnswerLemmas.{members_flat, part_fits}
use Rattle.cil_sets.proofs.numbers.Numbers.to_vec.Goals as goal

pub push_members-requires : goal.push_members-requires
push_members-requires c = part_fits c.as_slice-part-items.result.now c.loop-part.part-index _ (subst AreParts (sym c.as_slice-part-items.ensures.value) c.self.invariant) (omega arith)

pub returns : goal.returns
returns c =
    all_flat members_in c.as_slice-part-items.result.now c.loop-part.part-index c.loop-part.all.items (omega arith) c.loop-part.invariant
    ∙ ap (flat_map members_in) c.as_slice-part-items.ensures.value ∙ members_flat c.self.inside.parts.items ∙ c.self.view_is
