use Rattle.std.specs.Prelude.{◌↔◌, IsBitSet}
use Rattle.std.proofs.Common.{List, ℕ, map, subst}
use Rattle.cil_rules.specs.conditions.Bits.{is_on}
use Rattle.cil_rules.specs.conditions.Branch.{Branch}
use Rattle.cil_rules.specs.Covers.{HasCover}
use Rattle.cil_index.specs.declared.record.Record.{Record}
use Rattle.cil_index.specs.Kept.{rule_of}
use Rattle.cil_index.proofs.LayoutLemmas.{in_table}
use Rattle.cil_index.proofs.section.covered_in.Goals as goal

pub returns : goal.returns
returns c =
    let asked = c.args.asked.now in
    let sets = c.args.sets.now in
    in_table (rule_of c.args.branches.now.items sets) c.args.rules.now.records.items c.args.rules.now.order.items c.requires.index.order (is_on c.args.settings.now) asked.source asked.target asked.class c.covered.result
    (subst (λ (bs : List Branch). (bit : ℕ) → IsBitSet c.covered.result bit ↔ HasCover (is_on c.args.settings.now) (map (rule_of bs sets) c.args.rules.now.records.items) asked.source asked.target asked.class bit) c.as_slice.ensures.value
    (subst (λ (rs : List Record). (bit : ℕ) → IsBitSet c.covered.result bit ↔ HasCover (is_on c.args.settings.now) (map (rule_of c.as_slice.result.now sets) rs) asked.source asked.target asked.class bit) c.as_slice-2.ensures.value c.covered.ensures))
