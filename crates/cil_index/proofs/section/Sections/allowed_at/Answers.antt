use Rattle.std.specs.Prelude.{◌↔◌, IsBitSet}
use Rattle.std.proofs.Common.{List, ◌≡◌, ◌<◌, ◌≤◌, ℕ, ap, get_or, length, map, subst}
use Rattle.cil_rules.specs.conditions.Bits.{is_on}
use Rattle.cil_rules.specs.conditions.Branch.{Branch}
use Rattle.cil_rules.specs.Rule.{Rule}
use Rattle.cil_index.specs.declared.record.Record.{Record}
use Rattle.cil_index.specs.Found.{CoversAt}
use Rattle.cil_index.specs.Kept.{rule_of}
use Rattle.cil_index.specs.Sections.{RuleSections}
use Rattle.cil_index.proofs.LayoutLemmas.{rule_at, rule_past}
use Rattle.cil_index.proofs.section.Sections.allowed_at.Goals as goal

pub returns-in-Some : goal.returns-in-Some
returns-in-Some c =
    let inside = c.self.inside in
    let on = is_on c.args.settings.now in
    let asked = c.args.asked.now in
    let found = c.in-Some.ensures.lookup in
    let at = c.in-Some.at.now in
    let within : c.args.place < length inside.allow.order.items = subst (λ (xs : List ℕ). c.args.place < length xs) c.deref.ensures.value found.3.0 in
    let here : at ≡ get_or inside.allow.order.items c.args.place at = subst (λ (xs : List ℕ). at ≡ get_or xs c.args.place at) c.deref.ensures.value found.1 in
    subst (λ (rs : List Rule). (bit : ℕ) → IsBitSet c.mask_at.result bit ↔ CoversAt on rs asked.source asked.target asked.class c.args.place bit) (ap (λ (s : RuleSections). s.allow) c.self.view_is)
    (rule_at (rule_of inside.branches.items inside.sets) inside.allow.records.items inside.allow.order.items c.self.invariant.1.order on asked.source asked.target asked.class c.args.place at c.mask_at.result within here
    (subst (λ (bs : List Branch). (bit : ℕ) → IsBitSet c.mask_at.result bit ↔ CoversAt on (map (rule_of bs inside.sets) inside.allow.records.items) asked.source asked.target asked.class at bit) c.as_slice.ensures.value
    (subst (λ (rs : List Record). (bit : ℕ) → IsBitSet c.mask_at.result bit ↔ CoversAt on (map (rule_of c.as_slice.result.now inside.sets) rs) asked.source asked.target asked.class at bit) c.as_slice-2.ensures.value c.mask_at.ensures)))

pub returns-in-None : goal.returns-in-None
returns-in-None c =
    let inside = c.self.inside in
    let on = is_on c.args.settings.now in
    let asked = c.args.asked.now in
    let over : length inside.allow.order.items ≤ c.args.place = subst (λ (xs : List ℕ). length xs ≤ c.args.place) c.deref.ensures.value c.in-None.ensures.lookup.3 in
    subst (λ (rs : List Rule). (bit : ℕ) → IsBitSet 0 bit ↔ CoversAt on rs asked.source asked.target asked.class c.args.place bit) (ap (λ (s : RuleSections). s.allow) c.self.view_is)
    (rule_past (rule_of inside.branches.items inside.sets) inside.allow.records.items inside.allow.order.items c.self.invariant.1.order on asked.source asked.target asked.class c.args.place over)
