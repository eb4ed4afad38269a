use Rattle.std.proofs.Common.{◌<◌, List, length, subst, sym, ◌∙◌, ap, refl}
use Rattle.std.specs.Prelude.{Some, slice_get}
use Rattle.cil_rules.specs.Rule.{Rule}
use Rattle.cil_index.specs.Kept.{rule_of}
use Rattle.cil_index.proofs.ListedLemmas.{record_within, rule_is, same_rule}
use Rattle.cil_index.proofs.listed.ListedRules.rule.Goals as goal

pub index-kept-requires : goal.index-kept-requires
index-kept-requires c =
    let inside = c.self.inside in
    let rules = inside.rules.now in
    subst (λ n. c.index-at.result.now < n) (sym rules.records.ok.0)
    (record_within (rule_of inside.branches.now.items inside.sets.now) rules.records.items rules.order.items c.args.place
    (subst (λ (rs : List Rule). c.args.place < length rs) (sym c.self.view_is) c.requires) c.self.invariant c.index-at.result.now c.index-at.ensures)

pub returns : goal.returns
returns c =
    let inside = c.self.inside in
    let rules = inside.rules.now in
    let kept = c.index-kept.result.now in
    ap (λ (rs : List Rule). slice_get rs c.args.place) (sym c.self.view_is)
    ∙ rule_is (rule_of inside.branches.now.items inside.sets.now) rules.records.items rules.order.items c.args.place
    (subst (λ (rs : List Rule). c.args.place < length rs) (sym c.self.view_is) c.requires) c.self.invariant c.index-at.result.now c.index-at.ensures kept c.index-kept.ensures
    ∙ ap Some (same_rule inside.branches.now.items inside.sets.now kept
    (record { branch = c.branch_at.result; source = c.set.result; target = c.target_at.result; class = kept.class; mask = kept.mask }) c.branch_at.ensures c.set.ensures c.target_at.ensures refl refl)
