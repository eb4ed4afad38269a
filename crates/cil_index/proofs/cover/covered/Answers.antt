use Rattle.std.proofs.Common.{subst}
use Rattle.cil_rules.proofs.classes_lemmas.BitLemmas.{none_set}
use Rattle.cil_rules.specs.conditions.Bits.{is_on}
use Rattle.cil_index.specs.declared.asked.Asked.{Asked}
use Rattle.cil_index.specs.Found.{AreAims, turned}
use Rattle.cil_index.specs.Searched.{rules_in}
use Rattle.cil_index.proofs.CoverLemmas.{in_one_of, no_rule, only_these}
use Rattle.cil_index.proofs.KeyLemmas.{of_class}
use Rattle.cil_index.proofs.cover.covered.Goals as goal

pub by_target-requires : goal.by_target-requires
by_target-requires c = record { laid_out = c.requires.index.laid_out; memberships = c.requires.memberships; aims = of_class c.args.searched.now.memberships.now (turned c.args.asked.now) _ (subst (λ (a : Asked). AreAims c.args.searched.now.memberships.now a c.aims_of-sources.result) c.turned.ensures c.aims_of-sources.ensures) }

pub by_alone-requires : goal.by_alone-requires
by_alone-requires c = record { laid_out = c.requires.index.laid_out; memberships = c.requires.memberships; aims = of_class c.args.searched.now.memberships.now _ _ c.aims_of-targets.ensures }

pub by_large-requires : goal.by_large-requires
by_large-requires c = record { laid_out = c.requires.index.laid_out; memberships = c.requires.memberships; aims = of_class c.args.searched.now.memberships.now _ _ c.aims_of-targets.ensures }

pub by_own-requires : goal.by_own-requires
by_own-requires c = record { laid_out = c.requires.index.laid_out; memberships = c.requires.memberships; aims = of_class c.args.searched.now.memberships.now _ _ c.aims_of-targets.ensures }

pub returns : goal.returns
returns c = λ bit. (
  only_these (is_on c.args.settings.now) (rules_in c.args.searched.now) c.args.asked.now.source c.args.asked.now.target c.args.asked.now.class c.by_target.result c.by_alone.result c.by_large.result c.by_own.result
      c.by_target.ensures.sound c.by_alone.ensures.sound c.by_large.ensures.sound c.by_own.ensures.sound bit,
  in_one_of (is_on c.args.settings.now) c.args.searched.now.branches.now c.args.searched.now.sets.now c.args.searched.now.records.now c.args.index.now c.requires.index c.args.asked.now
      c.args.searched.now.memberships.now c.requires.memberships c.aims_of-sources.result c.aims_of-targets.result
      (subst (λ (a : Asked). AreAims c.args.searched.now.memberships.now a c.aims_of-sources.result) c.turned.ensures c.aims_of-sources.ensures) c.aims_of-targets.ensures
      c.by_target.result c.by_alone.result c.by_large.result c.by_own.result c.by_target.ensures.all c.by_alone.ensures.all c.by_large.ensures.all c.by_own.ensures.all bit,
)

pub returns-then-is_empty : goal.returns-then-is_empty
returns-then-is_empty c = λ bit. (λ set. absurd (none_set bit set), λ covered. absurd (no_rule (is_on c.args.settings.now) c.args.searched.now.branches.now c.args.searched.now.sets.now c.args.searched.now.records.now c.args.index.now _ _ _ bit c.requires.index (c.is_empty.ensures c.if-is_empty.true) covered))
