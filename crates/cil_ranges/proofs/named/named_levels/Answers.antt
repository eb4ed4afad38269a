use Rattle.std.proofs.Common.{List, arith, subst, sym}
use Rattle.cil_faults.specs.declared.fault.Fault.{Fault}
use Rattle.cil_syntax.specs.declared.kind.Kind.TheVariants as variants
use Rattle.cil_macros.specs.Item.{Item}
use Rattle.cil_names.specs.Faults.{ClashFault}
use Rattle.cil_known.specs.Known.{IsKnown, enabled_in}
use Rattle.cil_ranges.specs.Levels.{IsWrittenLevel}
use Rattle.cil_ranges.specs.Named.{AreNamed}
use Rattle.cil_ranges.proofs.NamedLemmas.{all_named, more_before}
use Rattle.cil_ranges.proofs.SameLevelLemmas.{have_levels}
use Rattle.cil_ranges.proofs.named.named_levels.Goals as goal

pub loop-at-preserved : goal.loop-at-preserved
loop-at-preserved c = record {
  room = c.in_ok-name_level.ensures.room;
  named = λ g measures.
      more_before (IsWrittenLevel (enabled_in c.args.known.now) g) c.args.known.now c.args.instances.now variants.Level c.loop-at.at c.loop-at.levels.items c.name_level.new.levels.items (c.loop-at.invariant.named g measures)
      (c.in_ok-name_level.ensures.named g measures);
}

pub returns : goal.returns
returns c g same measures =
    let k = c.args.known.now in
    let i = c.args.instances.now in
    let (sections, known) = c.requires.known in
    let says = IsWrittenLevel (enabled_in k) g in
    let n = c.len-at-end.ensures.items in
    let f = c.loop-at-test.false in
    let are = all_named says k i variants.Level c.loop-at.at (omega (arith, f, n)) c.loop-at.levels.items (c.loop-at.invariant.named g measures) in
    have_levels k g sections (subst (λ (xs : List Item). IsKnown k xs sections) (sym same) known) c.means_what_it_names.ensures c.args.scale.now measures
    (subst (λ (xs : List Item). (fault : Fault) → ClashFault xs fault → ⊥) (sym same) c.requires.apart) c.loop-at.levels.items (subst (λ (xs : List Item). AreNamed says k xs variants.Level c.loop-at.levels.items) (sym same) are)
