use Rattle.std.proofs.Common.{List, arith, subst, sym}
use Rattle.cil_syntax.specs.declared.kind.Kind.TheVariants as variants
use Rattle.cil_macros.specs.Item.{Item}
use Rattle.cil_known.specs.Known.{IsKnown, enabled_in}
use Rattle.cil_ranges.specs.Levels.{IsWrittenRange}
use Rattle.cil_ranges.specs.Named.{AreNamed}
use Rattle.cil_ranges.proofs.NamedLemmas.{all_named, have_ranges, more_before}
use Rattle.cil_ranges.proofs.named.named_ranges.Goals as goal

pub loop-at-preserved : goal.loop-at-preserved
loop-at-preserved c = record {
  room = c.in_ok-name_range.ensures.room;
  named = λ g measures levels.
      more_before (IsWrittenRange (enabled_in c.args.known.now) g) c.args.known.now c.args.instances.now variants.LevelRange c.loop-at.at c.loop-at.ranges.items c.name_range.new.ranges.items (c.loop-at.invariant.named g measures levels)
      (c.in_ok-name_range.ensures.named g measures levels);
}

pub returns : goal.returns
returns c g same measures levels =
    let k = c.args.known.now in
    let i = c.args.instances.now in
    let (sections, known) = c.requires.known in
    let says = IsWrittenRange (enabled_in k) g in
    let n = c.len-at-end.ensures.items in
    let f = c.loop-at-test.false in
    let are = all_named says k i variants.LevelRange c.loop-at.at (omega (arith, f, n)) c.loop-at.ranges.items (c.loop-at.invariant.named g measures levels) in
    have_ranges k g sections (subst (λ (xs : List Item). IsKnown k xs sections) (sym same) known) c.means_what_it_names.ensures c.loop-at.ranges.items
    (subst (λ (xs : List Item). AreNamed says k xs variants.LevelRange c.loop-at.ranges.items) (sym same) are)
