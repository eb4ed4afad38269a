use Rattle.std.proofs.Common.{arith}
use Rattle.cil_base.specs.Places.{in_range}
use Rattle.cil_syntax.specs.declared.kind.Kind.TheVariants as variants
use Rattle.cil_macros.specs.Items.{item_at, items_in}
use Rattle.cil_known.specs.Known.{enabled_in}
use Rattle.cil_ranges.specs.Levels.{IsWrittenRange}
use Rattle.cil_ranges.proofs.NamedLemmas.{nothing_named, one_named}
use Rattle.cil_ranges.proofs.named.name_range.Goals as goal

pub returns-in_default-clause-named : goal.returns-in_default-clause-named
returns-in_default-clause-named c g measures levels =
    nothing_named (IsWrittenRange (enabled_in c.args.known.now) g) c.args.known.now (items_in c.args.instances.now) variants.LevelRange c.args.ranges.now.items (item_at c.args.instances.now c.args.at) c.in_default.ensures

pub keep-requires : goal.keep-requires
keep-requires c =
    let e = c.in-Some.ensures.declares.entry in
    let below = in_range c.args.known.now.lookup.names.now c.in-Some.entry e.entry e.at in
    let room = c.requires.room in
    omega (arith, below, room)

pub returns-clause-named : goal.returns-clause-named
returns-clause-named c g measures levels =
    let e = c.in-Some.ensures.declares.entry in
    let below = in_range c.args.known.now.lookup.names.now c.in-Some.entry e.entry e.at in
    let room = c.requires.room in
    one_named (IsWrittenRange (enabled_in c.args.known.now) g) c.args.known.now (items_in c.args.instances.now) variants.LevelRange c.args.ranges.now.items (item_at c.args.instances.now c.args.at) c.in-Some.entry c.in-Some.ensures
    (omega (arith, below, room)) c.keep.new.table.items c.in_ok-range.range (c.in_ok-range.ensures g measures levels) c.keep.ensures
