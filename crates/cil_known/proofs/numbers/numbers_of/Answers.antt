use Rattle.std.proofs.Common.{rules}
use Rattle.cil_names.specs.declared.entry.Entry.{Entry}
use Rattle.cil_known.specs.Numbers.{names_of, place_in, spelled_of}
use Rattle.cil_known.proofs.NumberLemmas.{all_mapped, entry_within, mapped_on}
use Rattle.cil_known.proofs.numbers.numbers_of.Goals as goal

pub spelled-requires : goal.spelled-requires
spelled-requires c =
    entry_within c.args.namespaces.now c.args.entries.now c.requires.ordered c.loop-entry.entry-index c.entry-item.result c.loop-entry-test.true c.entry-item.is

pub loop-entry-preserved : goal.loop-entry-preserved
loop-entry-preserved c =
    mapped_on (λ (e : Entry). place_in (names_of c.args.sections.now e.kind) (spelled_of c.args.namespaces.now e)) c.args.entries.now c.loop-entry.entry-index c.entry-item.result _
    c.loop-entry-test.true c.entry-item.is c.loop-entry.numbers.items _ _ _ c.loop-entry.invariant c.in_ok-push.ensures.items (search rules)

pub returns : goal.returns
returns c =
    all_mapped (λ (e : Entry). place_in (names_of c.args.sections.now e.kind) (spelled_of c.args.namespaces.now e)) c.args.entries.now c.loop-entry.entry-index c.loop-entry.numbers.items _
    c.loop-entry-test.false c.loop-entry.invariant
