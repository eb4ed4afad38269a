use Rattle.std.specs.Prelude.{◌↔◌}
use Rattle.std.proofs.Common.{◌<◌, Bool, ℕ, List, length, subst, sym}
use Rattle.std.proofs.lemmas.Result.{IfOk-from_err}
use Rattle.cil_macros.specs.blocks.Namespaces.{AreNamespaces}
use Rattle.cil_macros.specs.blocks.Space.{Space}
use Rattle.cil_macros.specs.Items.{items_in, namespaces_in}
use Rattle.cil_names.specs.declared.entry.Entry.{Entry}
use Rattle.cil_names.specs.Entries.{AreEntries}
use Rattle.cil_classes.specs.Commons.{IsFlagged, IsTwice}
use Rattle.cil_classes.proofs.CommonLemmas.{class_within}
use Rattle.cil_classes.proofs.widths.wrong_classes.Goals as goal

pub flags_of_two-requires-clause-within : goal.flags_of_two-requires-clause-within
flags_of_two-requires-clause-within c = λ h ch.
    subst (λ (es : List Entry). h.class < length es) (sym c.entries.ensures.value)
    (class_within (namespaces_in c.args.instances.now) c.args.lookup.now.names.now (items_in c.args.instances.now) c.args.shared.now c.requires.shared h ch)

pub flags_of_two-requires-clause-rising : goal.flags_of_two-requires-clause-rising
flags_of_two-requires-clause-rising c = c.requires.shared.rising

pub wrong_among-requires-clause-asked : goal.wrong_among-requires-clause-asked
wrong_among-requires-clause-asked c = c.requires.asked

pub wrong_among-requires-clause-twice : goal.wrong_among-requires-clause-twice
wrong_among-requires-clause-twice c = record {
  namespaces = subst AreNamespaces c.requires.asked.namespaces c.are_namespaces.ensures;
  entries = subst (λ (ss : List Space). AreEntries ss (items_in c.args.instances.now) c.args.lookup.now.names.now) c.requires.asked.namespaces c.requires.asked.entries;
  pairs = c.args.shared.now;
  shared = c.requires.shared;
  flagged = subst (λ (flags : List Bool). (d : ℕ) → IsFlagged flags d ↔ IsTwice c.args.shared.now d) (sym c.as_slice.ensures.value) c.in_ok-twice.ensures;
}

pub returns : goal.returns
returns c = c.wrong_among.ensures

pub returns-in_err-twice : goal.returns-in_err-twice
returns-in_err-twice c = IfOk-from_err c.from_residual.result _ c.from_residual.ensures.0
