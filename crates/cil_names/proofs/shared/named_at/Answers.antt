use Rattle.std.proofs.Common.{◌∙◌, List, subst, sym}
use Rattle.cil_macros.specs.blocks.Space.{Space}
use Rattle.cil_syntax.specs.Scopes.{ScopedWord}
use Rattle.cil_macros.specs.Items.{items_in, namespaces_in, word_at}
use Rattle.cil_names.specs.declared.entry.Entry.{Entry}
use Rattle.cil_names.specs.Entries.{AreEntries}
use Rattle.cil_names.specs.Shared.{IsOutside}
use Rattle.cil_names.proofs.ReadingLemmas.{numbers_within, scoped_so}
use Rattle.cil_names.proofs.shared.named_at.Goals as goal

pub named_outside-requires-clause-within : goal.named_outside-requires-clause-within
named_outside-requires-clause-within c =
    numbers_within c.namespaces.result.now c.args.instances.now c.namespaces.ensures.value c.word-placed.result _ (rw (← c.as_slice.ensures) at c.in_ok-scope_into.ensures)

pub returns : goal.returns
returns c =
    let i = c.args.instances.now in
    let ss = c.namespaces.result.now in
    let es = c.entries.result.now in
    let xs = items_in i in
    let same = c.namespaces.ensures.value in
    let entries : AreEntries ss xs es = subst (λ (z : List Space). AreEntries z xs es) (sym same) (subst (AreEntries (namespaces_in i) xs) (sym c.entries.ensures.value) c.requires.entries) in
    let is = rw (← c.as_slice.ensures) at c.in_ok-scope_into.ensures in
    subst (λ (z : List Space). IsOutside z c.args.names.now xs c.args.sign (word_at i c.args.at c.args.word.now) c.named_outside.result) same
    (subst (λ (l : List Entry). IsOutside ss l xs c.args.sign (word_at i c.args.at c.args.word.now) c.named_outside.result) c.entries.ensures.value
    (subst (λ (w : ScopedWord). IsOutside ss es xs c.args.sign w c.named_outside.result)
    (scoped_so ss i same c.word-placed.result _ is ∙ c.word-placed.ensures) (c.named_outside.ensures xs entries)))
