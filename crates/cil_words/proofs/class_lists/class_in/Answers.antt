use Rattle.std.proofs.Common.{List, subst}
use Rattle.cil_blocks.specs.declared.namespaces.Space.{Space}
use Rattle.cil_macros.specs.Items.{all_placed, scoped_by}
use Rattle.cil_syntax.specs.Scopes.{ScopedWord}
use Rattle.cil_names.specs.Classes.{IsClassFor}
use Rattle.cil_names.proofs.ReadingLemmas.{numbers_within, scoped_so}
use Rattle.cil_words.proofs.class_lists.class_in.Goals as goal

pub class_of-requires-clause-within : goal.class_of-requires-clause-within
class_of-requires-clause-within c =
    numbers_within c.namespaces.result.now c.args.instances.now c.namespaces.ensures.value c.args.class.now _ (rw (← c.as_slice.ensures) at c.in_ok-fill.ensures.filled)

pub returns-clause-class : goal.returns-clause-class
returns-clause-class c =
    let names = c.args.names.now in
    let permissions = c.args.permissions.now in
    let ss = c.namespaces.result.now in
    let same = c.namespaces.ensures.value in
    let found = rw c.entries.ensures.value at c.class_of.ensures in
    subst (λ (z : List Space). IsClassFor z names permissions (scoped_by (all_placed c.args.instances.now) c.args.class.now) c.class_of.result) same
    (subst (λ (w : ScopedWord). IsClassFor ss names permissions w c.class_of.result)
    (scoped_so ss c.args.instances.now same c.args.class.now _ (rw (← c.as_slice.ensures) at c.in_ok-fill.ensures.filled)) found)
