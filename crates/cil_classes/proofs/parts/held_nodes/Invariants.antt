use Rattle.std.specs.Prelude.{ℕ, List}
use Rattle.std.specs.List.Sorted.{IsStrictlySortedBy}
use Rattle.cil_base.specs.Lists.{text_cmp}
use Rattle.cil_syntax.specs.declared.term.Word.{Word}
use Rattle.cil_syntax.specs.Said.{said_of}
use Rattle.cil_syntax.specs.Scopes.{ScopedWord}
use Rattle.cil_macros.specs.Item.{words_in}
use Rattle.cil_names.specs.Unresolved.{term_with}
use Rattle.cil_classes.specs.Numbers.{AreNumbered}
use Rattle.cil_classes.specs.Parts.{AreAmong, AreThoseUpTo, IsHeldAt}
use Rattle.cil_classes.proofs.parts.held_nodes.Given as goal

abbrev pub invariant-loop-v : goal.invariant-loop-v
invariant-loop-v l =
    (f : Word → ScopedWord) (m : ℕ) (permissions : List (List ℕ)) → IsStrictlySortedBy text_cmp permissions → AreNumbered permissions f (words_in (said_of m l.expression)) l.words
    → AreAmong permissions l.nodes l.fn.run → AreThoseUpTo (IsHeldAt permissions l.nodes (term_with f m l.expression)) l.fn.run l.v l.from.items
