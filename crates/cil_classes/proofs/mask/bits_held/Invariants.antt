use Rattle.std.specs.Prelude.{◌≡◌, ℕ, List, length}
use Rattle.std.specs.List.Sorted.{IsStrictlySortedBy}
use Rattle.cil_base.specs.Lists.{text_cmp}
use Rattle.cil_syntax.specs.declared.term.Word.{Word}
use Rattle.cil_syntax.specs.Said.{said_of}
use Rattle.cil_syntax.specs.Scopes.{ScopedWord}
use Rattle.cil_macros.specs.Item.{words_in}
use Rattle.cil_names.specs.Unresolved.{term_with}
use Rattle.cil_classes.specs.Numbers.{AreNumbered}
use Rattle.cil_classes.proofs.MaskLemmas.{IsMaskBelow}
use Rattle.cil_classes.proofs.mask.bits_held.Given as goal

abbrev pub invariant-loop-number : goal.invariant-loop-number
invariant-loop-number l =
    (f : Word → ScopedWord) (m : ℕ) (permissions : List (List ℕ)) → IsStrictlySortedBy text_cmp permissions → length permissions ≡ l.count
    → AreNumbered permissions f (words_in (said_of m l.term)) l.words → IsMaskBelow permissions (term_with f m l.term) l.number l.mask
