use Rattle.std.specs.Prelude.{◌≡◌, ℕ, List, drop, length, take}
use Rattle.std.specs.List.Sorted.{IsStrictlySortedBy}
use Rattle.cil_base.specs.Lists.{text_cmp}
use Rattle.cil_syntax.specs.declared.term.Word.{Word}
use Rattle.cil_syntax.specs.Scopes.{ScopedWord}
use Rattle.cil_names.specs.Unresolved.{terms_with}
use Rattle.cil_known.proofs.LeafLemmas.{all_leaves}
use Rattle.cil_classes.specs.Numbers.{AreNumbered, IsTally}
use Rattle.cil_classes.proofs.expression.+holds.Given as goal

abbrev pub invariant-tallied-loop-part : goal.invariant-tallied-loop-part
invariant-tallied-loop-part l =
    ((m : ℕ) → l.rest ≡ drop (length (all_leaves m (take l.part-index l.parts))) l.words)
    × ((f : Word → ScopedWord) (m : ℕ) (permissions : List (List ℕ)) → IsStrictlySortedBy text_cmp permissions → AreNumbered permissions f (all_leaves m l.parts) l.words
    → IsTally permissions l.number (terms_with f m (take l.part-index l.parts)) l.all.some l.all.each l.all.odd)
