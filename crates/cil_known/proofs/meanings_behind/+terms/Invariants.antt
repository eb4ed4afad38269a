use Rattle.std.specs.Prelude.{◌≡◌, drop, length, take}
use Rattle.cil_syntax.specs.Scopes.{ScopedWord}
use Rattle.cil_syntax.specs.declared.term.Word.{Word}
use Rattle.cil_names.proofs.AskedLemmas.{all_asked_in}
use Rattle.cil_known.proofs.meanings_behind.+terms.Given as goal

abbrev pub invariant-behind_all-loop-term : goal.invariant-behind_all-loop-term
invariant-behind_all-loop-term l = (f : Word → ScopedWord) → l.rest ≡ drop (length (all_asked_in f l.«module» (take l.term-index l.terms))) l.words
