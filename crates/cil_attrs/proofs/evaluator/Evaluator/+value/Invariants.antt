use Rattle.std.proofs.Common.{◌≡◌, ℕ, List, drop}
use Rattle.std.specs.Prelude.{Option}
use Rattle.cil_syntax.specs.declared.term.Word.{Word}
use Rattle.cil_syntax.specs.Said.{all_said}
use Rattle.cil_base.specs.Among.{among}
use Rattle.cil_attrs.specs.Evaluated.{BeginWithAll, folded}
use Rattle.cil_attrs.proofs.evaluator.Evaluator.+value.Given as goal

abbrev pub invariant-fold-loop-part : goal.invariant-fold-loop-part
invariant-fold-loop-part l = (m : ℕ) (g : Word → Option ℕ) (more : List (Option ℕ)) → BeginWithAll g (all_said m l.parts) l.words more
    → BeginWithAll g (all_said m (drop l.part-index l.parts)) l.rest more
    × ((v : ℕ) → folded l.self.held.now l.self.all.now g v l.how (among l.set v) (all_said m (drop l.part-index l.parts)) ≡ folded l.self.held.now l.self.all.now g v l.how (among l.initial.set v) (all_said m l.parts))
