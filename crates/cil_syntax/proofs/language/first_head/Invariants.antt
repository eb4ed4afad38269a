use Rattle.std.specs.Prelude.{◌≡◌, ℕ}
use Rattle.cil_syntax.specs.declared.kind.Language.{Language}
use Rattle.cil_syntax.proofs.Languages.{found_from}
use Rattle.cil_syntax.proofs.language.first_head.Given as goal

abbrev pub invariant-loop-head : goal.invariant-loop-head
invariant-loop-head l = (language : Language) (m : ℕ) → found_from language l.text l.nodes l.heads m 0 ≡ found_from language l.text l.nodes l.heads m l.head-index
