use Rattle.std.specs.Prelude.{◌≡◌, ◌++◌, ℕ, take}
use Rattle.cil_syntax.specs.Said.{all_said}
use Rattle.cil_macros.specs.Item.{names_in}
use Rattle.cil_names.proofs.permissions.push_names.Given as goal

abbrev pub invariant-loop-term : goal.invariant-loop-term
invariant-loop-term l = (m : ℕ) → l.names.items ≡ l.initial.names.items ++ names_in (all_said m (take l.term-index l.terms))
