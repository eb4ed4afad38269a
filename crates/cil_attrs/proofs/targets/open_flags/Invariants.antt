use Rattle.std.specs.Prelude.{◌≡◌, ◌++◌, ℕ, Option, drop, map, not}
use Rattle.std.specs.Option.{is_some}
use Rattle.cil_attrs.proofs.targets.open_flags.Given as goal

abbrev pub invariant-loop-last : goal.invariant-loop-last
invariant-loop-last l = l.flags.items ++ map (λ (o : Option ℕ). not (is_some o)) (drop l.last-index l.lasts) ≡ map (λ (o : Option ℕ). not (is_some o)) l.lasts
