use Rattle.std.specs.Prelude.{◌≡◌, ◌<◌, ℕ, ltb, take}
use Rattle.std.specs.Global.{Vec}
use Rattle.std.specs.List.{list_all, list_any}
use Rattle.cil_optionals.specs.Times.{after}
use Rattle.cil_optionals.proofs.times.latest.Given as goal

abbrev pub invariant-loop-round : goal.invariant-loop-round
invariant-loop-round l = (k : ℕ) → k < l.top → ltb k l.most ≡ list_any (λ (r : Vec ℕ). list_all (after l.times k) r.items) (take l.round-index l.rounds)
