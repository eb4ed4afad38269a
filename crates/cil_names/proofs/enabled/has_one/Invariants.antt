use Rattle.std.proofs.Common.{◌≡◌, drop, ℕ}
use Rattle.std.specs.Global.{Vec}
use Rattle.std.specs.List.{list_all, list_any}
use Rattle.cil_names.specs.Entries.{is_in}
use Rattle.cil_names.proofs.enabled.has_one.Given as goal

abbrev pub invariant-loop-round : goal.invariant-loop-round
invariant-loop-round l =
    list_any (λ (r : Vec ℕ). list_all (is_in l.enabled) r.items) l.rounds ≡ list_any (λ (r : Vec ℕ). list_all (is_in l.enabled) r.items) (drop l.round-index l.rounds)
