use Rattle.std.proofs.Common.{◌≡◌, ◌<◌, ℕ, length}
use Rattle.cil_world.specs.Answers.{fresh}
use Rattle.cil_world.specs.Steps.{host_at}
use Rattle.cil_world.proofs.world.World.new.Given as goal

abbrev pub invariant-loop : goal.invariant-loop
invariant-loop l = (length l.hosts.items ≡ l.counter) × ((h : ℕ) → h < length l.hosts.items → host_at l.hosts.items h ≡ fresh)
