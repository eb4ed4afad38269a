-- What follows of every run. This project's profile.
use Rattle.std.specs.Prelude.{◌≡◌, ◌↔◌, ◌<◌, ℕ, suc, true, false, List, Some, slice_get}
use Rattle.cil_host.specs.modset.BundleFault.{BundleFault}
use Rattle.cil_host.specs.Machine.{State}
use Rattle.cil_world.specs.declared.event.Event.{Event}
use Rattle.cil_world.specs.declared.event.Event.TheVariants.{Load}
use Rattle.cil_world.specs.declared.reply.Reply.{Reply}
use Rattle.cil_world.specs.declared.reply.Reply.TheVariants.{BadBundle}
use Rattle.cil_world.specs.Hosts.{IsHostAt}
use Rattle.cil_world.specs.Reached.{Reached}
use Rattle.cil_world.specs.Replies.{counts}
use Rattle.cil_world.specs.Run.{IsRun}

-- hosts that the same texts have reached, in one run or in two, answer a load alike: with the same faults, or the same length and digest. One may lack memory,
-- or not be there
abbrev pub LoadAlike : Type 0
LoadAlike = (hosts more : ℕ) (events others : List Event) (replies answers : List Reply) → IsRun hosts events replies → IsRun more others answers → (i j g h : ℕ) (one other : Reply)
    → slice_get events i ≡ Some (Load g) → slice_get replies i ≡ Some one → slice_get others j ≡ Some (Load h) → slice_get answers j ≡ Some other
    → ((x : List ℕ) → Reached events replies i g x ↔ Reached others answers j h x) → counts one ≡ true → counts other ≡ true → one ≡ other

-- an event that lacks memory, or that names nothing, changes no host
abbrev pub NothingChanges : Type 0
NothingChanges = (hosts : ℕ) (events : List Event) (replies : List Reply) → IsRun hosts events replies → (i : ℕ) (event : Event) (reply : Reply)
    → slice_get events i ≡ Some event → slice_get replies i ≡ Some reply → counts reply ≡ false → (g : ℕ) (host : State) → g < hosts
    → IsHostAt events replies i g host → IsHostAt events replies (suc i) g host

-- no bundle that a host has exported is refused
abbrev pub NoneRefused : Type 0
NoneRefused = (hosts : ℕ) (events : List Event) (replies : List Reply) → IsRun hosts events replies → (i : ℕ) (event : Event) (reply : Reply)
    → slice_get events i ≡ Some event → slice_get replies i ≡ Some reply → (fault : BundleFault) → reply ≡ BadBundle fault → ⊥
