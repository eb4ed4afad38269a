-- A run of hosts: what each event is answered, by model hosts that have at each moment what has reached them. This project's profile.
use Rattle.std.specs.Prelude.{◌≡◌, ◌<◌, ◌≤◌, ℕ, suc, List, length, Some, slice_get}
use Rattle.cil_host.specs.Machine.{State}
use Rattle.cil_world.specs.declared.event.Event.{Event}
use Rattle.cil_world.specs.declared.reply.Reply.{Reply}
use Rattle.cil_world.specs.declared.reply.Reply.TheVariants.{NoSuch}
use Rattle.cil_world.specs.Answers.{Answers}
use Rattle.cil_world.specs.Events.{host_of}
use Rattle.cil_world.specs.Hosts.{IsHostAt}

-- the model host of the event as it is at this moment gives the reply, and it is the model host of the next moment that this leaves
pub record IsAnsweredThere (events : List Event) (replies : List Reply) (i : ℕ) (event : Event) (reply : Reply) : Type 0 where
  pub old : State
  pub new : State
  pub was : IsHostAt events replies i (host_of event) old
  pub is : IsHostAt events replies (suc i) (host_of event) new
  pub answers : Answers events replies i event old reply new

-- where the host is there it answers; where it is not, the reply says so
pub record IsAnswered (hosts : ℕ) (events : List Event) (replies : List Reply) (i : ℕ) (event : Event) (reply : Reply) : Type 0 where
  pub there : host_of event < hosts → IsAnsweredThere events replies i event reply
  pub absent : hosts ≤ host_of event → reply ≡ NoSuch

-- these are the replies of so many hosts to these events
pub record IsRun (hosts : ℕ) (events : List Event) (replies : List Reply) : Type 0 where
  pub whole : length replies ≡ length events
  pub answered : (i : ℕ) (event : Event) (reply : Reply) → slice_get events i ≡ Some event → slice_get replies i ≡ Some reply
      → IsAnswered hosts events replies i event reply
