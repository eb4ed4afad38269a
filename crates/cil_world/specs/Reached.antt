-- Which texts have reached a host by a moment: one text at a time, and backwards. Events and their replies are two lists; moments, hosts and
-- exports are counted from 0. Moment i is when the first i events are answered. This project's profile.
use Rattle.std.specs.Prelude.{◌≡◌, ◌↔◌, ℕ, ◌<◌, true, List, take, Contains, Some, slice_get}
use Rattle.std.specs.List.{count_by}
use Rattle.cil_host.specs.modset.Modules.{AreModules}
use Rattle.cil_host.specs.sexpr.Text.{IsReadable}
use Rattle.cil_world.specs.declared.event.Event.{Event}
use Rattle.cil_world.specs.declared.event.Event.TheVariants.{Install, Export, Deliver, Restart}
use Rattle.cil_world.specs.declared.reply.Reply.{Reply}
use Rattle.cil_world.specs.Events.{is_export}
use Rattle.cil_world.specs.Replies.{counts}

module _ (events : List Event) (replies : List Reply) where
  -- this is the event, and it counts
  pub record Happens (j : ℕ) (e : Event) : Type 0 where
    pub event : slice_get events j ≡ Some e
    pub reply : Reply
    pub answered : slice_get replies j ≡ Some reply
    pub counted : counts reply ≡ true

  -- the host is not restarted between two events
  abbrev pub NoRestart : ℕ → ℕ → ℕ → Type 0
  NoRestart j i h = (m : ℕ) → j < m → m < i → slice_get events m ≡ Some (Restart h) → ⊥

  -- export k is this event, at this host
  pub record IsExport (k e g : ℕ) : Type 0 where
    pub happens : Happens e (Export g)
    pub numbered : count_by is_export (take e events) ≡ k

  -- the text has reached the host by a moment: it was installed there, or it came with a bundle from a host that it had reached when that was exported
  pub data Reached : ℕ → ℕ → List ℕ → Type 0 where
    installed : (i h j : ℕ) (x : List ℕ) → j < i → Happens j (Install h x) → IsReadable x → NoRestart j i h → Reached i h x
    delivered : (i h j k e g : ℕ) (x : List ℕ) → j < i → Happens j (Deliver k h) → NoRestart j i h → e < j → IsExport k e g → Reached e g x → Reached i h x

  -- these are the modules of a host at a moment
  pub record HasReached (i h : ℕ) (modules : List (List ℕ)) : Type 0 where
    pub are_modules : AreModules modules
    pub members : (x : List ℕ) → Contains modules x ↔ Reached i h x
