-- The model host of a number at a moment: what has reached it, its last accepted load, and how the booleans of that policy are set. This project's profile.
use Rattle.std.specs.Prelude.{◌≡◌, ℕ, ◌<◌, Bool, true, List, Some, MatchOption, slice_get}
use Rattle.cil_base.specs.Lists.{Lists, text_cmp}
use Rattle.cil_host.specs.declared.host.Loaded.{Loaded as Told}
use Rattle.cil_host.specs.Machine.{Accepted, CanLoad, State}
use Rattle.cil_host.specs.Settings.{IsDefaultOn}
use Rattle.cil_world.specs.declared.event.Event.{Event}
use Rattle.cil_world.specs.declared.event.Event.TheVariants.{Load, Set}
use Rattle.cil_world.specs.declared.reply.Reply.{Reply}
use Rattle.cil_world.specs.declared.reply.Reply.TheVariants.{Done, Loaded}
use Rattle.cil_world.specs.Reached.{HasReached, NoRestart}

module _ (events : List Event) (replies : List Reply) where
  -- the host loads its modules, and they are accepted
  pub record IsLoad (j h : ℕ) : Type 0 where
    pub event : slice_get events j ≡ Some (Load h)
    pub told : Told
    pub answered : slice_get replies j ≡ Some (Loaded told)

  -- the last accepted load before a moment; the host was not restarted since
  pub record IsLastLoad (i h j : ℕ) : Type 0 where
    pub before : j < i
    pub load : IsLoad j h
    pub last : (m : ℕ) → j < m → m < i → IsLoad m h → ⊥
    pub kept : NoRestart events replies j i h

  -- a boolean of the host is set
  pub record IsSet (j h : ℕ) (name : List ℕ) (value : Bool) : Type 0 where
    pub event : slice_get events j ≡ Some (Set h name value)
    pub answered : slice_get replies j ≡ Some Done

  -- it is not set between two events
  abbrev pub NoSet : ℕ → ℕ → ℕ → List ℕ → Type 0
  NoSet j i h name = (m : ℕ) (value : Bool) → j < m → m < i → IsSet m h name value → ⊥

  -- a boolean is on at a moment after a load of these modules: by default, or since it was set last
  pub data IsOn (modules : List (List ℕ)) (j i h : ℕ) (name : List ℕ) : Type 0 where
    by_default : IsDefaultOn modules name → NoSet j i h name → IsOn modules j i h name
    by_setting : (m : ℕ) → j < m → m < i → IsSet m h name true → NoSet m i h name → IsOn modules j i h name

  -- what a host has loaded at a moment: the modules that had reached it by its last accepted load, with the settings since
  pub record IsLoadedAt (i h : ℕ) (accepted : Accepted) : Type 0 where
    pub load : ℕ
    pub is_last : IsLastLoad i h load
    pub reached : HasReached events replies load h accepted.modules
    pub can_load : CanLoad accepted.modules accepted.reasons
    pub on : Lists text_cmp (IsOn accepted.modules load i h) accepted.on

  -- the model host of a number at a moment
  pub record IsHostAt (i h : ℕ) (host : State) : Type 0 where
    pub reached : HasReached events replies i h host.modules
    pub loaded : MatchOption host.loaded ((j : ℕ) → IsLastLoad i h j → ⊥) (IsLoadedAt i h)
