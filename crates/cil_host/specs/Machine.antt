-- The model host: its modules, and those of its last accepted load with the reasons why optionals of theirs are left out and the
-- booleans of theirs that are on. This project's profile.
use Rattle.std.specs.Prelude.{◌≡◌, ℕ, List, [], Option, Some, None, Result, Ok, Err, OnErr}
use Rattle.std.specs.Global.{Vec}
use Rattle.cil_table_bytes.specs.macros.Item.{Item, OptSet}
use Rattle.cil_table_bytes.specs.optionals.Reason.{Reason}
use Rattle.cil_table_bytes.specs.optionals.Certificate.{IsRight}
use Rattle.cil_table_bytes.specs.optionals.First.{AreFirst}
use Rattle.cil_table_bytes.specs.optionals.Policy.{ArePolicy}
use Rattle.cil_avc.specs.decide_crate.Decision.{Decision}
use Rattle.cil_avc.specs.declared.key.Key.{Key}
use Rattle.cil_avc.specs.Cache.{IsTrueFor}
use Rattle.cil_table_bytes.specs.optionals.OptionalLine.{OptionalLine}
use Rattle.cil_table_bytes.specs.optionals.WhyLine.{WhyLine}
use Rattle.cil_table_bytes.specs.tables.Agrees.{Compiles}
use Rattle.cil_table_bytes.specs.tables.CompileAnswer.{IsCompiled}
use Rattle.cil_avc.specs.decide_crate.Decides.{HasNoClass, HasNoContext, ModulesDecide}
use Rattle.cil_table_bytes.specs.optionals.Lines.{AreOptionalsOf, AreReasonsOf}
use Rattle.cil_table_bytes.specs.conditions.Bits.{is_on}
use Rattle.cil_table_bytes.specs.tables.Table.{Table, boolean_names}
use Rattle.cil_host.specs.Settings.{on_in, on_names}
use Rattle.cil_host.specs.declared.host.Policy.{Policy}
use Rattle.cil_host.specs.declared.fault.HostError.{HostError}
use Rattle.cil_host.specs.declared.fault.HostError.TheVariants as errors
use Rattle.cil_host.specs.declared.fault.QueryFault.{QueryFault}
use Rattle.cil_host.specs.declared.fault.QueryFault.TheVariants.{NoPolicy, BadSource, BadTarget, NoClass, NoPermission, NoBoolean}

-- what was accepted: the modules, the reasons why optionals of theirs are left out, and the qualified names of the booleans that are on
-- now, in byte order
pub record Accepted : Type 0 where
  pub modules : List (List ℕ)
  pub reasons : List Reason
  pub on : List (List ℕ)

-- a host: the texts that it holds, and what its policy was compiled from
pub record State : Type 0 where
  pub modules : List (List ℕ)
  pub loaded : Option Accepted

-- hosts with the same modules and the same accepted load are one
pub same_state : (a b : State) → a.modules ≡ b.modules → a.loaded ≡ b.loaded → a ≡ b
same_state a b m l = λ i. record { modules = m i; loaded = l i }

-- where an error leaves the modules and the accepted load, it leaves the host
pub unchanged : {X E : Type 0} (old new : State) (r : Result X E) → OnErr r (new.modules ≡ old.modules) → new.loaded ≡ old.loaded → OnErr r (new ≡ old)
unchanged old new (Ok x) m l = tt
unchanged old new (Err e) m l = same_state new old m l

-- the modules compile, and the reasons show which optionals of theirs are in force
pub record CanLoad (modules : List (List ℕ)) (reasons : List Reason) : Type 0 where
  pub table : Table
  pub compiles : Compiles modules table
  pub items : List Item
  pub enabled : OptSet
  pub policy : ArePolicy modules items enabled
  pub right : IsRight items enabled reasons
  pub first : AreFirst items [] reasons

-- what is kept of a load is what its modules compile to
abbrev pub IsKept : Option Policy → Type 0
IsKept None = Unit {0}
IsKept (Some p) = IsCompiled p.modules p.compiled

-- what a load is in the model, with these settings of its booleans
abbrev pub accepted_of : List ℕ → Policy → Accepted
accepted_of settings p = record {
  modules = p.modules;
  reasons = p.compiled.why.items;
  on = on_names (is_on settings) (boolean_names p.compiled.tables.booleans);
}

-- what is in the cache are decisions of the policy, where booleans have these settings; without a policy nothing is asked of it
abbrev pub IsTrueCache : Option Policy → List ℕ → List (Key × Decision) → Type 0
IsTrueCache None settings entries = Unit {0}
IsTrueCache (Some p) settings entries = IsTrueFor p.compiled.tables (is_on settings) entries

-- what is true of every host: it keeps what the loaded modules compile to, and its cache is true for this
pub record IsSound (policy : Option Policy) (settings : List ℕ) (entries : List (Key × Decision)) : Type 0 where
  pub kept : IsKept policy
  pub cache : IsTrueCache policy settings entries

-- ---- queries

-- the accepted load, of which something holds
pub record OfAccepted (h : State) (holds : Accepted → Type 0) : Type 0 where
  pub accepted : Accepted
  pub is_loaded : h.loaded ≡ Some accepted
  pub fact : holds accepted

-- the loaded modules, of which something holds
abbrev pub OfLoaded : State → (List (List ℕ) → Type 0) → Type 0
OfLoaded h holds = OfAccepted h (λ a. holds a.modules)

-- the text is a valid context: it is not so that it is none
abbrev pub HasContext : List ℕ → List (List ℕ) → Type 0
HasContext text modules = HasNoContext modules text → ⊥

-- both texts are valid contexts, and the third names no class
pub record LacksClass (source target class_name : List ℕ) (modules : List (List ℕ)) : Type 0 where
  pub a_source : HasContext source modules
  pub a_target : HasContext target modules
  pub no_class : HasNoClass modules class_name

pub record LacksTarget (source target : List ℕ) (modules : List (List ℕ)) : Type 0 where
  pub a_source : HasContext source modules
  pub no_target : HasNoContext modules target

-- what a query answers, by the loaded modules and the booleans that are on: the decision; or the first of the faults
abbrev pub Queries : State → List ℕ → List ℕ → List ℕ → Result Decision QueryFault → Type 0
Queries h source target class_name (Ok d) = OfAccepted h (λ a. ModulesDecide a.modules (on_in a.on) source target class_name d)
Queries h source target class_name (Err NoPolicy) = h.loaded ≡ None
Queries h source target class_name (Err BadSource) = OfLoaded h (λ modules. HasNoContext modules source)
Queries h source target class_name (Err BadTarget) = OfLoaded h (LacksTarget source target)
Queries h source target class_name (Err NoClass) = OfLoaded h (LacksClass source target class_name)
Queries h source target class_name (Err NoPermission) = ⊥
Queries h source target class_name (Err NoBoolean) = ⊥

-- ---- optionals

-- the lines of the optionals of modules
pub record AreOptionalLines (lines : List OptionalLine) (modules : List (List ℕ)) : Type 0 where
  pub items : List Item
  pub enabled : OptSet
  pub policy : ArePolicy modules items enabled
  pub are_lines : AreOptionalsOf items enabled lines

-- the lines of the reasons why optionals of the accepted modules are left out
pub record AreWhyLines (lines : List WhyLine) (a : Accepted) : Type 0 where
  pub items : List Item
  pub enabled : OptSet
  pub policy : ArePolicy a.modules items enabled
  pub right : IsRight items enabled a.reasons
  pub first : AreFirst items [] a.reasons
  pub are_lines : AreReasonsOf items a.reasons lines

-- where there are no lines, no policy is loaded; or one is, and there was no memory for them
abbrev pub TellsNothing : State → HostError → Type 0
TellsNothing h (errors.Query fault) = (fault ≡ NoPolicy) × (h.loaded ≡ None)
TellsNothing h errors.NoMemory = h.loaded ≡ None → ⊥

-- what a host tells of the optionals of its policy
abbrev pub TellsOptionals : State → Result (Vec OptionalLine) HostError → Type 0
TellsOptionals h (Ok lines) = OfLoaded h (AreOptionalLines lines.items)
TellsOptionals h (Err error) = TellsNothing h error

-- and why some are left out
abbrev pub TellsWhy : State → Result (Vec WhyLine) HostError → Type 0
TellsWhy h (Ok lines) = OfAccepted h (AreWhyLines lines.items)
TellsWhy h (Err error) = TellsNothing h error
