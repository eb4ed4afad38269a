-- Answers of steps, over sets of faults that are equal; and refusals that are handed on.
use Rattle.std.specs.Prelude.{Result, Ok, Err}
use Rattle.std.specs.Result.{IsErrAnd}
use Rattle.std.proofs.Common.{◌≡◌, List, sym, subst}
use Rattle.cil_faults.specs.declared.failure.Failure.{Failure}
use Rattle.cil_faults.specs.declared.failure.Failure.TheVariants.{Faults, NoMemory}
use Rattle.cil_faults.specs.declared.fault.Fault.{Fault}
use Rattle.cil_faults.specs.Fails.{AreFaults}
use Rattle.cil_faults.specs.FaultOrder.{fault_cmp}
use Rattle.cil_faults.specs.Refusal.{Answers, Fails}
use Rattle.cil_base.specs.Sorted.{lists_of}

module _ (A B : Fault → Type 0) where
  -- the list of one set of faults is that of an equal one
  pub faults_alike : (fs : List Fault) → ((f : Fault) → A f → B f) → ((f : Fault) → B f → A f) → AreFaults A fs → AreFaults B fs
  faults_alike fs there back a = record { listed = lists_of fault_cmp A B fs there back a.listed; some = a.some }

  -- a refusal with the faults of one set is one with those of an equal one
  pub fails_alike : ((f : Fault) → A f → B f) → ((f : Fault) → B f → A f) → (failure : Failure) → Fails A failure → Fails B failure
  fails_alike there back (Faults fs) a = faults_alike fs there back a
  fails_alike there back NoMemory a = a

  -- an answer about one set of faults is one about an equal one
  pub answers_alike : {X : Type 0} (P : X → Type 0) → ((f : Fault) → A f → B f) → ((f : Fault) → B f → A f) → (r : Result X Failure) → Answers P A r → Answers P B r
  answers_alike P there back (Ok x) a = (a.0, λ f b. a.1 f (back f b))
  answers_alike P there back (Err failure) a = fails_alike there back failure a

-- a failure that is handed on
pub refused : {X : Type 0} (P : X → Type 0) (step : Fault → Type 0) (r : Result X Failure) (failure : Failure) → IsErrAnd r (λ e. e ≡ failure) → Fails step failure → Answers P step r
refused P step (Ok x) failure is fails = absurd is
refused P step (Err e) failure is fails = subst (Fails step) (sym is) fails
