-- The replies of requests, as steps of the model host.
use Rattle.std.specs.Prelude.{Bool, Result, Ok, Err, codes, length, map}
use Rattle.std.proofs.Common.{None, ◌≡◌, ℕ, List, ◌++◌, refl, sym, subst}
use Rattle.cil_modset.specs.Bundle.{bundle}
use Rattle.cil_faults.specs.declared.failure.Failure.{Failure}
use Rattle.cil_faults.specs.declared.failure.Failure.TheVariants as failures
use Rattle.cil_faults.specs.declared.fault.Fault.{Fault}
use Rattle.cil_faults.specs.Printed.{printed}
use Rattle.cil_host.specs.decide_crate.Decision.{Decision}
use Rattle.cil_host.specs.declared.fault.QueryFault.{QueryFault}
use Rattle.cil_host.specs.declared.listing.ListLine.{ListLine}
use Rattle.cil_host.specs.declared.host.Loaded.{Loaded}
use Rattle.cil_host.specs.Listed.{line_of}
use Rattle.std.specs.Global.{Vec}
use Rattle.cil_host.specs.optionals.OptionalLine.{OptionalLine}
use Rattle.cil_host.specs.optionals.WhyLine.{WhyLine}
use Rattle.cil_host.specs.declared.fault.HostError.{HostError}
use Rattle.cil_host.specs.declared.fault.HostError.TheVariants as errors
use Rattle.cil_host.specs.Checks.{Checks as ChecksHost}
use Rattle.cil_host.specs.Machine.{Queries, State, TellsNothing, TellsOptionals, TellsWhy}
use Rattle.cil_host.specs.Refusal.{Loads as LoadsHost}
use Rattle.cil_host.specs.Sets.{Sets as SetsHost}
use Rattle.cil_server.specs.Asked.{Request}
use Rattle.cil_server.specs.Asked.Request.{Asks, AsksOptionals, AsksWhy, Checks, Exports, Lists, Loads, Sets}
use Rattle.cil_server.specs.Load.{IsLoaded}
use Rattle.cil_server.specs.declared.loading.LoadEnd.{LoadEnd}
use Rattle.cil_server.specs.declared.loading.LoadEnd.TheVariants as ends
use Rattle.cil_server.specs.Replies.{newline, no_memory, of_check, of_decision, of_export, of_host_error, of_list, of_load, of_loaded, of_optionals, of_query_fault, of_set, of_why, refused, spaced}
use Rattle.cil_server.specs.Step.{MayLack, NeedsPolicy, Step}
use Rattle.cil_server.specs.Turns.{IsAnswered, TellsDecision}

-- ---- replies

module _ (tells : List ℕ → Type 0) where
  pub exported : (h : State) (bytes : List ℕ) → bytes ≡ bundle h.modules → tells (of_export bytes) → IsAnswered h Exports h tells
  exported h bytes e told = record { reply = of_export (bundle h.modules); step = Step.export_; told = subst (λ z. tells (of_export z)) e told }

  pub listed_lines : (h : State) (lines : List ListLine) → lines ≡ map line_of h.modules → tells (of_list lines) → IsAnswered h Lists h tells
  listed_lines h lines e told = record { reply = of_list (map line_of h.modules); step = Step.list; told = subst (λ z. tells (of_list z)) e told }

  pub exports_lack : (h : State) → tells no_memory → IsAnswered h Exports h tells
  exports_lack h told = record { reply = no_memory; step = Step.lack MayLack.exports; told = told }

  pub lists_lack : (h : State) → tells no_memory → IsAnswered h Lists h tells
  lists_lack h told = record { reply = no_memory; step = Step.lack MayLack.lists; told = told }

  pub loaded : (old new : State) (u : Loaded) (r : Result Loaded Failure) → r ≡ Ok u → LoadsHost old new r → tells (of_loaded u) → IsLoaded old new tells ends.Loaded
  loaded old new u r e l told = record { result = Ok u; loads = subst (LoadsHost old new) e l; told = told; is_end = refl }

  pub load_refused : (old new : State) (faults : List Fault) (r : Result Loaded Failure) (lines : List ℕ) (count : ℕ) → r ≡ Err (failures.Faults faults) → LoadsHost old new r
      → lines ≡ printed faults → count ≡ length faults → tells (codes "FAULTS" ++ spaced count ++ newline ++ lines) → IsLoaded old new tells ends.Refused
  load_refused old new faults r lines count e l f n told = record {
    result = Err (failures.Faults faults);
    loads = subst (LoadsHost old new) e l;
    told = subst (λ z. tells (codes "FAULTS" ++ spaced (length faults) ++ newline ++ z)) f (subst (λ k. tells (codes "FAULTS" ++ spaced k ++ newline ++ lines)) n told);
    is_end = refl;
  }

  -- of a load that fails, want of memory may be told in any case
  pub load_lacks : (old new : State) (failure : Failure) (r : Result Loaded Failure) → r ≡ Err failure → LoadsHost old new r → tells no_memory → IsLoaded old new tells ends.NoMemory
  load_lacks old new failure r e l told =
      let same : LoadsHost old new (Err failure) = subst (LoadsHost old new) e l in
      record { result = Err failures.NoMemory; loads = (tt, same.1); told = told; is_end = refl }

  pub load_answers : (old new : State) (ending : LoadEnd) → IsLoaded old new tells ending → IsAnswered old Loads new tells
  load_answers old new ending l = record { reply = of_load l.result; step = Step.load l.result l.loads; told = l.told }

  -- no policy is loaded, or there is no memory
  pub declined_by_host : (h : State) (request : Request) (e : HostError) → NeedsPolicy request → ((h.loaded ≡ None → ⊥) → MayLack h request) → TellsNothing h e → tells (of_host_error e)
      → IsAnswered h request h tells
  declined_by_host h request (errors.Query fault) needs lacks none told =
      record { reply = refused 71; step = Step.no_policy needs none.1; told = subst (λ f. tells (of_query_fault f)) none.0 told }
  declined_by_host h request errors.NoMemory needs lacks none told = record { reply = no_memory; step = Step.lack (lacks none); told = told }

  pub optionals_told : (h : State) (r : Result (Vec OptionalLine) HostError) (v : Vec OptionalLine) (lines : List OptionalLine) → r ≡ Ok v → lines ≡ v.items → TellsOptionals h r
      → tells (of_optionals lines) → IsAnswered h AsksOptionals h tells
  optionals_told h r v lines is same there told = record {
    reply = of_optionals v.items;
    step = Step.optionals v.items (subst (TellsOptionals h) is there);
    told = subst (λ z. tells (of_optionals z)) same told;
  }

  pub optionals_declined : (h : State) (r : Result (Vec OptionalLine) HostError) (e : HostError) → r ≡ Err e → TellsOptionals h r → tells (of_host_error e)
      → IsAnswered h AsksOptionals h tells
  optionals_declined h r e is there told = declined_by_host h AsksOptionals e NeedsPolicy.optionals MayLack.optionals (subst (TellsOptionals h) is there) told

  pub why_told : (h : State) (r : Result (Vec WhyLine) HostError) (v : Vec WhyLine) (lines : List WhyLine) → r ≡ Ok v → lines ≡ v.items → TellsWhy h r
      → tells (of_why lines) → IsAnswered h AsksWhy h tells
  why_told h r v lines is same there told =
      record { reply = of_why v.items; step = Step.why v.items (subst (TellsWhy h) is there); told = subst (λ z. tells (of_why z)) same told }

  pub why_declined : (h : State) (r : Result (Vec WhyLine) HostError) (e : HostError) → r ≡ Err e → TellsWhy h r → tells (of_host_error e) → IsAnswered h AsksWhy h tells
  why_declined h r e is there told = declined_by_host h AsksWhy e NeedsPolicy.why MayLack.why (subst (TellsWhy h) is there) told

  pub decided : (old new : State) (source target class_name : List ℕ) (d : Decision) (r : Result Decision QueryFault) → r ≡ Ok d → Queries old source target class_name r
      → new ≡ old → TellsDecision new class_name d tells → IsAnswered old (Asks source target class_name) new tells
  decided old new source target class_name d r e q same t =
      let there : TellsDecision old class_name d tells = subst (λ h. TellsDecision h class_name d tells) same t in
      record {
        reply = of_decision there.allowed there.auditallow there.auditdeny;
        step = subst (λ h. Step old (Asks source target class_name) (of_decision there.allowed there.auditallow there.auditdeny) h) (sym same)
            (Step.decide d there.allowed there.auditallow there.auditdeny (subst (Queries old source target class_name) e q) there.are_allowed there.are_auditallow there.are_auditdeny);
        told = there.told;
      }

  pub declined : (old new : State) (source target class_name : List ℕ) (fault : QueryFault) (r : Result Decision QueryFault) → r ≡ Err fault
      → Queries old source target class_name r → new ≡ old → tells (of_query_fault fault) → IsAnswered old (Asks source target class_name) new tells
  declined old new source target class_name fault r e q same told = record {
    reply = of_query_fault fault;
    step = subst (λ h. Step old (Asks source target class_name) (of_query_fault fault) h) (sym same) (Step.decline fault (subst (Queries old source target class_name) e q));
    told = told;
  }

  pub checked : (old new : State) (source target class_name permission : List ℕ) (is_allowed : Bool) (r : Result Bool QueryFault) → r ≡ Ok is_allowed
      → ChecksHost old source target class_name permission r → new ≡ old → tells (of_check is_allowed) → IsAnswered old (Checks source target class_name permission) new tells
  checked old new source target class_name permission is_allowed r e q same told = record {
    reply = of_check is_allowed;
    step = subst (λ h. Step old (Checks source target class_name permission) (of_check is_allowed) h) (sym same)
        (Step.check is_allowed (subst (ChecksHost old source target class_name permission) e q));
    told = told;
  }

  pub unchecked : (old new : State) (source target class_name permission : List ℕ) (fault : QueryFault) (r : Result Bool QueryFault) → r ≡ Err fault
      → ChecksHost old source target class_name permission r → new ≡ old → tells (of_query_fault fault) → IsAnswered old (Checks source target class_name permission) new tells
  unchecked old new source target class_name permission fault r e q same told = record {
    reply = of_query_fault fault;
    step = subst (λ h. Step old (Checks source target class_name permission) (of_query_fault fault) h) (sym same)
        (Step.decline_check fault (subst (ChecksHost old source target class_name permission) e q));
    told = told;
  }

  pub set_answered : (old new : State) (name : List ℕ) (value : Bool) (r q : Result (Unit {0}) QueryFault) → r ≡ q → SetsHost old new name value r → tells (of_set q)
      → IsAnswered old (Sets name value) new tells
  set_answered old new name value r q e sets told = record { reply = of_set q; step = Step.set_ q (subst (SetsHost old new name value) e sets); told = told }
