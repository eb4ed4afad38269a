-- The laws of runs.
use Rattle.std.specs.Prelude.{slice_get, ◌↔◌, Result, Ok, Err}
use Rattle.std.proofs.Common.{◌≡◌, ℕ, true, false, List, [], length, Some, refl, sym, ap, subst, ◌∙◌, arith, inl, inr}
use Rattle.std.proofs.lemmas.Bool.{cases_lt}
use Rattle.std.proofs.lemmas.Cmp.{nat_list_cmp_total}
use Rattle.cil_base.specs.Decided.{same_number}
use Rattle.cil_base.specs.Lists.{same_members, text_cmp}
use Rattle.cil_host.specs.faults.Failure.{Failure}
use Rattle.cil_host.specs.faults.Failure.TheVariants as failures
use Rattle.cil_host.specs.faults.Fault.{Fault}
use Rattle.cil_host.specs.modset.BundleError.{BundleError}
use Rattle.cil_host.specs.modset.BundleError.TheVariants as bundles
use Rattle.cil_host.specs.modset.BundleFault.{BundleFault}
use Rattle.cil_host.specs.modset.Installed.{Installed as IsNew}
use Rattle.cil_host.specs.modset.Bundle.{IsBundle}
use Rattle.cil_host.specs.modset.Changes.{IsImported}
use Rattle.cil_host.specs.modset.Laws.{NeverBoth as NoBadBundle}
use Rattle.cil_host.specs.sexpr.ReadError.{ReadError}
use Rattle.cil_host.specs.sexpr.ReadError.TheVariants as texts
use Rattle.cil_host.specs.tables.CompileRefusal.{CompileFails}
use Rattle.cil_host.specs.tables.Laws.{HasOneListOfFaults, HasOneTable}
use Rattle.cil_host.specs.declared.fault.QueryFault.{QueryFault}
use Rattle.cil_host.specs.declared.host.Loaded.{Loaded as Told}
use Rattle.cil_host.specs.Machine.{State}
use Rattle.cil_host.specs.Refusal.{IsTold, Loads as LoadsHost, told_by}
use Rattle.cil_world.specs.declared.event.Event.{Event}
use Rattle.cil_world.specs.declared.event.Event.TheVariants.{Install, Export, Deliver, Load, Set, Ask, Restart}
use Rattle.cil_world.specs.declared.reply.Reply.{Reply}
use Rattle.cil_world.specs.declared.reply.Reply.TheVariants.{BadBundle, Faults, Loaded, NoSuch}
use Rattle.cil_world.specs.Answers.{Answers, Asks}
use Rattle.cil_world.specs.Events.{host_of}
use Rattle.cil_world.specs.Laws.{LoadAlike, NoneRefused, NothingChanges}
use Rattle.cil_world.specs.Reached.{HasReached, Reached}
use Rattle.cil_world.specs.Replies.{counts, of_import, of_install, of_load, of_set}
use Rattle.cil_world.specs.Run.{IsAnsweredThere, IsRun}
use Rattle.cil_world.proofs.EventLemmas.{kept_loaded, lost_reached, other_stays, uncounted}

-- an event that counts is answered by a host that is there
there : (hosts : ℕ) (events : List Event) (replies : List Reply) (i : ℕ) (event : Event) (reply : Reply) → IsRun hosts events replies → slice_get events i ≡ Some event
    → slice_get replies i ≡ Some reply → (reply ≡ NoSuch → ⊥) → IsAnsweredThere events replies i event reply
there hosts events replies i event reply run at told some = elim (cases_lt (host_of event) hosts) [
  | inl lt ↦ (run.answered i event reply at told).there lt
  | inr le ↦ absurd (some ((run.answered i event reply at told).absent le))
]

counted_some : (reply : Reply) → counts reply ≡ true → reply ≡ NoSuch → ⊥
counted_some reply is none = uncounted reply false (ap counts none) refl is

-- ---- loads

module _ (one_table : HasOneTable) (one_list : HasOneListOfFaults) (modules : List (List ℕ)) where
  -- where modules load they have no faults
  none_faulty : (told : Told) (faults : List Fault) → IsTold modules told → CompileFails modules (failures.Faults faults) → ⊥
  none_faulty told faults t f =
      let empty = one_list modules faults [] f.0 t.compiles.no_faults in
      let some = f.1 in
      let none = ap length empty in
      omega (arith, some, none)

  alike : (old new before after : State) → old.modules ≡ modules → before.modules ≡ modules → (a b : Result Told Failure) → LoadsHost old new a → LoadsHost before after b
      → (one other : Reply) → one ≡ of_load a → other ≡ of_load b → counts one ≡ true → counts other ≡ true → one ≡ other
  alike old new before after p q (Ok a) (Ok b) x y one other e f c d =
      let s : IsTold modules a = subst (λ (ms : List (List ℕ)). IsTold ms a) p x.4 in
      let t : IsTold modules b = subst (λ (ms : List (List ℕ)). IsTold ms b) q y.4 in
      e ∙ ap Loaded (s.told ∙ ap told_by (one_table modules s.table t.table s.compiles t.compiles) ∙ sym t.told) ∙ sym f
  alike old new before after p q (Ok a) (Err (failures.Faults faults)) x y one other e f c d =
      absurd (none_faulty a faults (subst (λ (ms : List (List ℕ)). IsTold ms a) p x.4) (subst (λ (ms : List (List ℕ)). CompileFails ms (failures.Faults faults)) q y.0))
  alike old new before after p q (Err (failures.Faults faults)) (Ok b) x y one other e f c d =
      absurd (none_faulty b faults (subst (λ (ms : List (List ℕ)). IsTold ms b) q y.4) (subst (λ (ms : List (List ℕ)). CompileFails ms (failures.Faults faults)) p x.0))
  alike old new before after p q (Err (failures.Faults faults)) (Err (failures.Faults others)) x y one other e f c d =
      let s : CompileFails modules (failures.Faults faults) = subst (λ (ms : List (List ℕ)). CompileFails ms (failures.Faults faults)) p x.0 in
      let t : CompileFails modules (failures.Faults others) = subst (λ (ms : List (List ℕ)). CompileFails ms (failures.Faults others)) q y.0 in
      e ∙ ap Faults (one_list modules faults others s.0 t.0) ∙ sym f
  alike old new before after p q (Err failures.NoMemory) b x y one other e f c d = absurd (uncounted one false (ap counts e) refl c)
  alike old new before after p q (Ok a) (Err failures.NoMemory) x y one other e f c d = absurd (uncounted other false (ap counts f) refl d)
  alike old new before after p q (Err (failures.Faults faults)) (Err failures.NoMemory) x y one other e f c d = absurd (uncounted other false (ap counts f) refl d)

-- what has reached a host is one list of modules
same_modules : (events others : List Event) (replies answers : List Reply) (i j g h : ℕ) (a b : List (List ℕ)) → HasReached events replies i g a → HasReached others answers j h b
    → ((x : List ℕ) → Reached events replies i g x ↔ Reached others answers j h x) → a ≡ b
same_modules events others replies answers i j g h a b p q same =
    same_members text_cmp nat_list_cmp_total a b p.are_modules.rising q.are_modules.rising (λ x c. (q.members x).1 ((same x).0 ((p.members x).0 c)))
    (λ x c. (p.members x).1 ((same x).1 ((q.members x).0 c)))

pub load_alike : HasOneTable → HasOneListOfFaults → LoadAlike
load_alike one_table one_list hosts more events others replies answers run run2 i j g h one other at told at2 told2 same c d =
    let s = there hosts events replies i (Load g) one run at told (counted_some one c) in
    let t = there more others answers j (Load h) other run2 at2 told2 (counted_some other d) in
    alike one_table one_list s.old.modules s.old s.new t.old t.new refl
    (sym (same_modules events others replies answers i j g h s.old.modules t.old.modules s.was.reached t.was.reached same)) s.answers.result t.answers.result s.answers.loads
    t.answers.loads one other s.answers.told t.answers.told c d

-- ---- events that do not count

pub nothing_changes : NothingChanges
nothing_changes hosts events replies run i event reply at told fails g host lt was = elim (same_number (host_of event) g) [
  | inr apart ↦ other_stays events replies i event reply at told g host apart was
  | inl here ↦
      kept_loaded events replies i event reply at told g host host (λ t e f. uncounted reply false fails refl (ap counts f)) (λ name value e f. uncounted reply false fails refl (ap counts f))
      (unrestarted here) (lost_reached events replies i event reply at told g host.modules fails (unrestarted here) was.reached) refl was
]
  where
    unrestarted : host_of event ≡ g → event ≡ Restart g → ⊥
    unrestarted here e =
        let t = (run.answered i event reply at told).there (omega (arith, here, lt)) in
        let done = subst (λ (d : Event). Answers events replies i d t.old reply t.new) e t.answers in
        uncounted reply false fails refl (ap counts done.0)

-- ---- bundles

install_never : (r : Result IsNew ReadError) (fault : BundleFault) → of_install r ≡ BadBundle fault → ⊥
install_never (Ok n) fault e = cc
install_never (Err (texts.Fault f)) fault e = cc
install_never (Err texts.NoMemory) fault e = cc

load_never : (r : Result Told Failure) (fault : BundleFault) → of_load r ≡ BadBundle fault → ⊥
load_never (Ok n) fault e = cc
load_never (Err (failures.Faults f)) fault e = cc
load_never (Err failures.NoMemory) fault e = cc

set_never : (r : Result (Unit {0}) QueryFault) (fault : BundleFault) → of_set r ≡ BadBundle fault → ⊥
set_never (Ok n) fault e = cc
set_never (Err f) fault e = cc

import_never : NoBadBundle → (modules old new : List (List ℕ)) (bytes : List ℕ) (r : Result ℕ BundleError) (fault : BundleFault) → IsBundle bytes modules
    → IsImported old bytes r new → of_import r ≡ BadBundle fault → ⊥
import_never law modules old new bytes (Ok n) fault is m e = cc
import_never law modules old new bytes (Err (bundles.Fault f)) fault is m e = law bytes modules f is m.refusal
import_never law modules old new bytes (Err bundles.NoMemory) fault is m e = cc

ask_never : (host : State) (source target class_name : List ℕ) (reply : Reply) (fault : BundleFault) → Asks host source target class_name reply → reply ≡ BadBundle fault → ⊥
ask_never host source target class_name reply fault (inl s) e = let t = s.spelled.told in cc
ask_never host source target class_name reply fault (inr (inl s)) e = let t = s.told in cc
ask_never host source target class_name reply fault (inr (inr s)) e = let t = s.told in cc

never : NoBadBundle → (events : List Event) (replies : List Reply) (i : ℕ) (event : Event) (reply : Reply) (fault : BundleFault) (old new : State)
    → Answers events replies i event old reply new → reply ≡ BadBundle fault → ⊥
never law events replies i (Install h text) reply fault old new s e = install_never s.result fault (sym s.told ∙ e)
never law events replies i (Export h) reply fault old new (inl s, same) e = cc
never law events replies i (Export h) reply fault old new (inr s, same) e = cc
never law events replies i (Deliver k h) reply fault old new (inl s) e =
    import_never law s.modules old.modules new.modules _ s.imports.result fault s.is_bundle s.imports.modules (sym s.imports.told ∙ e)
never law events replies i (Deliver k h) reply fault old new (inr s) e = let t = s.told in cc
never law events replies i (Load h) reply fault old new s e = load_never s.result fault (sym s.told ∙ e)
never law events replies i (Set h name value) reply fault old new s e = set_never s.result fault (sym s.told ∙ e)
never law events replies i (Ask h source target class_name) reply fault old new s e = ask_never old source target class_name reply fault s.0 e
never law events replies i (Restart h) reply fault old new s e = let t = s.0 in cc

pub none_refused : NoBadBundle → NoneRefused
none_refused law hosts events replies run i event reply at told fault e =
    let s = there hosts events replies i event reply run at told (λ none. let f : BadBundle fault ≡ NoSuch = sym e ∙ none in cc) in
    never law events replies i event reply fault s.old s.new s.answers e
