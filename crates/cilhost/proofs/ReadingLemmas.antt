-- What the files leave among the modules, and at which file a session stops.
use Rattle.std.proofs.Common.{Bool, true, false, ◌∙◌, ◌≡◌, ℕ, List, [], None, Some, Contains, Result, Ok, Err, IfErr, IsErrAnd, refl, sym, subst, Bor, ◌+◌, ◌<◌, ◌≤◌, ◌⊎◌, ◌↔◌, ◌∷◌, inl, inr, OnErr, length, get_or, arith}
use Rattle.std.specs.Prelude.{◌==◌, if◌then◌else◌}
use Rattle.std.proofs.lemmas.List.{get_or_default}
use Rattle.std.proofs.lemmas.List.Elements.{Contains-get_or}
use Rattle.std.specs.declared.io.ErrorKind.{ErrorKind}
use Rattle.cil_sexpr.specs.declared.fault.ReadError.{ReadError}
use Rattle.cil_sexpr.specs.declared.fault.ReadError.TheVariants as read
use Rattle.cil_sexpr.specs.declared.fault.ReadFault.{ReadFault}
use Rattle.cil_sexpr.specs.Faults.{FaultOf}
use Rattle.cil_base.specs.Lists.{contains_cases, contains_here, contains_none}
use Rattle.cil_sexpr.specs.Refusal.{Refuses}
use Rattle.cil_sexpr.specs.Text.{IsReadable}
use Rattle.cil_modset.proofs.RisingLemmas.{rising_none}
use Rattle.cil_modset.specs.Modules.{AreModules, IsUnion}
use Rattle.cil_modset.specs.declared.set.Installed.{Installed}
use Rattle.cil_modset.specs.declared.set.Installed.TheVariants.{New, Known as Again}
use Rattle.cil_commands.specs.host.Machine.{State}
use Rattle.cilhost.specs.Ends.{IsFailure, error_status, refusal, status_of}
use Rattle.cil_commands.specs.server.Session.{reader_failures, writer_failures}
use Rattle.cil_commands.specs.server.Served.{Served}
use Rattle.cil_commands.specs.server.Served.TheVariants as served
use Rattle.cilhost.specs.Reading.{Adds, Failure, HasFailed, HasJust, HasRefused, HasText, IsDue, IsDueAt, IsFaultOfFile, IsModule, IsOfOne, IsTextOf, Known, StopsAt}
use Rattle.cilhost.specs.declared.status.Status.{Status}
use Rattle.cilhost.specs.declared.status.Status.TheVariants as statuses
use Rattle.cilhost.specs.declared.error.Error.{Error}
use Rattle.cilhost.specs.declared.error.Error.TheVariants.{Arguments, Refused, Failed, NoMemory}

-- ---- one file

-- a fault of what was read is one of the file
pub fault_of_file : (known : Known) (text : List ℕ) (fault : ReadFault) → IsTextOf known text → FaultOf text fault.code fault.at → IsFaultOfFile known fault
fault_of_file None text fault is_text at_fault = tt {0}
fault_of_file (Some bytes) text fault is_text at_fault = rw (← is_text) at_fault

-- what the host refuses is a fault of the file that was read
pub refusal_due : (known : Known) (before failure : Failure) (file : Bor (List ℕ)) (text : List ℕ) (error : ReadError)
    → IsTextOf known text → Refuses text error → failure ≡ before → IsDueAt known before failure file (refusal file error)
refusal_due known before failure file text (read.Fault fault) is_text refused sound = (refl, fault_of_file known text fault is_text refused, sound)
refusal_due known before failure file text read.NoMemory is_text refused sound = inl sound

-- a failure of the system at a file stops the session there
pub failure_due : (known : Known) (before failure : Failure) (file : Bor (List ℕ)) (kind : ErrorKind) (error : Error)
    → failure ≡ Some kind → IsFailure kind file error → IsDueAt known before failure file error
failure_due known before failure file kind error noted (inl (memory, is)) = rw (is, noted, memory) (inr refl)
failure_due known before failure file kind error noted (inr (other, is)) = rw is (refl, record { kind = kind; is_kind = noted; no_memory = other })

-- an installation adds a text to the modules
pub is_added : (known : Known) (old new : State) (text : List ℕ) (found : Installed) (result : Result Installed ReadError) → IsTextOf known text
    → result ≡ Ok found → ((result ≡ Ok Again) ↔ Contains old.modules text) → (result ≡ Ok Again → new ≡ old)
    → (result ≡ Ok New → IsUnion old.modules (text ∷ []) new.modules) → Adds known old.modules new.modules
is_added known old new text Again result is_text is again stays union = rw (stays is) (record {
  text = text;
  is_text = is_text;
  is_there = again.0 is;
  keeps = λ other there. there;
  only = λ other there. inl there;
})
is_added known old new text New result is_text is again stays union = record {
  text = text;
  is_text = is_text;
  is_there = ((union is).members text).1 (inr (contains_here text []));
  keeps = λ other there. ((union is).members other).1 (inl there);
  only = λ other there. elim (((union is).members other).0 there) [
    | inl before ↦ inl before
    | inr same ↦ elim (contains_cases other text [] same) [ inl e ↦ inr (sym e) | inr none ↦ absurd (contains_none other none) ]
  ];
}

-- with a set of readable modules before, those after it are one
pub stay_modules : (old new : State) (text : List ℕ) (result : Result Installed ReadError)
    → (result ≡ Ok Again → new ≡ old) → (result ≡ Ok New → IsUnion old.modules (text ∷ []) new.modules) → (result ≡ Ok New → IsReadable text)
    → OnErr result (new ≡ old) → AreModules old.modules → AreModules new.modules
stay_modules old new text (Ok Again) stays union readable err before = rw (stays refl) before
stay_modules old new text (Ok New) stays union readable err before = record {
  rising = (union refl).rising;
  readable = λ other there. elim (((union refl).members other).0 there) [
    | inl earlier ↦ before.readable other earlier
    | inr same ↦ elim (contains_cases other text [] same) [
      | inl e ↦ subst IsReadable e (readable refl)
      | inr none ↦ absurd (contains_none other none)
    ]
  ];
}
stay_modules old new text (Err e) stays union readable err before = rw err before

-- ---- the files so far

-- what every file before place i has, and the file at i, every file before i + 1 has
pub one_more : (P : Bor (List ℕ) → Type 0) (files : List (Bor (List ℕ))) (i : ℕ) (last : Bor (List ℕ)) → i < length files
    → ((k : ℕ) (d : Bor (List ℕ)) → k < i → P (get_or files k d)) → P (get_or files i last) → (k : ℕ) (d : Bor (List ℕ)) → k < i + 1 → P (get_or files k d)
one_more P files i last within before there k d below = elim (earlier k i below) [
  | inl less ↦ before k d less
  | inr same ↦ rw same (rw (get_or_default files i d last within) there)
]
  where
    earlier : (k i : ℕ) → k < i + 1 → (k < i) ⊎ (k ≡ i)
    earlier k i below = grind arith

-- among more modules, what is read of a file is still there
pub text_kept : (known : Known) (old new : List (List ℕ)) → ((text : List ℕ) → Contains old text → Contains new text) → HasText known old → HasText known new
text_kept known old new keeps there = record { text = there.text; is_text = there.is_text; is_there = keeps there.text there.is_there }

-- after an installation the modules are still what is read of the files
pub still_of_one : (holds : List ℕ → Known) (files : List (Bor (List ℕ))) (given : Bor (List ℕ)) (old new : List (List ℕ)) → Contains files given
    → Adds (holds given.now) old new → ((text : List ℕ) → Contains old text → IsOfOne holds files text) → (text : List ℕ) → Contains new text → IsOfOne holds files text
still_of_one holds files given old new among adds before text there = elim (adds.only text there) [
  | inl earlier ↦ before text earlier
  | inr same ↦ record { file = given; is_given = among; is_text = rw same adds.is_text }
]

-- a file that was installed is a module
pub module_of_file : (known : Known) (old new : List (List ℕ)) → Adds known old new → AreModules new → IsModule known
module_of_file known old new adds are = record { text = adds.text; is_text = adds.is_text; readable = are.readable adds.text adds.is_there }

-- the files so far are installed, each is a module, and the host has nothing else
pub record AreInstalled (holds : List ℕ → Known) (files : List (Bor (List ℕ))) (i : ℕ) (modules : List (List ℕ)) : Type 0 where
  pub has : (k : ℕ) (d : Bor (List ℕ)) → k < i → HasText (holds (get_or files k d).now) modules
  pub are : (k : ℕ) (d : Bor (List ℕ)) → k < i → IsModule (holds (get_or files k d).now)
  pub only : (text : List ℕ) → Contains modules text → IsOfOne holds files text
  pub are_modules : AreModules modules

module _ (holds : List ℕ → Known) (files : List (Bor (List ℕ))) where
  pub none_installed : (modules : List (List ℕ)) → modules ≡ [] → AreInstalled holds files 0 modules
  none_installed modules none = record {
    has = λ k d below. absurd (omega (arith, below));
    are = λ k d below. absurd (omega (arith, below));
    only = λ text there. absurd (contains_none text (rw none at there));
    are_modules = rw none (record { rising = rising_none; readable = λ text there. absurd (contains_none text there) });
  }

  pub one_more_installed : (i : ℕ) (last : Bor (List ℕ)) (old new : List (List ℕ)) → i < length files
      → Adds (holds (get_or files i last).now) old new → (AreModules old → AreModules new) → AreInstalled holds files i old → AreInstalled holds files (i + 1) new
  one_more_installed i last old new within adds stay before = record {
    has = one_more (λ file. HasText (holds file.now) new) files i last within (λ k d below. text_kept _ old new adds.keeps (before.has k d below))
        (record { text = adds.text; is_text = adds.is_text; is_there = adds.is_there });
    are = one_more (λ file. IsModule (holds file.now)) files i last within before.are (module_of_file _ old new adds (stay before.are_modules));
    only = still_of_one holds files (get_or files i last) old new (Contains-get_or files i last within) adds before.only;
    are_modules = stay before.are_modules;
  }

  pub all_installed : (i : ℕ) (modules : List (List ℕ)) → length files ≤ i → AreInstalled holds files i modules → HasJust holds files modules
  all_installed i modules whole before = record {
    all = λ k d below. before.has k d (omega (arith, below, whole));
    only = before.only;
    are_modules = before.are_modules;
  }

-- ---- where a session stops

-- a stop that is handed on
pub handed_on : {X : Type 0} (P : Error → Type 0) (r : Result X Error) (stop : Error) → IsErrAnd r (λ e. e ≡ stop) → P stop → IfErr r P
handed_on P (Ok x) stop is p = tt
handed_on P (Err e) stop is p = subst P (sym is) p

-- the session stops at the file that is not installed
pub stops_at : (holds : List ℕ → Known) (before failure : Failure) (files : List (Bor (List ℕ))) (i : ℕ) (last : Bor (List ℕ)) (modules : List (List ℕ)) (error : Error)
    → i < length files → AreInstalled holds files i modules → IsDueAt (holds (get_or files i last).now) before failure (get_or files i last) error
    → (place : ℕ) × StopsAt holds before failure files place error
stops_at holds before failure files i last modules error within so_far due = (
  i,
  record {
    within = within;
    installed = λ k file below. so_far.are k file below;
    due = λ file. rw (get_or_default files i file last within) due;
  },
)

-- where the status is that of a refusal, a file was refused
pub refused_due : (holds : List ℕ → Known) (before failure : Failure) (files : List (Bor (List ℕ))) (error : Error) (status : Status)
    → IsDue holds before failure files error → status ≡ error_status error → status ≡ statuses.Refused → HasRefused holds files
refused_due holds before failure files (Refused file fault) status (inl first) is e = absurd first
refused_due holds before failure files (Refused file fault) status (inr (place, stop)) is e =
    let due = stop.due file in
    record {
      file = file;
      fault = fault;
      is_given = rw due.0 (Contains-get_or files place file (omega (arith, stop.within)));
      is_fault = rw due.0 due.1;
    }
refused_due holds before failure files Arguments status due is e = absurd cc
refused_due holds before failure files (Failed file) status due is e = absurd cc
refused_due holds before failure files NoMemory status due is e = absurd cc

-- where the status is that of a failure before the session, the system failed
pub failed_due : (holds : List ℕ → Known) (before failure : Failure) (files : List (Bor (List ℕ))) (error : Error) (status : Status)
    → IsDue holds before failure files error → status ≡ error_status error → status ≡ statuses.Failed → HasFailed failure
failed_due holds before failure files (Refused file fault) status due is e = absurd cc
failed_due holds before failure files Arguments status due is e = absurd cc
failed_due holds before failure files (Failed file) status (inl first) is e = first.1
failed_due holds before failure files (Failed file) status (inr (place, stop)) is e = (stop.due file).1
failed_due holds before failure files NoMemory status due is e = absurd cc

-- where the status is that of a failure after a session, the reader or the writer failed
pub stream_failed : (ending : Served) (status : Status) (reads reads_now writes writes_now : ℕ) → status ≡ status_of ending → status ≡ statuses.Failed
    → reads_now ≡ reads + reader_failures ending → writes_now ≡ writes + writer_failures ending → (reads_now ≡ reads + 1) ⊎ (writes_now ≡ writes + 1)
stream_failed served.ReadFailed status reads reads_now writes writes_now is e read written = inl read
stream_failed served.WriteFailed status reads reads_now writes writes_now is e read written = inr written
stream_failed served.Quit status reads reads_now writes writes_now is e read written = absurd cc
stream_failed served.End status reads reads_now writes writes_now is e read written = absurd cc
stream_failed (served.Fault code) status reads reads_now writes writes_now is e read written = absurd (of_fault (code == 0) (sym is ∙ e))
  where
    of_fault : (none : Bool) → (if none then statuses.NoMemory else statuses.Usage) ≡ statuses.Failed → ⊥
    of_fault true is = absurd cc
    of_fault false is = absurd cc
