-- Two answers of one step, and what is wrong with either. This project's profile.
use Rattle.std.specs.Prelude.{◌≡◌, ◌⊎◌, Contains, Result, Ok, Err}
use Rattle.cil_faults.specs.Fails.{AreFaults}
use Rattle.cil_faults.specs.declared.failure.Failure.{Failure}
use Rattle.cil_faults.specs.declared.failure.Failure.TheVariants.{Faults, NoMemory}
use Rattle.cil_faults.specs.declared.both.Both.{Both}

-- the faults of both; want of memory says nothing
abbrev pub AreJoined : Failure → Failure → Failure → Type 0
AreJoined first second NoMemory = Unit {0}
AreJoined (Faults a) (Faults b) (Faults c) = AreFaults (λ f. Contains a f ⊎ Contains b f) c
AreJoined NoMemory second (Faults c) = ⊥
AreJoined (Faults a) NoMemory (Faults c) = ⊥

-- both values, or the failure of either, or the faults of both
abbrev pub IsBoth : {A B : Type 0} → Result A Failure → Result B Failure → Result (Both A B) Failure → Type 0
IsBoth (Ok a) (Ok b) r = r ≡ Ok (record { first = a; second = b })
IsBoth (Ok a) (Err e) r = r ≡ Err e
IsBoth (Err e) (Ok b) r = r ≡ Err e
IsBoth (Err e) (Err g) (Ok both) = ⊥
IsBoth (Err e) (Err g) (Err h) = AreJoined e g h

-- a failure, with what is wrong with another answer
abbrev pub FailsWith : {B : Type 0} → Failure → Result B Failure → Failure → Type 0
FailsWith e (Ok b) h = h ≡ e
FailsWith e (Err g) h = AreJoined e g h
