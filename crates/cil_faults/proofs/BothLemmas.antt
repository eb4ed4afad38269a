-- What is wrong with two answers together.
use Rattle.std.specs.Prelude.{Result, Ok, Err}
use Rattle.std.proofs.Common.{◌⊎◌, sym, subst, inl, inr}
use Rattle.cil_faults.specs.Refusal.{Answers, Fails}
use Rattle.cil_faults.specs.declared.failure.Failure.{Failure}
use Rattle.cil_faults.specs.declared.failure.Failure.TheVariants.{Faults, NoMemory}
use Rattle.cil_faults.specs.declared.fault.Fault.{Fault}
use Rattle.cil_faults.specs.Both.{AreJoined, IsBoth}
use Rattle.cil_faults.specs.declared.both.Both.{Both}

module _ {A B : Type 0} (P : A → Type 0) (Q : B → Type 0) (S T : Fault → Type 0) where
  abbrev Either : Fault → Type 0
  Either f = S f ⊎ T f

  -- the faults of the one alone, where the other has none
  of_first : (h : Failure) → Fails S h → ((f : Fault) → T f → ⊥) → Fails Either h
  of_first (Faults fs) a none = record {
    listed = record { rising = a.listed.rising; members = λ f. (λ c. inl ((a.listed.members f).0 c), λ e. elim e [ inl s ↦ (a.listed.members f).1 s | inr t ↦ absurd (none f t) ]) };
    some = a.some;
  }
  of_first NoMemory a none = tt

  of_second : (h : Failure) → ((f : Fault) → S f → ⊥) → Fails T h → Fails Either h
  of_second (Faults fs) none a = record {
    listed = record { rising = a.listed.rising; members = λ f. (λ c. inr ((a.listed.members f).0 c), λ e. elim e [ inl s ↦ absurd (none f s) | inr t ↦ (a.listed.members f).1 t ]) };
    some = a.some;
  }
  of_second NoMemory none a = tt

  of_both : (e g h : Failure) → AreJoined e g h → Fails S e → Fails T g → Fails Either h
  of_both e g NoMemory are a b = tt
  of_both NoMemory g (Faults c) are a b = absurd are
  of_both (Faults x) NoMemory (Faults c) are a b = absurd are
  of_both (Faults x) (Faults y) (Faults c) are a b = record {
    listed = record {
      rising = are.listed.rising;
      members = λ f. (
        λ d. elim ((are.listed.members f).0 d) [ inl k ↦ inl ((a.listed.members f).0 k) | inr k ↦ inr ((b.listed.members f).0 k) ],
        λ e. (are.listed.members f).1 (elim e [ inl s ↦ inl ((a.listed.members f).1 s) | inr t ↦ inr ((b.listed.members f).1 t) ]),
      );
    };
    some = are.some;
  }

  -- both values are as is said of each, or these are the faults of both
  pub answers_both : (a : Result A Failure) (b : Result B Failure) (r : Result (Both A B) Failure) → IsBoth a b r → Answers P S a → Answers Q T b
      → Answers (λ both. P both.first × Q both.second) Either r
  answers_both (Ok x) (Ok y) r is p q =
      subst (Answers (λ (both : Both A B). P both.first × Q both.second) Either) (sym is) ((p.0, q.0), λ f e. elim e [ inl s ↦ p.1 f s | inr t ↦ q.1 f t ])
  answers_both (Ok x) (Err g) r is p q = subst (Answers (λ (both : Both A B). P both.first × Q both.second) Either) (sym is) (of_second g p.1 q)
  answers_both (Err e) (Ok y) r is p q = subst (Answers (λ (both : Both A B). P both.first × Q both.second) Either) (sym is) (of_first e p q.1)
  answers_both (Err e) (Err g) (Ok both) is p q = absurd is
  answers_both (Err e) (Err g) (Err h) is p q = of_both e g h is p q
