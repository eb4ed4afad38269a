use Rattle.std.proofs.Common.{codes, inl, inr, refl}
use Rattle.cilhost.specs.Answered.{HasAnswered}
use Rattle.cilhost.proofs.FoundLemmas.{not_other, not_this, word_taken}
use Rattle.cilhost.proofs.program.other_command.Goals as goal

-- ---- a search for faults

pub returns-then-eq-clause-compile : goal.returns-then-eq-clause-compile
returns-then-eq-clause-compile g c = λ out is given. absurd (not_this _ (codes "locate") _ (codes "compile") is c.eq.ensures refl c.if-eq.true)

pub returns-then-eq-clause-decide : goal.returns-then-eq-clause-decide
returns-then-eq-clause-decide g c = λ path source target class_name is given. absurd (not_this _ (codes "locate") _ (codes "decide") is c.eq.ensures refl c.if-eq.true)

pub returns-then-eq-clause-unserved : goal.returns-then-eq-clause-unserved
returns-then-eq-clause-unserved g c = λ refused. elim c.run_locate.ensures.locate [
  | inl located ↦ inr (HasAnswered.located _ _ located)
  | inr stopped ↦ inl stopped.unused
]

pub returns-then-eq-clause-unread : goal.returns-then-eq-clause-unread
returns-then-eq-clause-unread g c = refl

-- ---- a compilation

pub returns-then-eq-2-clause-compile : goal.returns-then-eq-2-clause-compile
returns-then-eq-2-clause-compile g c = λ out is given.
    (c.unwrap_or-out.result, rw c.unwrap_or-out.ensures (word_taken _ _ _ out c.get_str.ensures given), c.run_compile.ensures)

pub returns-then-eq-2-clause-decide : goal.returns-then-eq-2-clause-decide
returns-then-eq-2-clause-decide g c = λ path source target class_name is given.
    absurd (not_this _ (codes "compile") _ (codes "decide") is c.eq-2.ensures refl c.if-eq-2.true)

pub returns-then-eq-2-clause-unserved : goal.returns-then-eq-2-clause-unserved
returns-then-eq-2-clause-unserved g c = λ refused. elim c.run_compile.ensures [
  | inl compiled ↦ inr (HasAnswered.compiled _ _ compiled)
  | inr stopped ↦ inl stopped.unused
]

pub returns-then-eq-2-clause-unread : goal.returns-then-eq-2-clause-unread
returns-then-eq-2-clause-unread g c = refl

-- ---- a query of tables

pub returns-then-eq-3-clause-compile : goal.returns-then-eq-3-clause-compile
returns-then-eq-3-clause-compile g c = λ out is given. absurd (not_this _ (codes "decide") _ (codes "compile") is c.eq-3.ensures refl c.if-eq-3.true)

pub returns-then-eq-3-clause-decide : goal.returns-then-eq-3-clause-decide
returns-then-eq-3-clause-decide g c = λ path source target class_name is given.
    let words = c.query_of.ensures path source target class_name given in (
      c.unwrap_or-path.result,
      rw c.unwrap_or-path.ensures (word_taken _ _ _ path c.get_str-then-eq-3.ensures given.tables),
      rw (words.0, words.1, words.2) at c.run_decide.ensures.decide,
    )

pub returns-then-eq-3-clause-unserved : goal.returns-then-eq-3-clause-unserved
returns-then-eq-3-clause-unserved g c = λ refused. elim c.run_decide.ensures.decide [
  | inl asked ↦ inr (HasAnswered.asked _ _ _ _ asked)
  | inr stopped ↦ inl stopped.unused
]

pub returns-then-eq-3-clause-unread : goal.returns-then-eq-3-clause-unread
returns-then-eq-3-clause-unread g c = refl

-- ---- any other

pub returns-clause-compile : goal.returns-clause-compile
returns-clause-compile g c = λ out is given. absurd (not_other _ (codes "compile") _ is c.eq-2.ensures refl c.if-eq-2.false)

pub returns-clause-decide : goal.returns-clause-decide
returns-clause-decide g c = λ path source target class_name is given. absurd (not_other _ (codes "decide") _ is c.eq-3.ensures refl c.if-eq-3.false)

pub returns-clause-unserved : goal.returns-clause-unserved
returns-clause-unserved g c = λ refused. inl refl

pub returns-clause-unread : goal.returns-clause-unread
returns-clause-unread g c = refl
