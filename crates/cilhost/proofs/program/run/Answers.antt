use Rattle.std.proofs.Common.{◌∙◌, [], ap, codes, inl, inr, refl}
use Rattle.cilhost.specs.Answered.{HasAnswered}
use Rattle.cilhost.specs.Arguments.{AskForOne}
use Rattle.cilhost.proofs.FoundLemmas.{command_is_found, files_handed_on, memory_is_no_help, memory_status, name_found, not_missing, not_other, not_this, query_handed_on, word_handed_on}
use Rattle.cilhost.proofs.program.run.Goals as goal

-- ---- a session that is asked for

pub returns-in-Err-clause-session : goal.returns-in-Err-clause-session
returns-in-Err-clause-session g c = λ size capacity names asks is.
    let memory = c.in-Err.ensures.accepts (AskForOne.for_session size names asks) in
    inr (
      memory_status _ _ memory c.answer.ensures.status,
      refl,
      ap (λ input. record { bytes = g.R.Source.rest input; failures = g.R.Source.failed input }) c.answer.ensures.unread,
      ap (λ output. record { bytes = g.W.Sink.contents output; failures = g.W.Sink.failed output }) (c.answer.ensures.unwritten (memory_is_no_help _ memory)),
    )

pub returns-in_default-clause-session : goal.returns-in_default-clause-session
returns-in_default-clause-session g c = λ size capacity names asks is.
    absurd (not_missing _ _ _ (command_is_found _ _ names _ (c.in-Ok.ensures.session size names asks).0 c.subcommand.ensures.name) c.in_default.is)

pub returns-then-eq-clause-session : goal.returns-then-eq-clause-session
returns-then-eq-clause-session g c = λ size capacity names asks is.
    let found = c.in-Ok.ensures.session size names asks in
    let same = files_handed_on _ _ names _ _ c.in-Some.arguments c.get_strs.result _ found.0 c.subcommand.ensures.rows c.in-Some.is c.get_strs.ensures refl in
    let sized = c.get_str.ensures ∙ word_handed_on (codes "cache") _ size _ _ c.in-Some.arguments found.1 c.subcommand.ensures.rows c.in-Some.is in
    inl (c.unwrap_or-files.result.now, rw c.unwrap_or-files.ensures same, c.sized_session.ensures.session capacity (rw sized is))

pub returns-then-eq-2-clause-session : goal.returns-then-eq-2-clause-session
returns-then-eq-2-clause-session g c = λ size capacity names asks is.
    let same = name_found _ _ _ _ (command_is_found _ _ names _ (c.in-Ok.ensures.session size names asks).0 c.subcommand.ensures.name) c.in-Some.is in
    absurd (not_other _ (codes "session") _ same c.eq.ensures refl c.if-eq.false)

pub returns-clause-session : goal.returns-clause-session
returns-clause-session g c = λ size capacity names asks is.
    let same = name_found _ _ _ _ (command_is_found _ _ names _ (c.in-Ok.ensures.session size names asks).0 c.subcommand.ensures.name) c.in-Some.is in
    absurd (not_other _ (codes "session") _ same c.eq.ensures refl c.if-eq.false)

-- ---- one with a word behind `--cache` that is no capacity

pub returns-in-Err-clause-size : goal.returns-in-Err-clause-size
returns-in-Err-clause-size g c = λ size names asks wrong.
    let memory = c.in-Err.ensures.accepts (AskForOne.for_session size names asks) in
    (inr (memory_status _ _ memory c.answer.ensures.status), refl, (c.answer.ensures.unread, c.answer.ensures.unwritten (memory_is_no_help _ memory)))

pub returns-in_default-clause-size : goal.returns-in_default-clause-size
returns-in_default-clause-size g c = λ size names asks wrong.
    absurd (not_missing _ _ _ (command_is_found _ _ names _ (c.in-Ok.ensures.session size names asks).0 c.subcommand.ensures.name) c.in_default.is)

pub returns-then-eq-clause-size : goal.returns-then-eq-clause-size
returns-then-eq-clause-size g c = λ size names asks wrong.
    let found = c.in-Ok.ensures.session size names asks in
    let sized = c.get_str.ensures ∙ word_handed_on (codes "cache") _ size _ _ c.in-Some.arguments found.1 c.subcommand.ensures.rows c.in-Some.is in
    let none = c.sized_session.ensures.size (rw sized wrong) in
    (inl none.0, none.1, none.2)

pub returns-then-eq-2-clause-size : goal.returns-then-eq-2-clause-size
returns-then-eq-2-clause-size g c = λ size names asks wrong.
    let same = name_found _ _ _ _ (command_is_found _ _ names _ (c.in-Ok.ensures.session size names asks).0 c.subcommand.ensures.name) c.in-Some.is in
    absurd (not_other _ (codes "session") _ same c.eq.ensures refl c.if-eq.false)

pub returns-clause-size : goal.returns-clause-size
returns-clause-size g c = λ size names asks wrong.
    let same = name_found _ _ _ _ (command_is_found _ _ names _ (c.in-Ok.ensures.session size names asks).0 c.subcommand.ensures.name) c.in-Some.is in
    absurd (not_other _ (codes "session") _ same c.eq.ensures refl c.if-eq.false)

-- ---- a check that is asked for

pub returns-in-Err-clause-check : goal.returns-in-Err-clause-check
returns-in-Err-clause-check g c = λ names asks.
    let memory = c.in-Err.ensures.accepts (AskForOne.for_check names asks) in
    (inr (memory_status _ _ memory c.answer.ensures.status, refl, c.answer.ensures.unwritten (memory_is_no_help _ memory)), c.answer.ensures.unread)

pub returns-in_default-clause-check : goal.returns-in_default-clause-check
returns-in_default-clause-check g c = λ names asks.
    absurd (not_missing _ _ _ (command_is_found _ _ names _ (c.in-Ok.ensures.check names asks) c.subcommand.ensures.name) c.in_default.is)

pub returns-then-eq-clause-check : goal.returns-then-eq-clause-check
returns-then-eq-clause-check g c = λ names asks.
    let same = name_found _ _ _ _ (command_is_found _ _ names _ (c.in-Ok.ensures.check names asks) c.subcommand.ensures.name) c.in-Some.is in
    absurd (not_this _ (codes "session") _ (codes "check") same c.eq.ensures refl c.if-eq.true)

pub returns-then-eq-2-clause-check : goal.returns-then-eq-2-clause-check
returns-then-eq-2-clause-check g c = λ names asks.
    let same = files_handed_on _ _ names _ _ c.in-Some.arguments c.get_strs.result _ (c.in-Ok.ensures.check names asks) c.subcommand.ensures.rows c.in-Some.is c.get_strs.ensures refl in
    (inl (c.unwrap_or-files.result.now, rw c.unwrap_or-files.ensures same, c.run_check.ensures.check), refl)

pub returns-clause-check : goal.returns-clause-check
returns-clause-check g c = λ names asks.
    let same = name_found _ _ _ _ (command_is_found _ _ names _ (c.in-Ok.ensures.check names asks) c.subcommand.ensures.name) c.in-Some.is in
    absurd (not_other _ (codes "check") _ same c.eq-2.ensures refl c.if-eq-2.false)

-- ---- a compilation that is asked for

pub returns-in-Err-clause-compile : goal.returns-in-Err-clause-compile
returns-in-Err-clause-compile g c = λ out names asks.
    let memory = c.in-Err.ensures.accepts (AskForOne.for_compile out names asks) in
    (inr (memory_status _ _ memory c.answer.ensures.status, refl, refl, c.answer.ensures.unwritten (memory_is_no_help _ memory)), c.answer.ensures.unread)

pub returns-in_default-clause-compile : goal.returns-in_default-clause-compile
returns-in_default-clause-compile g c = λ out names asks.
    absurd (not_missing _ _ _ (command_is_found _ _ names _ (c.in-Ok.ensures.compile out names asks).0 c.subcommand.ensures.name) c.in_default.is)

pub returns-then-eq-clause-compile : goal.returns-then-eq-clause-compile
returns-then-eq-clause-compile g c = λ out names asks.
    let same = name_found _ _ _ _ (command_is_found _ _ names _ (c.in-Ok.ensures.compile out names asks).0 c.subcommand.ensures.name) c.in-Some.is in
    absurd (not_this _ (codes "session") _ (codes "compile") same c.eq.ensures refl c.if-eq.true)

pub returns-then-eq-2-clause-compile : goal.returns-then-eq-2-clause-compile
returns-then-eq-2-clause-compile g c = λ out names asks.
    let same = name_found _ _ _ _ (command_is_found _ _ names _ (c.in-Ok.ensures.compile out names asks).0 c.subcommand.ensures.name) c.in-Some.is in
    absurd (not_this _ (codes "check") _ (codes "compile") same c.eq-2.ensures refl c.if-eq-2.true)

pub returns-clause-compile : goal.returns-clause-compile
returns-clause-compile g c = λ out names asks.
    let found = c.in-Ok.ensures.compile out names asks in
    let same = name_found _ _ _ _ (command_is_found _ _ names _ (c.in-Ok.ensures.compile out names asks).0 c.subcommand.ensures.name) c.in-Some.is in
    let files = files_handed_on _ _ names _ _ c.in-Some.arguments c.get_strs.result _ found.0 c.subcommand.ensures.rows c.in-Some.is c.get_strs.ensures refl in
    let word = word_handed_on (codes "out") _ _ _ _ c.in-Some.arguments found.1 c.subcommand.ensures.rows c.in-Some.is in
    let run = c.other_command.ensures.compile out same word in
    (inl (run.0, c.unwrap_or-files.result.now, run.1, rw c.unwrap_or-files.ensures files, run.2), c.other_command.ensures.unread)

-- ---- a query of tables that is asked for

pub returns-in-Err-clause-decide : goal.returns-in-Err-clause-decide
returns-in-Err-clause-decide g c = λ path source target class_name asks.
    let memory = c.in-Err.ensures.accepts (AskForOne.for_decide path source target class_name asks) in
    (inr (memory_status _ _ memory c.answer.ensures.status, refl, c.answer.ensures.unwritten (memory_is_no_help _ memory)), c.answer.ensures.unread)

pub returns-in_default-clause-decide : goal.returns-in_default-clause-decide
returns-in_default-clause-decide g c = λ path source target class_name asks.
    absurd (not_missing _ _ _ (command_is_found _ _ [] _ (c.in-Ok.ensures.decide path source target class_name asks).0 c.subcommand.ensures.name) c.in_default.is)

pub returns-then-eq-clause-decide : goal.returns-then-eq-clause-decide
returns-then-eq-clause-decide g c = λ path source target class_name asks.
    let same = name_found _ _ _ _ (command_is_found _ _ [] _ (c.in-Ok.ensures.decide path source target class_name asks).0 c.subcommand.ensures.name) c.in-Some.is in
    absurd (not_this _ (codes "session") _ (codes "decide") same c.eq.ensures refl c.if-eq.true)

pub returns-then-eq-2-clause-decide : goal.returns-then-eq-2-clause-decide
returns-then-eq-2-clause-decide g c = λ path source target class_name asks.
    let same = name_found _ _ _ _ (command_is_found _ _ [] _ (c.in-Ok.ensures.decide path source target class_name asks).0 c.subcommand.ensures.name) c.in-Some.is in
    absurd (not_this _ (codes "check") _ (codes "decide") same c.eq-2.ensures refl c.if-eq-2.true)

pub returns-clause-decide : goal.returns-clause-decide
returns-clause-decide g c = λ path source target class_name asks.
    let found = c.in-Ok.ensures.decide path source target class_name asks in
    let same = name_found _ _ _ _ (command_is_found _ _ [] _ (c.in-Ok.ensures.decide path source target class_name asks).0 c.subcommand.ensures.name) c.in-Some.is in
    let words = query_handed_on _ path source target class_name _ _ c.in-Some.arguments found.1 c.subcommand.ensures.rows c.in-Some.is in
    let run = c.other_command.ensures.decide path source target class_name same words in
    (inl run, c.other_command.ensures.unread)

-- ---- what a refusal leaves

pub returns-then-eq-clause-unserved : goal.returns-then-eq-clause-unserved
returns-then-eq-clause-unserved g c = λ refused. inl (c.sized_session.ensures.unserved refused)

pub returns-then-eq-2-clause-unserved : goal.returns-then-eq-2-clause-unserved
returns-then-eq-2-clause-unserved g c = λ refused. elim c.run_check.ensures.check [
  | inl checked ↦ inr (refl, HasAnswered.checked _ checked)
  | inr stopped ↦ inl (refl, stopped.unused)
]

pub returns-clause-unserved : goal.returns-clause-unserved
returns-clause-unserved g c = λ refused. elim (c.other_command.ensures.unserved refused) [
  | inl unused ↦ inl (c.other_command.ensures.unread, unused)
  | inr answered ↦ inr (c.other_command.ensures.unread, answered)
]

-- ---- who reads the input

pub returns-in-Err-clause-only : goal.returns-in-Err-clause-only
returns-in-Err-clause-only g c = inl c.answer.ensures.unread

pub returns-in_default-clause-only : goal.returns-in_default-clause-only
returns-in_default-clause-only g c = inl refl

pub returns-then-eq-clause-only : goal.returns-then-eq-clause-only
returns-then-eq-clause-only g c = elim c.sized_session.ensures.only [
  | inl unread ↦ inl unread
  | inr served ↦ inr (c.unwrap_or-files.result.now, served)
]

pub returns-then-eq-2-clause-only : goal.returns-then-eq-2-clause-only
returns-then-eq-2-clause-only g c = inl refl

pub returns-clause-only : goal.returns-clause-only
returns-clause-only g c = inl c.other_command.ensures.unread
