use Rattle.std.proofs.Common.{List, ◌≡◌, sym, subst}
use Rattle.cil_syntax.specs.declared.program.Statement.{Statement}
use Rattle.cil_faults.specs.Fails.{AreFaults}
use Rattle.cil_syntax.specs.Program.{program_of}
use Rattle.cil_faults.specs.Refusal.{Fails}
use Rattle.cil_blocks.specs.declared.entry.Entry.{Entry}
use Rattle.cil_blocks.specs.Entries.{AreOpened}
use Rattle.cil_blocks.specs.InheritFaults.{InheritStep}
use Rattle.cil_blocks.specs.Places.{ArePlaces, AreStandings, Standings, all_numbered, statements_in}
use Rattle.cil_blocks.proofs.InheritLemmas.{are_contents, fails_so, is_none, is_some, no_more, over_so}
use Rattle.cil_blocks.proofs.inheritance.inherit.Goals as goal
use Rattle.cil_faults.proofs.RefusalLemmas.{refused}

pub returns-in_err-opened : goal.returns-in_err-opened
returns-in_err-opened c =
    refused (λ (s : Standings). (statements_in s ≡ c.args.program.now) × AreStandings s) (InheritStep (program_of c.args.program.now)) c.from_residual-in_err-opened.result _
    c.from_residual-in_err-opened.ensures.1
    (subst (λ (ss : List Statement). Fails (InheritStep (program_of ss)) c.in_err-opened.field-0.0) c.statements-statements.ensures.same
    (fails_so (program_of c.statements-statements.result.now) c.in_err-opened.field-0.0 c.in_err-opened.ensures))

pub returns-in_err-entries : goal.returns-in_err-entries
returns-in_err-entries c =
    refused (λ (s : Standings). (statements_in s ≡ c.args.program.now) × AreStandings s) (InheritStep (program_of c.args.program.now)) c.from_residual-in_err-entries.result _
    c.from_residual-in_err-entries.ensures.1
    (subst (λ (ss : List Statement). Fails (InheritStep (program_of ss)) c.in_err-entries.field-0.0) c.statements-statements.ensures.same c.in_err-entries.ensures)

pub entries_of-requires-clause-opened : goal.entries_of-requires-clause-opened
entries_of-requires-clause-opened c =
    subst (AreOpened (program_of c.statements-statements.result.now)) (sym c.as_slice.ensures.value) c.in_ok-opened.ensures.0

pub places_of-requires-clause-opened : goal.places_of-requires-clause-opened
places_of-requires-clause-opened c =
    subst (AreOpened (program_of c.statements-statements.result.now)) (sym c.as_slice-2.ensures.value) c.in_ok-opened.ensures.0

pub returns : goal.returns
returns c = (
  (
    c.statements-statements.ensures.same,
    record {
      contents = c.in_ok-entries.ensures.0;
      shallow = subst Rattle.cil_syntax.specs.Depths.AreShallow (sym c.statements-statements.ensures.same) c.statements-statements.ensures.shallow;
      places = subst (λ (es : List Entry). ArePlaces (program_of c.statements-statements.result.now) es c.in_ok-located.located.namespaces (all_numbered c.in_ok-located.located.namespaces c.in_ok-located.located.places))
          c.as_slice-3.ensures.value c.in_ok-located.ensures;
    },
  ),
  subst (λ (ss : List Statement). (f : _) → InheritStep (program_of ss) f → ⊥) c.statements-statements.ensures.same c.in_ok-entries.ensures.1,
)

pub invariant_of-result : goal.invariant_of-result
invariant_of-result c = record {
  contents = c.in_ok-entries.ensures.0;
  shallow = subst Rattle.cil_syntax.specs.Depths.AreShallow (sym c.statements-statements.ensures.same) c.statements-statements.ensures.shallow;
  places = subst (λ (es : List Entry). ArePlaces (program_of c.statements-statements.result.now) es c.in_ok-located.located.namespaces (all_numbered c.in_ok-located.located.namespaces c.in_ok-located.located.places))
      c.as_slice-3.ensures.value c.in_ok-located.ensures;
}
