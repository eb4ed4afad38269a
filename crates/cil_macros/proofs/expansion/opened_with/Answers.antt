use Rattle.cil_faults.proofs.RefusalLemmas.{refused}
use Rattle.cil_macros.specs.ExpandFaults.{ExpandStep}
use Rattle.cil_macros.specs.Expansion.{AreOpened}
use Rattle.cil_macros.specs.Macros.{all_standing}
use Rattle.cil_macros.specs.Walks.{written_in}
use Rattle.cil_macros.proofs.expansion.opened_with.Goals as goal

pub returns-in_err-declared : goal.returns-in_err-declared
returns-in_err-declared c =
    let s = c.args.source.now.spaces.now in
    refused (AreOpened s) (ExpandStep (written_in s) (all_standing s)) c.from_residual.result _ c.from_residual.ensures.1 tt

pub judged_openings-requires-clause-scene : goal.judged_openings-requires-clause-scene
judged_openings-requires-clause-scene c =
    record { standings = c.requires.source.standings; brought = c.requires.all.brought; declared = rw c.statements.ensures at c.in_ok-declared.ensures }

pub judged_openings-requires-clause-all : goal.judged_openings-requires-clause-all
judged_openings-requires-clause-all c = c.requires.all

pub returns-in_err-openings : goal.returns-in_err-openings
returns-in_err-openings c =
    let s = c.args.source.now.spaces.now in
    refused (AreOpened s) (ExpandStep (written_in s) (all_standing s)) c.from_residual-in_err-openings.result _ c.from_residual-in_err-openings.ensures.1 c.in_err-openings.ensures

pub returns : goal.returns
returns c =
    let so = c.in_ok-openings.ensures.0 in (
      (
        record {
          standings = c.requires.source.standings;
          brought = c.requires.all.brought;
          in_turn = c.requires.all.turn;
          lawful = so.lawful.0;
          placed = c.requires.all.all;
          few = c.requires.all.few;
        },
        record {
          declared = rw c.statements.ensures at c.in_ok-declared.ensures;
          openings = so.opened.opened;
          many = so.opened.many;
        },
      ),
      c.in_ok-openings.ensures.1,
    )
