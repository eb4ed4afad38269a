use Rattle.std.specs.declared.alloc.Global.{Global}
use Rattle.std.specs.declared.vec.Vec.{Vec}
use Rattle.cil_faults.proofs.RefusalLemmas.{refused}
use Rattle.cil_macros.specs.declared.openings.Opening.{Opening}
use Rattle.cil_macros.specs.ExpandFaults.{ExpandStep}
use Rattle.cil_macros.specs.Expansion.{AreJudged}
use Rattle.cil_macros.specs.Macros.{all_standing}
use Rattle.cil_macros.specs.Walks.{written_in}
use Rattle.cil_macros.proofs.CallOpening.{opened_so}
use Rattle.cil_macros.proofs.expansion.judged_openings.Goals as goal

pub returns-in_err-openings : goal.returns-in_err-openings
returns-in_err-openings c =
    let scene = c.args.scene.now in
    refused (λ (os : Vec Opening Global). AreJudged scene os.items) (ExpandStep (written_in scene.spaces.now) (all_standing scene.spaces.now)) c.from_residual.result _ c.from_residual.ensures.1 tt

pub judge-requires-clause-opened : goal.judge-requires-clause-opened
judge-requires-clause-opened c =
    opened_so c.args.scene.now c.as_slice.result.now c.in_ok-openings.openings.items c.as_slice.ensures.value c.requires.scene c.requires.all.turn c.in_ok-openings.ensures.each
    c.in_ok-openings.ensures.many

pub judge-requires-clause-placed : goal.judge-requires-clause-placed
judge-requires-clause-placed c = c.requires.all.all

pub judge-requires-clause-few : goal.judge-requires-clause-few
judge-requires-clause-few c = c.requires.all.few

pub returns-in_err-judge : goal.returns-in_err-judge
returns-in_err-judge c =
    let scene = c.args.scene.now in
    refused (λ (os : Vec Opening Global). AreJudged scene os.items) (ExpandStep (written_in scene.spaces.now) (all_standing scene.spaces.now)) c.from_residual-in_err-judge.result _
    c.from_residual-in_err-judge.ensures.1 c.in_err-judge.ensures

pub returns : goal.returns
returns c = (
  record {
    opened = record { scene = c.requires.scene; in_turn = c.requires.all.turn; opened = c.in_ok-openings.ensures.each; many = c.in_ok-openings.ensures.many };
    lawful = c.in_ok-judge.ensures.0;
  },
  c.in_ok-judge.ensures.1,
)
