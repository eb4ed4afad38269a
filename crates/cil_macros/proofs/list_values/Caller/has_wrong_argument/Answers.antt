use Rattle.cil_syntax.specs.Said.{args_of}
use Rattle.cil_blocks.proofs.DoubledLemmas.{if_ok}
use Rattle.cil_macros.proofs.ListMarkLemmas.{call_judged, known_at, nothing_judged}
use Rattle.cil_macros.proofs.list_values.Caller.has_wrong_argument.Goals as goal

pub returns-in_default : goal.returns-in_default
returns-in_default c = λ p here same.
    let call = c.args.self.now in
    nothing_judged call.scene.now call.openings.now c.requires.opened call.at p here c.requires.within (c.in_default.ensures p here) (args_of c.args.call.now)

pub is_wrong_call-requires-clause-known : goal.is_wrong_call-requires-clause-known
is_wrong_call-requires-clause-known c =
    let call = c.args.self.now in
    known_at call.scene.now call.openings.now c.requires.opened call.at c.requires.within

pub returns : goal.returns
returns c =
    let call = c.args.self.now in
    let u = c.in-Some.unfolding in
    if_ok _ _ c.is_wrong_call.result
    (λ wrong says p here same.
    call_judged call.scene.now call.openings.now c.requires.opened call.at p here c.requires.within u.called.now u.arguments.now (c.in-Some.ensures p here) (args_of c.args.call.now) same
    wrong (λ bounds all. says p bounds here all))
    c.is_wrong_call.ensures
