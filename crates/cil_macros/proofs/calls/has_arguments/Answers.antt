use Rattle.cil_macros.specs.Macros.{all_standing}
use Rattle.cil_macros.specs.Walks.{written_in}
use Rattle.cil_macros.proofs.CallLemmas.{call_there, fits_bound, macro_there}
use Rattle.cil_macros.proofs.calls.has_arguments.Goals as goal

pub returns-in_default : goal.returns-in_default
returns-in_default c = λ p m e f g.
    let s = c.args.source.now.spaces.now in
    absurd (call_there (written_in s) (all_standing s) p m g (c.in_default.ensures p e))

pub returns-in_default-standing_at : goal.returns-in_default-standing_at
returns-in_default-standing_at c = λ p m e f g.
    let s = c.args.source.now.spaces.now in
    absurd (macro_there (written_in s) (all_standing s) p m g (c.in_default-standing_at.ensures m f))

pub returns : goal.returns
returns c = λ p m e f g.
    fits_bound (written_in c.args.source.now.spaces.now) p m c.in-Some.call.now c.in-Some-standing_at.called.now c.arguments_fit.result
    (c.in-Some.ensures p e) (c.in-Some-standing_at.ensures m f) c.arguments_fit.ensures
