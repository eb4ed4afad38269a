use Rattle.std.proofs.Common.{refl, sym, ◌∙◌}
use Rattle.cil_names.specs.Entries.{is_in}
use Rattle.cil_names.proofs.RoundLemmas.{one_further}
use Rattle.cil_names.proofs.opt_set.OptSet.has_round.Goals as goal

pub loop-optional-init : goal.loop-optional-init
loop-optional-init c = refl

pub loop-optional-preserved : goal.loop-optional-preserved
loop-optional-preserved c =
    c.loop-optional.invariant ∙ one_further (is_in c.args.self.now) _ c.in-Some.optional _ c.in-Some.ensures.round (sym c.has.ensures ∙ c.if-not-has.false)
