use Rattle.std.proofs.Common.{refl, ap, ◌∙◌, ◌++◌, ◌∷◌, []}
use Rattle.cil_blocks.proofs.EntryLemmas.{number_pushed}
use Rattle.cil_blocks.proofs.walker.push_all.Goals as goal

pub loop-number-preserved : goal.loop-number-preserved
loop-number-preserved c =
    λ ws. number_pushed ws c.args.numbers.now _ _ _ c.args.opener c.args.entries.now.items _ _ c.loop-number-test.true refl c.requires (c.loop-number.invariant ws)
    (c.in_ok-push.ensures.items ∙ ap (λ e. c.loop-number.entries.items ++ e ∷ []) c.in_ok-of.ensures)
