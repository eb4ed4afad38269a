use Rattle.std.proofs.Common.{sym, ◌∙◌, inl}
use Rattle.cil_blocks.proofs.CoverLemmas.{covers_pair}
use Rattle.cil_blocks.proofs.Reached.{same_body}
use Rattle.cil_blocks.proofs.seeds.cover.Goals as goal

pub returns-then-eq : goal.returns-then-eq
returns-then-eq c =
    covers_pair c.args.parts.now c.args.targets.now c.args.pair c.args.covered.now.keys _ (same_body c.args.pair.0 c.args.pair.1 (sym c.eq.ensures ∙ c.if-eq.true))
    c.in_ok-cover_from.ensures

pub returns : goal.returns
returns c = λ b is. inl is
