use Rattle.std.specs.Prelude.{ℕ, Contains}
use Rattle.cil_index.specs.Sets.{set_of}
use Rattle.cil_index.proofs.CoverLemmas.{known_has, yes_both}
use Rattle.cil_index.proofs.matches.has_source.Goals as goal

pub returns-then-is_known : goal.returns-then-is_known
returns-then-is_known c =
    yes_both _ (known_has c.args.known c.args.set (λ (k : ℕ). Contains (set_of c.args.searched.now.sets.now k) c.args.asked.now.source) (c.is_known.ensures c.if-is_known.true) c.requires.known)
