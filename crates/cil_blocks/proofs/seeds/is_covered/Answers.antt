use Rattle.std.proofs.Common.{◌≡◌, true, false, sym, ◌∙◌}
use Rattle.std.specs.Option.{option_eq}
use Rattle.std.proofs.Math.Dec.{eqb}
use Rattle.indexmap.proofs.CallerLemmas.{Contains-list_any}
use Rattle.cil_blocks.proofs.Reached.{same_body}
use Rattle.cil_blocks.proofs.seeds.is_covered.Goals as goal

pub returns-then-eq : goal.returns-then-eq
returns-then-eq c = λ t. (
  same_body c.args.pair.0 c.args.pair.1 (sym c.eq.ensures ∙ c.if-eq.true),
  Contains-list_any (option_eq eqb) same_body c.args.covered.now.keys c.args.pair.0 (sym c.contains.ensures ∙ t),
)

pub returns : goal.returns
returns c = λ t. absurd (let f : false ≡ true = t in cc)
