use Rattle.std.proofs.Common.{refl, sym}
use Rattle.std.proofs.lemmas.Bool.{true≢false}
use Rattle.cil_base.specs.Places.{get_at, get_contains}
use Rattle.cil_tables.proofs.booleans.is_among.Goals as goal

pub returns-in-Some : goal.returns-in-Some
returns-in-Some c = (λ yes. get_contains c.args.names.now _ c.args.name.now c.in-Some.ensures.found.at, λ there. refl)

pub returns-in-None : goal.returns-in-None
returns-in-None c = (λ yes. absurd (true≢false (sym yes)), λ there. let at = get_at c.args.names.now c.args.name.now there in absurd (c.in-None.ensures.none at.0 at.2))
