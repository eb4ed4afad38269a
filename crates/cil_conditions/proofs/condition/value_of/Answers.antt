use Rattle.std.proofs.Common.{arith}
use Rattle.cil_conditions.specs.Bits.{is_on}
use Rattle.cil_conditions.proofs.ValueLemmas.{as_many}
use Rattle.cil_conditions.proofs.condition.value_of.Goals as goal

pub value_at-requires : goal.value_at-requires
value_at-requires c = let many = as_many (is_on c.args.settings.now) 1 c.args.tokens.now c.requires in omega (arith, many)
