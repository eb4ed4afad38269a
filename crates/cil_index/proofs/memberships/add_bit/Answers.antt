use Rattle.std.proofs.Common.{arith, get_or, refl, ◌/◌, ◌%◌}
use Rattle.cil_index.proofs.MembershipLemmas.{bit_only, bit_stays, bit_there}
use Rattle.cil_index.proofs.memberships.add_bit.Goals as goal

pub returns-clause-added : goal.returns-clause-added
returns-clause-added c = let size = c.told-filter in bit_there c.args.filter.now c.args.number (get_or c.args.filter.now (c.args.number / 64 % 8) 0) (omega (arith, size))

pub returns-clause-stays : goal.returns-clause-stays
returns-clause-stays c = let size = c.told-filter in bit_stays c.args.filter.now c.args.number (get_or c.args.filter.now (c.args.number / 64 % 8) 0) refl (omega (arith, size))

pub returns-clause-only : goal.returns-clause-only
returns-clause-only c = let size = c.told-filter in bit_only c.args.filter.now c.args.number (get_or c.args.filter.now (c.args.number / 64 % 8) 0) refl (omega (arith, size))
