use Rattle.std.proofs.Common.{◌≡◌}
use Rattle.cil_blocks.specs.Numbers.{chain_numbers, with_numbers}
use Rattle.cil_blocks.proofs.GoneUp.{IsOnTheWay}
use Rattle.cil_blocks.proofs.scopes.ScopeList.add_chain.Given as goal

abbrev pub invariant-loop-space : goal.invariant-loop-space
invariant-loop-space l = record {
  added : with_numbers l.self (chain_numbers l.namespaces l.at) ≡ with_numbers l.fn.self (chain_numbers l.namespaces l.fn.number);
  way : IsOnTheWay l.namespaces l.gone_up.keys l.self l.at;
}

abbrev pub decreases-loop-space : goal.decreases-loop-space
decreases-loop-space l = l.at
