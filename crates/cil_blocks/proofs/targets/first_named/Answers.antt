use Rattle.std.proofs.Common.{sym}
use Rattle.cil_syntax.specs.Scopes.{names_backwards}
use Rattle.cil_blocks.proofs.FirstNamed.{here_found, last_found, nothing_here, nothing_there, some_there}
use Rattle.cil_blocks.proofs.NumberLemmas.{inner_behind}
use Rattle.cil_blocks.proofs.SpelledLemmas.{outer_within}
use Rattle.cil_blocks.proofs.targets.first_named.Goals as goal

pub loop-space-smaller : goal.loop-space-smaller
loop-space-smaller c = inner_behind c.args.spaces.now.namespaces c.get.ensures.once c.loop-space.at c.in-Some.space (sym c.in-Some.ensures.space)

pub returns-then-not-is_empty : goal.returns-then-not-is_empty
returns-then-not-is_empty c = λ ws numbered.
    c.loop-space.invariant.1 ws c.blocks_named-found.result.now numbered
    (here_found c.args.spaces.now.namespaces c.get.ensures.once ws c.args.blocks.now (names_backwards c.args.path.now) c.loop-space.at c.in-Some.space c.blocks_named-found.result.now
    (sym c.in-Some.ensures.space) (c.blocks_named-found.ensures ws numbered) (some_there c.blocks_named-found.result.now c.if-not-is_empty.ensures))

pub loop-space-preserved : goal.loop-space-preserved
loop-space-preserved c = (
  outer_within c.args.spaces.now.namespaces c.get.ensures.once c.loop-space.at c.in-Some.space c.loop-space.invariant.0 (sym c.in-Some.ensures.space),
  λ ws found numbered rest. c.loop-space.invariant.1 ws found numbered
      (nothing_here c.args.spaces.now.namespaces c.get.ensures.once ws c.args.blocks.now (names_backwards c.args.path.now) c.loop-space.at c.in-Some.space
      c.blocks_named-found.result.now found (sym c.in-Some.ensures.space) (c.blocks_named-found.ensures ws numbered)
      (nothing_there c.blocks_named-found.result.now c.if-not-is_empty.ensures) rest),
)

pub returns : goal.returns
returns c = λ ws numbered.
    c.loop-space.invariant.1 ws c.blocks_named.result.now numbered
    (last_found c.args.spaces.now.namespaces c.get.ensures.once ws c.args.blocks.now (names_backwards c.args.path.now) c.loop-space.at c.blocks_named.result.now c.loop-space.invariant.0
    (sym c.in_default.ensures.space) (c.blocks_named.ensures ws numbered))
