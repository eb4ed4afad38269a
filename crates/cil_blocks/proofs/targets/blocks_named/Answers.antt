use Rattle.std.proofs.Common.{◌++◌}
use Rattle.cil_syntax.specs.Scopes.{names_backwards}
use Rattle.cil_blocks.specs.Namespaces.{space_at}
use Rattle.cil_blocks.proofs.FirstNamed.{none_of_name, of_name}
use Rattle.cil_blocks.proofs.targets.blocks_named.Goals as goal

pub returns-in-None : goal.returns-in-None
returns-in-None c = λ ws numbered.
    none_of_name c.args.spaces.now.namespaces c.requires.once ws c.args.spaces.now.numbers c.args.blocks.now numbered
    (names_backwards c.args.path.now ++ space_at c.args.spaces.now.namespaces c.args.from) c.in-None.ensures

pub returns-in-Some : goal.returns-in-Some
returns-in-Some c = λ ws numbered.
    of_name c.args.spaces.now.namespaces c.requires.once ws c.args.spaces.now.numbers c.args.blocks.now numbered
    (names_backwards c.args.path.now ++ space_at c.args.spaces.now.namespaces c.args.from) c.in-Some.space c.blocks_in.result.now c.in-Some.ensures c.blocks_in.ensures
