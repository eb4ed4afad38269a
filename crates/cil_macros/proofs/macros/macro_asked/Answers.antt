use Rattle.std.proofs.Common.{rules, ◌++◌}
use Rattle.cil_macros.proofs.MacroLemmas.{no_space, said_of}
use Rattle.cil_blocks.specs.Namespaces.{space_at}
use Rattle.cil_blocks.specs.Places.{spaces_in}
use Rattle.cil_macros.proofs.macros.macro_asked.Goals as goal

pub returns-in_err-asked : goal.returns-in_err-asked
returns-in_err-asked c = λ name inner e.
    let nowhere = rw c.namespaces.ensures at c.in_err-asked.ensures in
    let none = no_space c.args.spaces.now c.requires.macros.standings name (inner ++ space_at (spaces_in c.args.spaces.now) c.args.from) (nowhere name inner e) in
    search (rules, none)

pub returns : goal.returns
returns c = λ name inner e.
    let there = rw c.namespaces.ensures at c.in_ok-asked.ensures in
    said_of c.args.spaces.now c.args.from c.args.names.now c.in_ok-asked.asked.space c.in_ok-asked.asked.name.now there c.get.result
    (c.get.ensures c.args.spaces.now c.requires.macros there.numbered.within) name inner e
