use Rattle.cil_syntax.specs.Program.{program_of}
use Rattle.cil_blocks.proofs.ContentLemmas.{if_none, if_some, walkable}
use Rattle.cil_blocks.proofs.contents.contents_of.Goals as goal

pub returns-clause-all : goal.returns-clause-all
returns-clause-all c =
    if_some _ _ c.walk.result
    (λ v all none. all (program_of c.args.statements.now)
    (walkable c.args.statements.now c.args.parts.now c.args.opened.now c.requires.nested c.one_target.ensures c.requires.parts c.requires.opened none))
    c.walk.ensures.all

pub returns-clause-many : goal.returns-clause-many
returns-clause-many c =
    if_none _ _ c.walk.result
    (λ many none. many (program_of c.args.statements.now)
    (walkable c.args.statements.now c.args.parts.now c.args.opened.now c.requires.nested c.one_target.ensures c.requires.parts c.requires.opened none))
    c.walk.ensures.many
