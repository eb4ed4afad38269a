use Rattle.cil_syntax.specs.Program.{program_of}
use Rattle.cil_blocks.proofs.InheritLemmas.{are_contents, is_none, is_some, no_more, over_so}
use Rattle.cil_blocks.proofs.inheritance.entries_of.Goals as goal

pub returns-in-Some : goal.returns-in-Some
returns-in-Some c =
    let all = is_some _ c.in_ok-entries.field-0 c.in-Some.entries c.in-Some.is c.in_ok-entries.ensures.all in
    let few = is_some _ c.in_ok-entries.field-0 c.in-Some.entries c.in-Some.is c.in_ok-entries.ensures.few in
    let are = are_contents c.args.statements.now c.in-Some.entries.items c.requires.nested c.requires.lawful all few in
    (are, no_more c.args.statements.now c.in-Some.entries.items are)

pub returns-in_ok-over_the_limit-in-None : goal.returns-in_ok-over_the_limit-in-None
returns-in_ok-over_the_limit-in-None c =
    over_so (program_of c.args.statements.now) c.in_ok-over_the_limit-in-None.field-0 c.requires.lawful
    (is_none _ c.in_ok-entries.field-0 c.in-None.is c.in_ok-entries.ensures.many c.requires.lawful) c.in_ok-over_the_limit-in-None.ensures
