use Rattle.std.proofs.Common.{rules}
use Rattle.cil_base.specs.Places.{not_there, there_as}
use Rattle.cil_syntax.specs.Program.{program_of}
use Rattle.cil_macros.proofs.NearestLemmas.{none_stands, stated_none, stated_some}
use Rattle.cil_macros.proofs.nearest.stated.Goals as goal

pub returns-in_default : goal.returns-in_default
returns-in_default c = λ s is. absurd (none_stands (program_of c.args.statements.now) c.args.entries.now c.args.at s c.in_default.ensures.lookup.3 is)

pub returns-in_default-get : goal.returns-in_default-get
returns-in_default-get c = λ s is.
    let none = stated_none c.args.statements.now c.requires c.args.entries.now c.args.at c.in-Some.entry.now
    (there_as c.args.entries.now c.args.at c.in-Some.entry.now c.in-Some.ensures.lookup.3.0 c.in-Some.ensures.lookup.1) s is
    (not_there c.args.statements.now c.in-Some.entry.now.statement c.in_default-get.ensures.lookup.3) in
    search (rules, none)

pub returns : goal.returns
returns c = λ s is.
    stated_some c.args.statements.now c.requires c.args.entries.now c.args.at c.in-Some.entry.now
    (there_as c.args.entries.now c.args.at c.in-Some.entry.now c.in-Some.ensures.lookup.3.0 c.in-Some.ensures.lookup.1) s is
    c.in-Some-get.statement.now
    (there_as c.args.statements.now c.in-Some.entry.now.statement c.in-Some-get.statement.now c.in-Some-get.ensures.lookup.3.0 c.in-Some-get.ensures.lookup.1)
