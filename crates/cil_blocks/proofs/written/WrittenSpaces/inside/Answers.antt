use Rattle.std.proofs.Common.{sym, ◌∙◌, ap}
use Rattle.cil_base.specs.Places.{get_so}
use Rattle.cil_blocks.specs.Numbers.{number_in}
use Rattle.cil_blocks.proofs.NameLemmas.{get_none}
use Rattle.cil_blocks.proofs.written.WrittenSpaces.inside.Goals as goal

pub returns-in-None-get : goal.returns-in-None-get
returns-in-None-get c =
    sym (ap (number_in c.args.self.now.numbers) c.in-Some.is ∙ get_none c.args.self.now.numbers c.in-Some.number 0 (sym c.get.ensures ∙ c.in-None-get.is))

pub returns-in-Some-get : goal.returns-in-Some-get
returns-in-Some-get c =
    sym (ap (number_in c.args.self.now.numbers) c.in-Some.is
    ∙ get_so c.args.self.now.numbers c.in-Some.number c.in-Some-get.space 0 (sym c.get.ensures ∙ c.in-Some-get.is))
