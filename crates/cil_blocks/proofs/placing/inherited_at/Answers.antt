use Rattle.std.proofs.Common.{◌∙◌, inl, inr, refl, sym}
use Rattle.std.specs.Prelude.{None, Some}
use Rattle.cil_syntax.specs.Program.{program_of}
use Rattle.cil_base.specs.Places.{not_there, there_as}
use Rattle.cil_blocks.proofs.NameLemmas.{keyword_some}
use Rattle.cil_blocks.proofs.PlacingLemmas.{inheriting, not_inheriting, nothing_inherited}
use Rattle.cil_blocks.proofs.placing.inherited_at.Goals as goal

pub returns-in-None : goal.returns-in-None
returns-in-None c = nothing_inherited c.args.statements.now c.requires.nested c.args.number (not_there c.args.statements.now c.args.number c.in-None.ensures.lookup.3)

pub returns-then-not-is_inheriting : goal.returns-then-not-is_inheriting
returns-then-not-is_inheriting c =
    not_inheriting (program_of c.args.statements.now) c.args.number c.in-Some.statement.now.keyword
    (keyword_some c.args.statements.now c.requires.nested c.args.number c.in-Some.statement.now
    (there_as c.args.statements.now c.args.number c.in-Some.statement.now c.in-Some.ensures.lookup.3.0 c.in-Some.ensures.lookup.1))
    (sym c.is_inheriting.ensures ∙ c.if-not-is_inheriting.true)

pub returns-in-None-get : goal.returns-in-None-get
returns-in-None-get c =
    inheriting (program_of c.args.statements.now) c.args.number c.in-Some.statement.now.keyword None None
    (keyword_some c.args.statements.now c.requires.nested c.args.number c.in-Some.statement.now
    (there_as c.args.statements.now c.args.number c.in-Some.statement.now c.in-Some.ensures.lookup.3.0 c.in-Some.ensures.lookup.1))
    (sym c.is_inheriting.ensures ∙ c.if-not-is_inheriting.false) (inl (refl, refl))
    (rw (not_there c.args.opened.now c.args.number c.in-None-get.ensures.lookup.3) at (c.requires.opened c.args.number))

pub returns-in-Some-get : goal.returns-in-Some-get
returns-in-Some-get c =
    inheriting (program_of c.args.statements.now) c.args.number c.in-Some.statement.now.keyword (Some c.in-Some-get.target.now) c.in-Some-get.target.now
    (keyword_some c.args.statements.now c.requires.nested c.args.number c.in-Some.statement.now
    (there_as c.args.statements.now c.args.number c.in-Some.statement.now c.in-Some.ensures.lookup.3.0 c.in-Some.ensures.lookup.1))
    (sym c.is_inheriting.ensures ∙ c.if-not-is_inheriting.false) (inr refl)
    (rw (there_as c.args.opened.now c.args.number c.in-Some-get.target.now c.in-Some-get.ensures.lookup.3.0 c.in-Some-get.ensures.lookup.1) at (c.requires.opened c.args.number))
