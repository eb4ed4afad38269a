use Rattle.std.proofs.Common.{arith, sym, ◌∙◌, ap, true, false, length, ◌≡◌, ◌==◌}
use Rattle.cil_syntax.specs.declared.program.Statement.{Statement}
use Rattle.cil_syntax.specs.Program.{program_of}
use Rattle.cil_blocks.specs.Contents.{is_inheriting}
use Rattle.cil_blocks.proofs.FirstNamed.{nothing_there}
use Rattle.cil_blocks.proofs.InheritLemmas.{unresolved_is}
use Rattle.cil_base.specs.Places.{there_as}
use Rattle.cil_blocks.proofs.NameLemmas.{keyword_some}
use Rattle.cil_blocks.proofs.ProgramLemmas.{program_length}
use Rattle.cil_blocks.proofs.inheritance.is_unresolved.Goals as goal

pub returns-then-not-is_inheriting : goal.returns-then-not-is_inheriting
returns-then-not-is_inheriting c = (
  (λ e. absurd (let f : false ≡ true = e in cc)),
  (λ u. absurd
      (let f : false ≡ true =
      sym (ap (λ (s : Statement). is_inheriting s.keyword) c.index-statements-number.is ∙ sym c.is_inheriting.ensures ∙ c.if-not-is_inheriting.true)
      ∙ sym (ap is_inheriting (keyword_some c.args.statements.now c.requires.nested c.args.number c.index-statements-number.result
      (there_as c.args.statements.now c.args.number c.index-statements-number.result c.requires.within c.index-statements-number.is))) ∙ u.0 in cc)),
)

pub returns : goal.returns
returns c =
    let l = program_length c.args.statements.now in
    let h = c.requires.within in
    unresolved_is (program_of c.args.statements.now) c.args.targets.now c.args.number c.is_empty.result c.requires.targets (omega (arith, l, h))
    (ap is_inheriting (keyword_some c.args.statements.now c.requires.nested c.args.number c.index-statements-number.result
    (there_as c.args.statements.now c.args.number c.index-statements-number.result c.requires.within c.index-statements-number.is))
    ∙ ap (λ (s : Statement). is_inheriting s.keyword) c.index-statements-number.is ∙ sym c.is_inheriting.ensures ∙ c.if-not-is_inheriting.false)
    (λ e. sym c.at.ensures ∙ nothing_there c.at.result.now (sym e ∙ c.is_empty.ensures))
    (λ e. c.is_empty.ensures ∙ ap (λ ks. length ks == 0) (c.at.ensures ∙ e))
