use Rattle.std.proofs.Common.{arith, sym, ◌∙◌, ap}
use Rattle.cil_syntax.specs.declared.program.Statement.{Statement}
use Rattle.cil_syntax.specs.Program.{program_of}
use Rattle.cil_blocks.specs.Contents.{is_block, is_inheriting, keeps_place}
use Rattle.cil_base.specs.Places.{there_as}
use Rattle.cil_blocks.proofs.NameLemmas.{keyword_some}
use Rattle.cil_blocks.proofs.OpenedLemmas.{says_block, says_nothing, says_kept, says_target}
use Rattle.cil_blocks.proofs.ProgramLemmas.{program_length}
use Rattle.cil_blocks.proofs.opened.opened_at.Goals as goal

pub returns-then-is_block : goal.returns-then-is_block
returns-then-is_block c =
    λ one. says_block (program_of c.args.statements.now) c.args.number c.index-statements-number.result.keyword c.opened_block.result
    (keyword_some c.args.statements.now c.requires.nested c.args.number c.index-statements-number.result
    (there_as c.args.statements.now c.args.number c.index-statements-number.result c.requires.within c.index-statements-number.is))
    (ap (λ (s : Statement). is_block s.keyword) c.index-statements-number.is ∙ sym c.is_block.ensures ∙ c.if-is_block.true) c.opened_block.ensures

pub returns-then-is_inheriting : goal.returns-then-is_inheriting
returns-then-is_inheriting c =
    let l = program_length c.args.statements.now in
    let h = c.requires.within in
    λ one. says_target (program_of c.args.statements.now) one c.args.number c.index-statements-number.result.keyword c.args.targets.now c.at.result.now c.first_number.result
    (keyword_some c.args.statements.now c.requires.nested c.args.number c.index-statements-number.result
    (there_as c.args.statements.now c.args.number c.index-statements-number.result c.requires.within c.index-statements-number.is))
    (ap (λ (s : Statement). is_inheriting s.keyword) c.index-statements-number.is ∙ sym c.is_inheriting.ensures ∙ c.if-is_inheriting.true)
    (omega (arith, l, h)) c.requires.targets c.at.ensures c.first_number.ensures

pub returns-then-keeps_place : goal.returns-then-keeps_place
returns-then-keeps_place c =
    let l = program_length c.args.statements.now in
    let h = c.requires.within in
    λ one. says_kept (program_of c.args.statements.now) c.args.number c.index-statements-number.result.keyword
    (keyword_some c.args.statements.now c.requires.nested c.args.number c.index-statements-number.result
    (there_as c.args.statements.now c.args.number c.index-statements-number.result c.requires.within c.index-statements-number.is))
    (ap (λ (s : Statement). keeps_place s.keyword) c.index-statements-number.is ∙ sym c.keeps_place.ensures ∙ c.if-keeps_place.true) (omega (arith, l, h))

pub returns : goal.returns
returns c =
    λ one. says_nothing (program_of c.args.statements.now) c.args.number c.index-statements-number.result.keyword
    (keyword_some c.args.statements.now c.requires.nested c.args.number c.index-statements-number.result
    (there_as c.args.statements.now c.args.number c.index-statements-number.result c.requires.within c.index-statements-number.is))
    (ap (λ (s : Statement). is_block s.keyword) c.index-statements-number.is ∙ sym c.is_block.ensures ∙ c.if-is_block.false) (ap (λ (s : Statement). is_inheriting s.keyword) c.index-statements-number.is ∙ sym c.is_inheriting.ensures ∙ c.if-is_inheriting.false)
    (ap (λ (s : Statement). keeps_place s.keyword) c.index-statements-number.is ∙ sym c.keeps_place.ensures ∙ c.if-keeps_place.false)
