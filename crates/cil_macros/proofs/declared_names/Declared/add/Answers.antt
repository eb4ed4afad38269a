use Rattle.std.proofs.Common.{◌∙◌, ap}
use Rattle.cil_syntax.specs.declared.kind.Keyword.{Keyword}
use Rattle.cil_syntax.specs.Table.{entry_of}
use Rattle.cil_blocks.proofs.NameLemmas.{keyword_some}
use Rattle.cil_base.specs.Places.{is_there}
use Rattle.cil_macros.proofs.DeclaredLemmas.{no_kind, no_round, one_more}
use Rattle.cil_macros.proofs.declared_names.Declared.add.Goals as goal

pub returns-in_default-clause-declared : goal.returns-in_default-clause-declared
returns-in_default-clause-declared c =
    no_kind c.args.statements.now c.requires.nested c.args.number c.requires.within c.args.self.now c.requires.before
    (ap (λ (k : Keyword). (entry_of k).declares) (keyword_some c.args.statements.now c.requires.nested c.args.number _ (is_there c.args.statements.now c.args.number c.index-statements-number.result c.requires.within))
    ∙ c.in_default.ensures)

pub returns-in_default-macro_round-clause-declared : goal.returns-in_default-macro_round-clause-declared
returns-in_default-macro_round-clause-declared c =
    no_round c.args.statements.now c.requires.nested c.args.number c.requires.within c.args.self.now c.requires.before c.in_default-macro_round.ensures

pub returns-clause-declared : goal.returns-clause-declared
returns-clause-declared c =
    one_more c.args.statements.now c.requires.nested c.args.number c.requires.within c.args.self.now c.requires.before c.in-Some.kind
    (ap (λ (k : Keyword). (entry_of k).declares) (keyword_some c.args.statements.now c.requires.nested c.args.number _ (is_there c.args.statements.now c.args.number c.index-statements-number.result c.requires.within))
    ∙ c.in-Some.ensures)
    (c.in-Some-macro_round.round, c.number.result, c.name_at.result) c.in-Some-macro_round.ensures c.number.ensures (c.name_at.ensures c.requires.nested)
    (record { keys = c.insert.new.self; parameters = c.args.self.now.parameters }) c.in_ok-insert.ensures.updates.0
