use Rattle.std.proofs.Common.{sym, ◌∙◌, ap, subst}
use Rattle.cil_base.specs.Places.{there_as}
use Rattle.cil_syntax.specs.Program.{program_of}
use Rattle.cil_syntax.specs.Written.{is_macro}
use Rattle.cil_syntax.proofs.NodesJudged.{on_ok}
use Rattle.cil_blocks.proofs.NameLemmas.{args_some, keyword_some}
use Rattle.cil_macros.specs.NamedParameters.{AreAdded}
use Rattle.cil_macros.specs.Parameters.{macro_parameters}
use Rattle.cil_macros.proofs.ServingLemmas.{macro_added, no_macro}
use Rattle.cil_macros.proofs.parameters.Parameters.add.Goals as goal

pub returns-then-not-is_macro : goal.returns-then-not-is_macro
returns-then-not-is_macro c =
    let there = there_as c.args.statements.now c.args.number c.index-statements-number.result c.requires.within c.index-statements-number.is in
    no_macro (program_of c.args.statements.now) c.args.number c.args.self.now c.requires.before
    (ap is_macro (keyword_some c.args.statements.now c.requires.nested c.args.number c.index-statements-number.result there) ∙ sym c.is_macro.ensures ∙ c.if-not-is_macro.true)

pub returns : goal.returns
returns c =
    let there = there_as c.args.statements.now c.args.number c.index-statements-number.result c.requires.within c.index-statements-number.is in
    on_ok c.add_all.result _ _
    (λ put. macro_added (program_of c.args.statements.now) c.args.number c.args.self.now c.requires.before c.add_all.new.self
    (subst (λ ts. AreAdded c.args.number (macro_parameters ts) c.args.self.now c.add_all.new.self)
    (sym (args_some c.args.statements.now c.requires.nested c.args.number c.index-statements-number.result there)) put))
    c.add_all.ensures
