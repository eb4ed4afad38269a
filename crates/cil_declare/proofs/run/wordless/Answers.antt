use Rattle.std.proofs.Common.{ap, subst, sym, ◌∙◌}
use Rattle.std.proofs.lemmas.Option.{same_Some}
use Rattle.cil_macros.specs.Items.{placed_at}
use Rattle.cil_macros.proofs.ItemLemmas.{placed_there}
use Rattle.cil_macros.proofs.PlacedLemmas.{is_place}
use Rattle.cil_names.specs.Worded.{is_worded}
use Rattle.cil_declare.specs.Wordless.{IsWordless}
use Rattle.cil_declare.proofs.DoneLemmas.{row_at}
use Rattle.cil_declare.proofs.StatementLemmas.{row_written}
use Rattle.cil_names.proofs.WordedLemmas.{no_word}
use Rattle.cil_declare.proofs.run.wordless.Goals as goal

pub statement-requires : goal.statement-requires
statement-requires c =
    let i = c.args.instances.now in
    is_place i c.in-Some.at (row_at i c.args.row.now c.requires c.in-Some.at c.in-Some.is).within

pub returns : goal.returns
returns c = λ at e.
    let i = c.args.instances.now in
    let row = row_at i c.args.row.now c.requires c.in-Some.at c.in-Some.is in
    let unworded = sym (c.is_worded.ensures ∙ ap is_worded c.statement_there-statement.ensures.is) ∙ c.if-is_worded.false in
    subst (λ k. IsWordless i k c.statement.result) (same_Some c.in-Some.at at (sym c.in-Some.is ∙ e)) (record {
      of = c.statement.ensures (placed_at i c.in-Some.at) (placed_there i c.in-Some.at row.within);
      wordless = no_word i c.in-Some.at unworded (row_written i c.in-Some.at c.args.row.now row);
    })
