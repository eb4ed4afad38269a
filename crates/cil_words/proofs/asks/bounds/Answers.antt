use Rattle.std.specs.Prelude.{slice_range}
use Rattle.std.proofs.Common.{ap, refl, ◌∙◌}
use Rattle.cil_names.proofs.RowLemmas.{end_within, row_inner, row_last, row_none}
use Rattle.cil_words.proofs.asks.bounds.Goals as goal

pub returns-in_default-clause-row : goal.returns-in_default-clause-row
returns-in_default-clause-row c = row_none c.args.starts.now c.args.cells.now _ refl c.args.starts.now c.args.cells.now refl refl c.args.at c.in_default.ensures

pub returns-in_default-end_at-clause-row : goal.returns-in_default-end_at-clause-row
returns-in_default-end_at-clause-row c =
    ap (slice_range c.args.cells.now c.in-Some.start) c.len.ensures
    ∙ row_last c.args.starts.now c.args.cells.now _ refl c.args.starts.now c.args.cells.now refl refl c.args.at c.in-Some.start c.in-Some.ensures c.in_default-end_at.ensures

pub returns-clause-row : goal.returns-clause-row
returns-clause-row c =
    row_inner c.args.starts.now c.args.cells.now _ refl c.args.starts.now c.args.cells.now refl refl c.args.at c.in-Some.start c.in-Some-end_at.end c.in-Some.ensures c.in-Some-end_at.ensures

pub returns-clause-within : goal.returns-clause-within
returns-clause-within c =
    end_within c.args.starts.now c.args.cells.now _ refl c.args.starts.now c.args.cells.now refl refl c.args.at c.requires c.in-Some-end_at.end c.in-Some-end_at.ensures
