use Rattle.std.proofs.Common.{◌∙◌}
use Rattle.cil_names.specs.Entries.{is_in}
use Rattle.cil_names.proofs.RowLemmas.{changed, changed_within}
use Rattle.cil_words.specs.Table.{ask_value}
use Rattle.cil_words.proofs.RowLemmas.{rows_mean}
use Rattle.cil_words.proofs.settled_rows.settled_by.Goals as goal

pub returns : goal.returns
returns c =
    let f = ask_value (is_in c.args.declared.now) in
    let starts = c.into_rows-starts.result.0.items in
    let cells = c.into_rows-starts.result.1 in
    let all = c.of.ensures.words ∙ c.in_ok-words.ensures in
    λ ss es xs lists s flags are permissions. record {
      within = changed_within f cells starts c.of.result.starts.items c.of.result.words.items c.of.ensures.starts all c.into_rows-starts.ensures.within;
      are =
          changed f cells starts c.of.result.starts.items c.of.result.words.items _ c.of.ensures.starts all c.into_rows-starts.ensures.rows
          ∙ rows_mean ss es xs lists permissions s c.args.declared.now flags c.args.asks are;
    }
