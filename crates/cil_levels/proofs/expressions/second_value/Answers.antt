use Rattle.std.specs.Prelude.{option_map}
use Rattle.std.proofs.Common.{◌≡◌, true, map, sym, ◌∙◌, ap}
use Rattle.std.proofs.lemmas.Option.{slice_get-map}
use Rattle.cil_syntax.specs.Said.{all_said, args_of}
use Rattle.cil_macros.specs.Items.{item_at, items_in}
use Rattle.cil_macros.proofs.ItemLemmas.{item_there}
use Rattle.cil_known.specs.Known.{row_in}
use Rattle.cil_mls.specs.attrs.Plain.{are_plain}
use Rattle.cil_levels.proofs.SecondLemmas.{row_there, second_there}
use Rattle.cil_levels.proofs.expressions.second_value.Goals as goal

pub returns : goal.returns
returns c =
    let k = c.args.known.now in
    let i = c.args.instances.now in
    let at = c.args.at in
    let s = c.statement_there-statement.result.now in
    let terms = c.as_slice-terms.ensures.value in
    let plain : are_plain (args_of s) ≡ true = sym (c.are_plain.ensures s.at.«module» ∙ ap (λ ts. are_plain (all_said s.at.«module» ts)) terms) ∙ c.if-not-are_plain.false in
    let row = c.row.ensures (map (row_in k) (items_in i)) (row_in k (item_at i at)) c.requires.table (slice_get-map (row_in k) (items_in i) at ∙ ap (option_map (row_in k)) (item_there i at c.requires.within)) in
    let words = c.says_words.ensures c.if-not-says_words.false in
    record {
      value = second_there k i at s c.statement_there-statement.ensures.is words c.requires.written c.requires.plain plain c.args.by.now.held.now c.args.by.now.count _ _ _ terms row c.value_behind.ensures;
      words = words;
      row = row_there k i at s c.statement_there-statement.ensures.is words c.requires.written c.requires.plain plain;
    }
