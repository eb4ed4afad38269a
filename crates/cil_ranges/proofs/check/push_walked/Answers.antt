use Rattle.std.specs.Prelude.{option_map}
use Rattle.std.proofs.Common.{[], map, ◌∙◌, ap, subst, sym}
use Rattle.std.proofs.lemmas.Option.{slice_get-map}
use Rattle.cil_syntax.specs.Said.{all_said}
use Rattle.cil_macros.specs.Item.{all_replaced}
use Rattle.cil_macros.specs.Items.{all_placed, item_at, items_in}
use Rattle.cil_macros.specs.Listed.{all_parts_of, parts_there}
use Rattle.cil_macros.specs.ListTerms.{AreAlike, numbered}
use Rattle.cil_macros.proofs.ItemLemmas.{item_there}
use Rattle.cil_known.specs.Known.{row_in}
use Rattle.cil_ranges.proofs.CheckLemmas.{all_append, asked_row, may_say_lists_too}
use Rattle.cil_ranges.proofs.check.push_walked.Goals as goal

pub terms-requires-clause-lists : goal.terms-requires-clause-lists
terms-requires-clause-lists c = may_say_lists_too (item_at c.args.instances.now c.args.at).keyword c.requires.levels

pub parts-requires-clause-lists : goal.parts-requires-clause-lists
parts-requires-clause-lists c = may_say_lists_too (item_at c.args.instances.now c.args.at).keyword c.requires.levels

pub returns : goal.returns
returns c = λ g judges.
    let k = c.args.known.now in
    let i = c.args.instances.now in
    let x = item_at i c.args.at in
    let row = c.row.ensures (map (row_in k) (items_in i)) (row_in k x) c.requires.table (slice_get-map (row_in k) (items_in i) c.args.at ∙ ap (option_map (row_in k)) (item_there i c.args.at c.requires.within)) in
    let f = numbered (all_parts_of x.args) in
    (c.in_ok-push_terms.ensures k g f x.args [] [] judges (record {
      alike = subst (λ ts. AreAlike (all_replaced (λ p. p) f (all_said 0 ts)) x.args) (sym c.as_slice-2.ensures.value) (c.in_ok-terms.ensures 0);
      asks = asked_row k x c.requires.levels c.row.result.now row;
      says = ap (parts_there (all_placed i)) c.as_slice.ensures.value ∙ c.in_ok-parts.ensures.parts ∙ all_append (all_parts_of x.args);
    })).more
