use Rattle.std.proofs.Common.{◌∙◌}
use Rattle.cil_names.proofs.RowLemmas.{end_within, row_inner, row_last, row_none}
use Rattle.cil_words.proofs.number_lists.Lists.row.Goals as goal

pub returns-in_default : goal.returns-in_default
returns-in_default c =
    row_none c.self.inside.starts.items c.self.inside.numbers.items c.args.self.now c.self.view_is c.as_slice-starts.result.now c.as_slice-numbers.result.now c.as_slice-starts.ensures.value
    c.as_slice-numbers.ensures.value c.args.number c.in_default.ensures

pub returns-in_default-end_at : goal.returns-in_default-end_at
returns-in_default-end_at c =
    c.part.ensures
    ∙ row_last c.self.inside.starts.items c.self.inside.numbers.items c.args.self.now c.self.view_is c.as_slice-starts.result.now c.as_slice-numbers.result.now c.as_slice-starts.ensures.value
    c.as_slice-numbers.ensures.value c.args.number c.in-Some.start c.in-Some.ensures c.in_default-end_at.ensures

pub part-requires-2 : goal.part-requires-2
part-requires-2 c =
    end_within c.self.inside.starts.items c.self.inside.numbers.items c.args.self.now c.self.view_is c.as_slice-starts.result.now c.as_slice-numbers.result.now c.as_slice-starts.ensures.value
    c.as_slice-numbers.ensures.value c.args.number c.self.invariant c.in-Some-end_at.end c.in-Some-end_at.ensures

pub returns : goal.returns
returns c =
    c.part-2.ensures
    ∙ row_inner c.self.inside.starts.items c.self.inside.numbers.items c.args.self.now c.self.view_is c.as_slice-starts.result.now c.as_slice-numbers.result.now c.as_slice-starts.ensures.value
    c.as_slice-numbers.ensures.value c.args.number c.in-Some.start c.in-Some-end_at.end c.in-Some.ensures c.in-Some-end_at.ensures
