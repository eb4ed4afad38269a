-- cil_names/proofs/table/Words/row/Answers.antt
use Rattle.std.proofs.Common.{[], ◌∙◌, arith}
use Rattle.std.proofs.lemmas.Option.{get_or_from_slice_get}
use Rattle.cil_names.proofs.RowLemmas.{end_within, row_inner, row_last, row_none}
use Rattle.cil_names.proofs.table.Words.row.Goals as goal

pub returns-in_default : goal.returns-in_default
returns-in_default c = λ rows row t at.
    let w = c.args.self.now in
    row_none w.starts.items w.words.items rows t.are c.as_slice-starts.result.now c.as_slice-words.result.now c.as_slice-starts.ensures.value c.as_slice-words.ensures.value c.args.i c.in_default.ensures
    ∙ get_or_from_slice_get rows c.args.i row [] at

pub returns-in_default-end_at : goal.returns-in_default-end_at
returns-in_default-end_at c = λ rows row t at.
    let w = c.args.self.now in
    c.part.ensures (omega arith)
    ∙ row_last w.starts.items w.words.items rows t.are c.as_slice-starts.result.now c.as_slice-words.result.now c.as_slice-starts.ensures.value c.as_slice-words.ensures.value c.args.i
    c.in-Some.start c.in-Some.ensures c.in_default-end_at.ensures
    ∙ get_or_from_slice_get rows c.args.i row [] at

pub returns : goal.returns
returns c = λ rows row t at.
    let w = c.args.self.now in
    c.part-2.ensures
    (end_within w.starts.items w.words.items rows t.are c.as_slice-starts.result.now c.as_slice-words.result.now c.as_slice-starts.ensures.value c.as_slice-words.ensures.value c.args.i t.within c.in-Some-end_at.end c.in-Some-end_at.ensures)
    ∙ row_inner w.starts.items w.words.items rows t.are c.as_slice-starts.result.now c.as_slice-words.result.now c.as_slice-starts.ensures.value c.as_slice-words.ensures.value c.args.i
    c.in-Some.start c.in-Some-end_at.end c.in-Some.ensures c.in-Some-end_at.ensures
    ∙ get_or_from_slice_get rows c.args.i row [] at
