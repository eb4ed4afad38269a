use Rattle.cil_ranges.proofs.ReadLemmas.{form_written_range, leaf_not_range, name_not_range}
use Rattle.cil_ranges.proofs.range.written_range.Goals as goal

pub returns-in-Leaf : goal.returns-in-Leaf
returns-in-Leaf c = λ k g m f u more measures levels read. leaf_not_range k g f m c.args.term.now u c.args.words.now more read _ c.in-Leaf.is

pub returns-in-Name : goal.returns-in-Name
returns-in-Name c = λ k g m f u more measures levels read. name_not_range k g f m c.args.term.now u c.args.words.now more read _ _ c.in-Name.is

pub returns-in-Form : goal.returns-in-Form
returns-in-Form c = λ k g m f u more measures levels read.
    form_written_range k g f m c.args.term.now u c.args.words.now more read c.in-Form.op _ c.in-Form.parts c.in-Form.is c.as_slice.result.now c.as_slice.ensures.value c.form_range.result
    (λ us parts. c.form_range.ensures k g m f us more measures levels parts)
