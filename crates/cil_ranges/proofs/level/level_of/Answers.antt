use Rattle.std.proofs.Common.{◌∙◌, ap}
use Rattle.cil_ranges.specs.Reading.{meant}
use Rattle.cil_ranges.proofs.ReadLemmas.{form_level, leaf_level, name_level}
use Rattle.cil_ranges.proofs.level.level_of.Goals as goal

pub returns-in-Leaf : goal.returns-in-Leaf
returns-in-Leaf c = λ k g m f u more measures there read.
    leaf_level k g f m c.args.term.now u c.args.words.now more read c.args.by.now.levels.now c.meant.result there c.in-Leaf.field-0 c.in-Leaf.is (c.meant.ensures ∙ ap (meant c.args.by.now.levels.now) c.meaning_at.ensures)

pub returns-in-Name : goal.returns-in-Name
returns-in-Name c = λ k g m f u more measures there read. name_level k g f m c.args.term.now u c.args.words.now more read _ _ c.in-Name.is

pub returns-in-Form : goal.returns-in-Form
returns-in-Form c = λ k g m f u more measures there read.
    form_level k g f m c.args.term.now u c.args.words.now more read _ _ _ c.in-Form.is c.written_level.result (c.written_level.ensures k g m f u more measures read)
