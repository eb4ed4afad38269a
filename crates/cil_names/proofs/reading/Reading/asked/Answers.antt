use Rattle.std.proofs.Common.{◌∙◌, ap, sym}
use Rattle.std.proofs.lemmas.Result.{IfOk-weaker}
use Rattle.cil_syntax.specs.declared.kind.Keyword.{Keyword}
use Rattle.cil_macros.specs.Items.{all_placed}
use Rattle.cil_macros.specs.Listed.{parts_there}
use Rattle.cil_names.specs.Readings.{item_read}
use Rattle.cil_names.specs.Resolves.{words_said}
use Rattle.cil_names.proofs.ReadingLemmas.{keyword_read}
use Rattle.cil_names.proofs.reading.Reading.asked.Goals as goal

pub returns : goal.returns
returns c =
    let r = c.args.self.now in
    let ps = all_placed r.instances.now in
    IfOk-weaker c.asked_in_parts.result _ _
    (λ asked said.
    said ps (item_read r).args (ap (parts_there ps) c.as_slice.ensures.value ∙ c.in_ok-parts.ensures)
    ∙ ap (λ (k : Keyword). words_said k (item_read r).args) (sym (keyword_read r c.requires)))
    c.asked_in_parts.ensures
