use Rattle.std.proofs.Common.{◌∙◌, ap, sym}
use Rattle.std.proofs.lemmas.Result.{IfOk-weaker}
use Rattle.cil_macros.specs.Items.{all_placed}
use Rattle.cil_macros.specs.Listed.{all_parts_of, parts_there}
use Rattle.cil_names.proofs.ReadingLemmas.{nothing_read, written_read}
use Rattle.cil_names.proofs.WrittenPartLemmas.{no_parts}
use Rattle.cil_names.proofs.reading.Reading.parts.Goals as goal

pub returns-then-may_have_list : goal.returns-then-may_have_list
returns-then-may_have_list c = c.parts.ensures.parts

pub returns-then-not-says_as_written : goal.returns-then-not-says_as_written
returns-then-not-says_as_written c =
    let r = c.args.self.now in
    let says = c.may_have_list.ensures.words c.if-may_have_list.false in
    ap (parts_there (all_placed r.instances.now)) c.new.ensures.items
    ∙ sym (ap all_parts_of (nothing_read r c.requires says.here (sym c.says_as_written.ensures ∙ c.if-not-says_as_written.true)) ∙ no_parts)

pub returns : goal.returns
returns c =
    let r = c.args.self.now in
    let says = c.may_have_list.ensures.words c.if-may_have_list.false in
    let is = written_read r c.requires says.words (sym c.says_as_written.ensures ∙ c.if-not-says_as_written.false) c.as_slice.result.now c.as_slice.ensures.value in
    IfOk-weaker c.written_parts.result _ _ (λ parts so. so ∙ ap all_parts_of (sym is)) c.written_parts.ensures
