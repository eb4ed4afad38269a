use Rattle.std.proofs.Common.{sym, ◌∙◌, ◌&&◌, ◌||◌, ap}
use Rattle.cil_syntax.specs.Said.{all_said, args_of}
use Rattle.cil_macros.specs.Item.{all_words_in}
use Rattle.cil_macros.specs.Items.{says_as_written}
use Rattle.cil_names.specs.Worded.{has_some}
use Rattle.cil_names.proofs.worded.is_worded.Goals as goal

pub returns : goal.returns
returns c =
    let s = c.args.statement.now in
    let has = has_some (all_words_in (args_of s)) in
    c.has_word.ensures s.at.«module» ∙ ap (λ ts. has_some (all_words_in (all_said s.at.«module» ts))) c.as_slice.ensures.value
    ∙ sym (ap (λ b. b || (says_as_written s.keyword && has)) (sym c.is_call.ensures ∙ c.if-is_call.false) ∙ ap (λ b. b && has) (sym c.says_as_written.ensures ∙ c.if-not-says_as_written.false))
