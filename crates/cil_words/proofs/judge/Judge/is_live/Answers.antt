use Rattle.std.proofs.Common.{ap, ◌∙◌}
use Rattle.std.specs.Option.{is_some}
use Rattle.cil_names.specs.Entries.{is_in}
use Rattle.cil_words.specs.Judged.{has_one}
use Rattle.cil_words.proofs.JudgeLemmas.{any_found}
use Rattle.cil_words.proofs.judge.Judge.is_live.Goals as goal

pub returns : goal.returns
returns c =
    let j = c.args.self.now in
    c.is_some.ensures ∙ ap is_some c.first_declared.ensures ∙ any_found (is_in j.declared.now) c.word.result.now ∙ ap (has_one j.declared.now) c.word.ensures
