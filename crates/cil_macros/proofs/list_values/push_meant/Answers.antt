use Rattle.cil_syntax.proofs.NodesJudged.{on_ok}
use Rattle.cil_macros.proofs.PutLemmas.{text_put, word_put}
use Rattle.cil_macros.proofs.list_values.push_meant.Goals as goal

pub returns-in-None : goal.returns-in-None
returns-in-None c =
    on_ok c.push_text.result _ _ (λ so ps. text_put ps c.args.sign c.args.meant.now c.in-None.is c.args.parts.now.items c.push_text.new.parts.items so) c.push_text.ensures

pub returns-in-Some : goal.returns-in-Some
returns-in-Some c =
    on_ok c.push_part.result _ _
    (λ so ps. word_put ps c.args.sign c.args.meant.now c.in-Some.place c.in-Some.is _ c.asked_word.ensures c.args.parts.now.items c.push_part.new.parts.items so) c.push_part.ensures
