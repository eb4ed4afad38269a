use Rattle.std.proofs.Common.{◌++◌, ◌∙◌, ap, subst, sym}
use Rattle.cil_syntax.proofs.NodesJudged.{on_ok}
use Rattle.cil_macros.specs.Items.{IsWholeSaid, said_as, said_there}
use Rattle.cil_macros.specs.Listed.{parts_of, parts_there}
use Rattle.cil_macros.specs.Scene.{placed_of_scene}
use Rattle.cil_macros.specs.Walks.{written_in}
use Rattle.cil_macros.proofs.SaidPartLemmas.{said_by_meaning, word_said}
use Rattle.cil_macros.proofs.list_values.Caller.push_said.Goals as goal

pub returns-in-Word : goal.returns-in-Word
returns-in-Word c =
    on_ok c.push_part.result _ _
    (λ so p here.
    let s = c.args.self.now.scene.now in
    let ps = placed_of_scene s in
    word_said ps c.args.word.now.sign c.said_of_meaning.result c.in-Word.said c.in-Word.is c.args.parts.now.items c.push_part.new.parts.items so
    ∙ ap (λ u. parts_there ps c.args.parts.now.items ++ parts_of u)
    (c.said_of_meaning.ensures.says ps ∙ ap (said_as c.args.word.now) (c.meaning_at-meaning.ensures.says p here) ∙ said_by_meaning (written_in s.spaces.now) p c.args.word.now))
    c.push_part.ensures

pub returns-in-List : goal.returns-in-List
returns-in-List c =
    on_ok c.push_for.result _ _
    (λ so p here.
    let s = c.args.self.now.scene.now in
    let ps = placed_of_scene s in
    so ps (subst (IsWholeSaid ps) c.in-List.is (c.said_of_meaning.ensures.whole ps c.meaning_at-meaning.ensures.whole))
    ∙ ap (λ u. parts_there ps c.args.parts.now.items ++ parts_of u)
    (ap (said_there ps c.args.word.now.sign) (sym c.in-List.is) ∙ c.said_of_meaning.ensures.says ps
    ∙ ap (said_as c.args.word.now) (c.meaning_at-meaning.ensures.says p here) ∙ said_by_meaning (written_in s.spaces.now) p c.args.word.now))
    c.push_for.ensures
