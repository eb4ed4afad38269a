use Rattle.std.proofs.Common.{refl}
use Rattle.cil_syntax.proofs.NodesJudged.{on_ok}
use Rattle.cil_macros.specs.Items.{said_by}
use Rattle.cil_macros.proofs.PutLemmas.{begin_stays, end_stays, puts_word_part, text_stays}
use Rattle.cil_macros.proofs.list_values.Caller.say_one.Goals as goal

pub returns-in-Word : goal.returns-in-Word
returns-in-Word c =
    let call = c.args.self.now in
    on_ok c.push_said.result _ _
    (puts_word_part said_by call.scene.now call.at c.args.asked.now c.args.parts.now.items c.push_said.new.parts.items c.in-Word.word c.in-Word.is) c.push_said.ensures

pub returns-in-Text : goal.returns-in-Text
returns-in-Text c =
    let call = c.args.self.now in
    on_ok c.push_copy.result _ _
    (text_stays said_by call.scene.now call.at c.args.asked.now c.args.parts.now.items c.push_copy.new.parts.items c.in-Text.field-0 c.in-Text.field-1 c.in-Text.is _ refl) c.push_copy.ensures

pub returns-in-Opens : goal.returns-in-Opens
returns-in-Opens c =
    let call = c.args.self.now in
    on_ok c.push_copy-in-Opens.result _ _
    (begin_stays said_by call.scene.now call.at c.args.asked.now c.args.parts.now.items c.push_copy-in-Opens.new.parts.items c.in-Opens.field-0 c.in-Opens.field-1 c.in-Opens.is _ refl)
    c.push_copy-in-Opens.ensures

pub returns-in-Closes : goal.returns-in-Closes
returns-in-Closes c =
    let call = c.args.self.now in
    on_ok c.push_copy-in-Closes.result _ _
    (end_stays said_by call.scene.now call.at c.args.asked.now c.args.parts.now.items c.push_copy-in-Closes.new.parts.items c.in-Closes.is _ refl) c.push_copy-in-Closes.ensures
