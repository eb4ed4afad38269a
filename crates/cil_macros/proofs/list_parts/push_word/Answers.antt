use Rattle.cil_syntax.specs.Said.{said_of}
use Rattle.cil_syntax.specs.Shapes.{looked_up}
use Rattle.cil_syntax.proofs.NodesJudged.{on_ok}
use Rattle.cil_macros.specs.Fits.{read_as}
use Rattle.cil_macros.proofs.ArgumentLemmas.{form_no_word, name_no_word}
use Rattle.cil_macros.proofs.AskLemmas.{puts_word, term_unread}
use Rattle.cil_macros.proofs.list_parts.push_word.Goals as goal

pub returns-in-Leaf : goal.returns-in-Leaf
returns-in-Leaf c =
    on_ok c.push_part.result _ _
    (puts_word c.args.sign c.args.«module» c.args.argument.now c.in-Leaf.word c.in-Leaf.is _ c.written_word.ensures c.args.parts.now.items c.push_part.new.parts.items) c.push_part.ensures

pub returns-in-Name : goal.returns-in-Name
returns-in-Name c =
    term_unread (read_as (looked_up c.args.sign) (said_of c.args.«module» c.args.argument.now))
    (name_no_word c.args.«module» c.args.argument.now c.args.sign c.in-Name.field-0 c.in-Name.field-1 c.in-Name.is) c.args.parts.now.items c.args.parts.now.items

pub returns-in-Form : goal.returns-in-Form
returns-in-Form c =
    term_unread (read_as (looked_up c.args.sign) (said_of c.args.«module» c.args.argument.now))
    (form_no_word c.args.«module» c.args.argument.now c.args.sign c.in-Form.field-1 c.in-Form.field-0 c.in-Form.field-2 c.in-Form.is) c.args.parts.now.items c.args.parts.now.items
