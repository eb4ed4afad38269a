use Rattle.std.proofs.Common.{[], ◌∷◌, ◌++◌, ◌∙◌, ap}
use Rattle.cil_syntax.specs.declared.term.Op.TheVariants as ops
use Rattle.cil_syntax.specs.Said.{said_of}
use Rattle.cil_syntax.specs.Table.{level}
use Rattle.cil_syntax.proofs.NodesJudged.{on_ok}
use Rattle.cil_macros.specs.declared.listed.Part.TheVariants as kept_parts
use Rattle.cil_macros.specs.Fits.{read_as}
use Rattle.cil_macros.proofs.ListLemmas.{name_unread, no_level}
use Rattle.cil_macros.proofs.AskLemmas.{puts_level_form, puts_level_word, term_unread}
use Rattle.cil_macros.proofs.list_parts.push_level.Goals as goal

pub returns-in-Leaf : goal.returns-in-Leaf
returns-in-Leaf c =
    on_ok c.push_word.result _ _
    (puts_level_word c.args.«module» c.args.argument.now c.in-Leaf.field-0 c.in-Leaf.is c.args.parts.now.items c.push_word.new.parts.items) c.push_word.ensures

pub returns-in-Name : goal.returns-in-Name
returns-in-Name c =
    term_unread (read_as level (said_of c.args.«module» c.args.argument.now))
    (name_unread level no_level c.args.«module» c.args.argument.now c.in-Name.field-0 c.in-Name.field-1 c.in-Name.is) c.args.parts.now.items c.args.parts.now.items

pub returns-in_ok-push_level_items-in-Form : goal.returns-in_ok-push_level_items-in-Form
returns-in_ok-push_level_items-in-Form c =
    on_ok c.push_part-in-Form.result _ _
    (puts_level_form c.args.«module» c.args.argument.now c.in-Form.at c.in-Form.field-0 c.in-Form.items c.in-Form.is c.as_slice.result.now c.as_slice.ensures.value
    c.args.parts.now.items c.push_part.new.parts.items c.push_level_items.new.parts.items c.push_part-in-Form.new.parts.items
    (c.in_ok-push_part-in-Form.ensures ∙ ap (λ x. c.args.parts.now.items ++ kept_parts.Opens x ops.Level ∷ []) c.of.ensures)
    c.in_ok-push_level_items-in-Form.ensures) c.push_part-in-Form.ensures
