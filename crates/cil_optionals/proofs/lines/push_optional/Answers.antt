use Rattle.std.proofs.Common.{true, ◌++◌, ◌∷◌, ◌∙◌, [], ap, sym}
use Rattle.cil_macros.specs.Items.{item_at}
use Rattle.cil_names.specs.Entries.{is_in}
use Rattle.cil_optionals.proofs.LineLemmas.{label_there, made_line, no_line, one_line, optional_there, place_there}
use Rattle.cil_optionals.proofs.lines.push_optional.Goals as goal

pub returns-then-not-is_optional : goal.returns-then-not-is_optional
returns-then-not-is_optional c =
    let i = c.args.instances.now in
    no_line (is_in c.args.enabled.now c.args.at) (item_at i c.args.at) _
    (optional_there i c.args.at c.statement_there-statement.result.now c.statement_there-statement.ensures.is _ (sym c.is_optional.ensures ∙ c.if-not-is_optional.true))

pub returns : goal.returns
returns c =
    let i = c.args.instances.now in
    let at = c.args.at in
    let s = c.statement_there-statement.result.now in
    let is = c.statement_there-statement.ensures.is in
    let inside = is_in c.args.enabled.now at in
    let optional = sym c.is_optional.ensures ∙ c.if-not-is_optional.false in
    c.in_ok-push.ensures.items
    ∙ ap (λ l. c.args.lines.now.items ++ l ∷ [])
    (made_line inside (item_at i at) s.at _ _ _ (place_there i at s is) c.in_ok-space.ensures
    (c.in_ok-label.ensures ∙ c.label_in.ensures ∙ label_there i at s is optional) c.has.ensures)
    ∙ ap (λ ls. c.args.lines.now.items ++ ls) (one_line inside (item_at i at) (optional_there i at s is true optional))
