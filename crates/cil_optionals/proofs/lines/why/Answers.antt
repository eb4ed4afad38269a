use Rattle.std.proofs.Common.{◌≡◌, true, ◌∙◌, sym, subst}
use Rattle.cil_macros.specs.Items.{item_at, items_in}
use Rattle.cil_optionals.specs.Greatest.{is_optional_at}
use Rattle.cil_optionals.specs.Lines.{missing_of}
use Rattle.cil_optionals.proofs.LineLemmas.{place_there}
use Rattle.cil_optionals.proofs.ReasonLines.{label_here, made_why, reason_line}
use Rattle.cil_optionals.proofs.lines.why.Goals as goal

pub returns : goal.returns
returns c =
    let i = c.args.instances.now in
    let r = c.args.reason in
    let at = c.left_out-at.result in
    let s = c.statement_there-statement.result.now in
    let is = c.statement_there-statement.ensures.is in
    let optional : is_optional_at (items_in i) at ≡ true = subst (λ o. is_optional_at (items_in i) o ≡ true) (sym c.left_out-at.ensures) c.requires.optional in
    reason_line i r at c.left_out-at.ensures c.requires.optional _
    (made_why (item_at i at) (missing_of (items_in i) r) s.at _ _ _ (place_there i at s is) c.in_ok-space.ensures
    (c.in_ok-label.ensures ∙ c.label_in.ensures ∙ label_here i at s is optional) c.in_ok-missing.ensures)
