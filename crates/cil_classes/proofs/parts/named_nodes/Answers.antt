use Rattle.std.proofs.Common.{◌∙◌}
use Rattle.std.proofs.lemmas.Result.{IfOk-from_err}
use Rattle.cil_classes.proofs.LeadLemmas.{led_by_name, not_given, unnamed}
use Rattle.cil_classes.proofs.parts.named_nodes.Goals as goal

pub returns-in_default : goal.returns-in_default
returns-in_default c = λ xs names w known nodes first.
    unnamed c.args.known.now xs names known c.args.nodes.now nodes w _ c.new.ensures.items (c.in_default.ensures xs names w known (c.meaning_at.ensures ∙ first))

pub returns-in_default-place_of : goal.returns-in_default-place_of
returns-in_default-place_of c = λ xs names w known nodes first.
    not_given c.args.known.now xs names known c.args.nodes.now nodes w c.in-Some.entry (c.in-Some.ensures xs names w known (c.meaning_at.ensures ∙ first)) _ c.new-in_default-place_of.ensures.items
    c.in_default-place_of.ensures.none

pub returns : goal.returns
returns c = λ xs names w known nodes first.
    led_by_name c.args.known.now xs names known c.args.nodes.now nodes w c.in-Some.entry (c.in-Some.ensures xs names w known (c.meaning_at.ensures ∙ first)) c.requires.rising _
    c.in-Some-place_of.ensures.found _ (c.in_ok-from.ensures.items_if_clones_equal (λ y e. e))

pub returns-in_err-from : goal.returns-in_err-from
returns-in_err-from c = IfOk-from_err c.from_residual.result _ c.from_residual.ensures.0
