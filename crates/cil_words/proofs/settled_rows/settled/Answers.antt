use Rattle.std.proofs.Common.{map, ◌∙◌}
use Rattle.std.proofs.lemmas.Result.{IfOk-weaker}
use Rattle.cil_names.specs.Entries.{is_declared_in, is_in}
use Rattle.cil_words.proofs.settled_rows.settled.Goals as goal

pub returns : goal.returns
returns c =
    IfOk-weaker c.settled_by.result _ _
    (λ words so ss xs lists are permissions.
    so ss c.args.names.now xs lists (is_in c.args.enabled.now)
    (c.as_slice-2.ensures.value ∙ c.in_ok-declared.ensures ∙ (λ i. map (is_declared_in (is_in (c.as_slice.ensures i))) (c.entries.ensures.value i))) are permissions)
    c.settled_by.ensures
