use Rattle.std.proofs.Common.{◌∙◌, sym, subst}
use Rattle.cil_server.specs.Streams.{Tells}
use Rattle.cil_server.proofs.StreamLemmas.{tells_none, tells_three}
use Rattle.cil_locate.proofs.LineLemmas.{a_space, no_space}
use Rattle.cil_locate.proofs.lines.put_space.Goals as goal

pub returns-then-is_empty : goal.returns-then-is_empty
returns-then-is_empty g c = subst (Tells _ _) (sym (no_space _ (sym c.is_empty.ensures ∙ c.if-is_empty.true))) (tells_none _)

pub returns : goal.returns
returns g c =
    subst (Tells _ _) (sym (a_space _ (sym c.is_empty.ensures ∙ c.if-is_empty.false)))
    (tells_three _ _ _ _ _ _ _ c.put.ensures c.put-2.ensures c.put-3.ensures)
