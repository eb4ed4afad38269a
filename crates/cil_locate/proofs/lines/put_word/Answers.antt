use Rattle.std.proofs.Common.{◌∙◌, sym, subst}
use Rattle.cil_server.specs.Streams.{Tells}
use Rattle.cil_server.proofs.StreamLemmas.{tells_both, tells_none}
use Rattle.cil_locate.proofs.LineLemmas.{a_word, no_word}
use Rattle.cil_locate.proofs.lines.put_word.Goals as goal

pub returns-then-is_empty : goal.returns-then-is_empty
returns-then-is_empty g c = subst (Tells _ _) (sym (no_word _ (sym c.is_empty.ensures ∙ c.if-is_empty.true))) (tells_none _)

pub returns : goal.returns
returns g c = subst (Tells _ _) (sym (a_word _ (sym c.is_empty.ensures ∙ c.if-is_empty.false))) (tells_both _ _ _ _ _ c.put.ensures c.put_visible.ensures)
