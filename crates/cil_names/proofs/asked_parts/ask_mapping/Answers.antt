use Rattle.std.proofs.Common.{refl}
use Rattle.std.proofs.lemmas.Result.{on_ok_weaker}
use Rattle.cil_names.proofs.AskedPartLemmas.{mapping_read}
use Rattle.cil_names.proofs.asked_parts.ask_mapping.Goals as goal

pub returns : goal.returns
returns c =
    on_ok_weaker c.ask_parts.result
    (λ all ps.
    mapping_read ps c.args.parts.now _ _ c.two_parts-front.result c.args.asked.now.items c.ask_class.new.asked.items c.ask_parts.new.asked.items (c.two_parts-front.ensures.parts ps) refl c.behind.ensures
    (c.in_ok-ask_class.ensures ps) (all ps))
    c.ask_parts.ensures
