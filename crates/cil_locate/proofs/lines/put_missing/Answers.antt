use Rattle.std.proofs.Common.{sym, subst}
use Rattle.std.specs.Option.{option_map}
use Rattle.cil_server.specs.Streams.{Tells}
use Rattle.cil_server.proofs.StreamLemmas.{tells_both}
use Rattle.cil_locate.specs.Lines.{missing_text}
use Rattle.cil_locate.proofs.lines.put_missing.Goals as goal

pub returns-in-Some : goal.returns-in-Some
returns-in-Some g c =
    subst (λ m. Tells c.args.output.now c.put_visible.new.output (missing_text (option_map (λ w. w.now) m))) (sym c.in-Some.is)
    (tells_both _ _ _ _ _ c.put-in-Some.ensures (rw c.as_slice.ensures at c.put_visible.ensures))
