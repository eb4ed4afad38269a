use Rattle.std.specs.Prelude.{codes}
use Rattle.std.proofs.Common.{◌∷◌, sym, subst}
use Rattle.cil_server.specs.Replies.{newline, of_reason}
use Rattle.cil_server.specs.Streams.{Tells}
use Rattle.cil_server.proofs.StreamLemmas.{tells_three}
use Rattle.cil_server.proofs.optional_replies.put_reason.Goals as goal

pub returns-in-Some : goal.returns-in-Some
returns-in-Some g c =
    subst (λ missing. Tells c.args.output.now c.put-in-Some-2.new.self (of_reason missing)) (sym c.in-Some.is)
    (tells_three c.args.output.now c.put-in-Some.new.self c.put_word.new.output c.put-in-Some-2.new.self (codes " missing") (32 ∷ c.in-Some.word) newline c.put-in-Some.ensures
    (subst (λ z. Tells c.put-in-Some.new.self c.put_word.new.output (32 ∷ z)) c.as_slice.ensures c.put_word.ensures) c.put-in-Some-2.ensures)
