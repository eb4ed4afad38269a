use Rattle.std.specs.Prelude.{decimal}
use Rattle.std.proofs.Common.{◌∷◌, ◌∙◌, ap, subst}
use Rattle.cil_faults.specs.Printed.{printed_space}
use Rattle.cil_server.specs.Replies.{spaced}
use Rattle.cil_server.specs.Streams.{Tells}
use Rattle.cil_server.proofs.StreamLemmas.{tells_four}
use Rattle.cil_server.proofs.optional_replies.put_optional.Goals as goal

pub returns : goal.returns
returns g c =
    tells_four c.args.output.now c.put_decimal.new.output c.put_number.new.output c.put_word.new.output c.put_word-2.new.output
    (decimal c.args.number) (spaced c.args.at) (32 ∷ printed_space c.args.space.now) (32 ∷ c.args.label.now) c.put_decimal.ensures c.put_number.ensures
    (subst (λ z. Tells c.put_number.new.output c.put_word.new.output (32 ∷ z)) (c.printed_space.ensures ∙ ap printed_space c.as_slice.ensures) c.put_word.ensures)
    (subst (λ z. Tells c.put_word.new.output c.put_word-2.new.output (32 ∷ z)) c.as_slice-2.ensures c.put_word-2.ensures)
