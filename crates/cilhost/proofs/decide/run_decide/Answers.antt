use Rattle.std.proofs.Common.{inl}
use Rattle.cilhost.proofs.decide.run_decide.Goals as goal

pub returns-in-Ok-clause-decide : goal.returns-in-Ok-clause-decide
returns-in-Ok-clause-decide g c =
    inl (record {
      bytes = c.in-Ok.bytes.items;
      ending = c.ask.result;
      are_bytes = c.in-Ok.ensures.bytes;
      answer = rw (c.as_slice.ensures.value, c.as_bytes-source.ensures.value, c.as_bytes-target.ensures.value, c.as_bytes-class.ensures.value) at c.ask.ensures.answer;
      failures = c.ask.ensures.failed;
      is_status = c.finish.ensures;
      sound = c.in-Ok.ensures.sound;
    })
