use Rattle.cil_server.proofs.StreamLemmas.{tells_both, tells_three}
use Rattle.cil_locate.proofs.PositionLemmas.{small_position}
use Rattle.cil_locate.proofs.lines.put_reading.Goals as goal

pub put_place-requires : goal.put_place-requires
put_place-requires g c = small_position _ _ c.requires.here c.requires.within c.requires.short

pub put_source-requires-clause-small : goal.put_source-requires-clause-small
put_source-requires-clause-small g c = small_position _ _ c.requires.here c.requires.within c.requires.short

pub returns : goal.returns
returns g c =
    tells_three _ _ _ _ _ _ _ c.put_place.ensures
    (tells_both _ _ _ _ _ (rw (c.number.ensures, c.sentence_of_reading.ensures) at c.put_cause.ensures) c.put.ensures) c.put_source.ensures
