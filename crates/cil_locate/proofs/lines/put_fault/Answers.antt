use Rattle.cil_server.proofs.StreamLemmas.{tells_three}
use Rattle.cil_locate.proofs.PositionLemmas.{small_position}
use Rattle.cil_locate.proofs.lines.put_fault.Goals as goal

pub put_place-requires : goal.put_place-requires
put_place-requires g c = small_position _ _ c.requires.here c.requires.within c.requires.short

pub put_source-requires-clause-small : goal.put_source-requires-clause-small
put_source-requires-clause-small g c = small_position _ _ c.requires.here c.requires.within c.requires.short

pub returns : goal.returns
returns g c = tells_three _ _ _ _ _ _ _ c.put_place.ensures c.put_fault_text.ensures c.put_source.ensures
