use Rattle.std.proofs.Common.{◌∙◌, sym}
use Rattle.cil_server.proofs.StreamLemmas.{tells_before}
use Rattle.cil_locate.proofs.FoundLemmas.{failed_once, located_cut, located_whole, never_failed}
use Rattle.cil_locate.proofs.search.finish.Goals as goal

pub returns-then-has_failed-clause-located : goal.returns-then-has_failed-clause-located
returns-then-has_failed-clause-located g c =
    located_cut c.args.files.now c.args.optionals c.args.found.now _ _ c.requires.found c.requires.sound (sym c.has_failed.ensures.failed ∙ c.if-has_failed.true)
    (tells_before _ _ _ _ c.put_found.ensures c.flush.ensures.told)

pub returns-then-has_failed-clause-failed : goal.returns-then-has_failed-clause-failed
returns-then-has_failed-clause-failed g c =
    failed_once c.args.files.now c.args.optionals c.args.found.now _ _ c.requires.sound (sym c.has_failed.ensures.failed ∙ c.if-has_failed.true)
    (tells_before _ _ _ _ c.put_found.ensures c.flush.ensures.told).writes

pub returns-clause-located : goal.returns-clause-located
returns-clause-located g c =
    located_whole c.args.files.now c.args.optionals c.args.found.now _ _ c.end.result c.requires.found c.requires.sound
    (sym c.has_failed.ensures.failed ∙ c.if-has_failed.false) c.flush.ensures.none (tells_before _ _ _ _ c.put_found.ensures c.flush.ensures.told) c.end.ensures

pub returns-clause-failed : goal.returns-clause-failed
returns-clause-failed g c =
    never_failed c.args.files.now c.args.optionals c.args.found.now _ _ c.end.result c.end.ensures c.requires.sound
    (sym c.has_failed.ensures.failed ∙ c.if-has_failed.false) (tells_before _ _ _ _ c.put_found.ensures c.flush.ensures.told).writes
