use Rattle.std.proofs.Common.{◌∙◌, sym}
use Rattle.cil_server.proofs.LoadLemmas.{lost_load, part_reply, same_writer, sound_load, whole_reply}
use Rattle.cil_server.proofs.loading.finish.Goals as goal

pub returns-then-has_failed-clause-writer : goal.returns-then-has_failed-clause-writer
returns-then-has_failed-clause-writer g c = same_writer _ _ _ _ _ _ c.load-end.ensures.loads c.flush.ensures.told

pub returns-then-has_failed-clause-failed : goal.returns-then-has_failed-clause-failed
returns-then-has_failed-clause-failed g c =
    lost_load _ _ _ _ _ _ c.load-end.ensures.loads c.flush.ensures.told c.requires.sound (sym c.has_failed.ensures.failed ∙ c.if-has_failed.true)

pub returns-then-has_failed-clause-load : goal.returns-then-has_failed-clause-load
returns-then-has_failed-clause-load g c =
    part_reply _ _ _ _ _ _ c.load-end.ensures.loads c.flush.ensures.told c.requires.sound c.requires.empty (sym c.has_failed.ensures.failed ∙ c.if-has_failed.true)

pub returns-clause-writer : goal.returns-clause-writer
returns-clause-writer g c = same_writer _ _ _ _ _ _ c.load-end.ensures.loads c.flush.ensures.told

pub returns-clause-failed : goal.returns-clause-failed
returns-clause-failed g c =
    sound_load _ _ _ _ _ _ c.load-end.ensures.loads c.flush.ensures.told c.requires.sound (sym c.has_failed.ensures.failed ∙ c.if-has_failed.false)

pub returns-clause-load : goal.returns-clause-load
returns-clause-load g c =
    whole_reply _ _ _ _ _ _ c.load-end.ensures.loads c.flush.ensures.told c.requires.sound c.requires.empty c.flush.ensures.none
    (sym c.has_failed.ensures.failed ∙ c.if-has_failed.false)
