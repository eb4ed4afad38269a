use Rattle.cil_labels.proofs.SoundLemmas.{sound_so, unsound_high, unsound_low}
use Rattle.cil_labels.proofs.label.is_sound.Goals as goal

pub returns-then-not-permits-clause-sound : goal.returns-then-not-permits-clause-sound
returns-then-not-permits-clause-sound c = unsound_low c.args.labels.now _ _ _ c.permitted.result.now c.permitted.ensures c.permits.ensures c.if-not-permits.true

pub returns-then-not-permits-2-clause-sound : goal.returns-then-not-permits-2-clause-sound
returns-then-not-permits-2-clause-sound c = unsound_high c.args.labels.now _ _ _ c.permitted-2.result.now c.permitted-2.ensures c.permits-2.ensures c.if-not-permits-2.true

pub returns-clause-sound : goal.returns-clause-sound
returns-clause-sound c =
    sound_so c.args.labels.now _ _ _ c.are_words.ensures c.are_words-2.ensures _ _ c.permitted.ensures c.permitted-2.ensures (c.permits.ensures.0 c.if-not-permits.false)
    (c.permits-2.ensures.0 c.if-not-permits-2.false) c.dominates.ensures
