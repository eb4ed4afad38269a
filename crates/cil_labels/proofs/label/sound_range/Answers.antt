use Rattle.cil_labels.proofs.SoundLemmas.{no_range, not_sound, one_sound}
use Rattle.cil_labels.proofs.label.sound_range.Goals as goal

pub returns-in_default : goal.returns-in_default
returns-in_default c = no_range c.args.labels.now c.names.result.now c.names.ensures c.args.text.now c.in_default.ensures

pub returns-then-not-is_sound : goal.returns-then-not-is_sound
returns-then-not-is_sound c =
    not_sound c.args.labels.now c.names.result.now c.names.ensures c.args.text.now c.in-Some.range c.in-Some.ensures c.is_sound.ensures.low c.is_sound.ensures.high
    (λ sound. absurd (let n = c.if-not-is_sound.true in let t = c.is_sound.ensures.sound.1 sound in cc))

pub returns : goal.returns
returns c =
    one_sound c.args.labels.now c.names.result.now c.names.ensures c.args.text.now c.in-Some.range c.in-Some.ensures c.is_sound.ensures.low c.is_sound.ensures.high
    (c.is_sound.ensures.sound.0 c.if-not-is_sound.false)
