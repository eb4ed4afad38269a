use Rattle.cil_modset.proofs.texts.Texts.add_all.Goals as goal

pub gather-requires-clause-apart : goal.gather-requires-clause-apart
gather-requires-clause-apart c = rw (c.in_ok-ours.ensures.ok, c.self.view_is) c.requires.apart
