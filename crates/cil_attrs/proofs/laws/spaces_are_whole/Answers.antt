use Rattle.cil_attrs.proofs.laws.spaces_are_whole.Goals as goal

pub returns : goal.returns
returns g c = g.met.S.Space.whole
