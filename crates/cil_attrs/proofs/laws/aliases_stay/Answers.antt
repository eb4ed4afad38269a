use Rattle.cil_attrs.proofs.laws.aliases_stay.Goals as goal

pub returns : goal.returns
returns g c = g.met.S.Space.stays
