use Rattle.cil_mls.proofs.laws.one_order.Goals as goal

pub returns : goal.returns
returns c = λ count edges row other a b. b.only row a.is_order
