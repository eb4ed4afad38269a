use Rattle.std.proofs.Common.{subst}
use Rattle.std.specs.Prelude.{IfSome}
use Rattle.cil_names.specs.Soles.{AreRanked}
use Rattle.cil_names.proofs.SoleLemmas.{namesakes}
use Rattle.cil_names.proofs.by_name.entry_of.Goals as goal

pub among-requires-clause-same : goal.among-requires-clause-same
among-requires-clause-same c =
    namesakes c.args.entries.now c.args.name.now c.args.sign c.args.rank c.requires.ranked c.in-Some.few
    (subst (λ o. IfSome o (AreRanked c.args.entries.now (record { name = c.args.name.now; rank = c.args.rank }))) c.in-Some.is c.requires.same)
