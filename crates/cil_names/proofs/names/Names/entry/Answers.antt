use Rattle.std.proofs.Common.{refl, rules}
use Rattle.cil_macros.specs.blocks.Namespaces.{space_at}
use Rattle.cil_names.proofs.CandidateLemmas.{entry_in_space}
use Rattle.cil_names.proofs.names.Names.entry.Goals as goal

pub returns : goal.returns
returns c =
    entry_in_space c.args.namespaces.now c.are_namespaces.ensures c.args.self.now c.requires.ordered c.args.name.now c.args.sign (space_at c.args.namespaces.now c.args.space) c.args.space
    (record { within = c.requires.within; is = refl }) c.entry_in.result (search rules)
