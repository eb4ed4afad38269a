use Rattle.cil_syntax.specs.declared.kind.Kind.TheVariants as kinds
use Rattle.cil_mls.proofs.attrs_lemmas.DeclaredLemmas.{declares_written}
use Rattle.cil_levels.proofs.MakingLemmas.{not_mapping}
use Rattle.cil_levels.proofs.making.give.Goals as goal

pub second_value-requires-clause-written : goal.second_value-requires-clause-written
second_value-requires-clause-written c = declares_written _ kinds.CategorySet c.requires.can.declares

pub second_value-requires-clause-plain : goal.second_value-requires-clause-plain
second_value-requires-clause-plain c = not_mapping _ c.requires.can.declares
