use Rattle.std.proofs.Common.{rules, is_lt}
use Rattle.std.proofs.lemmas.Cmp.{nat_list_cmp_total}
use Rattle.std.proofs.lemmas.Map.Lookups.{exact_bytes}
use Rattle.std.proofs.lemmas.Fn.{always_returns_same}
use Rattle.cil_syntax.specs.Program.{program_of}
use Rattle.cil_base.specs.Lists.{text_cmp}
use Rattle.cil_blocks.specs.Seeds.{own_name}
use Rattle.cil_blocks.proofs.RunLemmas.{weak}
use Rattle.cil_blocks.proofs.reach.by_own_name.Goals as goal

pub returns-clause-sorted : goal.returns-clause-sorted
returns-clause-sorted c =
    let nested = c.requires in
    c.sort_unstable_by.ensures.sorted (λ x y. is_lt (text_cmp (own_name (program_of c.args.statements.now) x) (own_name (program_of c.args.statements.now) y)))
    (weak (own_name (program_of c.args.statements.now)) text_cmp nat_list_cmp_total exact_bytes)
    (always_returns_same _ _ _ (λ a r f' k. search (rules, nested)))
