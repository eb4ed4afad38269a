use Rattle.std.proofs.Common.{subst, sym, ◌∙◌}
use Rattle.cil_syntax.specs.Program.{program_of}
use Rattle.cil_blocks.specs.Seeds.{AreMembers}
use Rattle.cil_blocks.proofs.DoubledLemmas.{if_ok}
use Rattle.cil_blocks.proofs.MemberLemmas.{are_matched_in}
use Rattle.cil_blocks.proofs.Reached.{same_body}
use Rattle.cil_blocks.proofs.seeds.matched_in.Goals as goal

pub returns-then-eq : goal.returns-then-eq
returns-then-eq c =
    if_ok _ _ c.matched_of.result
    (λ m is. are_matched_in (program_of c.args.statements.now) c.args.parts.now c.args.targets.now c.args.pair c.in_ok-ones.ones c.in_ok-ones.ones m c.in_ok-ones.ensures
    (subst (λ seed. AreMembers (program_of c.args.statements.now) c.args.parts.now c.args.targets.now seed c.in_ok-ones.ones)
    (same_body c.args.pair.0 c.args.pair.1 (sym c.eq.ensures ∙ c.if-eq.true)) c.in_ok-ones.ensures) is)
    c.matched_of.ensures

pub returns : goal.returns
returns c =
    if_ok _ _ c.matched_of-2.result
    (λ m is. are_matched_in (program_of c.args.statements.now) c.args.parts.now c.args.targets.now c.args.pair c.in_ok-ones.ones c.in_ok-others.others m c.in_ok-ones.ensures
    c.in_ok-others.ensures is)
    c.matched_of-2.ensures
