use Rattle.std.proofs.Common.{◌≡◌, ◌∙◌, ap, arith, subst}
use Rattle.std.specs.Prelude.{IfOk}
use Rattle.cil_faults.specs.Namespaces.{qualified}
use Rattle.cil_blocks.specs.Namespaces.{space_at}
use Rattle.cil_blocks.proofs.WrittenLemmas.{round_written}
use Rattle.cil_blocks.proofs.reports.spelled_space.Goals as goal

pub spelled-requires : goal.spelled-requires
spelled-requires c =
    let within = (round_written c.args.statements.now c.requires.nested c.args.spaces.now c.requires.written c.args.number).within in
    let is = c.round.ensures in
    omega (arith, within, is)

pub returns : goal.returns
returns c =
    subst (λ n. IfOk c.spelled.result (λ space. space ≡ qualified n))
    (ap (space_at c.args.spaces.now.namespaces) c.round.ensures ∙ (round_written c.args.statements.now c.requires.nested c.args.spaces.now c.requires.written c.args.number).is)
    c.spelled.ensures
