use Rattle.std.proofs.Common.{arith}
use Rattle.cil_macros.proofs.BodyLemmas.{statement_brought, statement_standing}
use Rattle.cil_macros.proofs.chain.statement_at.Goals as goal

pub returns-then-at-entries : goal.returns-then-at-entries
returns-then-at-entries c = λ ws p here. statement_standing ws c.args.entries.now c.args.called.now c.args.at p here _ c.if-at-entries.true

pub returns : goal.returns
returns c =
    let behind = c.if-at-entries.false in
    let within = c.requires in
    λ ws p here. statement_brought ws c.args.entries.now c.args.called.now c.args.at p here _ _ (omega (arith, behind, within)) (omega (arith, behind))
