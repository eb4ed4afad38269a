use Rattle.std.proofs.Common.{subst}
use Rattle.cil_syntax.specs.Spoken.{HasHeadOf, levels_compared}
use Rattle.cil_syntax.proofs.Languages.{has_first, has_second}
use Rattle.cil_syntax.proofs.kind.Language.find_head.Goals as goal

pub returns-in-Some : goal.returns-in-Some
returns-in-Some c =
    has_first c.args.self c.args.text.now c.args.nodes.now _ (levels_compared c.args.self) c.heads.ensures c.in-Some.head (c.in-Some.ensures c.args.self)

pub returns : goal.returns
returns c =
    has_second c.args.self c.args.text.now c.args.nodes.now _ (levels_compared c.args.self) c.heads.ensures _ (c.in_default.ensures c.args.self)
    (subst (λ hs. HasHeadOf c.args.self hs c.args.text.now c.args.nodes.now c.first_head-2.result) c.levels_compared.ensures (c.first_head-2.ensures c.args.self))
