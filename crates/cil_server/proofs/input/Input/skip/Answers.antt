use Rattle.std.proofs.Common.{◌∙◌, ap, drop}
use Rattle.cil_server.proofs.InputLemmas.{skip_within, skipped}
use Rattle.cil_server.proofs.input.Input.skip.Goals as goal

pub returns-clause-buffered : goal.returns-clause-buffered
returns-clause-buffered g c =
    let i = c.self.invariant in
    let same = ap (λ z. z.buffered) c.self.view_is in
    skipped c.self.inside.bytes.items c.self.inside.start c.args.count c.self.inside.end
    (skip_within c.self.inside.bytes.items _ _ _ _ same i.0 i.1 c.requires) ∙ ap (λ z. drop c.args.count z) same
