use Rattle.std.proofs.Common.{ap, ap₂, ◌∙◌}
use Rattle.std.proofs.lemmas.Result.{IfOk-weaker}
use Rattle.clap.specs.Simple.{App, with_subcommand}
use Rattle.cilhost.proofs.arguments.with_tables.Goals as goal

pub returns : goal.returns
returns c =
    let with_compile = c.in_ok-with_compile.ensures.shape c.in_ok-compile.ensures.local ∙ ap₂ with_subcommand c.requires (ap (λ (a : App). a.top) c.in_ok-compile.ensures.is_app) in
    IfOk-weaker c.subcommand-2.result _ _ (λ m adds. adds.shape c.in_ok-decide.ensures.local ∙ ap₂ with_subcommand with_compile (ap (λ (a : App). a.top) c.in_ok-decide.ensures.is_app))
    c.subcommand-2.ensures
