use Rattle.std.proofs.Common.{ap, codes, ◌≡◌, ◌∙◌, Some}
use Rattle.clap.specs.Simple.{new_rule}
use Rattle.clap.specs.Walk.{Rule, rule_of}
use Rattle.clap.specs.declared.builder.action.ArgAction.TheVariants.{SetTrue}
use Rattle.clap.specs.declared.builder.arg.Arg.{Arg}
use Rattle.cilhost.proofs.arguments.optionals_argument.Goals as goal

pub returns-clause-rule : goal.returns-clause-rule
returns-clause-rule c =
    let named : rule_of c.long.result ≡ record (new_rule (codes "optionals")) { long = Some (codes "optionals") } =
    ap rule_of c.long.ensures ∙ ap (λ (r : Rule). record r { long = Some (codes "optionals") }) c.new.ensures.rule in
    ap rule_of c.help.ensures ∙ ap rule_of c.action.ensures ∙ ap (λ (r : Rule). record r { action = Some SetTrue }) named

pub returns-clause-local : goal.returns-clause-local
returns-clause-local c = ap (λ (a : Arg). a.global) c.help.ensures ∙ ap (λ (a : Arg). a.global) c.action.ensures ∙ ap (λ (a : Arg). a.global) c.long.ensures
    ∙ c.new.ensures.optional.1
