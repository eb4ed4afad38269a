use Rattle.std.proofs.Common.{Some, ap, true, ◌≡◌, ◌∙◌}
use Rattle.clap.specs.Simple.{new_rule}
use Rattle.clap.specs.Walk.{Rule, rule_of}
use Rattle.clap.specs.declared.builder.action.ArgAction.TheVariants.{Set}
use Rattle.clap.specs.declared.builder.arg.Arg.{Arg}
use Rattle.cilhost.proofs.arguments.word_argument.Goals as goal

pub returns-clause-rule : goal.returns-clause-rule
returns-clause-rule c =
    let acted : rule_of c.action.result ≡ record (new_rule c.args.name.now) { action = Some Set } =
    ap rule_of c.action.ensures ∙ ap (λ (r : Rule). record r { action = Some Set }) c.new.ensures.rule in
    ap rule_of c.help.ensures ∙ ap rule_of c.required.ensures ∙ ap (λ (r : Rule). record r { required = true }) acted

pub returns-clause-local : goal.returns-clause-local
returns-clause-local c = ap (λ (a : Arg). a.global) c.help.ensures ∙ ap (λ (a : Arg). a.global) c.required.ensures ∙ ap (λ (a : Arg). a.global) c.action.ensures
    ∙ c.new.ensures.optional.1
