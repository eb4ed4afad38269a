use Rattle.std.proofs.Common.{Some, ap, codes, true, ◌≡◌, ◌∙◌}
use Rattle.clap.specs.Simple.{new_rule}
use Rattle.clap.specs.Walk.{Rule, rule_of}
use Rattle.clap.specs.declared.builder.action.ArgAction.TheVariants.{Set}
use Rattle.clap.specs.declared.builder.arg.Arg.{Arg}
use Rattle.cilhost.proofs.arguments.out_argument.Goals as goal

pub returns-clause-rule : goal.returns-clause-rule
returns-clause-rule c =
    let named : rule_of c.long.result ≡ record (new_rule (codes "out")) { long = Some (codes "out") } =
    ap rule_of c.long.ensures ∙ ap (λ (r : Rule). record r { long = Some (codes "out") }) c.new.ensures.rule in
    let valued : rule_of c.value_name.result ≡ record (new_rule (codes "out")) { long = Some (codes "out"); value_names = 1 } =
    ap rule_of c.value_name.ensures ∙ ap (λ (r : Rule). record r { value_names = 1 }) named in
    let acted = ap rule_of c.action.ensures ∙ ap (λ (r : Rule). record r { action = Some Set }) valued in
    ap rule_of c.help.ensures ∙ ap rule_of c.required.ensures ∙ ap (λ (r : Rule). record r { required = true }) acted

pub returns-clause-local : goal.returns-clause-local
returns-clause-local c = ap (λ (a : Arg). a.global) c.help.ensures ∙ ap (λ (a : Arg). a.global) c.required.ensures ∙ ap (λ (a : Arg). a.global) c.action.ensures
    ∙ ap (λ (a : Arg). a.global) c.value_name.ensures ∙ ap (λ (a : Arg). a.global) c.long.ensures ∙ c.new.ensures.optional.1
