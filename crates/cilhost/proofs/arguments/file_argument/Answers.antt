use Rattle.std.proofs.Common.{ap, codes, ◌≡◌, ◌∙◌, Option, None, Some}
use Rattle.std.specs.Prelude.{◌==◌, not, IsSomeAnd}
use Rattle.clap.specs.Simple.{new_rule}
use Rattle.clap.specs.Walk.{Rule, rule_of}
use Rattle.clap.specs.declared.builder.action.ArgAction.TheVariants.{Append}
use Rattle.clap.specs.declared.builder.arg.Arg.{Arg}
use Rattle.clap.specs.declared.builder.range.ValueRange.{ValueRange}
use Rattle.cilhost.proofs.arguments.file_argument.Goals as goal

is_some_of : (o : Option ValueRange) (v : ValueRange) → IsSomeAnd o (λ r. r ≡ v) → o ≡ Some v
is_some_of (Some r) v is = ap Some is
is_some_of None v is = absurd is

pub returns-clause-rule : goal.returns-clause-rule
returns-clause-rule c =
    let ranged : rule_of c.num_args.result ≡ record (rule_of c.action.result) { range = c.num_args.result.num_vals } = ap rule_of c.num_args.ensures.0 in
    let acted : rule_of c.action.result ≡ record (rule_of c.new.result) { action = Some Append } = ap rule_of c.action.ensures in
    let begun = ranged
    ∙ ap (λ (r : Rule). record r { range = c.num_args.result.num_vals }) (acted ∙ ap (λ (r : Rule). record r { action = Some Append }) c.new.ensures.rule)
    ∙ ap (λ n. record (new_rule (codes "FILE")) { action = Some Append; range = n }) (is_some_of _ _ c.num_args.ensures.1) in
    ap rule_of c.help.ensures ∙ ap rule_of c.required.ensures ∙ ap (λ (r : Rule). record r { required = not (c.args.least == 0) }) begun

pub returns-clause-local : goal.returns-clause-local
returns-clause-local c = ap (λ (a : Arg). a.global) c.help.ensures ∙ ap (λ (a : Arg). a.global) c.required.ensures ∙ ap (λ (a : Arg). a.global) c.num_args.ensures.0
    ∙ ap (λ (a : Arg). a.global) c.action.ensures ∙ c.new.ensures.optional.1
