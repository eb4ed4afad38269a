use Rattle.std.proofs.Common.{ap, ap₂, codes, false, ◌≡◌, ◌∙◌}
use Rattle.std.specs.Prelude.{◌||◌}
use Rattle.std.proofs.lemmas.Result.{IfOk-weaker}
use Rattle.clap.specs.Simple.{app_of, app_of_fields, new_app, with_rule}
use Rattle.clap.specs.declared.builder.command.Command.TheOpen.{Command-F}
use Rattle.clap.specs.declared.builder.command.Command.{Command}
use Rattle.clap.specs.declared.builder.command.Command.TheViews.{out-Command}
use Rattle.cilhost.specs.Commands.{tables_rule, word_rule}
use Rattle.cilhost.proofs.arguments.decide_command.Goals as goal

pub returns : goal.returns
returns c =
    let before : (out-Command c.after_long_help.result).has_globals ≡ false = ap (λ (f : Command-F Command). f.has_globals) c.after_long_help.ensures
    ∙ ap (λ (f : Command-F Command). f.has_globals) c.long_about.ensures ∙ ap (λ (f : Command-F Command). f.has_globals) c.about.ensures ∙ c.new.ensures.local in
    let described = ap app_of_fields c.after_long_help.ensures ∙ ap app_of_fields c.long_about.ensures ∙ ap app_of_fields c.about.ensures ∙ c.new.ensures.app in
    let one = c.in_ok-over_tables.ensures in
    let is_one : app_of c.in_ok-over_tables.over_tables ≡ with_rule (new_app (codes "decide")) tables_rule =
    one.shape c.tables_argument.ensures.local ∙ ap₂ with_rule described c.tables_argument.ensures.rule in
    let local_one : (out-Command c.in_ok-over_tables.over_tables).has_globals ≡ false = one.globals ∙ ap₂ (λ a b. a || b) before c.tables_argument.ensures.local in
    let two = c.in_ok-of_source.ensures in
    let is_two : app_of c.in_ok-of_source.of_source ≡ with_rule (with_rule (new_app (codes "decide")) tables_rule) (word_rule (codes "SOURCE")) =
    two.shape c.word_argument.ensures.local ∙ ap₂ with_rule is_one c.word_argument.ensures.rule in
    let local_two : (out-Command c.in_ok-of_source.of_source).has_globals ≡ false = two.globals ∙ ap₂ (λ a b. a || b) local_one c.word_argument.ensures.local in
    let three = c.in_ok-onto_target.ensures in
    let is_three : app_of c.in_ok-onto_target.onto_target ≡ with_rule (with_rule (with_rule (new_app (codes "decide")) tables_rule) (word_rule (codes "SOURCE"))) (word_rule (codes "TARGET")) =
    three.shape c.word_argument-2.ensures.local ∙ ap₂ with_rule is_two c.word_argument-2.ensures.rule in
    let local_three : (out-Command c.in_ok-onto_target.onto_target).has_globals ≡ false = three.globals ∙ ap₂ (λ a b. a || b) local_two c.word_argument-2.ensures.local in
    IfOk-weaker c.arg-4.result _ _ (λ m adds. record {
      is_app = adds.shape c.word_argument-3.ensures.local ∙ ap₂ with_rule is_three c.word_argument-3.ensures.rule;
      local = adds.globals ∙ ap₂ (λ a b. a || b) local_three c.word_argument-3.ensures.local;
    }) c.arg-4.ensures
