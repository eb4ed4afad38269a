use Rattle.std.proofs.Common.{ap, ap₂, codes, false, ◌≡◌, ◌∙◌}
use Rattle.std.specs.Prelude.{◌||◌}
use Rattle.std.proofs.lemmas.Result.{IfOk-weaker}
use Rattle.clap.specs.Simple.{app_of, app_of_fields, with_rule}
use Rattle.clap.specs.declared.builder.command.Command.TheOpen.{Command-F}
use Rattle.clap.specs.declared.builder.command.Command.{Command}
use Rattle.clap.specs.declared.builder.command.Command.TheViews.{out-Command}
use Rattle.cilhost.specs.Commands.{over_files}
use Rattle.cilhost.proofs.arguments.compile_command.Goals as goal

pub returns : goal.returns
returns c =
    let before : (out-Command c.after_long_help.result).has_globals ≡ false = ap (λ (f : Command-F Command). f.has_globals) c.after_long_help.ensures
    ∙ ap (λ (f : Command-F Command). f.has_globals) c.long_about.ensures ∙ ap (λ (f : Command-F Command). f.has_globals) c.about.ensures ∙ c.new.ensures.local in
    let described = ap app_of_fields c.after_long_help.ensures ∙ ap app_of_fields c.long_about.ensures ∙ ap app_of_fields c.about.ensures ∙ c.new.ensures.app in
    let files = c.in_ok-over_files.ensures in
    let is_files : app_of c.in_ok-over_files.over_files ≡ over_files (codes "compile") 1 =
    files.shape c.file_argument.ensures.local ∙ ap₂ with_rule described c.file_argument.ensures.rule in
    let local : (out-Command c.in_ok-over_files.over_files).has_globals ≡ false = files.globals ∙ ap₂ (λ a b. a || b) before c.file_argument.ensures.local in
    IfOk-weaker c.arg-2.result _ _ (λ m adds. record {
      is_app = adds.shape c.out_argument.ensures.local ∙ ap₂ with_rule is_files c.out_argument.ensures.rule;
      local = adds.globals ∙ ap₂ (λ a b. a || b) local c.out_argument.ensures.local;
    }) c.arg-2.ensures
