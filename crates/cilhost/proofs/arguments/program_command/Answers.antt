use Rattle.std.proofs.Common.{ap, ap₂, codes, true, ◌≡◌, ◌∙◌}
use Rattle.clap.specs.Simple.{App, app_of, app_of_fields, new_app, on_top, with_subcommand}
use Rattle.cilhost.proofs.arguments.program_command.Goals as goal

pub with_tables-requires : goal.with_tables-requires
with_tables-requires c =
    let versioned : app_of c.version.result ≡ on_top (λ s. record s { has_version = true }) (new_app (codes "cilhost")) =
    ap app_of_fields c.version.ensures ∙ ap (on_top (λ s. record s { has_version = true })) c.new.ensures.app in
    let described : app_of c.after_help.result ≡ on_top (λ s. record s { has_version = true }) (new_app (codes "cilhost")) =
    ap app_of_fields c.after_help.ensures ∙ ap app_of_fields c.long_about.ensures ∙ ap app_of_fields c.about.ensures ∙ versioned in
    let required = ap app_of_fields c.subcommand_required.ensures ∙ ap (on_top (λ s. record s { subcommand_required = true })) described in
    let helped = ap app_of_fields c.arg_required_else_help.ensures ∙ ap (on_top (λ s. record s { arg_required_else_help = true })) required in
    let with_session = c.in_ok-with_session.ensures.shape c.in_ok-session.ensures.local ∙ ap₂ with_subcommand helped (ap (λ (a : App). a.top) c.in_ok-session.ensures.is_app) in
    let with_check = c.in_ok-with_check.ensures.shape c.in_ok-check.ensures.local ∙ ap₂ with_subcommand with_session (ap (λ (a : App). a.top) c.in_ok-check.ensures.is_app) in
    c.in_ok-with_locate.ensures.shape c.in_ok-locate.ensures.local ∙ ap₂ with_subcommand with_check (ap (λ (a : App). a.top) c.in_ok-locate.ensures.is_app)
