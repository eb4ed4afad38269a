-- The program's subcommands and their arguments, in the words of clap's definitions. This project's profile.
use Rattle.std.specs.Prelude.{◌≡◌, ◌==◌, ℕ, List, true, false, not, codes, Some}
use Rattle.clap.specs.Lexer.{usize_max}
use Rattle.clap.specs.Simple.{App, app_of, new_app, new_rule, on_top, with_rule, with_subcommand}
use Rattle.clap.specs.Walk.{Rule}
use Rattle.clap.specs.declared.builder.action.ArgAction.TheVariants.{Append, Set, SetTrue}
use Rattle.clap.specs.declared.builder.command.Command.{Command}
use Rattle.clap.specs.declared.builder.command.Command.TheViews.{out-Command}

-- the files of a subcommand, of which there are this many at least
abbrev pub file_rule : ℕ → Rule
file_rule least = record (new_rule (codes "FILE")) {
  action = Some Append;
  range = Some (record { start_inclusive = least; end_inclusive = usize_max });
  required = not (least == 0);
}

-- a subcommand whose arguments are files
abbrev pub over_files : List ℕ → ℕ → App
over_files name least = with_rule (new_app name) (file_rule least)

-- the option that says how many decisions the cache may hold
abbrev pub cache_rule : Rule
cache_rule = record (new_rule (codes "cache")) { long = Some (codes "cache"); action = Some Set; value_names = 1 }

abbrev pub session : App
session = with_rule (over_files (codes "session") 0) cache_rule

abbrev pub check : App
check = over_files (codes "check") 1

-- the flag that asks for the optionals that are left out
abbrev pub optionals_rule : Rule
optionals_rule = record (new_rule (codes "optionals")) { long = Some (codes "optionals"); action = Some SetTrue }

abbrev pub locate : App
locate = with_rule (over_files (codes "locate") 1) optionals_rule

-- the option that says to which file tables are written
abbrev pub out_rule : Rule
out_rule = record (new_rule (codes "out")) { long = Some (codes "out"); action = Some Set; value_names = 1; required = true }

abbrev pub compile : App
compile = with_rule (over_files (codes "compile") 1) out_rule

-- the option that says which tables are asked
abbrev pub tables_rule : Rule
tables_rule = record (new_rule (codes "tables")) { long = Some (codes "tables"); action = Some Set; value_names = 1; required = true }

-- a word that has to be there
abbrev pub word_rule : List ℕ → Rule
word_rule name = record (new_rule name) { action = Some Set; required = true }

abbrev pub decide : App
decide = with_rule (with_rule (with_rule (with_rule (new_app (codes "decide")) tables_rule) (word_rule (codes "SOURCE"))) (word_rule (codes "TARGET"))) (word_rule (codes "CLASS"))

-- the program with its first three subcommands
abbrev pub program_of_modules : App
program_of_modules = with_subcommand (with_subcommand (with_subcommand
    (on_top (λ s. record s { has_version = true; subcommand_required = true; arg_required_else_help = true }) (new_app (codes "cilhost"))) session.top) check.top) locate.top

-- the program
abbrev pub program : App
program = with_subcommand (with_subcommand program_of_modules compile.top) decide.top

-- the command is this one, and its arguments are its own
pub record IsCommand (app : App) (c : Command) : Type 0 where
  pub is_app : app_of c ≡ app
  pub local : (out-Command c).has_globals ≡ false
