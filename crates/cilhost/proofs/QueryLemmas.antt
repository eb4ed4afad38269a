-- What clap reads of the words of a query of tables: `--tables`, a file, and three words, of which none begins with `-`.
use Rattle.std.proofs.Common.{◌≡◌, ◌∙◌, ℕ, Bool, true, false, List, [], ◌∷◌, Option, None, Some, refl, ap, codes, ◌&&◌}
use Rattle.std.specs.Prelude.{fold, option_map, is_some}
use Rattle.std.specs.List.{AllByRecursion, list_all}
use Rattle.clap.specs.Simple.{Shape, built, built_leaf, entered, inherited, subcommand_of}
use Rattle.clap.specs.Takes.{default_passes, entered_passes, is_valid, level_passes, settle_passes, takes, turn_passes, walk_passes}
use Rattle.clap.specs.Walk.{Held, Row, Rule, Text, Walk, all_of, finished, first_of, nothing_held, rows_after, walk, walk_from, walked}
use Rattle.clap.specs.Walk.Waiting.{idle}
use Rattle.clap.proofs.OnLiterals.{clap_on_literals}
use Rattle.cilhost.specs.Arguments.{AskForDecide, IsPlain}
use Rattle.cilhost.specs.Commands.{decide, program, tables_rule, word_rule}
use Rattle.cilhost.proofs.ArgumentLemmas.{at_command, at_option, at_word, both, goes_on, no_flags, other_byte, program_names, program_rules, row_of_word, stopped_passes, stops_well}

abbrev query_leaf : Shape
query_leaf = built_leaf (inherited program.top decide.top)

abbrev query_rules : List Rule
query_rules = query_leaf.rules

-- after a word at its place, with what is known of the words before it
abbrev at_place : List Row → Text → Text → ℕ → Walk
at_place rows name word position = record {
  held = record { rows = rows; pending = Some (name, word ∷ []); skip = 0 };
  waiting = idle;
  position = position;
  is_trailing = false;
  stopped = None;
}

-- what is known of a file, a source and a target
abbrev after_path : Text → List Row
after_path path = row_of_word (codes "tables") tables_rule path ∷ []

abbrev after_source : Text → Text → List Row
after_source path source = row_of_word (codes "tables") tables_rule path ∷ row_of_word (codes "SOURCE") (word_rule (codes "SOURCE")) source ∷ []

abbrev after_target : Text → Text → Text → List Row
after_target path source target =
    row_of_word (codes "tables") tables_rule path ∷ row_of_word (codes "SOURCE") (word_rule (codes "SOURCE")) source
    ∷ row_of_word (codes "TARGET") (word_rule (codes "TARGET")) target ∷ []

tables_read : walked query_rules [] (walk_from nothing_held) (codes "--tables") ≡ at_option (codes "tables")
unfolding clap_on_literals
tables_read = refl

tables_pass : turn_passes query_leaf [] (walk_from nothing_held) (codes "--tables") ≡ true
unfolding clap_on_literals
tables_pass = refl

path_read : (path : Text) → IsPlain path → walked query_rules [] (at_option (codes "tables")) path ≡ at_word (codes "tables") path
unfolding clap_on_literals
path_read [] plain = refl
path_read (x ∷ xs) plain = rw (other_byte x xs plain, no_flags x xs plain) refl

path_passes : (path : Text) → IsPlain path → turn_passes query_leaf [] (at_option (codes "tables")) path ≡ true
unfolding clap_on_literals
path_passes [] plain = refl
path_passes (x ∷ xs) plain = rw (other_byte x xs plain, no_flags x xs plain) refl

source_read : (path source : Text) → IsPlain source
    → walked query_rules [] (at_word (codes "tables") path) source ≡ at_place (after_path path) (codes "SOURCE") source 2
unfolding clap_on_literals
source_read path [] plain = refl
source_read path (x ∷ xs) plain = rw (other_byte x xs plain, no_flags x xs plain) refl

source_passes : (path source : Text) → IsPlain source → turn_passes query_leaf [] (at_word (codes "tables") path) source ≡ true
unfolding clap_on_literals
source_passes path [] plain = refl
source_passes path (x ∷ xs) plain = rw (other_byte x xs plain, no_flags x xs plain) refl

target_read : (path source target : Text) → IsPlain target
    → walked query_rules [] (at_place (after_path path) (codes "SOURCE") source 2) target ≡ at_place (after_source path source) (codes "TARGET") target 3
unfolding clap_on_literals
target_read path source [] plain = refl
target_read path source (x ∷ xs) plain = rw (other_byte x xs plain, no_flags x xs plain) refl

target_passes : (path source target : Text) → IsPlain target → turn_passes query_leaf [] (at_place (after_path path) (codes "SOURCE") source 2) target ≡ true
unfolding clap_on_literals
target_passes path source [] plain = refl
target_passes path source (x ∷ xs) plain = rw (other_byte x xs plain, no_flags x xs plain) refl

class_read : (path source target class_name : Text) → IsPlain class_name
    → walked query_rules [] (at_place (after_source path source) (codes "TARGET") target 3) class_name
    ≡ at_place (after_target path source target) (codes "CLASS") class_name 4
unfolding clap_on_literals
class_read path source target [] plain = refl
class_read path source target (x ∷ xs) plain = rw (other_byte x xs plain, no_flags x xs plain) refl

class_passes : (path source target class_name : Text) → IsPlain class_name
    → turn_passes query_leaf [] (at_place (after_source path source) (codes "TARGET") target 3) class_name ≡ true
unfolding clap_on_literals
class_passes path source target [] plain = refl
class_passes path source target (x ∷ xs) plain = rw (other_byte x xs plain, no_flags x xs plain) refl

-- ---- all of the words

abbrev query_words : Text → Text → Text → Text → List Text
query_words path source target class_name = codes "--tables" ∷ path ∷ source ∷ target ∷ class_name ∷ []

abbrev at_last : Text → Text → Text → Text → Walk
at_last path source target class_name = at_place (after_target path source target) (codes "CLASS") class_name 4

-- what is asked of the words
abbrev ArePlain : Text → Text → Text → Text → Type 0
ArePlain path source target class_name = IsPlain path × AllByRecursion IsPlain (source ∷ target ∷ class_name ∷ [])

module _ (path source target class_name : Text) (plain : ArePlain path source target class_name) where
  all_read : walk query_rules [] nothing_held (query_words path source target class_name) ≡ at_last path source target class_name
  all_read =
      ap (λ w. fold (walked query_rules []) w (path ∷ source ∷ target ∷ class_name ∷ [])) tables_read
      ∙ ap (λ w. fold (walked query_rules []) w (source ∷ target ∷ class_name ∷ [])) (path_read path plain.0)
      ∙ ap (λ w. fold (walked query_rules []) w (target ∷ class_name ∷ [])) (source_read path source plain.1.0)
      ∙ ap (λ w. walked query_rules [] w class_name) (target_read path source target plain.1.1.0) ∙ class_read path source target class_name plain.1.1.1.0

  all_pass : walk_passes query_leaf [] (walk_from nothing_held) (query_words path source target class_name) ≡ true
  unfolding walk_passes
  all_pass = both _ _ tables_pass (ap (λ w. walk_passes query_leaf [] w (path ∷ source ∷ target ∷ class_name ∷ [])) tables_read
      ∙ both _ _ (path_passes path plain.0) (ap (λ w. walk_passes query_leaf [] w (source ∷ target ∷ class_name ∷ [])) (path_read path plain.0)
      ∙ both _ _ (source_passes path source plain.1.0) (ap (λ w. walk_passes query_leaf [] w (target ∷ class_name ∷ [])) (source_read path source plain.1.0)
      ∙ both _ _ (target_passes path source target plain.1.1.0) (ap (λ w. walk_passes query_leaf [] w (class_name ∷ [])) (target_read path source target plain.1.1.0)
      ∙ both _ _ (class_passes path source target class_name plain.1.1.1.0) refl))))

-- ---- what is found

-- the subcommand that was found, its four words, and no files
abbrev pub found_words : Option (Text × List Row) → Option (Text × Option Text × Option Text × Option Text × Option Text × Option (List Text))
found_words = option_map (λ p. (p.0, first_of (codes "tables") p.1, first_of (codes "SOURCE") p.1, first_of (codes "TARGET") p.1, first_of (codes "CLASS") p.1, all_of (codes "FILE") p.1))

abbrev found_rows : List Row → Option (Text × Option Text × Option Text × Option Text × Option Text × Option (List Text))
found_rows rows = found_words (Some (codes "decide", rows))

rows_found : (path source target class_name : Text)
    → found_rows (finished query_rules (at_last path source target class_name).held) ≡ Some (codes "decide", Some path, Some source, Some target, Some class_name, None)
unfolding clap_on_literals
rows_found path source target class_name = refl

found_of_query : (words : List Text) → found_words (entered (built program) (Some (codes "decide", words))) ≡ found_rows (rows_after query_rules [] words)
unfolding clap_on_literals
found_of_query words = refl

enters_query : walked program_rules program_names (walk_from nothing_held) (codes "decide") ≡ at_command (codes "decide") []
unfolding clap_on_literals
enters_query = refl

stops_at_query : (words : List Text) → walk program_rules program_names nothing_held (codes "decide" ∷ words) ≡ at_command (codes "decide") words
stops_at_query words = ap (λ w. fold (walked program_rules program_names) w words) enters_query ∙ goes_on (codes "decide") [] words

pub query_is_found : (path source target class_name : Text) (words : List Text) → AskForDecide words path source target class_name
    → found_words (subcommand_of program words) ≡ Some (codes "decide", Some path, Some source, Some target, Some class_name, None)
query_is_found path source target class_name words ((name, is, all), plain) =
    let given = query_words path source target class_name in
    let stopped : subcommand_of program words ≡ entered (built program) (Some (codes "decide", given)) =
    rw is (ap (λ (w : Walk). entered (built program) w.stopped) (stops_at_query given)) in
    ap found_words stopped ∙ found_of_query given ∙ ap (λ (w : Walk). found_rows (finished query_rules w.held)) (all_read path source target class_name (plain, all))
    ∙ rows_found path source target class_name

-- ---- the words are accepted

abbrev ends_well : Held → Bool
ends_well h = settle_passes query_rules false h && (list_all default_passes query_rules && is_valid query_leaf (finished query_rules h) false)

last_ends_well : (path source target class_name : Text) → ends_well (at_last path source target class_name).held ≡ true
unfolding clap_on_literals
last_ends_well path source target class_name = refl

same_level : (words : List Text)
    → level_passes query_leaf [] nothing_held words false ≡ (walk_passes query_leaf [] (walk_from nothing_held) words && ends_well (walk query_rules [] nothing_held words).held)
unfolding clap_on_literals
same_level words = refl

query_passes : (path source target class_name : Text) → ArePlain path source target class_name
    → level_passes query_leaf [] nothing_held (query_words path source target class_name) false ≡ true
query_passes path source target class_name plain = same_level (query_words path source target class_name)
    ∙ both _ _ (all_pass path source target class_name plain)
    (ap (λ (w : Walk). ends_well w.held) (all_read path source target class_name plain) ∙ last_ends_well path source target class_name)

program_passes : (words : List Text) → level_passes (built program).top program_names nothing_held (codes "decide" ∷ words) true ≡ true
unfolding clap_on_literals
program_passes words = both _ _ (stopped_passes (codes "decide") [] words) (ap stops_well (stops_at_query words) ∙ refl)

abbrev levels_pass : List Text → Option (Text × List Text) → Bool
levels_pass words stop = entered_passes (built program) stop
    && level_passes (built program).top program_names nothing_held (codes "decide" ∷ words) (is_some (entered (built program) stop))

enters_and_passes : (words : List Text) → level_passes query_leaf [] nothing_held words false ≡ true → levels_pass words (Some (codes "decide", words)) ≡ true
enters_and_passes words passes = both _ _ passes (program_passes words)

pub query_is_accepted : (path source target class_name : Text) (words : List Text) → AskForDecide words path source target class_name → takes program words ≡ true
query_is_accepted path source target class_name words ((name, is, all), plain) =
    let given = query_words path source target class_name in
    rw is (ap (λ (w : Walk). levels_pass given w.stopped) (stops_at_query given) ∙ enters_and_passes given (query_passes path source target class_name (plain, all)))
