-- What clap reads of the words of a subcommand: its name, and files that do not begin with `-`.
use Rattle.std.proofs.Common.{◌≡◌, ◌∙◌, ℕ, Bool, true, false, List, [], ◌∷◌, ◌++◌, Option, None, Some, refl, sym, ap, inl, inr, codes, length, ◌≤◌, ◌&&◌, arith}
use Rattle.std.specs.Prelude.{◌==◌, fold, option_map, is_some, nat_le, IfSome}
use Rattle.std.specs.List.{AllByRecursion, list_all}
use Rattle.std.proofs.lemmas.List.{append-nil, append_assoc, length-append}
use Rattle.std.proofs.lemmas.Bool.Decides.{eqb_tells, nat_tests}
use Rattle.clap.specs.Lexer.{short_of, usize_max}
use Rattle.clap.specs.Simple.{App, Shape, built, entered, built_leaf, filled, inherited, names_of, subcommand_of, with_index}
use Rattle.clap.specs.Takes.{default_passes, entered_passes, is_valid, level_passes, settle_passes, takes, turn_passes, values_pass, walk_passes}
use Rattle.clap.specs.Walk.{Held, Names, Row, Rule, Text, Walk, all_of, finished, first_of, nothing_held, reading_by, rows_after, walk, walk_from, walked}
use Rattle.clap.specs.Walk.Waiting.{idle, option, positional}
use Rattle.clap.proofs.OnLiterals.{clap_on_literals}
use Rattle.clap.specs.declared.parser.matches.ValueSource.TheVariants.{CommandLine}
use Rattle.cilhost.specs.Arguments.{AskFor, IsPlain, given_names, names_in}
use Rattle.cilhost.specs.Commands.{cache_rule, check, compile, file_rule, out_rule, program, session}

-- ---- what is asked for: a check; a session, with a word behind `--cache` or without; or a compilation, with a word behind `--out`

pub data Asked : Type 0 where
  a_check : Asked
  a_session : Asked
  a_sized_session : Text → Asked
  a_compilation : Text → Asked

abbrev pub name_of : Asked → Text
name_of a_check = codes "check"
name_of a_session = codes "session"
name_of (a_sized_session size) = codes "session"
name_of (a_compilation out) = codes "compile"

-- the option that may have a word, and its word
abbrev pub key_of : Asked → Text
key_of a_check = codes "cache"
key_of a_session = codes "cache"
key_of (a_sized_session size) = codes "cache"
key_of (a_compilation out) = codes "out"

abbrev pub word_of : Asked → Option Text
word_of a_check = None
word_of a_session = None
word_of (a_sized_session size) = Some size
word_of (a_compilation out) = Some out

abbrev pub option_words : Asked → List Text
option_words a_check = []
option_words a_session = []
option_words (a_sized_session size) = codes "--cache" ∷ size ∷ []
option_words (a_compilation out) = codes "--out" ∷ out ∷ []

abbrev app_of_asked : Asked → App
app_of_asked a_check = check
app_of_asked a_session = session
app_of_asked (a_sized_session size) = session
app_of_asked (a_compilation out) = compile

-- a subcommand, once it is built, and its arguments
abbrev leaf : Asked → Shape
leaf asked = built_leaf (inherited program.top (app_of_asked asked).top)

abbrev rules_of : Asked → List Rule
rules_of asked = (leaf asked).rules

abbrev least_of : Asked → ℕ
least_of a_check = 1
least_of a_session = 0
least_of (a_sized_session size) = 0
least_of (a_compilation out) = 1

-- the words behind the name
abbrev all_words : Asked → List Text → List Text
all_words asked files = option_words asked ++ files

-- the word behind the option does not begin with `-`
abbrev pub HasPlainWord : Asked → Type 0
HasPlainWord asked = IfSome (word_of asked) IsPlain

-- ---- the words of a subcommand: files, whose names do not begin with `-`

-- after an option, and after the word behind it
abbrev pub at_option : Text → Walk
at_option key = record (walk_from (record { rows = []; pending = Some (key, []); skip = 0 })) { waiting = option key }

abbrev pub at_word : Text → Text → Walk
at_word key word = walk_from (record { rows = []; pending = Some (key, word ∷ []); skip = 0 })

-- before the files
abbrev begun : Asked → Walk
begun a_check = walk_from nothing_held
begun a_session = walk_from nothing_held
begun (a_sized_session size) = at_word (codes "cache") size
begun (a_compilation out) = at_word (codes "out") out

-- what is known of a word once another one follows
abbrev pub row_of_word : Text → Rule → Text → Row
row_of_word id rule word = record { id = id; values = word ∷ []; count = None; source = Some CommandLine; reading = reading_by (filled rule) }

abbrev rows_before : Asked → List Row
rows_before a_check = []
rows_before a_session = []
rows_before (a_sized_session size) = row_of_word (codes "cache") cache_rule size ∷ []
rows_before (a_compilation out) = row_of_word (codes "out") out_rule out ∷ []

-- after some files, of which no more is known than their names
abbrev at_files : Asked → List Text → Walk
at_files asked so_far = record {
  held = record { rows = rows_before asked; pending = Some (codes "FILE", so_far); skip = 0 };
  waiting = positional;
  position = 1;
  is_trailing = false;
  stopped = None;
}

pub other_byte : (x : ℕ) (xs : List ℕ) → IsPlain (x ∷ xs) → (x == 45) ≡ false
other_byte x xs plain = elim (eqb_tells x 45) [ inl same ↦ absurd (plain same.1) | inr other ↦ other.0 ]

pub no_flags : (x : ℕ) (xs : List ℕ) → IsPlain (x ∷ xs) → short_of (x ∷ xs) ≡ None
no_flags x xs plain = rw (other_byte x xs plain) refl

size_read : (size : Text) → IsPlain size → walked (rules_of a_session) [] (at_option (codes "cache")) size ≡ at_word (codes "cache") size
unfolding clap_on_literals
size_read [] plain = refl
size_read (x ∷ xs) plain = rw (other_byte x xs plain, no_flags x xs plain) refl

cache_read : walked (rules_of a_session) [] (walk_from nothing_held) (codes "--cache") ≡ at_option (codes "cache")
unfolding clap_on_literals
cache_read = refl

out_word_read : (out : Text) → IsPlain out → walked (rules_of (a_compilation out)) [] (at_option (codes "out")) out ≡ at_word (codes "out") out
unfolding clap_on_literals
out_word_read [] plain = refl
out_word_read (x ∷ xs) plain = rw (other_byte x xs plain, no_flags x xs plain) refl

out_read : (out : Text) → walked (rules_of (a_compilation out)) [] (walk_from nothing_held) (codes "--out") ≡ at_option (codes "out")
unfolding clap_on_literals
out_read out = refl

options_read : (asked : Asked) (files : List Text) → HasPlainWord asked → walk (rules_of asked) [] nothing_held (all_words asked files) ≡ fold (walked (rules_of asked) []) (begun asked) files
options_read a_check files plain = refl
options_read a_session files plain = refl
options_read (a_sized_session size) files plain =
    ap (λ w. fold (walked (rules_of a_session) []) (walked (rules_of a_session) [] w size) files) cache_read
    ∙ ap (λ w. fold (walked (rules_of a_session) []) w files) (size_read size plain)
options_read (a_compilation out) files plain =
    ap (λ w. fold (walked (rules_of (a_compilation out)) []) (walked (rules_of (a_compilation out)) [] w out) files) (out_read out)
    ∙ ap (λ w. fold (walked (rules_of (a_compilation out)) []) w files) (out_word_read out plain)

one_file : (asked : Asked) (so_far : List Text) (word : Text) → IsPlain word → walked (rules_of asked) [] (at_files asked so_far) word ≡ at_files asked (so_far ++ word ∷ [])
unfolding clap_on_literals
one_file a_check so_far [] plain = refl
one_file a_check so_far (x ∷ xs) plain = rw (other_byte x xs plain, no_flags x xs plain) refl
one_file a_session so_far [] plain = refl
one_file a_session so_far (x ∷ xs) plain = rw (other_byte x xs plain, no_flags x xs plain) refl
one_file (a_sized_session size) so_far [] plain = refl
one_file (a_sized_session size) so_far (x ∷ xs) plain = rw (other_byte x xs plain, no_flags x xs plain) refl
one_file (a_compilation out) so_far [] plain = refl
one_file (a_compilation out) so_far (x ∷ xs) plain = rw (other_byte x xs plain, no_flags x xs plain) refl

first_file : (asked : Asked) (word : Text) → IsPlain word → walked (rules_of asked) [] (begun asked) word ≡ at_files asked (word ∷ [])
unfolding clap_on_literals
first_file a_check [] plain = refl
first_file a_check (x ∷ xs) plain = rw (other_byte x xs plain, no_flags x xs plain) refl
first_file a_session [] plain = refl
first_file a_session (x ∷ xs) plain = rw (other_byte x xs plain, no_flags x xs plain) refl
first_file (a_sized_session size) [] plain = refl
first_file (a_sized_session size) (x ∷ xs) plain = rw (other_byte x xs plain, no_flags x xs plain) refl
first_file (a_compilation out) [] plain = refl
first_file (a_compilation out) (x ∷ xs) plain = rw (other_byte x xs plain, no_flags x xs plain) refl

more_files : (asked : Asked) (so_far files : List Text) → AllByRecursion IsPlain files → fold (walked (rules_of asked) []) (at_files asked so_far) files ≡ at_files asked (so_far ++ files)
more_files asked so_far [] all = ap (at_files asked) (sym (append-nil so_far))
more_files asked so_far (file ∷ files) all = ap (λ w. fold (walked (rules_of asked) []) w files) (one_file asked so_far file all.0)
    ∙ more_files asked (so_far ++ file ∷ []) files all.1 ∙ ap (at_files asked) (append_assoc so_far (file ∷ []) files)

all_files : (asked : Asked) (file : Text) (files : List Text) → HasPlainWord asked → AllByRecursion IsPlain (file ∷ files)
    → walk (rules_of asked) [] nothing_held (all_words asked (file ∷ files)) ≡ at_files asked (file ∷ files)
all_files asked file files plain all = options_read asked (file ∷ files) plain ∙ ap (λ w. fold (walked (rules_of asked) []) w files) (first_file asked file all.0)
    ∙ more_files asked (file ∷ []) files all.1

-- ---- the names and the word that are found

abbrev given_in : Text → List Row → Option Text × Option (List Text)
given_in key rows = (first_of key rows, all_of (codes "FILE") rows)

rows_without_files : (asked : Asked) → given_in (key_of asked) (finished (rules_of asked) (begun asked).held) ≡ (word_of asked, None)
unfolding clap_on_literals
rows_without_files a_check = refl
rows_without_files a_session = refl
rows_without_files (a_sized_session size) = refl
rows_without_files (a_compilation out) = refl

rows_with_files : (asked : Asked) (file : Text) (files : List Text) → given_in (key_of asked) (finished (rules_of asked) (at_files asked (file ∷ files)).held) ≡ (word_of asked, Some (file ∷ files))
unfolding clap_on_literals
rows_with_files a_check file files = refl
rows_with_files a_session file files = refl
rows_with_files (a_sized_session size) file files = refl
rows_with_files (a_compilation out) file files = refl

given_by_rows : (asked : Asked) (files : List Text) → HasPlainWord asked → AllByRecursion IsPlain files
    → given_in (key_of asked) (rows_after (rules_of asked) [] (all_words asked files)) ≡ (word_of asked, given_names files)
given_by_rows asked [] plain all = ap (λ (w : Walk). given_in (key_of asked) (finished (rules_of asked) w.held)) (options_read asked [] plain) ∙ rows_without_files asked
given_by_rows asked (file ∷ files) plain all = ap (λ (w : Walk). given_in (key_of asked) (finished (rules_of asked) w.held)) (all_files asked file files plain all) ∙ rows_with_files asked file files

-- ---- the words of the program

abbrev pub at_command : Text → List Text → Walk
at_command name so_far = record { held = nothing_held; waiting = idle; position = 1; is_trailing = false; stopped = Some (name, so_far) }

abbrev pub program_rules : List Rule
program_rules = (built program).top.rules

abbrev pub program_names : Names
program_names = names_of (built program)

enters : (asked : Asked) → walked program_rules program_names (walk_from nothing_held) (name_of asked) ≡ at_command (name_of asked) []
unfolding clap_on_literals
enters a_check = refl
enters a_session = refl
enters (a_sized_session size) = refl
enters (a_compilation out) = refl

pub goes_on : (name : Text) (so_far words : List Text) → fold (walked program_rules program_names) (at_command name so_far) words ≡ at_command name (so_far ++ words)
unfolding clap_on_literals
goes_on name so_far [] = ap (at_command name) (sym (append-nil so_far))
goes_on name so_far (word ∷ words) = goes_on name (so_far ++ word ∷ []) words ∙ ap (at_command name) (append_assoc so_far (word ∷ []) words)

stops_there : (asked : Asked) (words : List Text) → walk program_rules program_names nothing_held (name_of asked ∷ words) ≡ at_command (name_of asked) words
stops_there asked words = ap (λ w. fold (walked program_rules program_names) w words) (enters asked) ∙ goes_on (name_of asked) [] words

-- the words ask for this
abbrev pub Asks : Asked → List Text → List Text → Type 0
Asks asked words files = AskFor (name_of asked) (option_words asked) words files × HasPlainWord asked

-- the subcommand that was found, and the word of an option and the files that it was given
abbrev found_in : Text → Option (Text × List Row) → Option (Text × Option Text × Option (List Text))
found_in key = option_map (λ p. (p.0, first_of key p.1, all_of (codes "FILE") p.1))

-- this name, with what is given
abbrev told_as : Text → Option Text × Option (List Text) → Option (Text × Option Text × Option (List Text))
told_as name given = Some (name, given.0, given.1)

found_of_asked : (asked : Asked) (words : List Text) → found_in (key_of asked) (entered (built program) (Some (name_of asked, words))) ≡ told_as (name_of asked) (given_in (key_of asked) (rows_after (rules_of asked) [] words))
unfolding clap_on_literals
found_of_asked a_check words = refl
found_of_asked a_session words = refl
found_of_asked (a_sized_session size) words = refl
found_of_asked (a_compilation out) words = refl

command_is_asked : (asked : Asked) (words files : List Text) → Asks asked words files → found_in (key_of asked) (subcommand_of program words) ≡ Some (name_of asked, word_of asked, given_names files)
command_is_asked asked words files ((name, is, all), plain) =
    let stopped : subcommand_of program words ≡ entered (built program) (Some (name_of asked, all_words asked files)) =
    rw is (ap (λ (w : Walk). entered (built program) w.stopped) (stops_there asked (all_words asked files))) in
    ap (found_in (key_of asked)) stopped ∙ found_of_asked asked (all_words asked files) ∙ ap (told_as (name_of asked)) (given_by_rows asked files plain all)

pub files_are_found : (asked : Asked) (words files : List Text) → Asks asked words files → names_in (subcommand_of program words) ≡ Some (name_of asked, given_names files)
files_are_found asked words files asks = names (subcommand_of program words) ∙ ap (option_map (λ p. (p.0, p.2))) (command_is_asked asked words files asks)
  where
    names : (o : Option (Text × List Row)) → names_in o ≡ option_map (λ p. (p.0, p.2)) (found_in (key_of asked) o)
    names (Some p) = refl
    names None = refl

pub word_is_found : (asked : Asked) (words files : List Text) → Asks asked words files
    → option_map (λ p. first_of (key_of asked) p.1) (subcommand_of program words) ≡ Some (word_of asked)
word_is_found asked words files asks = word (subcommand_of program words) ∙ ap (option_map (λ p. p.1)) (command_is_asked asked words files asks)
  where
    word : (o : Option (Text × List Row)) → option_map (λ p. first_of (key_of asked) p.1) o ≡ option_map (λ p. p.1) (found_in (key_of asked) o)
    word (Some p) = refl
    word None = refl

-- ---- the words are accepted

pub both : (a b : Bool) → a ≡ true → b ≡ true → (a && b) ≡ true
both a b p q = rw (p, q) refl

turn_passes_on : (asked : Asked) (so_far : List Text) (word : Text) → IsPlain word → turn_passes (leaf asked) [] (at_files asked so_far) word ≡ true
unfolding clap_on_literals
turn_passes_on a_check so_far [] plain = refl
turn_passes_on a_check so_far (x ∷ xs) plain = rw (other_byte x xs plain, no_flags x xs plain) refl
turn_passes_on a_session so_far [] plain = refl
turn_passes_on a_session so_far (x ∷ xs) plain = rw (other_byte x xs plain, no_flags x xs plain) refl
turn_passes_on (a_sized_session size) so_far [] plain = refl
turn_passes_on (a_sized_session size) so_far (x ∷ xs) plain = rw (other_byte x xs plain, no_flags x xs plain) refl
turn_passes_on (a_compilation out) so_far [] plain = refl
turn_passes_on (a_compilation out) so_far (x ∷ xs) plain = rw (other_byte x xs plain, no_flags x xs plain) refl

turn_passes_first : (asked : Asked) (word : Text) → IsPlain word → turn_passes (leaf asked) [] (begun asked) word ≡ true
unfolding clap_on_literals
turn_passes_first a_check [] plain = refl
turn_passes_first a_check (x ∷ xs) plain = rw (other_byte x xs plain, no_flags x xs plain) refl
turn_passes_first a_session [] plain = refl
turn_passes_first a_session (x ∷ xs) plain = rw (other_byte x xs plain, no_flags x xs plain) refl
turn_passes_first (a_sized_session size) [] plain = refl
turn_passes_first (a_sized_session size) (x ∷ xs) plain = rw (other_byte x xs plain, no_flags x xs plain) refl
turn_passes_first (a_compilation out) [] plain = refl
turn_passes_first (a_compilation out) (x ∷ xs) plain = rw (other_byte x xs plain, no_flags x xs plain) refl

walk_passes_on : (asked : Asked) (so_far files : List Text) → AllByRecursion IsPlain files → walk_passes (leaf asked) [] (at_files asked so_far) files ≡ true
unfolding walk_passes
walk_passes_on asked so_far [] all = refl
walk_passes_on asked so_far (file ∷ files) all = both _ _ (turn_passes_on asked so_far file all.0)
    (ap (λ w. walk_passes (leaf asked) [] w files) (one_file asked so_far file all.0) ∙ walk_passes_on asked (so_far ++ file ∷ []) files all.1)

walk_passes_files : (asked : Asked) (files : List Text) → AllByRecursion IsPlain files → walk_passes (leaf asked) [] (begun asked) files ≡ true
unfolding walk_passes
walk_passes_files asked [] all = refl
walk_passes_files asked (file ∷ files) all = both _ _ (turn_passes_first asked file all.0)
    (ap (λ w. walk_passes (leaf asked) [] w files) (first_file asked file all.0) ∙ walk_passes_on asked (file ∷ []) files all.1)

size_passes : (size : Text) → IsPlain size → turn_passes (leaf a_session) [] (at_option (codes "cache")) size ≡ true
unfolding clap_on_literals
size_passes [] plain = refl
size_passes (x ∷ xs) plain = rw (other_byte x xs plain, no_flags x xs plain) refl

cache_passes : turn_passes (leaf a_session) [] (walk_from nothing_held) (codes "--cache") ≡ true
unfolding clap_on_literals
cache_passes = refl

out_word_passes : (out : Text) → IsPlain out → turn_passes (leaf (a_compilation out)) [] (at_option (codes "out")) out ≡ true
unfolding clap_on_literals
out_word_passes [] plain = refl
out_word_passes (x ∷ xs) plain = rw (other_byte x xs plain, no_flags x xs plain) refl

out_passes : (out : Text) → turn_passes (leaf (a_compilation out)) [] (walk_from nothing_held) (codes "--out") ≡ true
unfolding clap_on_literals
out_passes out = refl

walk_passes_all : (asked : Asked) (files : List Text) → HasPlainWord asked → AllByRecursion IsPlain files
    → walk_passes (leaf asked) [] (walk_from nothing_held) (all_words asked files) ≡ true
unfolding walk_passes
walk_passes_all a_check files plain all = walk_passes_files a_check files all
walk_passes_all a_session files plain all = walk_passes_files a_session files all
walk_passes_all (a_sized_session size) files plain all = both _ _ cache_passes (
    ap (λ w. walk_passes (leaf a_session) [] w (size ∷ files)) cache_read ∙ both _ _ (size_passes size plain)
    (ap (λ w. walk_passes (leaf a_session) [] w files) (size_read size plain) ∙ walk_passes_files (a_sized_session size) files all))
walk_passes_all (a_compilation out) files plain all = both _ _ (out_passes out) (
    ap (λ w. walk_passes (leaf (a_compilation out)) [] w (out ∷ files)) (out_read out) ∙ both _ _ (out_word_passes out plain)
    (ap (λ w. walk_passes (leaf (a_compilation out)) [] w files) (out_word_read out plain) ∙ walk_passes_files (a_compilation out) files all))

names_pass : (asked : Asked) (files : List Text) → values_pass (with_index 1 (filled (file_rule (least_of asked)))) files ≡ true
unfolding clap_on_literals
names_pass asked [] = refl
names_pass asked (file ∷ files) = names_pass asked files

count_passes : (m n : ℕ) → m ≤ n → nat_le m n ≡ true
count_passes m n below = grind (arith, nat_tests)

settles : (asked : Asked) (file : Text) (files : List Text) → length (file ∷ files) ≤ usize_max → least_of asked ≤ length (file ∷ files)
    → settle_passes (rules_of asked) false (at_files asked (file ∷ files)).held ≡ true
unfolding clap_on_literals
settles a_check file files below enough = both _ _ (count_passes _ _ enough) (both _ _ (count_passes _ _ below) (names_pass a_check (file ∷ files)))
settles a_session file files below enough = both _ _ (count_passes _ _ enough) (both _ _ (count_passes _ _ below) (names_pass a_session (file ∷ files)))
settles (a_sized_session size) file files below enough =
    both _ _ (count_passes _ _ enough) (both _ _ (count_passes _ _ below) (names_pass (a_sized_session size) (file ∷ files)))
settles (a_compilation out) file files below enough =
    both _ _ (count_passes _ _ enough) (both _ _ (count_passes _ _ below) (names_pass (a_compilation out) (file ∷ files)))

-- what is held passes where the walk ends
abbrev ends_well : Asked → Held → Bool
ends_well asked h = settle_passes (rules_of asked) false h && (list_all default_passes (rules_of asked) && is_valid (leaf asked) (finished (rules_of asked) h) false)

valid_with_files : (asked : Asked) (file : Text) (files : List Text)
    → (list_all default_passes (rules_of asked) && is_valid (leaf asked) (finished (rules_of asked) (at_files asked (file ∷ files)).held) false) ≡ true
unfolding clap_on_literals
valid_with_files a_check file files = refl
valid_with_files a_session file files = refl
valid_with_files (a_sized_session size) file files = refl
valid_with_files (a_compilation out) file files = refl

-- the files of a session, and of a check or a compilation where there is one
abbrev pub AreEnough : Asked → List Text → Type 0
AreEnough asked files = least_of asked ≤ length files

without_files : (asked : Asked) → AreEnough asked [] → ends_well asked (begun asked).held ≡ true
unfolding clap_on_literals
without_files a_check enough = absurd (omega (arith, enough))
without_files a_session enough = refl
without_files (a_sized_session size) enough = refl
without_files (a_compilation out) enough = absurd (omega (arith, enough))

level_ends_well : (asked : Asked) (files : List Text) → HasPlainWord asked → AllByRecursion IsPlain files → length files ≤ usize_max → AreEnough asked files
    → ends_well asked (walk (rules_of asked) [] nothing_held (all_words asked files)).held ≡ true
level_ends_well asked [] plain all below enough = ap (λ (w : Walk). ends_well asked w.held) (options_read asked [] plain) ∙ without_files asked enough
level_ends_well asked (file ∷ files) plain all below enough = ap (λ (w : Walk). ends_well asked w.held) (all_files asked file files plain all)
    ∙ both _ _ (settles asked file files below enough) (valid_with_files asked file files)

same_level : (asked : Asked) (words : List Text)
    → level_passes (leaf asked) [] nothing_held words false ≡ (walk_passes (leaf asked) [] (walk_from nothing_held) words && ends_well asked (walk (rules_of asked) [] nothing_held words).held)
unfolding clap_on_literals
same_level a_check words = refl
same_level a_session words = refl
same_level (a_sized_session size) words = refl
same_level (a_compilation out) words = refl

all_pass : (asked : Asked) (files : List Text) → HasPlainWord asked → AllByRecursion IsPlain files → length files ≤ usize_max → AreEnough asked files
    → level_passes (leaf asked) [] nothing_held (all_words asked files) false ≡ true
all_pass asked files plain all below enough = same_level asked (all_words asked files)
    ∙ both _ _ (walk_passes_all asked files plain all) (level_ends_well asked files plain all below enough)

pub stopped_passes : (name : Text) (so_far words : List Text) → walk_passes (built program).top program_names (at_command name so_far) words ≡ true
unfolding clap_on_literals
stopped_passes name so_far [] = refl
stopped_passes name so_far (word ∷ words) = stopped_passes name (so_far ++ word ∷ []) words

-- what the program holds where it stops at a subcommand passes
abbrev pub stops_well : Walk → Bool
stops_well w = settle_passes program_rules false w.held && (list_all default_passes program_rules && is_valid (built program).top (finished program_rules w.held) true)

program_passes : (asked : Asked) (words : List Text) → level_passes (built program).top program_names nothing_held (name_of asked ∷ words) true ≡ true
unfolding clap_on_literals
program_passes a_check words = both _ _ (stopped_passes (codes "check") [] words) (ap stops_well (stops_there a_check words) ∙ refl)
program_passes a_session words = both _ _ (stopped_passes (codes "session") [] words) (ap stops_well (stops_there a_session words) ∙ refl)
program_passes (a_sized_session size) words = both _ _ (stopped_passes (codes "session") [] words) (ap stops_well (stops_there a_session words) ∙ refl)
program_passes (a_compilation out) words = both _ _ (stopped_passes (codes "compile") [] words) (ap stops_well (stops_there (a_compilation out) words) ∙ refl)

-- the level of the subcommand at which the program stops, and its own, pass
abbrev levels_pass : Asked → List Text → Option (Text × List Text) → Bool
levels_pass asked words stop = entered_passes (built program) stop
    && level_passes (built program).top program_names nothing_held (name_of asked ∷ words) (is_some (entered (built program) stop))

enters_and_passes : (asked : Asked) (words : List Text) → level_passes (leaf asked) [] nothing_held words false ≡ true → levels_pass asked words (Some (name_of asked, words)) ≡ true
enters_and_passes a_check words passes = both _ _ passes (program_passes a_check words)
enters_and_passes a_session words passes = both _ _ passes (program_passes a_session words)
enters_and_passes (a_sized_session size) words passes = both _ _ passes (program_passes a_session words)
enters_and_passes (a_compilation out) words passes = both _ _ passes (program_passes (a_compilation out) words)

pub command_is_accepted : (asked : Asked) (words files : List Text) → Asks asked words files → AreEnough asked files → length files ≤ usize_max → takes program words ≡ true
command_is_accepted asked words files ((name, is, all), plain) enough below = rw is (
    ap (λ (w : Walk). levels_pass asked (all_words asked files) w.stopped) (stops_there asked (all_words asked files))
    ∙ enters_and_passes asked (all_words asked files) (all_pass asked files plain all below enough))

-- the files are no more than the words
pub fewer_files : (command : Text) (options words files : List Text) → length words ≤ usize_max → AskFor command options words files → length files ≤ usize_max
fewer_files command options words files few (name, is, all) = omega (arith, few, ap length is, length-append options files)
