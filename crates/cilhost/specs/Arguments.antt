-- What the words of the program ask for. This project's profile.
use Rattle.std.specs.Prelude.{◌≡◌, ◌≢◌, ◌<◌, ◌≤◌, codes, ℕ, List, [], ◌∷◌, ◌++◌, Option, None, Some, IfSome, length, option_map, slice_index}
use Rattle.std.specs.List.{AllByRecursion}
use Rattle.std.specs.Str.Parse.{IsNumeral, digits_value}
use Rattle.clap.specs.Simple.{subcommand_rows_of}
use Rattle.clap.specs.Walk.{Row, Text, all_of, first_of}
use Rattle.clap.specs.Matches.{first_value}
use Rattle.clap.specs.declared.parser.matches.ArgMatches.{ArgMatches}
use Rattle.clap.specs.declared.parser.matches.Found.{Found}

-- the word does not begin with - (45)
abbrev pub IsPlain : List ℕ → Type 0
IsPlain word = slice_index word 0 ≢ 45

-- the words, of which the first is the program's name, ask for this subcommand with these options over these files
abbrev pub AskFor : List ℕ → List (List ℕ) → List (List ℕ) → List (List ℕ) → Type 0
AskFor command options words files = (name : List ℕ) × (words ≡ name ∷ command ∷ options ++ files) × AllByRecursion IsPlain files

-- the option that says how many decisions the cache may hold, where there is one
abbrev pub size_words : Option (List ℕ) → List (List ℕ)
size_words None = []
size_words (Some size) = codes "--cache" ∷ size ∷ []

-- they ask for a session, with this word behind `--cache` where there is one
abbrev pub AskForSession : List (List ℕ) → Option (List ℕ) → List (List ℕ) → Type 0
AskForSession words size files = AskFor (codes "session") (size_words size) words files × IfSome size IsPlain

-- they ask for a check, of one file at least
abbrev pub AskForCheck : List (List ℕ) → List (List ℕ) → Type 0
AskForCheck words files = AskFor (codes "check") [] words files × (0 < length files)

-- they ask for a compilation of some files, one at least, to the file `out`
abbrev pub AskForCompile : List (List ℕ) → List ℕ → List (List ℕ) → Type 0
AskForCompile words out files = AskFor (codes "compile") (codes "--out" ∷ out ∷ []) words files × IsPlain out × (0 < length files)

-- they ask for a query of the tables in the file `path`
abbrev pub AskForDecide : List (List ℕ) → List ℕ → List ℕ → List ℕ → List ℕ → Type 0
AskForDecide words path source target class_name =
    AskFor (codes "decide") (codes "--tables" ∷ path ∷ []) words (source ∷ target ∷ class_name ∷ []) × IsPlain path

-- they ask for one of these
pub data AskForOne (words : List (List ℕ)) : Type 0 where
  for_session : (size : Option (List ℕ)) (files : List (List ℕ)) → AskForSession words size files → AskForOne words
  for_check : (files : List (List ℕ)) → AskForCheck words files → AskForOne words
  for_compile : (out : List ℕ) (files : List (List ℕ)) → AskForCompile words out files → AskForOne words
  for_decide : (path source target class_name : List ℕ) → AskForDecide words path source target class_name → AskForOne words

-- the word is the decimal of this number, which is from 1 to 65536, without needless zeros: the byte of the digit 0 is 48
abbrev pub IsCapacity : List ℕ → ℕ → Type 0
IsCapacity word capacity = (slice_index word 0 ≢ 48) × IsNumeral 10 word × (digits_value 10 word ≡ capacity) × (1 ≤ capacity) × (capacity ≤ 65536)

-- the cache is to hold so many decisions at most
abbrev pub AsksForCache : Option (List ℕ) → ℕ → Type 0
AsksForCache None capacity = capacity ≡ 512
AsksForCache (Some word) capacity = IsCapacity word capacity

-- the word behind `--cache` is no such number
abbrev pub HasNoCapacity : Option (List ℕ) → Type 0
HasNoCapacity size = (capacity : ℕ) → AsksForCache size capacity → ⊥

-- the names of files, as an argument has them that may be left out
abbrev pub given_names : List (List ℕ) → Option (List (List ℕ))
given_names [] = None
given_names (file ∷ files) = Some (file ∷ files)

-- the subcommand that was found, and its files
abbrev pub names_in : Option (Text × List Row) → Option (Text × Option (List Text))
names_in = option_map (λ p. (p.0, all_of (codes "FILE") p.1))

-- the matches are those of this subcommand over these files
abbrev pub AreOf : List ℕ → List (List ℕ) → ArgMatches → Type 0
AreOf command files matches = names_in (subcommand_rows_of matches) ≡ Some (command, given_names files)

-- the matches have this word behind `--cache`, or none
abbrev pub HasSize : Option (List ℕ) → ArgMatches → Type 0
HasSize size matches = option_map (λ p. first_of (codes "cache") p.1) (subcommand_rows_of matches) ≡ Some size

-- the matches have this word under this name
abbrev pub HasWord : List ℕ → List ℕ → ArgMatches → Type 0
HasWord name word matches = option_map (λ p. first_of name p.1) (subcommand_rows_of matches) ≡ Some (Some word)

-- the matches have this file of tables, and this query
pub record HasQuery (path source target class_name : List ℕ) (matches : ArgMatches) : Type 0 where
  pub tables : HasWord (codes "tables") path matches
  pub source_word : HasWord (codes "SOURCE") source matches
  pub target_word : HasWord (codes "TARGET") target matches
  pub class_word : HasWord (codes "CLASS") class_name matches

-- what was found has this file of tables, and this query
pub record HasWords (found : Found) (path source target class_name : List ℕ) : Type 0 where
  pub tables : first_value found (codes "tables") ≡ Some path
  pub source_word : first_value found (codes "SOURCE") ≡ Some source
  pub target_word : first_value found (codes "TARGET") ≡ Some target
  pub class_word : first_value found (codes "CLASS") ≡ Some class_name
