-- What is found of the words that ask for a subcommand, and what the program does with that.
use Rattle.std.proofs.Common.{◌≡◌, ◌∙◌, Bool, true, false, List, [], ◌∷◌, ◌⊎◌, map, Option, None, Some, refl, sym, ap, inl, inr, codes, length, ◌≤◌, arith}
use Rattle.std.specs.Prelude.{option_map, unwrap_or}
use Rattle.clap.specs.Lexer.{usize_max}
use Rattle.clap.specs.Simple.{subcommand_of}
use Rattle.clap.specs.Takes.{takes}
use Rattle.clap.specs.Walk.{Row, Text, all_of, first_of}
use Rattle.clap.specs.Matches.{first_value, found_of, matched_of, raw_values, subcommand_name_of}
use Rattle.clap.specs.Simple.{subcommand_rows, subcommand_rows_of}
use Rattle.clap.specs.Walk.{rows_of}
use Rattle.clap.specs.declared.parser.matches.ArgMatches.{ArgMatches}
use Rattle.clap.specs.declared.parser.matches.ArgMatches.TheViews.{out-ArgMatches, out-SubCommand}
use Rattle.clap.specs.declared.parser.matches.SubCommand.{SubCommand}
use Rattle.std.specs.Global.{Global}
use Rattle.std.specs.Prelude.{Box, bytes_eq, option_and_then}
use Rattle.std.specs.Box.{box_value}
use Rattle.clap.specs.declared.error.kind.ErrorKind.{ErrorKind}
use Rattle.clap.specs.declared.error.kind.ErrorKind.TheVariants.{OutOfMemory}
use Rattle.clap.proofs.WalkLemmas.{first_value-rows, raw_values-rows}
use Rattle.std.specs.Borrow.{Bor}
use Rattle.cilhost.specs.Ends.{answer_to}
use Rattle.cilhost.specs.declared.status.Status.{Status}
use Rattle.cilhost.specs.declared.status.Status.TheVariants.{Done, Failed, NoMemory}
use Rattle.cilhost.specs.Arguments.{AreOf, AskForCheck, AskForCompile, AskForDecide, AskForOne, AskForSession, HasQuery, HasWords, given_names, names_in, size_words}
use Rattle.cilhost.specs.Commands.{program}
use Rattle.cilhost.proofs.ArgumentLemmas.{a_check, a_compilation, a_session, a_sized_session, command_is_accepted, fewer_files, files_are_found, word_is_found}
use Rattle.cilhost.proofs.QueryLemmas.{found_words, query_is_accepted, query_is_found}

-- ---- the same in the words of specs/

pub session_is_found : (size : Option Text) (words files : List Text) → AskForSession words size files
    → (names_in (subcommand_of program words) ≡ Some (codes "session", given_names files))
    × (option_map (λ p. first_of (codes "cache") p.1) (subcommand_of program words) ≡ Some size)
session_is_found None words files asks = (files_are_found a_session words files asks, word_is_found a_session words files asks)
session_is_found (Some size) words files asks = (files_are_found (a_sized_session size) words files asks, word_is_found (a_sized_session size) words files asks)

pub check_is_found : (words files : List Text) → AskForCheck words files → names_in (subcommand_of program words) ≡ Some (codes "check", given_names files)
check_is_found words files asks = files_are_found a_check words files (asks.0, tt {0})

pub compilation_is_found : (out : Text) (words files : List Text) → AskForCompile words out files
    → (names_in (subcommand_of program words) ≡ Some (codes "compile", given_names files))
    × (option_map (λ p. first_of (codes "out") p.1) (subcommand_of program words) ≡ Some (Some out))
compilation_is_found out words files asks =
    (files_are_found (a_compilation out) words files (asks.0, asks.1), word_is_found (a_compilation out) words files (asks.0, asks.1))

-- what is found of a query
names_of_query : (found : Option (Text × List Row)) (p s t c : Text) → found_words found ≡ Some (codes "decide", Some p, Some s, Some t, Some c, None)
    → names_in found ≡ Some (codes "decide", given_names [])
names_of_query (Some r) p s t c is = ap (option_map (λ (q : Text × Option Text × Option Text × Option Text × Option Text × Option (List Text)). (q.0, q.5))) is
names_of_query None p s t c is = absurd cc

word_of_query : (id : Text) (pick : Text × Option Text × Option Text × Option Text × Option Text × Option (List Text) → Option Text) (found : Option (Text × List Row)) (p s t c : Text)
    → ((r : Text × List Row) → pick (r.0, first_of (codes "tables") r.1, first_of (codes "SOURCE") r.1, first_of (codes "TARGET") r.1, first_of (codes "CLASS") r.1, all_of (codes "FILE") r.1)
    ≡ first_of id r.1)
    → found_words found ≡ Some (codes "decide", Some p, Some s, Some t, Some c, None)
    → option_map (λ r. first_of id r.1) found ≡ Some (pick (codes "decide", Some p, Some s, Some t, Some c, None))
word_of_query id pick (Some r) p s t c picks is = ap Some (sym (picks r)) ∙ ap (option_map pick) is
word_of_query id pick None p s t c picks is = absurd cc

pub query_found : (path source target class_name : Text) (words : List Text) → AskForDecide words path source target class_name
    → (names_in (subcommand_of program words) ≡ Some (codes "decide", given_names []))
    × (option_map (λ r. first_of (codes "tables") r.1) (subcommand_of program words) ≡ Some (Some path))
    × (option_map (λ r. first_of (codes "SOURCE") r.1) (subcommand_of program words) ≡ Some (Some source))
    × (option_map (λ r. first_of (codes "TARGET") r.1) (subcommand_of program words) ≡ Some (Some target))
    × (option_map (λ r. first_of (codes "CLASS") r.1) (subcommand_of program words) ≡ Some (Some class_name))
query_found path source target class_name words asks =
    let is = query_is_found path source target class_name words asks in
    let found = subcommand_of program words in (
      names_of_query found _ _ _ _ is,
      word_of_query (codes "tables") (λ q. q.1) found _ _ _ _ (λ r. refl) is,
      word_of_query (codes "SOURCE") (λ q. q.2) found _ _ _ _ (λ r. refl) is,
      word_of_query (codes "TARGET") (λ q. q.3) found _ _ _ _ (λ r. refl) is,
      word_of_query (codes "CLASS") (λ q. q.4) found _ _ _ _ (λ r. refl) is,
    )

pub is_accepted : (words : List Text) → length words ≤ usize_max → AskForOne words → takes program words ≡ true
is_accepted words few (AskForOne.for_session None files asks) = command_is_accepted a_session words files asks (omega arith) (fewer_files _ [] words files few asks.0)
is_accepted words few (AskForOne.for_session (Some size) files asks) =
    command_is_accepted (a_sized_session size) words files asks (omega arith) (fewer_files _ (size_words (Some size)) words files few asks.0)
is_accepted words few (AskForOne.for_check files asks) =
    command_is_accepted a_check words files (asks.0, tt {0}) (omega (arith, asks.1)) (fewer_files _ [] words files few asks.0)
is_accepted words few (AskForOne.for_compile out files asks) =
    command_is_accepted (a_compilation out) words files (asks.0, asks.1) (omega (arith, asks.2)) (fewer_files _ (codes "--out" ∷ out ∷ []) words files few asks.0)
is_accepted words few (AskForOne.for_decide path source target class_name asks) = query_is_accepted path source target class_name words asks

-- ---- what the program does with the matches

-- no memory for the arguments ends the program so
pub memory_status : (kind : ErrorKind) (status : Status) → kind ≡ OutOfMemory → (status ≡ answer_to kind) ⊎ ((answer_to kind ≡ Done) × ((status ≡ Failed) ⊎ (status ≡ NoMemory)))
    → status ≡ NoMemory
memory_status kind status memory (inl is) = is ∙ ap answer_to memory
memory_status kind status memory (inr (done, failed)) = let other : NoMemory ≡ Done = sym (ap answer_to memory) ∙ done in absurd cc

pub memory_is_no_help : (kind : ErrorKind) → kind ≡ OutOfMemory → answer_to kind ≡ Done → ⊥
memory_is_no_help kind memory done = let other : NoMemory ≡ Done = sym (ap answer_to memory) ∙ done in absurd cc

files_of : (found : Option (Text × List Row)) (name : Text) (files : Option (List Text)) (rows : List Row)
    → names_in found ≡ Some (name, files) → Some rows ≡ option_map (λ p. p.1) found → all_of (codes "FILE") rows ≡ files
files_of (Some p) name files rows is same = ap (option_and_then (all_of (codes "FILE"))) same ∙ ap (option_and_then (λ (q : Text × Option (List Text)). q.1)) is
files_of None name files rows is same = absurd cc

name_of_found : (found : Option (Text × List Row)) (name : Text) (files : Option (List Text)) → names_in found ≡ Some (name, files) → option_map (λ p. p.0) found ≡ Some name
name_of_found (Some p) name files is = ap (option_map (λ (q : Text × Option (List Text)). q.0)) is
name_of_found None name files is = absurd cc

or_none : (values : Option (Bor (List (Bor Text)))) (none : Bor (List (Bor Text))) (names : List Text)
    → option_map (λ s. map (λ v. v.now) s.now) values ≡ given_names names → none.now ≡ [] → map (λ f. f.now) (unwrap_or values none).now ≡ names
or_none (Some v) none [] is empty = absurd cc
or_none (Some v) none (name ∷ names) is empty = ap (λ o. unwrap_or o []) is
or_none None none [] is empty = rw empty refl
or_none None none (name ∷ names) is empty = absurd cc

-- the files that are handed on are those of the words
pub files_handed_on : (command : Text) (m : ArgMatches) (names : List Text) (found : Option (Bor Text × Bor ArgMatches)) (name : Bor Text) (sub : Bor ArgMatches)
    (values : Option (Bor (List (Bor Text)))) (none : Bor (List (Bor Text))) → AreOf command names m
    → option_map (λ p. rows_of (found_of p.1.now)) found ≡ option_map (λ p. p.1) (subcommand_rows_of m) → found ≡ Some (name, sub)
    → option_map (λ s. map (λ v. v.now) s.now) values ≡ option_map raw_values (matched_of (found_of sub.now) (codes "FILE")) → none.now ≡ []
    → map (λ f. f.now) (unwrap_or values none).now ≡ names
files_handed_on command m names found name sub values none asked rows is given empty =
    let rows_are : Some (rows_of (found_of sub.now)) ≡ option_map (λ p. p.1) (subcommand_rows_of m) = rw is at rows in
    or_none values none names (given ∙ raw_values-rows (found_of sub.now) (codes "FILE") ∙ files_of (subcommand_rows_of m) _ _ _ asked rows_are) empty

word_of_rows : (key : Text) (found : Option (Text × List Row)) (rows : List Row) (word : Option Text)
    → option_map (λ p. first_of key p.1) found ≡ Some word → Some rows ≡ option_map (λ p. p.1) found → first_of key rows ≡ word
word_of_rows key (Some p) rows word is same = ap (λ o. unwrap_or (option_map (first_of key) o) None) same ∙ ap (λ o. unwrap_or o None) is
word_of_rows key None rows word is same = absurd cc

-- the word of an option or of a place that is handed on is that of the words
pub word_handed_on : (key : Text) (m : ArgMatches) (word : Option Text) (found : Option (Bor Text × Bor ArgMatches)) (name : Bor Text) (sub : Bor ArgMatches)
    → option_map (λ p. first_of key p.1) (subcommand_rows_of m) ≡ Some word
    → option_map (λ p. rows_of (found_of p.1.now)) found ≡ option_map (λ p. p.1) (subcommand_rows_of m) → found ≡ Some (name, sub)
    → first_value (found_of sub.now) key ≡ word
word_handed_on key m word found name sub asked rows is =
    let rows_are : Some (rows_of (found_of sub.now)) ≡ option_map (λ p. p.1) (subcommand_rows_of m) = rw is at rows in
    first_value-rows (found_of sub.now) key ∙ word_of_rows key (subcommand_rows_of m) _ _ asked rows_are

-- a word that is there is the one that is taken
pub word_taken : (value : Option (Bor Text)) (none : Bor Text) (given : Option Text) (word : Text) → option_map (λ s. s.now) value ≡ given → given ≡ Some word
    → (unwrap_or value none).now ≡ word
word_taken (Some v) none given word is some = ap (λ o. unwrap_or o []) (is ∙ some)
word_taken None none given word is some = absurd cc

-- so it is of the words of a query
pub query_handed_on : (m : ArgMatches) (path source target class_name : Text) (found : Option (Bor Text × Bor ArgMatches)) (name : Bor Text) (sub : Bor ArgMatches)
    → HasQuery path source target class_name m → option_map (λ p. rows_of (found_of p.1.now)) found ≡ option_map (λ p. p.1) (subcommand_rows_of m) → found ≡ Some (name, sub)
    → HasWords (found_of sub.now) path source target class_name
query_handed_on m path source target class_name found name sub asked rows is = record {
  tables = word_handed_on (codes "tables") m _ found name sub asked.tables rows is;
  source_word = word_handed_on (codes "SOURCE") m _ found name sub asked.source_word rows is;
  target_word = word_handed_on (codes "TARGET") m _ found name sub asked.target_word rows is;
  class_word = word_handed_on (codes "CLASS") m _ found name sub asked.class_word rows is;
}

-- the subcommand that was asked for has its name
pub command_is_found : (command : Text) (m : ArgMatches) (names : List Text) (found : Option (Bor Text × Bor ArgMatches)) → AreOf command names m
    → option_map (λ p. p.0.now) found ≡ subcommand_name_of m → option_map (λ p. p.0.now) found ≡ Some command
command_is_found command m names found asked name = name ∙ same_name (out-ArgMatches m).subcommand ∙ name_of_found (subcommand_rows_of m) _ _ asked
  where
    same_name : (o : Option (Box SubCommand Global)) → option_map (λ b. (out-SubCommand (box_value b)).name.now) o ≡ option_map (λ p. p.0) (subcommand_rows o)
    same_name (Some b) = refl
    same_name None = refl

pub not_missing : {X : Type 0} (f : X → Text) (found : Option X) (name : Text) → option_map f found ≡ Some name → found ≡ None → ⊥
not_missing f found name is missing = let bad : None ≡ Some name = rw missing at is in absurd cc

pub name_found : {X : Type 0} (f : X → Text) (found : Option X) (x : X) (name : Text) → option_map f found ≡ Some name → found ≡ Some x → f x ≡ name
name_found f found x name is some = let same : Some (f x) ≡ Some name = rw some at is in ap (λ o. unwrap_or o []) same

-- a name that was found is not taken for another one
pub not_other : (name command : Text) (other : Bool) → name ≡ command → other ≡ bytes_eq name command → bytes_eq command command ≡ true → other ≡ false → ⊥
not_other name command other same is itself differs = let bad : other ≡ true = is ∙ ap (λ n. bytes_eq n command) same ∙ itself in absurd cc

pub not_this : (name command : Text) (other : Bool) (asked : Text) → name ≡ asked → other ≡ bytes_eq name command → bytes_eq asked command ≡ false → other ≡ true → ⊥
not_this name command other asked same is differs this = let bad : other ≡ false = is ∙ ap (λ n. bytes_eq n command) same ∙ differs in absurd cc
