use Rattle.std.proofs.Common.{ap, codes, map, ◌≤◌, ◌∙◌, length, arith}
use Rattle.std.specs.Prelude.{option_map, string_bytes}
use Rattle.std.proofs.lemmas.List.{length-map}
use Rattle.std.proofs.lemmas.Result.{IfErr-weaker, IfOk-weaker}
use Rattle.clap.specs.Lexer.{usize_max}
use Rattle.clap.specs.Simple.{is_simple, subcommand_of}
use Rattle.clap.specs.Takes.{takes}
use Rattle.clap.specs.Walk.{first_of}
use Rattle.cilhost.specs.Arguments.{names_in}
use Rattle.cilhost.proofs.FoundLemmas.{check_is_found, compilation_is_found, is_accepted, query_found, session_is_found}
use Rattle.cilhost.proofs.arguments.matches.Goals as goal

pub returns-clause-session : goal.returns-clause-session
returns-clause-session c = λ size files asks.
    let parse = c.try_get_matches_from in
    let words = map string_bytes c.args.words.now in
    let found = session_is_found size words files asks in
    IfOk-weaker parse.result _ _ (λ m h.
    let same = (h (ap is_simple c.in_ok-program.ensures)).1 ∙ ap (λ a. subcommand_of a words) c.in_ok-program.ensures in
    (ap names_in same ∙ found.0, ap (option_map (λ p. first_of (codes "cache") p.1)) same ∙ found.1))
    parse.ensures.matches

pub returns-clause-check : goal.returns-clause-check
returns-clause-check c = λ files asks.
    let parse = c.try_get_matches_from in
    let words = map string_bytes c.args.words.now in
    IfOk-weaker parse.result _ _ (λ m h. ap names_in ((h (ap is_simple c.in_ok-program.ensures)).1 ∙ ap (λ a. subcommand_of a words) c.in_ok-program.ensures) ∙ check_is_found words files asks)
    parse.ensures.matches

few : (c : goal.After-try_get_matches_from) → length (map string_bytes c.args.words.now) ≤ usize_max
few c = omega (arith, c.well_formed, length-map c.args.words.now string_bytes)

pub returns-clause-compile : goal.returns-clause-compile
returns-clause-compile c = λ out files asks.
    let parse = c.try_get_matches_from in
    let words = map string_bytes c.args.words.now in
    let found = compilation_is_found out words files asks in
    IfOk-weaker parse.result _ _ (λ m h.
    let same = (h (ap is_simple c.in_ok-program.ensures)).1 ∙ ap (λ a. subcommand_of a words) c.in_ok-program.ensures in
    (ap names_in same ∙ found.0, ap (option_map (λ p. first_of (codes "out") p.1)) same ∙ found.1))
    parse.ensures.matches

pub returns-clause-decide : goal.returns-clause-decide
returns-clause-decide c = λ path source target class_name asks.
    let parse = c.try_get_matches_from in
    let words = map string_bytes c.args.words.now in
    let found = query_found path source target class_name words asks in
    IfOk-weaker parse.result _ _ (λ m h.
    let same = (h (ap is_simple c.in_ok-program.ensures)).1 ∙ ap (λ a. subcommand_of a words) c.in_ok-program.ensures in (
      ap names_in same ∙ found.0,
      record {
        tables = ap (option_map (λ p. first_of (codes "tables") p.1)) same ∙ found.1;
        source_word = ap (option_map (λ p. first_of (codes "SOURCE") p.1)) same ∙ found.2;
        target_word = ap (option_map (λ p. first_of (codes "TARGET") p.1)) same ∙ found.3;
        class_word = ap (option_map (λ p. first_of (codes "CLASS") p.1)) same ∙ found.4;
      },
    ))
    parse.ensures.matches

pub returns-clause-accepts : goal.returns-clause-accepts
returns-clause-accepts c = λ asks.
    let parse = c.try_get_matches_from in
    let words = map string_bytes c.args.words.now in
    IfErr-weaker parse.result _ _ (λ e h. h (ap (λ a. takes a words) c.in_ok-program.ensures ∙ is_accepted words (few c) asks)) parse.ensures.passes
