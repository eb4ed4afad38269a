use Rattle.std.specs.Prelude.{Option, List, ℕ, [], option_map}
use Rattle.std.proofs.Common.{◌≡◌, map, ◌∙◌, ap, refl, subst, sym}
use Rattle.std.proofs.lemmas.Option.{slice_get-map}
use Rattle.cil_base.specs.Places.{get_contains}
use Rattle.cil_syntax.specs.declared.term.Term as rust
use Rattle.cil_macros.specs.Items.{item_at, items_in, says_lists}
use Rattle.cil_macros.specs.Listed.{all_parts_of}
use Rattle.cil_macros.specs.ListTerms.{numbered}
use Rattle.cil_macros.proofs.ItemLemmas.{item_there}
use Rattle.cil_macros.proofs.ItemsThere.{keyword_there}
use Rattle.cil_names.specs.Resolves.{is_mapping}
use Rattle.cil_known.specs.Known.{row_in}
use Rattle.cil_ranges.specs.Reading.{AreRead}
use Rattle.cil_ranges.proofs.ReadLemmas.{match_as}
use Rattle.cil_ranges.proofs.UserLemmas.{gives_said}
use Rattle.cil_ranges.proofs.giving.giving_at.Goals as goal

pub plain_terms-requires-clause-lists : goal.plain_terms-requires-clause-lists
plain_terms-requires-clause-lists c =
    let there = keyword_there c.args.instances.now c.args.at c.statement_there.result.now c.statement_there.ensures.is in
    ap says_lists (there ∙ c.if-not-same_keyword.ensures.0 refl)

pub plain_terms-requires-clause-plain : goal.plain_terms-requires-clause-plain
plain_terms-requires-clause-plain c =
    let there = keyword_there c.args.instances.now c.args.at c.statement_there.result.now c.statement_there.ensures.is in
    ap is_mapping (there ∙ c.if-not-same_keyword.ensures.0 refl)

pub returns-clause-gives : goal.returns-clause-gives
returns-clause-gives c = λ g items reads.
    let k = c.args.known.now in
    let i = c.args.instances.now in
    let x = item_at i c.args.at in
    let there = keyword_there i c.args.at c.statement_there.result.now c.statement_there.ensures.is in
    let row : c.row.result.now ≡ row_in k x = c.row.ensures (map (row_in k) (items_in i)) (row_in k x) c.requires.table (slice_get-map (row_in k) (items_in i) c.args.at ∙ ap (option_map (row_in k)) (item_there i c.args.at c.requires.within)) in
    let f = numbered (all_parts_of x.args) in
    let read : AreRead k f 0 c.as_slice.result.now x.args c.row.result.now [] =
    subst (λ (ts : List rust.Term). AreRead k f 0 ts x.args c.row.result.now []) (sym c.as_slice.ensures.value) (subst (λ (ws : List (Option ℕ)). AreRead k f 0 c.in_ok-terms.terms.items x.args ws []) (sym row) c.in_ok-terms.ensures) in
    gives_said k (items_in i) c.requires.known.0 c.requires.known.1 c.means_what_it_names.ensures g items x (get_contains (items_in i) c.args.at x (item_there i c.args.at c.requires.within)) (sym c.if-not-is_enabled.ensures)
    (there ∙ c.if-not-same_keyword.ensures.0 refl) c.giving_said.result (c.giving_said.ensures.says g 0 f x.args [] reads read)

pub returns-clause-there : goal.returns-clause-there
returns-clause-there c =
    let there = keyword_there c.args.instances.now c.args.at c.statement_there.result.now c.statement_there.ensures.is in
    match_as c.giving_said.result (λ u. u) (λ v l. record { within = l; gives = there ∙ c.if-not-same_keyword.ensures.0 refl }) c.giving_said.ensures.within
