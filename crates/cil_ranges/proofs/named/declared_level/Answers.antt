use Rattle.std.specs.Prelude.{option_map}
use Rattle.std.proofs.Common.{◌≡◌, ◌∙◌, [], ap, get_or, length, map, refl, subst, sym}
use Rattle.std.proofs.lemmas.Option.{slice_get-map}
use Rattle.cil_syntax.specs.declared.kind.Kind.TheVariants as variants
use Rattle.cil_macros.specs.Items.{item_at, items_in}
use Rattle.cil_macros.specs.Listed.{all_parts_of}
use Rattle.cil_macros.specs.ListTerms.{numbered}
use Rattle.cil_macros.proofs.ItemLemmas.{item_there}
use Rattle.cil_known.specs.Known.{enabled_in, row_in}
use Rattle.cil_ranges.specs.Levels.{IsWrittenLevel}
use Rattle.cil_ranges.specs.Reading.{IsRead}
use Rattle.cil_ranges.proofs.BehindLemmas.{no_mapping_declared, not_two_behind, says_lists_too, second_behind}
use Rattle.cil_ranges.proofs.named.declared_level.Goals as goal

pub plain_terms-requires-clause-lists : goal.plain_terms-requires-clause-lists
plain_terms-requires-clause-lists c = says_lists_too (item_at c.args.instances.now c.args.at).keyword variants.Level refl c.requires.declares.1.declares.of_kind

pub plain_terms-requires-clause-plain : goal.plain_terms-requires-clause-plain
plain_terms-requires-clause-plain c = no_mapping_declared (item_at c.args.instances.now c.args.at).keyword variants.Level c.requires.declares.1.declares.of_kind

pub returns-then-parts-ne2 : goal.returns-then-parts-ne2
returns-then-parts-ne2 c g measures =
    let k = c.args.known.now in
    let x = item_at c.args.instances.now c.args.at in
    not_two_behind (IsWrittenLevel (enabled_in k) g) k x (numbered (all_parts_of x.args)) 0 c.in_ok-terms.terms.items (row_in k x) c.in_ok-terms.ensures (λ e. c.if-parts-ne2.true (ap length c.as_slice-parts.ensures.value ∙ e))

pub returns : goal.returns
returns c g measures =
    let k = c.args.known.now in
    let i = c.args.instances.now in
    let x = item_at i c.args.at in
    let f = numbered (all_parts_of x.args) in
    let ts = c.in_ok-terms.terms.items in
    let b = c.index-parts-1.result in
    let declares = c.requires.declares.1 in
    let row = c.row.ensures (map (row_in k) (items_in i)) (row_in k x) c.requires.table (slice_get-map (row_in k) (items_in i) c.args.at ∙ ap (option_map (row_in k)) (item_there i c.args.at c.requires.within)) in
    let len : length ts ≡ 2 = sym (ap length c.as_slice-parts.ensures.value) ∙ c.if-parts-ne2.false in
    second_behind (IsWrittenLevel (enabled_in k) g) k x f 0 ts (row_in k x) c.in_ok-terms.ensures g declares.at declares.name declares.declares.rest declares.declares.says b len (c.index-parts-1.is ∙ ap (λ l. get_or l 1 b) c.as_slice-parts.ensures.value) c.written_level.result
    (λ u read. c.written_level.ensures k g 0 f u [] measures (subst (λ ws. IsRead k f 0 b u ws []) (sym row) read))
