use Rattle.std.specs.Prelude.{Some, slice_get}
use Rattle.std.proofs.Common.{◌≡◌, [], refl, sym, ◌∙◌}
use Rattle.cil_base.specs.Places.{get_so, in_range}
use Rattle.cil_base.proofs.AtPlace.{at_place}
use Rattle.cil_level_rows.proofs.AliasLemmas.{all_numbers}
use Rattle.cil_level_rows.proofs.aliases.push_at.Goals as goal

pub push_all-requires : goal.push_all-requires
push_all-requires c =
    let found = c.in-Some.ensures.lookup in
    let names = c.args.known.now.lookup.names.now in
    let e = c.in-Some.entry.now in
    let at : slice_get names c.args.d ≡ Some e = at_place c.entries.result.now names c.args.d c.entries.ensures.value e found.3.0 found.1 in
    c.requires.within e (c.args.d, in_range names c.args.d e at, get_so names c.args.d e e at)

pub returns : goal.returns
returns c =
    let found = c.in-Some.ensures.lookup in
    let set = c.in-Some-get.ensures.lookup in
    let standing = c.args.standing.now in
    let numbers = c.in-Some-get.numbers.now in
    all_numbers c.args.known.now c.args.kind standing c.args.places.now c.args.d c.args.aliases.now.items c.in-Some.entry.now
    (at_place c.entries.result.now c.args.known.now.lookup.names.now c.args.d c.entries.ensures.value c.in-Some.entry.now found.3.0 found.1)
    (sym c.is_declared_as.ensures ∙ c.if-not-is_declared_as.false) numbers
    (get_so standing c.args.d numbers [] (at_place standing standing c.args.d refl numbers set.3.0 set.1)) c.push_all.new.aliases.items c.in_ok-push_all.ensures
