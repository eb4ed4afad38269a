use Rattle.std.proofs.Common.{length, refl, ◌+◌}
use Rattle.std.proofs.lemmas.Result.{on_ok_weaker}
use Rattle.cil_base.specs.Places.{in_range}
use Rattle.cil_words.specs.Cells.{AreCells, pair_with, paired}
use Rattle.cil_words.proofs.CellLemmas.{after_push, below_many, lists_same, longer_length, one_more_pair, pairs_more, pushed_cell, says_permission}
use Rattle.cil_words.proofs.cells.Cells.push_pair.Goals as goal

pub invariant_of-self : goal.invariant_of-self
invariant_of-self c =
    let i = c.self.inside in
    let n = length i.pairs.owners.items in
    let m = length i.pairs.places.items in
    let owners = c.place_of.new.self.owners.items in
    let places = c.place_of.new.self.places.items in
    pairs_more i.cells.items n m (length i.lists) (length owners) (length places) (longer_length i.pairs.owners.items owners c.place_of.ensures.owners)
    (longer_length i.pairs.places.items places c.place_of.ensures.places) c.self.invariant

pub invariant_of-self-2 : goal.invariant_of-self-2
invariant_of-self-2 c =
    let i = c.self.inside in
    let n = length i.pairs.owners.items in
    let m = length i.pairs.places.items in
    let k = length i.lists in
    let owners = c.place_of.new.self.owners.items in
    let places = c.place_of.new.self.places.items in
    let place = c.in_ok-place.place in
    let pair = c.in_ok-place.ensures.pair in
    let more = longer_length i.pairs.owners.items owners c.place_of.ensures.owners in
    let more_places = longer_length i.pairs.places.items places c.place_of.ensures.places in
    after_push c.push_number.result (AreCells (length owners) (length places) k) i.cells.items c.push_number.new.numbers.items (paired + place) c.push_number.ensures.pushed c.push_number.ensures.err
    (pairs_more i.cells.items n m k (length owners) (length places) more more_places c.self.invariant)
    (one_more_pair i.cells.items n m k (length owners) (length places) place more more_places (in_range owners place c.args.class pair.owner) (in_range places place c.args.number pair.number_there)
    (below_many place c.if-place-ge-MOST_PAIRS.false) c.self.invariant)

pub returns : goal.returns
returns c =
    let i = c.self.inside in
    let owners = c.place_of.new.self.owners.items in
    let places = c.place_of.new.self.places.items in
    let place = c.in_ok-place.place in
    let pair = c.in_ok-place.ensures.pair in
    on_ok_weaker c.push_number.result
    (λ put. pushed_cell i.pairs.owners.items owners i.pairs.places.items places i.lists i.lists c.place_of.ensures.owners c.place_of.ensures.places (lists_same i.lists) i.cells.items _ (paired + place)
    c.args.self.now (pair_with c.args.class c.args.number) c.self.invariant c.self.view_is put
    (says_permission owners places i.lists (paired + place) place c.args.class c.args.number refl (below_many place c.if-place-ge-MOST_PAIRS.false) pair.owner pair.number_there))
    c.push_number.ensures.pushed
