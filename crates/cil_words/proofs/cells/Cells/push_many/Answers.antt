use Rattle.std.proofs.Common.{length, refl, ◌+◌}
use Rattle.std.proofs.lemmas.Result.{on_ok_weaker}
use Rattle.cil_words.specs.Cells.{AreCells, many}
use Rattle.cil_words.specs.Table.{word_ask}
use Rattle.cil_words.proofs.CellLemmas.{after_push, lists_more, longer_by_none, one_more_list, pushed_cell, says_placed}
use Rattle.cil_words.proofs.cells.Cells.push_many.Goals as goal

pub invariant_of-self : goal.invariant_of-self
invariant_of-self c =
    let i = c.self.inside in
    lists_more i.cells.items (length i.pairs.owners.items) (length i.pairs.places.items) (length i.lists) (length c.place_of.new.self) c.place_of.ensures.none_lost c.self.invariant

pub invariant_of-self-2 : goal.invariant_of-self-2
invariant_of-self-2 c =
    let i = c.self.inside in
    let n = length i.pairs.owners.items in
    let m = length i.pairs.places.items in
    let all = length c.place_of.new.self in
    let lost = c.place_of.ensures.none_lost in
    after_push c.push_number.result (AreCells n m all) i.cells.items c.push_number.new.numbers.items (many + c.in_ok-number.number) c.push_number.ensures.pushed c.push_number.ensures.err
    (lists_more i.cells.items n m (length i.lists) all lost c.self.invariant)
    (one_more_list i.cells.items n m (length i.lists) all c.in_ok-number.number lost c.in_ok-number.ensures.placed.within c.self.invariant)

pub returns : goal.returns
returns c =
    let i = c.self.inside in
    let all = c.place_of.new.self in
    let placed = c.in_ok-number.ensures.placed in
    let owners = i.pairs.owners.items in
    let places = i.pairs.places.items in
    on_ok_weaker c.push_number.result
    (λ put. pushed_cell owners owners places places i.lists all (longer_by_none owners) (longer_by_none places) placed.stay i.cells.items _ (many + c.in_ok-number.number) c.args.self.now
    (word_ask c.args.list.now) c.self.invariant c.self.view_is put
    (says_placed owners places i.lists all c.args.list.now c.in_ok-number.number (many + c.in_ok-number.number) placed refl))
    c.push_number.ensures.pushed
