use Rattle.std.proofs.Common.{◌∷◌, [], length}
use Rattle.std.proofs.lemmas.Result.{on_ok_weaker}
use Rattle.cil_words.specs.Cells.{AreCells}
use Rattle.cil_words.specs.Table.{word_ask}
use Rattle.cil_words.proofs.CellLemmas.{after_push, lists_same, longer_by_none, one_more, pushed_cell, says_one}
use Rattle.cil_words.proofs.cells.Cells.push_one.Goals as goal

pub invariant_of-self : goal.invariant_of-self
invariant_of-self c =
    let i = c.self.inside in
    let n = length i.pairs.owners.items in
    let m = length i.pairs.places.items in
    let k = length i.lists in
    after_push c.push_number.result (AreCells n m k) i.cells.items c.push_number.new.numbers.items c.args.number c.push_number.ensures.pushed c.push_number.ensures.err c.self.invariant
    (one_more i.cells.items n m k c.args.number c.if-number-ge-PAIRED.false c.self.invariant)

pub returns : goal.returns
returns c =
    let i = c.self.inside in
    let owners = i.pairs.owners.items in
    let places = i.pairs.places.items in
    on_ok_weaker c.push_number.result
    (λ put. pushed_cell owners owners places places i.lists i.lists (longer_by_none owners) (longer_by_none places) (lists_same i.lists) i.cells.items _ c.args.number c.args.self.now (word_ask (c.args.number ∷ []))
    c.self.invariant c.self.view_is put (says_one owners places i.lists c.args.number c.if-number-ge-PAIRED.false))
    c.push_number.ensures.pushed
