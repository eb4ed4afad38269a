use Rattle.std.proofs.Common.{◌+◌, [], ap, arith, length, map, refl}
use Rattle.cil_blocks.specs.Places.{entries_in}
use Rattle.cil_blocks.proofs.EntryLemmas.{standings_length}
use Rattle.cil_macros.specs.Macros.{all_standing}
use Rattle.cil_macros.specs.Walks.{called_by, written_in}
use Rattle.cil_macros.proofs.CallLemmas.{placed_there, stated_by}
use Rattle.cil_macros.proofs.FirstLemmas.{firsts_stay}
use Rattle.cil_macros.proofs.TurnLemmas.{passed_in_turn, turn_stays}
use Rattle.cil_macros.proofs.WalkLemmas.{bodies_inside, inner_below, inner_unfolds_none, placed_inside, scopes_inside, spaces_inside}
use Rattle.cil_macros.proofs.chain.Brought.open_inner.Goals as goal

pub statement_at-number-requires : goal.statement_at-number-requires
statement_at-number-requires c =
    let s = c.args.source.now.spaces.now in
    let cs = c.args.self.now.entries.items in
    let below = inner_below (written_in s) (all_standing s) cs c.args.self.now.bodies.items c.args.at c.args.body [] c.requires.brought.bodies c.requires.inner in
    let l = ap length c.entries.ensures.same in
    let n = ap length c.as_slice.ensures.value in
    let m = standings_length (written_in s) (entries_in s) in
    omega (arith, below, l, n, m)

pub returns-clause-brought : goal.returns-clause-brought
returns-clause-brought c =
    let s = c.args.source.now.spaces.now in
    let cs = c.args.self.now.entries.items in
    let bs = c.args.self.now.bodies.items in
    let numbers = c.parts_at.result.now in
    let new = c.push_called.new.called.items in
    let old = c.requires.brought in
    record {
      bodies = bodies_inside s cs bs c.args.at c.args.body numbers new c.in_ok-push_called.ensures old.bodies c.requires.inner;
      spaces = spaces_inside s cs bs c.args.at c.args.body numbers new c.in_ok-push_called.ensures old.bodies c.requires.inner old.spaces;
      scopes = scopes_inside s cs bs c.args.at c.args.body numbers new c.in_ok-push_called.ensures old.bodies c.requires.inner old.scopes;
      firsts = firsts_stay (written_in s) (all_standing s) c.args.self.now _ old.bodies old.firsts (map (called_by c.args.at c.args.body) numbers) c.in_ok-push_called.ensures refl refl;
    }

pub returns-clause-opened : goal.returns-clause-opened
returns-clause-opened c =
    let s = c.args.source.now.spaces.now in
    let cs = c.args.self.now.entries.items in
    placed_inside s cs c.args.self.now.bodies.items c.args.at c.args.body c.parts_at.result.now c.push_called.new.called.items c.in_ok-push_called.ensures c.requires.brought.bodies c.requires.inner
    c.args.source.now.parts.now c.requires.source.parts c.statement_at-number.result
    (stated_by s cs c.entries.result.now c.as_slice.result.now c.args.at c.statement_at-number.result c.entries.ensures.same c.as_slice.ensures.value c.statement_at-number.ensures)
    c.parts_at.ensures

pub returns-clause-turn : goal.returns-clause-turn
returns-clause-turn c =
    let s = c.args.source.now.spaces.now in
    let cs = c.args.self.now.entries.items in
    let bs = c.args.self.now.bodies.items in
    let new = c.push_called.new.called.items in
    let below = inner_below (written_in s) (all_standing s) cs bs c.args.at c.args.body [] c.requires.brought.bodies c.requires.inner in
    let m = standings_length (written_in s) (entries_in s) in
    let p = placed_there s cs c.args.at (omega (arith, below, m)) in
    let placed = placed_inside s cs bs c.args.at c.args.body c.parts_at.result.now new c.in_ok-push_called.ensures c.requires.brought.bodies c.requires.inner
    c.args.source.now.parts.now c.requires.source.parts c.statement_at-number.result
    (stated_by s cs c.entries.result.now c.as_slice.result.now c.args.at c.statement_at-number.result c.entries.ensures.same c.as_slice.ensures.value c.statement_at-number.ensures)
    c.parts_at.ensures p.0 p.1 in
    turn_stays s cs new bs (c.args.at + 1) _ (omega (arith, below, m)) placed
    (passed_in_turn s cs bs c.args.at c.requires.turn
    (inner_unfolds_none s cs bs c.args.at c.args.body c.parts_at.result.now new c.in_ok-push_called.ensures c.requires.brought.bodies c.requires.inner))
