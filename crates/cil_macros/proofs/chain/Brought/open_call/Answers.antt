use Rattle.std.proofs.Common.{◌≡◌, ◌∙◌, ◌++◌, List, ap, arith, length, map, refl, subst, sym}
use Rattle.std.specs.Prelude.{Some, slice_get}
use Rattle.std.proofs.lemmas.List.{append-nil}
use Rattle.cil_syntax.specs.declared.program.Statement.{Statement}
use Rattle.cil_syntax.specs.Program.{program_of}
use Rattle.cil_syntax.specs.Written.{Written}
use Rattle.cil_blocks.specs.declared.entry.Entry.{Entry}
use Rattle.cil_blocks.specs.Contents.{Standing}
use Rattle.cil_blocks.specs.Entries.{standings_of, statement_at}
use Rattle.cil_blocks.specs.Places.{entries_in}
use Rattle.cil_blocks.proofs.EntryLemmas.{standings_length}
use Rattle.cil_macros.specs.Macros.{all_standing}
use Rattle.cil_macros.specs.Opens.{opens_placed}
use Rattle.cil_macros.specs.Walks.{called_by, placed_in, written_in}
use Rattle.cil_macros.proofs.CallLemmas.{not_unfolded, placed_there, unfolded_below, unfolded_is}
use Rattle.cil_macros.proofs.EntryLemmas.{opens_nothing}
use Rattle.cil_macros.proofs.FirstLemmas.{firsts_opened}
use Rattle.cil_macros.proofs.TurnLemmas.{opened_in_turn, passed_in_turn}
use Rattle.cil_macros.proofs.WalkLemmas.{bodies_opened, placed_opened, scopes_opened, spaces_opened}
use Rattle.cil_macros.proofs.chain.Brought.open_call.Goals as goal

pub returns-in_default-clause-opened : goal.returns-in_default-clause-opened
returns-in_default-clause-opened c = λ p e.
    let s = c.args.source.now.spaces.now in
    let old = placed_in s c.args.self.now.entries.items in
    sym (append-nil old) ∙ ap (λ xs. old ++ xs) (sym (opens_nothing (written_in s) (all_standing s) p (c.requires.as_call p e) (not_unfolded s c.args.self.now.entries.items c.args.at c.in_ok-called.field-0 c.in_default.is c.in_ok-called.ensures.unfolded p e)))

pub standing_statement-number-requires : goal.standing_statement-number-requires
standing_statement-number-requires c =
    let s = c.args.source.now.spaces.now in
    let p = placed_there s c.args.self.now.entries.items c.args.at c.requires.within in
    let h = unfolded_below s p.0 c.in-Some.called (unfolded_is s c.args.self.now.entries.items c.args.at c.in_ok-called.field-0 c.in-Some.called c.in-Some.is c.in_ok-called.ensures.unfolded p.0 p.1) in
    let l = ap length c.entries-entries.ensures.same in
    omega (arith, h, l)

pub returns-clause-brought : goal.returns-clause-brought
returns-clause-brought c =
    let s = c.args.source.now.spaces.now in
    let cs = c.args.self.now.entries.items in
    let bs = c.args.self.now.bodies.items in
    let p = placed_there s cs c.args.at c.requires.within in
    let u = unfolded_is s c.args.self.now.entries.items c.args.at c.in_ok-called.field-0 c.in-Some.called c.in-Some.is c.in_ok-called.ensures.unfolded p.0 p.1 in
    let range = c.requires.within in
    let l = standings_length (written_in s) (entries_in s) in
    record {
      bodies = bodies_opened s cs bs c.args.at c.in-Some.called p.0 p.1 u c.requires.within c.space_at-space.result c.in_ok-shared.shared c.parts_at.result.now c.len-body.result _ _
          c.requires.brought.bodies (c.len-body.ensures ∙ c.args.self.now.bodies.ok.0) c.in_ok-push_called.ensures c.in_ok-push.ensures.items;
      firsts = firsts_opened (written_in s) (all_standing s) c.args.self.now _ c.requires.brought.bodies c.requires.brought.firsts
          (record { call = c.args.at; macro_rank = c.in-Some.called; space = c.space_at-space.result; scope = c.in_ok-shared.shared }) u.opened.macro u.at (omega (arith, range, l))
          (map (called_by c.args.at c.len-body.result) c.parts_at.result.now) c.in_ok-push_called.ensures c.in_ok-push.ensures.items
          c.spot_of-spot.result
          (c.spot_of-spot.ensures u.opened.macro (ap (λ (es : List Entry). slice_get (standings_of (program_of c.statements.result.now) es) c.in-Some.called) c.entries-entries.ensures.same
          ∙ ap (λ (xs : List Statement). slice_get (standings_of (program_of xs) (entries_in s)) c.in-Some.called) c.statements.ensures ∙ u.at))
          c.len-body.result (c.len-body.ensures ∙ c.args.self.now.bodies.ok.0) c.in_ok-keep_first.ensures;
      scopes = scopes_opened s cs bs c.args.at c.in-Some.called p.0 p.1 u c.requires.within c.space_at-space.result c.in_ok-shared.shared c.parts_at.result.now c.len-body.result _ _
          c.requires.brought.bodies c.requires.brought.scopes c.in_ok-shared.ensures (c.len-body.ensures ∙ c.args.self.now.bodies.ok.0) c.in_ok-push_called.ensures c.in_ok-push.ensures.items;
      spaces = spaces_opened s cs bs c.args.at c.in-Some.called p.0 p.1 u c.requires.within c.space_at-space.result c.in_ok-shared.shared c.parts_at.result.now c.len-body.result _ _
          c.requires.brought.bodies c.requires.brought.spaces c.space_at-space.ensures (c.len-body.ensures ∙ c.args.self.now.bodies.ok.0) c.in_ok-push_called.ensures c.in_ok-push.ensures.items;
    }

pub returns-clause-opened : goal.returns-clause-opened
returns-clause-opened c = λ p e.
    let s = c.args.source.now.spaces.now in
    let cs = c.args.self.now.entries.items in
    let bs = c.args.self.now.bodies.items in
    placed_opened s cs bs c.args.at c.in-Some.called p e (unfolded_is s c.args.self.now.entries.items c.args.at c.in_ok-called.field-0 c.in-Some.called c.in-Some.is c.in_ok-called.ensures.unfolded p e) c.requires.within c.args.source.now.parts.now c.requires.source.parts
    c.standing_statement-number.result c.len-body.result c.parts_at.result.now _
    (subst (λ (es : List Entry). (ws : List Written) (m : Standing) → slice_get (standings_of ws es) c.in-Some.called ≡ Some m → m.statement ≡ statement_at ws c.standing_statement-number.result)
    c.entries-entries.ensures.same c.standing_statement-number.ensures)
    c.parts_at.ensures c.in_ok-push_called.ensures

pub returns-in_default-clause-turn : goal.returns-in_default-clause-turn
returns-in_default-clause-turn c =
    let s = c.args.source.now.spaces.now in
    passed_in_turn s c.args.self.now.entries.items c.args.self.now.bodies.items c.args.at c.requires.turn
    (not_unfolded s c.args.self.now.entries.items c.args.at c.in_ok-called.field-0 c.in_default.is c.in_ok-called.ensures.unfolded)

pub returns-clause-turn : goal.returns-clause-turn
returns-clause-turn c =
    let s = c.args.source.now.spaces.now in
    let cs = c.args.self.now.entries.items in
    let bs = c.args.self.now.bodies.items in
    let p = placed_there s cs c.args.at c.requires.within in
    let u = unfolded_is s cs c.args.at c.in_ok-called.field-0 c.in-Some.called c.in-Some.is c.in_ok-called.ensures.unfolded p.0 p.1 in
    let placed = placed_opened s cs bs c.args.at c.in-Some.called p.0 p.1 u c.requires.within c.args.source.now.parts.now c.requires.source.parts
    c.standing_statement-number.result c.len-body.result c.parts_at.result.now _
    (subst (λ (es : List Entry). (ws : List Written) (m : Standing) → slice_get (standings_of ws es) c.in-Some.called ≡ Some m → m.statement ≡ statement_at ws c.standing_statement-number.result)
    c.entries-entries.ensures.same c.standing_statement-number.ensures)
    c.parts_at.ensures c.in_ok-push_called.ensures in
    opened_in_turn s cs _ bs c.args.at (record { call = c.args.at; macro_rank = c.in-Some.called; space = c.space_at-space.result; scope = c.in_ok-shared.shared }) c.requires.turn
    (opens_placed (written_in s) (all_standing s) p.0) c.requires.within placed refl _ c.in_ok-push.ensures.items
