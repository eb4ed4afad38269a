use Rattle.std.proofs.Common.{◌-◌, ◌∙◌, List, ap, arith, length, refl, subst, sym}
use Rattle.cil_base.specs.Places.{there_as}
use Rattle.cil_syntax.specs.declared.program.Statement.{Statement}
use Rattle.cil_syntax.specs.Program.{IsNested, program_of}
use Rattle.cil_blocks.specs.Contents.{keeps_place}
use Rattle.cil_blocks.specs.Entries.{statement_at}
use Rattle.cil_blocks.specs.Places.{entries_in}
use Rattle.cil_blocks.proofs.EntryLemmas.{standings_length}
use Rattle.cil_macros.specs.Walks.{written_in}
use Rattle.cil_macros.proofs.InnerLemmas.{plain_there, stands_there}
use Rattle.cil_macros.proofs.chain.Brought.inner_body.Goals as goal

pub returns-then-at-standing : goal.returns-then-at-standing
returns-then-at-standing c =
    let s = c.args.source.now.spaces.now in
    let l = ap length c.entries-standing.ensures.same in
    let h = c.if-at-standing.true in
    stands_there s c.args.self.now.entries.items c.args.at (omega (arith, h, l))

pub returns-then-not-keeps_place_at : goal.returns-then-not-keeps_place_at
returns-then-not-keeps_place_at c =
    let s = c.args.source.now.spaces.now in
    let cs = c.args.self.now.entries.items in
    let l = ap length c.entries-standing.ensures.same in
    let behind = c.if-at-standing.false in
    let within = c.requires.within in
    let d = c.index-called.result.now in
    let there = there_as cs (c.args.at - length c.entries-standing.result.now) d (omega (arith, behind, within, l)) c.index-called.ensures in
    plain_there s cs c.args.at (c.args.at - length c.entries-standing.result.now) d (omega (arith, behind, l)) there
    (sym c.if-not-keeps_place_at.true ∙ c.keeps_place_at.ensures (subst IsNested (sym c.statements.ensures) c.requires.source.standings.contents.nested)
    ∙ ap (λ (ss : List Statement). keeps_place (statement_at (program_of ss) d.statement).statement.keyword) c.statements.ensures)

pub returns : goal.returns
returns c =
    let s = c.args.source.now.spaces.now in
    let l = ap length c.entries-standing.ensures.same in
    let m = standings_length (written_in s) (entries_in s) in
    let behind = c.if-at-standing.false in
    let within = c.requires.within in
    let d = c.index-called.result.now in
    record {
      rank = c.args.at - length c.entries-standing.result.now;
      behind = omega (arith, behind, l, m);
      called = d;
      is = there_as c.args.self.now.entries.items (c.args.at - length c.entries-standing.result.now) d (omega (arith, behind, within, l)) c.index-called.ensures;
      body = refl;
      keeps = sym (c.keeps_place_at.ensures (subst IsNested (sym c.statements.ensures) c.requires.source.standings.contents.nested)
          ∙ ap (λ (ss : List Statement). keeps_place (statement_at (program_of ss) d.statement).statement.keyword) c.statements.ensures) ∙ c.if-not-keeps_place_at.false;
    }
