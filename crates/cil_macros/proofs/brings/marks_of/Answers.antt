use Rattle.std.proofs.Common.{◌≡◌, ◌+◌, ◌-◌, ◌∙◌, List, ap, arith, get_or, length, subst, sym}
use Rattle.std.specs.Prelude.{Some, slice_get}
use Rattle.cil_base.specs.Places.{is_there}
use Rattle.cil_syntax.specs.declared.program.Statement.{Statement}
use Rattle.cil_syntax.specs.Program.{program_of}
use Rattle.cil_blocks.specs.Places.{entries_in}
use Rattle.cil_macros.specs.declared.entry.Called.{Called}
use Rattle.cil_macros.specs.Brings.{AreMarkedFrom, IsStepMarked}
use Rattle.cil_macros.specs.Walks.{written_in}
use Rattle.cil_macros.proofs.BringsLemmas.{all_marked, none_marked, one_marked}
use Rattle.cil_macros.proofs.ThroughLemmas.{opened_before}
use Rattle.cil_macros.proofs.brings.marks_of.Goals as goal

abbrev no_called : Called
no_called = record { statement = 0; opener = 0; body = 0 }

pub loop-rank-init : goal.loop-rank-init
loop-rank-init c =
    let s = c.args.spaces.now in
    let cs = c.args.brought.now.entries.items in
    let l = ap length c.as_slice-called.ensures.value in
    let m = ap length c.entries-standing.ensures.same in (
      omega (arith, l),
      none_marked (written_in s) cs (length (entries_in s)) (length c.as_slice-called.result.now) (length c.entries-standing.result.now + length c.as_slice-called.result.now) c.in_ok-marks.marks.items
          (c.in_ok-marks.ensures.items_if_clones_equal (λ y e. e)) (omega (arith, l, m)) (omega (arith, l)),
    )

pub mark-requires-clause-within : goal.mark-requires-clause-within
mark-requires-clause-within c =
    let xs = c.as_slice-called.result.now in
    let l = ap length c.as_slice-called.ensures.value in
    let upto = c.loop-rank.invariant.0 in
    let some = c.loop-rank-test.true in
    let many = c.loop-rank.invariant.1.many in
    let k = c.loop-rank.rank - 1 in
    let there : slice_get c.args.brought.now.entries.items k ≡ Some (get_or xs k no_called) =
    ap (λ (ys : List Called). slice_get ys k) (sym c.as_slice-called.ensures.value) ∙ is_there xs k no_called (omega (arith, upto, some, l)) in
    let before = opened_before c.args.spaces.now c.args.brought.now c.requires.brought k (get_or xs k no_called) there in
    omega (arith, before, many, upto, some)

pub loop-rank-preserved : goal.loop-rank-preserved
loop-rank-preserved c =
    let s = c.args.spaces.now in
    let cs = c.args.brought.now.entries.items in
    let xs = c.as_slice-called.result.now in
    let l = ap length c.as_slice-called.ensures.value in
    let m = ap length c.entries-standing.ensures.same in
    let upto = c.loop-rank.invariant.0 in
    let some = c.loop-rank-test.true in
    let k = c.loop-rank.rank - 1 in
    let x = get_or xs k no_called in
    let old = c.loop-rank.marks.items in
    let new = c.mark.new.marks.items in
    let there : slice_get cs k ≡ Some x =
    ap (λ (ys : List Called). slice_get ys k) (sym c.as_slice-called.ensures.value) ∙ is_there xs k no_called (omega (arith, upto, some, l)) in
    let next : c.loop-rank.rank ≡ k + 1 = omega (arith, some) in (
      omega (arith, upto),
      one_marked (written_in s) cs (length (entries_in s)) (opened_before s c.args.brought.now c.requires.brought) k x old new there
          (subst (λ n. AreMarkedFrom (written_in s) cs (length (entries_in s)) n old) next c.loop-rank.invariant.1)
          (subst (λ n. IsStepMarked (written_in s) x (n + k) old new) m
          (subst (λ (ss : List Statement). IsStepMarked (program_of ss) x (length c.entries-standing.result.now + k) old new) c.statements.ensures c.mark.ensures)),
    )

pub returns : goal.returns
returns c =
    let s = c.args.spaces.now in
    let cs = c.args.brought.now.entries.items in
    let over = c.loop-rank-test.false in
    let none : c.loop-rank.rank ≡ 0 = omega (arith, over) in
    all_marked (written_in s) cs (length (entries_in s)) (opened_before s c.args.brought.now c.requires.brought) c.loop-rank.marks.items
    (subst (λ n. AreMarkedFrom (written_in s) cs (length (entries_in s)) n c.loop-rank.marks.items) none c.loop-rank.invariant.1)
