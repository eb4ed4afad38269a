use Rattle.std.proofs.Common.{◌<◌, arith, inl, inr, slice_range}
use Rattle.std.proofs.lemmas.Bool.{cases_lt}
use Rattle.std.proofs.lemmas.Result.{err_from_is_err_and}
use Rattle.cil_modset.specs.Faults.{AllBelow}
use Rattle.cil_modset.specs.Modules.{IsBelow}
use Rattle.cil_modset.proofs.ImportLemmas.{above_last, cut_short, falls_back, module_refused, imported_on}
use Rattle.cil_modset.proofs.WalkLemmas.{new_known, new_kept}
use Rattle.cil_modset.proofs.import.take_module.Goals as goal

pub returns-then-not-comes_next-clause-refusal : goal.returns-then-not-comes_next-clause-refusal
returns-then-not-comes_next-clause-refusal c =
    let no : (0 < c.args.index → IsBelow (slice_range c.args.bytes.now c.args.progress.now.start c.args.progress.now.at) c.in-Some.text.now) → ⊥ =
    λ h. let yes = c.comes_next.ensures.1 h in cc (yes, c.if-not-comes_next.true) in
    elim (cases_lt 0 c.args.index) [
      | inl some ↦ falls_back _ _ _ _ _ _ _ _ c.requires.before c.requires.promised c.in-Some.ensures.found some (λ below. no (λ s. below))
      | inr none ↦ absurd (no (λ s. absurd (omega (arith, none, s))))
    ]

pub module_at-requires : goal.module_at-requires
module_at-requires c = c.requires.before.right.within

pub returns-in_default-clause-refusal : goal.returns-in_default-clause-refusal
returns-in_default-clause-refusal c = cut_short _ _ _ _ _ _ _ c.requires.before c.requires.promised c.in_default.ensures.none

pub slice_bounds-last-count : goal.slice_bounds-last-count
slice_bounds-last-count c = omega (arith, c.requires.before.last.ends)

pub returns-in_err-check_module-clause-refusal : goal.returns-in_err-check_module-clause-refusal
returns-in_err-check_module-clause-refusal c =
    let before = c.requires.before in
    let above : AllBelow before.seen c.in-Some.text.now = above_last _ _ _ _ _ _ before.last before.index_is (c.comes_next.ensures.0 c.if-not-comes_next.false) in
    let p = err_from_is_err_and c.from_residual.result c.from_residual.ensures.1 in
    rw (p.1, p.2) (module_refused _ _ _ _ _ _ _ _ _ before c.requires.promised c.in-Some.ensures.found above c.in_err-check_module.ensures.refusal)

pub returns-in_err-keep-clause-refusal : goal.returns-in_err-keep-clause-refusal
returns-in_err-keep-clause-refusal c =
    let p = err_from_is_err_and c.from_residual-in_err-keep.result c.from_residual-in_err-keep.ensures.1 in rw (p.1, p.2) tt

pub returns-then-knows-clause-ok : goal.returns-then-knows-clause-ok
returns-then-knows-clause-ok c =
    let before = c.requires.before in
    let above : AllBelow before.seen c.in-Some.text.now = above_last _ _ _ _ _ _ before.last before.index_is (c.comes_next.ensures.0 c.if-not-comes_next.false) in
    let yes = (c.knows.ensures.known before.seen before.walk above).0 c.if-knows.true in
    imported_on _ _ _ _ _ _ _ _ _ _ before c.requires.promised c.in-Some.ensures.found above (c.requires.ours.readable c.in-Some.text.now yes)
    (c.knows.ensures.passed before.seen before.walk above)
    (rw c.knows.ensures.fresh (new_known _ _ _ _ before.new yes))

pub returns-clause-ok : goal.returns-clause-ok
returns-clause-ok c =
    let before = c.requires.before in
    let above : AllBelow before.seen c.in-Some.text.now = above_last _ _ _ _ _ _ before.last before.index_is (c.comes_next.ensures.0 c.if-not-comes_next.false) in
    imported_on _ _ _ _ _ _ _ _ _ _ before c.requires.promised c.in-Some.ensures.found above c.in_ok-check_module.ensures.readable
    (rw c.keep.ensures.passed (c.knows.ensures.passed before.seen before.walk above))
    (rw (c.in_ok-keep.ensures.kept, c.knows.ensures.fresh) (new_kept _ _ _ _ before.new
    (λ k. let yes = (c.knows.ensures.known before.seen before.walk above).1 k in cc (yes, c.if-knows.false)) above))
