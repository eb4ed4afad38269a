-- Runs of bytes, counted down.
use Rattle.std.proofs.Common.{◌≡◌, ◌+◌, ◌<◌, ◌≤◌, ℕ, zero, suc, Bool, true, false, List, refl, sym, ◌∙◌, ap, subst, arith}
use Rattle.std.specs.Prelude.{slice_index, if◌then◌else◌}
use Rattle.cil_locate.specs.Windows.{run_of}

module _ (such : ℕ → Bool) (text : List ℕ) where
  -- so many bytes are such, and what follows of so many decides
  pub record IsRun (at most count : ℕ) : Type 0 where
    pub left : ℕ
    pub all : count + left ≡ most
    pub run : run_of such text at most ≡ count + run_of such text (at + count) left

  pub run_none : (at most : ℕ) → IsRun at most 0
  run_none at most = record { left = most; all = omega arith; run = same _ ∙ ap (λ k. 0 + run_of such text k most) (there at) }
    where
      same : (n : ℕ) → n ≡ 0 + n
      same n = omega arith

      there : (k : ℕ) → k ≡ k + 0
      there k = omega arith

  -- one more is such
  pub run_more : (at most count : ℕ) → count < most → such (slice_index text (at + count)) ≡ true → IsRun at most count → IsRun at most (count + 1)
  unfolding run_of
  run_more at most count below is r = more r.left r.all r.run
    where
      more : (left : ℕ) → count + left ≡ most → run_of such text at most ≡ count + run_of such text (at + count) left → IsRun at most (count + 1)
      more zero all run = absurd (omega (arith, all, below))
      more (suc left) all run = record {
        left = left;
        all = omega (arith, all);
        run = run ∙ ap (λ b. count + (if b then suc (run_of such text (suc (at + count)) left) else 0)) is ∙ moved;
      }
        where
          shifted : (m n : ℕ) → m ≡ n → count + suc m ≡ count + 1 + n
          shifted m n e = omega (arith, e)

          moved : count + suc (run_of such text (suc (at + count)) left) ≡ count + 1 + run_of such text (at + (count + 1)) left
          moved = shifted _ _ (ap (λ k. run_of such text k left) {x = suc (at + count)} {y = at + (count + 1)} (omega arith))

  -- the next is not
  pub run_ends : (at most count : ℕ) → count < most → such (slice_index text (at + count)) ≡ false → IsRun at most count → count ≡ run_of such text at most
  unfolding run_of
  run_ends at most count below is r = ends r.left r.all r.run
    where
      ends : (left : ℕ) → count + left ≡ most → run_of such text at most ≡ count + run_of such text (at + count) left → count ≡ run_of such text at most
      ends zero all run = absurd (omega (arith, all, below))
      ends (suc left) all run = sym (run ∙ ap (λ b. count + (if b then suc (run_of such text (suc (at + count)) left) else 0)) is ∙ omega arith)

  -- all are
  pub run_whole : (at most count : ℕ) → most ≤ count → IsRun at most count → most ≡ run_of such text at most
  unfolding run_of
  run_whole at most count above r = whole r.left r.all r.run
    where
      whole : (left : ℕ) → count + left ≡ most → run_of such text at most ≡ count + run_of such text (at + count) left → most ≡ run_of such text at most
      whole zero all run = omega (arith, all, run)
      whole (suc left) all run = absurd (omega (arith, all, above))
