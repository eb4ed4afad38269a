-- What a load leaves, by what was told and whether the writer has failed.
use Rattle.std.specs.Prelude.{Option, None, Some, Result, Ok, Err, true, false}
use Rattle.std.specs.Io.KnownBytes.{Appends}
use Rattle.std.proofs.Common.{◌≡◌, ℕ, ◌+◌, List, [], ◌++◌, refl, sym, ◌∙◌, ap, subst, arith}
use Rattle.cil_faults.specs.declared.failure.Failure.{Failure}
use Rattle.cil_faults.specs.declared.failure.Failure.TheVariants as failures
use Rattle.cil_host.specs.Machine.{State}
use Rattle.cil_host.specs.declared.host.Loaded.{Loaded}
use Rattle.cil_server.specs.Devices.{AppendsFront}
use Rattle.cil_server.specs.Load.{IsLoaded, LeavesLoad, end_of, load_failures}
use Rattle.cil_server.specs.Replies.{of_load}
use Rattle.cil_server.specs.Streams.{OutputState, Tells}
use Rattle.cil_server.specs.declared.loading.LoadEnd.{LoadEnd}
use Rattle.cil_server.specs.declared.loading.LoadEnd.TheVariants as ends
use Rattle.cil_server.proofs.EndLemmas.{counted, told_at_first, told_at_last, told_in_part}
use Rattle.cil_server.proofs.StreamLemmas.{tells_before, writes_both}

-- a load by itself fails no call of the writer
no_failure : (result : Result Loaded Failure) → load_failures (end_of result) ≡ 0
no_failure (Ok loaded) = refl
no_failure (Err (failures.Faults faults)) = refl
no_failure (Err failures.NoMemory) = refl

module _ (o q : OutputState) (bytes : List ℕ) where
  -- all that was told is written behind what was there
  pub appends_all : Tells o q bytes → o.has_failed ≡ false → o.waiting ≡ [] → q.waiting ≡ [] → q.has_failed ≡ false → Appends o.written q.written bytes
  appends_all t sound empty none fine = by_written o.written refl
    where
      by_written : (w : Option (List ℕ)) → o.written ≡ w → Appends w q.written bytes
      by_written None e = tt
      by_written (Some before) e =
          let all : q.written ≡ Some (before ++ bytes) = told_at_last q before bytes none fine (t.told before [] (told_at_first o before e empty sound)) in
          subst (λ z. Appends (Some before) z bytes) (sym all) refl

  -- or the first of it
  pub appends_front : Tells o q bytes → o.has_failed ≡ false → o.waiting ≡ [] → q.has_failed ≡ true → AppendsFront o.written q.written bytes
  appends_front t sound empty broken = by_written o.written refl
    where
      by_written : (w : Option (List ℕ)) → o.written ≡ w → AppendsFront w q.written bytes
      by_written None e = record { front = []; is_front = record { rest = bytes; whole = refl }; appends = tt }
      by_written (Some before) e =
          let part = told_in_part q before bytes broken (t.told before [] (told_at_first o before e empty sound)) in
          record { front = part.0; is_front = part.1; appends = subst (λ z. Appends (Some before) z part.0) (sym part.2) refl }

module _ (old new : State) (o p q : OutputState) (ending : LoadEnd) where
  -- the writer is sound at the end
  pub whole_reply : IsLoaded old new (Tells o p) ending → Tells p q [] → o.has_failed ≡ false → o.waiting ≡ [] → q.waiting ≡ [] → q.has_failed ≡ false
      → LeavesLoad old new o.written q.written ending
  whole_reply l flush sound empty none fine =
      let told : Tells o q (of_load l.result) = tells_before o p q (of_load l.result) l.told flush in
      subst (LeavesLoad old new o.written q.written) (sym l.is_end) (LeavesLoad.whole l.result l.loads (appends_all o q (of_load l.result) told sound empty none fine))

  pub sound_load : IsLoaded old new (Tells o p) ending → Tells p q [] → o.has_failed ≡ false → q.has_failed ≡ false → q.failures ≡ o.failures + load_failures ending
  sound_load l flush sound fine =
      let none : load_failures ending ≡ 0 = ap load_failures l.is_end ∙ no_failure l.result in
      let same = counted o q false false (writes_both o p q l.told.writes flush.writes) sound fine in
      all _ _ _ none same
    where
      all : (m n w : ℕ) → w ≡ 0 → m + 0 ≡ n + 0 → m ≡ n + w
      all m n w e f = omega (arith, e, f)

  -- it has failed
  pub part_reply : IsLoaded old new (Tells o p) ending → Tells p q [] → o.has_failed ≡ false → o.waiting ≡ [] → q.has_failed ≡ true
      → LeavesLoad old new o.written q.written ends.WriteFailed
  part_reply l flush sound empty broken =
      let told : Tells o q (of_load l.result) = tells_before o p q (of_load l.result) l.told flush in
      LeavesLoad.part l.result l.loads (appends_front o q (of_load l.result) told sound empty broken)

  pub lost_load : IsLoaded old new (Tells o p) ending → Tells p q [] → o.has_failed ≡ false → q.has_failed ≡ true → q.failures ≡ o.failures + 1
  lost_load l flush sound broken = none _ _ (counted o q false true (writes_both o p q l.told.writes flush.writes) sound broken)
    where
      none : (m n : ℕ) → m + 0 ≡ n → m ≡ n
      none m n e = omega (arith, e)

  pub same_writer : IsLoaded old new (Tells o p) ending → Tells p q [] → q.writer ≡ o.writer
  same_writer l flush = flush.writes.writer ∙ l.told.writes.writer
