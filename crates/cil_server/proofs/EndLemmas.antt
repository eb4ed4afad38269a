-- The end of a session: all that was told is out, or the first of it.
use Rattle.std.specs.Prelude.{Option, None, Some, length, Bool, true, false}
use Rattle.std.specs.Option.{unwrap_or}
use Rattle.std.specs.Io.KnownBytes.{Appends, prepend_known}
use Rattle.std.proofs.Common.{◌≡◌, ℕ, ◌+◌, ◌<◌, ◌≤◌, List, [], ◌++◌, refl, sym, ◌∙◌, ap, subst, arith}
use Rattle.std.proofs.lemmas.List.{append_assoc, append-nil, length-append}
use Rattle.cil_host.specs.Machine.{State}
use Rattle.cil_server.specs.Devices.{IsFront}
use Rattle.cil_server.specs.Session.{IsAhead, IsCutShort, IsFailure, IsLast, IsSent, Runs, Serves, most_requests, reader_failures, writer_failures}
use Rattle.cil_server.specs.Streams.{Grows, Holds, HoldsIn, InputState, IsHeld, OutputState, Tells, Writes, buffer_size, one_if, unread}
use Rattle.cil_server.specs.Turns.{Finishes, Goes, IsEndedAt, IsLastTurn, IsRun, TellsLast}
use Rattle.cil_server.specs.declared.served.Served.{Served}
use Rattle.cil_server.specs.declared.served.Served.TheVariants as served
use Rattle.cil_server.proofs.StreamLemmas.{grows_both, tells_before, tells_both, writes_both}

-- ---- what the reader has left

is_ahead : (j : InputState) (rest : List ℕ) → unread j ≡ Some rest → length j.buffered ≤ buffer_size → IsAhead rest j.left
is_ahead j rest known few = by_left j.left known
  where
    none_some : {x : List ℕ} → None ≡ Some x → ⊥
    none_some h = cc

    by_left : (o : Option (List ℕ)) → prepend_known j.buffered o ≡ Some rest → IsAhead rest o
    by_left None e = absurd (none_some e)
    by_left (Some later) e = record { ahead = j.buffered; later = later; is_left = refl; whole = sym (ap (λ z. unwrap_or z []) e); few = few }

cut_short : (j : InputState) (rest : List ℕ) → j.buffered ≡ [] → IsCutShort rest (unread j) → IsCutShort rest j.left
cut_short j rest none c = subst (IsCutShort rest) (same j.left) (subst (λ z. IsCutShort rest (prepend_known z j.left)) none c)
  where
    same : (o : Option (List ℕ)) → prepend_known [] o ≡ o
    same None = refl
    same (Some x) = refl

-- ---- what the writer has

-- at first nothing was told
pub told_at_first : (o : OutputState) (before : List ℕ) → o.written ≡ Some before → o.waiting ≡ [] → o.has_failed ≡ false → Holds before o []
told_at_first o before known none sound =
    subst (λ z. HoldsIn before z o []) (sym known) ([], sym (append-nil before), subst (λ b. IsHeld b o.waiting [] []) (sym sound) (sym none))

-- at last all that was told is written
pub told_at_last : (q : OutputState) (before told : List ℕ) → q.waiting ≡ [] → q.has_failed ≡ false → Holds before q told → q.written ≡ Some (before ++ told)
told_at_last q before told none sound h = by_written q.written h
  where
    by_written : (o : Option (List ℕ)) → HoldsIn before o q told → o ≡ Some (before ++ told)
    by_written None h = absurd h
    by_written (Some written) h =
        let all : told ≡ h.0 ++ q.waiting = subst (λ b. IsHeld b q.waiting h.0 told) sound h.2 in
        let same : told ≡ h.0 = all ∙ ap (λ z. h.0 ++ z) none ∙ append-nil h.0 in
        ap Some (h.1 ∙ ap (λ z. before ++ z) (sym same))

-- or the first of it
pub told_in_part : (q : OutputState) (before told : List ℕ) → q.has_failed ≡ true → Holds before q told → (front : List ℕ) × IsFront front told × (q.written ≡ Some (before ++ front))
told_in_part q before told broken h = by_written q.written h
  where
    by_written : (o : Option (List ℕ)) → HoldsIn before o q told → (front : List ℕ) × IsFront front told × (o ≡ Some (before ++ front))
    by_written None h = absurd h
    by_written (Some written) h = (h.0, subst (λ b. IsHeld b q.waiting h.0 told) broken h.2, ap Some h.1)

-- what was told while the writer was sound is out, but for what waits
told_but_waiting : (p q : OutputState) (before told sent : List ℕ) → p.has_failed ≡ false → length p.waiting ≤ buffer_size → Holds before p told → Grows p.written q.written
    → q.written ≡ Some (before ++ sent) → length told ≤ length sent + buffer_size
told_but_waiting p q before told sent sound few h grows known = by_written p.written h grows.1
  where
    total : (t out w b s m : ℕ) → t ≡ out + w → b + s ≡ (b + out) + m → w ≤ 65536 → t ≤ s + 65536
    total t out w b s m e f h = omega (arith, e, f, h)

    by_written : (o : Option (List ℕ)) → HoldsIn before o p told → Appends o q.written grows.0 → length told ≤ length sent + buffer_size
    by_written None h a = absurd h
    by_written (Some written) h a =
        let all : told ≡ h.0 ++ p.waiting = subst (λ b. IsHeld b p.waiting h.0 told) sound h.2 in
        let out : before ++ sent ≡ written ++ grows.0 = subst (λ z. Appends (Some written) z grows.0) known a in
        let told_length : length told ≡ length h.0 + length p.waiting = ap length all ∙ length-append h.0 p.waiting in
        let sent_length : length before + length sent ≡ (length before + length h.0) + length grows.0 =
        sym (length-append before sent) ∙ ap length out ∙ length-append written grows.0 ∙ ap (λ n. n + length grows.0) (ap length h.1 ∙ length-append before h.0) in
        total (length told) (length h.0) (length p.waiting) (length before) (length sent) (length grows.0) told_length sent_length few

-- ---- which calls have failed

lost_read : (ending : Served) (j : InputState) (p q : OutputState) → IsEndedAt ending j p → (p.waiting ≡ [] → q ≡ p) → q.has_failed ≡ true → reader_failures ending ≡ 0
lost_read served.ReadFailed j p q at idle broken =
    let sound : q.has_failed ≡ false = ap (λ z. z.has_failed) (idle at.1) ∙ at.2 in
    absurd (true_false (sym broken ∙ sound))
  where
    true_false : true ≡ false → ⊥
    true_false h = cc
lost_read served.WriteFailed j p q at idle broken = refl
lost_read served.Quit j p q at idle broken = refl
lost_read served.End j p q at idle broken = refl
lost_read (served.Fault code) j p q at idle broken = refl

sound_write : (ending : Served) (j : InputState) (p q : OutputState) → IsEndedAt ending j p → Writes p q → q.has_failed ≡ false → writer_failures ending ≡ 0
sound_write served.WriteFailed j p q at writes sound = absurd (true_false (sym (writes.lasting at) ∙ sound))
  where
    true_false : true ≡ false → ⊥
    true_false h = cc
sound_write served.ReadFailed j p q at writes sound = refl
sound_write served.Quit j p q at writes sound = refl
sound_write served.End j p q at writes sound = refl
sound_write (served.Fault code) j p q at writes sound = refl

pub counted : (o q : OutputState) (a b : Bool) → Writes o q → o.has_failed ≡ a → q.has_failed ≡ b → q.failures + one_if a ≡ o.failures + one_if b
counted o q a b w e f = ap (λ z. q.failures + one_if z) (sym e) ∙ w.counts ∙ ap (λ z. o.failures + one_if z) f

module _ (i : InputState) (o : OutputState) (j : InputState) (p q : OutputState) (ending : Served) where
  -- the writer failed
  pub lost_reader : Goes i o j p (reader_failures ending) → IsEndedAt ending j p → (p.waiting ≡ [] → q ≡ p) → q.has_failed ≡ true → j.failures ≡ i.failures + 0
  lost_reader g at idle broken = g.failures ∙ ap (λ n. i.failures + n) (lost_read ending j p q at idle broken)

  pub lost_writer : Goes i o j p (reader_failures ending) → Tells p q [] → o.has_failed ≡ false → q.has_failed ≡ true → q.failures ≡ o.failures + 1
  lost_writer g t sound broken = none _ _ (counted o q false true (writes_both o p q g.writes t.writes) sound broken)
    where
      none : (m n : ℕ) → m + 0 ≡ n → m ≡ n
      none m n e = omega (arith, e)

  -- it did not
  pub sound_writer : Goes i o j p (reader_failures ending) → IsEndedAt ending j p → Tells p q [] → o.has_failed ≡ false → q.has_failed ≡ false
      → q.failures ≡ o.failures + writer_failures ending
  sound_writer g at t sound fine =
      let none : writer_failures ending ≡ 0 = sound_write ending j p q at t.writes fine in
      let same = counted o q false false (writes_both o p q g.writes t.writes) sound fine in
      all _ _ _ none same
    where
      all : (m n w : ℕ) → w ≡ 0 → m + 0 ≡ n + 0 → m ≡ n + w
      all m n w e f = omega (arith, e, f)

  pub some_fault : IsEndedAt ending j p → ending ≡ served.Fault 0 → ⊥
  some_fault at e = none (subst (λ z. IsEndedAt z j p) e at)
    where
      none : 82 ≤ 0 → ⊥
      none h = omega (arith, h)

pub empty_few : (o : OutputState) → o.waiting ≡ [] → length o.waiting ≤ buffer_size
empty_few o e = let none : length o.waiting ≡ 0 = ap length e in omega (arith, none)

-- ---- what is served

module _ (bytes before : List ℕ) (old new : State) (o : OutputState) (j : InputState) (p q : OutputState) where
  sent_all : (replies last : List ℕ) → TellsLast o p replies last → Tells p q [] → o.written ≡ Some before → o.waiting ≡ [] → o.has_failed ≡ false → q.waiting ≡ []
      → q.has_failed ≡ false → q.written ≡ Some (before ++ replies ++ last)
  sent_all replies last t flush known empty sound none fine =
      let told = tells_before o p q (replies ++ last) (tells_both o t.between p replies last t.replied t.ended) flush in
      told_at_last q before (replies ++ last) none fine (told.told before [] (told_at_first o before known empty sound)) ∙ ap Some (sym (append_assoc before replies last))

  sent_part : (replies last : List ℕ) → TellsLast o p replies last → Tells p q [] → o.written ≡ Some before → o.waiting ≡ [] → o.has_failed ≡ false → q.has_failed ≡ true
      → (sent : List ℕ) × IsSent sent replies last × (q.written ≡ Some (before ++ sent))
  sent_part replies last t flush known empty sound broken =
      let first = told_at_first o before known empty sound in
      let told = tells_before o p q (replies ++ last) (tells_both o t.between p replies last t.replied t.ended) flush in
      let part = told_in_part q before (replies ++ last) broken (told.told before [] first) in
      let grows = grows_both t.between.written p.written q.written t.ended.grows flush.grows in
      let few = told_but_waiting t.between q before replies part.0 t.sound t.few (t.replied.told before [] first) grows part.2 in
      (part.0, record { front = part.1; few = few }, part.2)

  runs_to : (count : ℕ) (replies rest : List ℕ) (mid : State) → new ≡ mid → Runs bytes old count replies rest mid → Runs bytes old count replies rest new
  runs_to count replies rest mid e r = subst (λ h. Runs bytes old count replies rest h) (sym e) r

  -- the writer is sound at the end
  pub serves_all : (ending : Served) → IsRun bytes j old new o p ending → IsEndedAt ending j p → Tells p q [] → o.written ≡ Some before → o.waiting ≡ [] → o.has_failed ≡ false
      → length j.buffered ≤ buffer_size → q.waiting ≡ [] → q.has_failed ≡ false → Serves bytes before j.left old new q.written ending
  serves_all ending r at flush known empty sound few none fine = by_last ending r.last at
    where
      true_false : true ≡ false → ⊥
      true_false h = cc

      lost : p.has_failed ≡ true → ⊥
      lost h = true_false (sym (flush.writes.lasting h) ∙ fine)

      stopped : (e : Served) → IsFailure e → r.count < most_requests → IsCutShort r.rest (unread j) → new ≡ r.mid → TellsLast o p r.replies [] → j.buffered ≡ [] → IsEndedAt e j p
          → Serves bytes before j.left old new q.written e
      stopped served.ReadFailed is less short stays told gone at =
          Serves.broken r.count r.replies r.rest (runs_to r.count r.replies r.rest r.mid stays r.runs) less (cut_short j r.rest gone short)
          (sent_all r.replies [] told flush known empty sound none fine ∙ ap Some (append-nil (before ++ r.replies)))
      stopped served.WriteFailed is less short stays told gone at = absurd (lost at)
      stopped served.Quit is less short stays told gone at = absurd is
      stopped served.End is less short stays told gone at = absurd is
      stopped (served.Fault code) is less short stays told gone at = absurd is

      by_end : (e : Served) → r.count < most_requests → new ≡ r.mid → Finishes r.rest (unread j) (TellsLast o p r.replies) e → (IsFailure e → j.buffered ≡ []) → IsEndedAt e j p
          → Serves bytes before j.left old new q.written e
      by_end x less stays (Finishes.finished e reply after ends is told) gone at =
          Serves.all r.count r.replies r.rest reply after e (runs_to r.count r.replies r.rest r.mid stays r.runs) (ends r.count less) (is_ahead j after is few)
          (sent_all r.replies reply told flush known empty sound none fine)
      by_end x less stays (Finishes.stopped e is short told) gone at = stopped e is less short stays told (gone is) at

      by_last : (e : Served) → IsLastTurn r.count r.rest r.mid j (TellsLast o p r.replies) new e → IsEndedAt e j p → Serves bytes before j.left old new q.written e
      by_last x (IsLastTurn.lost less s) at = absurd (lost at)
      by_last x (IsLastTurn.turned e less f gone) at = by_end e less f.stays f.finishes gone at
      by_last x (IsLastTurn.full reply after ends is stays told) at =
          Serves.all r.count r.replies r.rest reply after (served.Fault 85) (runs_to r.count r.replies r.rest r.mid stays r.runs) ends (is_ahead j after is few)
          (sent_all r.replies reply told flush known empty sound none fine)

  -- the writer has failed
  pub serves_part : (ending : Served) → IsRun bytes j old new o p ending → IsEndedAt ending j p → Tells p q [] → (p.waiting ≡ [] → q ≡ p) → o.written ≡ Some before → o.waiting ≡ []
      → o.has_failed ≡ false → length j.buffered ≤ buffer_size → q.has_failed ≡ true → Serves bytes before j.left old new q.written served.WriteFailed
  serves_part ending r at flush idle known empty sound few broken = by_last ending r.last at
    where
      part : (last : List ℕ) → TellsLast o p r.replies last → IsLast r.count r.rest r.mid j.left last new → Serves bytes before j.left old new q.written served.WriteFailed
      part last told is =
          let s = sent_part r.replies last told flush known empty sound broken in
          Serves.part r.count r.replies r.rest last s.0 r.mid r.runs is s.1 s.2

      same : (last : List ℕ) → new ≡ r.mid → IsLast r.count r.rest r.mid j.left last r.mid → IsLast r.count r.rest r.mid j.left last new
      same last e is = subst (λ h. IsLast r.count r.rest r.mid j.left last h) (sym e) is

      by_end : (e : Served) → r.count < most_requests → new ≡ r.mid → Finishes r.rest (unread j) (TellsLast o p r.replies) e → (IsFailure e → j.buffered ≡ [])
          → Serves bytes before j.left old new q.written served.WriteFailed
      by_end x less stays (Finishes.finished e reply after ends is told) gone = part reply told (same reply stays (IsLast.ended e after (ends r.count less) (is_ahead j after is few)))
      by_end x less stays (Finishes.stopped e is short told) gone = part [] told (same [] stays (IsLast.waited (cut_short j r.rest (gone is) short)))

      by_last : (e : Served) → IsLastTurn r.count r.rest r.mid j (TellsLast o p r.replies) new e → IsEndedAt e j p → Serves bytes before j.left old new q.written served.WriteFailed
      by_last x (IsLastTurn.lost less s) at = part s.answered.reply s.answered.told (IsLast.replied s.request s.rest less s.next s.answered.step (is_ahead j s.rest s.is_rest few))
      by_last x (IsLastTurn.turned e less f gone) at = by_end e less f.stays f.finishes gone
      by_last x (IsLastTurn.full reply after ends is stays told) at = part reply told (same reply stays (IsLast.ended (served.Fault 85) after ends (is_ahead j after is few)))
