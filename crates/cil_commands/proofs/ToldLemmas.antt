-- What a reply leaves of the writer.
use Rattle.std.proofs.Common.{◌≡◌, ◌+◌, ◌∙◌, Bool, List, [], ap, arith, false, refl, subst, sym, true, ℕ}
use Rattle.std.specs.Prelude.{Option, not}
use Rattle.cil_commands.specs.Told.{IsSent, LeavesReply, end_failures, end_of, sent_end}
use Rattle.cil_commands.specs.declared.reply.End.{End}
use Rattle.cil_commands.specs.declared.reply.Reply.{Reply}
use Rattle.cil_commands.specs.declared.reply.Reply.TheVariants.{Decided, Declined, Faults, Loaded, NoMemory, Unreadable}
use Rattle.cil_server.specs.Streams.{OutputState, Tells}
use Rattle.cil_server.proofs.EndLemmas.{counted}
use Rattle.cil_server.proofs.LoadLemmas.{appends_all, appends_front}
use Rattle.cil_server.proofs.StreamLemmas.{tells_before, writes_both}

-- what was told, and then written
pub is_sent : (o p q : OutputState) (reply : List ℕ) (lost : Bool) → lost ≡ q.has_failed → q.waiting ≡ [] → Tells p q [] → o.has_failed ≡ false → o.waiting ≡ []
    → Tells o p reply → IsSent o q reply (not lost)
is_sent o p q reply true is none flush sound empty told = record {
  gives = appends_front o q reply (tells_before o p q reply told flush) sound empty (sym is);
  counts = one_more _ _ (counted o q false true (writes_both o p q told.writes flush.writes) sound (sym is));
}
  where
    one_more : (m n : ℕ) → m + 0 ≡ n + 1 → m ≡ n + 1
    one_more m n e = omega (arith, e)
is_sent o p q reply false is none flush sound empty told = record {
  gives = appends_all o q reply (tells_before o p q reply told flush) sound empty none (sym is);
  counts = none_more _ _ (counted o q false false (writes_both o p q told.writes flush.writes) sound (sym is));
}
  where
    none_more : (m n : ℕ) → m + 0 ≡ n + 0 → m ≡ n
    none_more m n e = omega (arith, e)

-- a reply of which more is known
pub leaves_as : (P Q : List ℕ → Type 0) (before after : Option (List ℕ)) (ending result : End) → ((reply : List ℕ) → P reply → Q reply)
    → LeavesReply P before after ending result → LeavesReply Q before after ending result
leaves_as P Q before after ending result f (LeavesReply.whole reply says appends) = LeavesReply.whole reply (f reply says) appends
leaves_as P Q before after ending result f (LeavesReply.part reply says appends) = LeavesReply.part reply (f reply says) appends

-- a reply by itself fails no call of the writer
no_failure : (reply : Reply) → end_failures (end_of reply) ≡ 0
no_failure (Loaded loaded) = refl
no_failure (Faults count lines) = refl
no_failure NoMemory = refl
no_failure (Decided permissions decision) = refl
no_failure (Declined fault) = refl
no_failure (Unreadable fault) = refl

module _ (o q : OutputState) (bytes : List ℕ) where
  -- what a reply with these bytes leaves
  pub left : (P : List ℕ → Type 0) (b : Bool) (ending result : End) → P bytes → IsSent o q bytes b → result ≡ sent_end b ending
      → LeavesReply P o.written q.written ending result
  left P true ending result says s is = subst (LeavesReply P o.written q.written ending) (sym is) (LeavesReply.whole bytes says s.gives)
  left P false ending result says s is = subst (LeavesReply P o.written q.written ending) (sym is) (LeavesReply.part bytes says s.gives)

  pub failures_left : (reply : Reply) (b : Bool) (result : End) → IsSent o q bytes b → result ≡ sent_end b (end_of reply)
      → q.failures ≡ o.failures + end_failures result
  failures_left reply true result s is = none _ _ _ (ap end_failures is ∙ no_failure reply) s.counts
    where
      none : (m n w : ℕ) → w ≡ 0 → m ≡ n → m ≡ n + w
      none m n w e f = omega (arith, e, f)
  failures_left reply false result s is = one _ _ _ (ap end_failures is) s.counts
    where
      one : (m n w : ℕ) → w ≡ 1 → m ≡ n + 1 → m ≡ n + w
      one m n w e f = omega (arith, e, f)
