-- A run, event by event.
use Rattle.std.specs.Prelude.{slice_get}
use Rattle.std.proofs.Common.{◌≡◌, ℕ, suc, ◌<◌, Bool, true, false, if◌then◌else◌, List, [], ◌∷◌, ◌++◌, length, Some, None, refl, sym, ap, subst, ◌∙◌, arith, inl, inr}
use Rattle.std.specs.List.Sorted.{IsStrictlySortedBy}
use Rattle.std.proofs.lemmas.List.{get_or-set_other, length-set}
use Rattle.cil_base.specs.Decided.{same_number}
use Rattle.cil_base.specs.Lists.{contains_none}
use Rattle.cil_base.specs.Places.{at_or_last, get_last, in_range, longer, none_some}
use Rattle.cil_host.specs.modset.Laws.{NeverBoth as NoBadBundle}
use Rattle.cil_host.specs.sexpr.Laws.{NeverBoth as NoBadText}
use Rattle.cil_host.specs.Machine.{State}
use Rattle.cil_world.specs.declared.event.Event.{Event}
use Rattle.cil_world.specs.declared.reply.Reply.{Reply}
use Rattle.cil_world.specs.Answers.{fresh}
use Rattle.cil_world.specs.Events.{host_of, is_export}
use Rattle.cil_world.specs.Hosts.{IsHostAt}
use Rattle.cil_world.specs.Reached.{Reached, delivered, installed}
use Rattle.cil_world.specs.Replies.{counts}
use Rattle.cil_world.specs.Run.{IsAnswered, IsRun}
use Rattle.cil_world.specs.Steps.{IsDone, IsNext, IsSkipped, Kept, host_at}
use Rattle.cil_world.proofs.Agreed.{Agree, agree_before, agree_more, agree_turned, answers_moved, host_moved}
use Rattle.cil_world.proofs.EventLemmas.{IsStepped, one_step, other_stays}
use Rattle.cil_world.proofs.ExportLemmas.{AreKept, kept_empty, kept_moved, kept_none}
use Rattle.cil_world.proofs.NextMoment.{one_of}

-- the first events are answered, and these are the hosts and the bundles then
pub record IsRunUpTo (hosts : ℕ) (events : List Event) (replies : List Reply) (states : List State) (exports : Kept) : Type 0 where
  pub count : length states ≡ hosts
  pub are_hosts : (h : ℕ) → h < hosts → IsHostAt events replies (length replies) h (host_at states h)
  pub are_kept : AreKept events replies (length replies) exports
  pub answered : (i : ℕ) (event : Event) (reply : Reply) → slice_get events i ≡ Some event → slice_get replies i ≡ Some reply
      → IsAnswered hosts events replies i event reply

-- ---- the beginning

nothing_yet : (events : List Event) (i h : ℕ) (x : List ℕ) → i ≡ 0 → Reached events [] i h x → ⊥
nothing_yet events _ _ _ e (installed i h j x lt happens reads none) = omega (arith, e, lt)
nothing_yet events _ _ _ e (delivered i h j k f g x lt happens none before export there) = omega (arith, e, lt)

fresh_host : (events : List Event) (h : ℕ) → IsHostAt events [] 0 h fresh
unfolding IsStrictlySortedBy
fresh_host events h = record {
  reached = record {
    are_modules = record { rising = tt; readable = λ x c. absurd (contains_none x c) };
    members = λ x. (λ c. absurd (contains_none x c), λ r. absurd (nothing_yet events 0 h x refl r));
  };
  loaded = λ j last. let lt = last.before in omega (arith, lt);
}

pub begun : (hosts : ℕ) (events : List Event) (states : List State) → length states ≡ hosts → ((h : ℕ) → h < hosts → host_at states h ≡ fresh)
    → IsRunUpTo hosts events [] states []
begun hosts events states count each = record {
  count = count;
  are_hosts = λ h lt. subst (IsHostAt events [] 0 h) (sym (each h lt)) (fresh_host events h);
  are_kept = record { numbers = refl; each = λ k bytes at. absurd (none_some (Some bytes) at); all = λ k e g lt x. absurd (omega (arith, lt)) };
  answered = λ i event reply at told. absurd (none_some reply told);
}

-- ---- one event more

answered_moved : (hosts : ℕ) (events : List Event) (a b : List Reply) (i : ℕ) (event : Event) (reply : Reply) → Agree (suc i) a b → IsAnswered hosts events a i event reply
    → IsAnswered hosts events b i event reply
answered_moved hosts events a b i event reply same is = record {
  there = λ lt.
      let before = agree_before i (suc i) a b (omega arith) same in
      let t = is.there lt in
      record {
        old = t.old;
        new = t.new;
        was = host_moved events a b i (host_of event) t.old before t.was;
        is = host_moved events a b (suc i) (host_of event) t.new same t.is;
        answers = answers_moved events a b i event t.old t.new reply before t.answers;
      };
  absent = is.absent;
}

module _ (hosts : ℕ) (events : List Event) (replies : List Reply) (states after : List State) (exports kept : Kept) (event : Event) (reply : Reply)
    (texts_law : NoBadText) (bundles_law : NoBadBundle) (run : IsRunUpTo hosts events replies states exports) (at : slice_get events (length replies) ≡ Some event) where
  abbrev i : ℕ
  i = length replies

  abbrev all : List Reply
  all = replies ++ reply ∷ []

  abbrev here : ℕ
  here = host_of event

  told : slice_get all i ≡ Some reply
  told = get_last replies reply

  onward : Agree i replies all
  onward = agree_turned i all replies (agree_more replies (reply ∷ []))

  one_more : suc i ≡ length all
  one_more = let l = longer replies reply in omega (arith, l)

  kept_before : AreKept events all i exports
  kept_before = kept_moved events replies all i exports onward run.are_kept

  host_before : (h : ℕ) → h < hosts → IsHostAt events all i h (host_at states h)
  host_before h lt = host_moved events replies all i h (host_at states h) onward (run.are_hosts h lt)

  -- the replies of earlier events, and this one
  all_answered : IsAnswered hosts events all i event reply → (j : ℕ) (e : Event) (r : Reply) → slice_get events j ≡ Some e → slice_get all j ≡ Some r
      → IsAnswered hosts events all j e r
  all_answered now j e r there is = elim (at_or_last replies reply r j is) [
    | inl old ↦
        let within = in_range replies j r old in
        answered_moved hosts events replies all j e r (agree_before (suc j) i replies all (omega (arith, within)) onward) (run.answered j e r there old)
    | inr new ↦
        let same : event ≡ e = one_of _ event e at (subst (λ (n : ℕ). slice_get events n ≡ Some e) new.0 there) in
        subst (λ (n : ℕ). IsAnswered hosts events all n e r) (sym new.0)
        (subst (λ (d : Event). IsAnswered hosts events all i d r) same (subst (λ (s : Reply). IsAnswered hosts events all i event s) new.1 now))
  ]

  made : length after ≡ hosts → ((h : ℕ) → h < hosts → IsHostAt events all (suc i) h (host_at after h)) → AreKept events all (suc i) kept → IsAnswered hosts events all i event reply
      → IsRunUpTo hosts events all after kept
  made count each are now = record {
    count = count;
    are_hosts = λ h lt. subst (λ (n : ℕ). IsHostAt events all n h (host_at after h)) one_more (each h lt);
    are_kept = subst (λ (n : ℕ). AreKept events all n kept) one_more are;
    answered = all_answered now;
  }

  -- ---- at a host that is there

  done : IsDone event states exports reply after kept → IsRunUpTo hosts events all after kept
  done d = made (ap length d.others ∙ length-set states here (host_at after here) ∙ run.count) each stepped.kept_so (record {
    there = λ lt. record { old = host_at states here; new = host_at after here; was = was; is = stepped.host; answers = stepped.answers };
    absent = λ le. let there = d.there in let count = run.count in absurd (omega (arith, le, there, count));
  })
    where
      was : IsHostAt events all i here (host_at states here)
      was = host_before here (let there = d.there in let count = run.count in omega (arith, there, count))

      stepped : IsStepped events all i event (host_at states here) reply (host_at after here) kept
      stepped = one_step events all i event reply (host_at states here) (host_at after here) exports kept texts_law bundles_law at told kept_before was d.steps

      unchanged : (g : ℕ) → (g ≡ here → ⊥) → host_at after g ≡ host_at states g
      unchanged g apart = ap (λ (s : List State). host_at s g) d.others ∙ get_or-set_other states here g (host_at after here) fresh apart

      each : (g : ℕ) → g < hosts → IsHostAt events all (suc i) g (host_at after g)
      each g lt = elim (same_number g here) [
        | inl e ↦ subst (λ (n : ℕ). IsHostAt events all (suc i) n (host_at after n)) (sym e) stepped.host
        | inr apart ↦ subst (IsHostAt events all (suc i) g) (sym (unchanged g apart))
            (other_stays events all i event reply at told g (host_at states g) (λ e. apart (sym e)) (host_before g lt))
      ]

  -- ---- at a host that is not there

  skipped : IsSkipped event states exports reply after kept → IsRunUpTo hosts events all after kept
  skipped s = made (ap length s.same ∙ run.count) each (go (is_export event) refl s.kept_is) (record {
    there = λ lt. let absent = s.absent in let count = run.count in absurd (omega (arith, lt, absent, count));
    absent = λ le. s.told;
  })
    where
      each : (g : ℕ) → g < hosts → IsHostAt events all (suc i) g (host_at after g)
      each g lt = subst (λ (t : List State). IsHostAt events all (suc i) g (host_at t g)) (sym s.same)
          (other_stays events all i event reply at told g (host_at states g)
          (λ e. let absent = s.absent in let count = run.count in omega (arith, lt, absent, count, e)) (host_before g lt))

      go : (b : Bool) → is_export event ≡ b → kept ≡ (if b then exports ++ None ∷ [] else exports) → AreKept events all (suc i) kept
      go true is e = subst (AreKept events all (suc i)) (sym e) (kept_empty events all i event reply at told exports is (ap counts s.told) kept_before)
      go false is e = subst (AreKept events all (suc i)) (sym e) (kept_none events all i event reply at told exports is kept_before)

  pub one_more_event : IsNext event states exports reply after kept → IsRunUpTo hosts events (replies ++ reply ∷ []) after kept
  one_more_event (inl d) = done d
  one_more_event (inr s) = skipped s

-- ---- the end

pub ended : (hosts : ℕ) (events : List Event) (replies : List Reply) (states : List State) (exports : Kept) → IsRunUpTo hosts events replies states exports
    → length replies ≡ length events → IsRun hosts events replies
ended hosts events replies states exports run whole = record { whole = whole; answered = run.answered }
