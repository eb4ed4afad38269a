-- From the parts of a turn to the whole session.
use Rattle.std.specs.Prelude.{Option, None, Some, length, take, false}
use Rattle.std.specs.Io.KnownBytes.{Consumes, IsAtEnd}
use Rattle.std.proofs.Common.{◌≡◌, ℕ, suc, ◌+◌, ◌<◌, ◌≤◌, List, [], ◌∷◌, ◌++◌, refl, sym, ◌∙◌, ap, subst, arith}
use Rattle.std.proofs.lemmas.List.{append_assoc, append-nil, length-take-le}
use Rattle.cil_host.specs.Machine.{State}
use Rattle.cil_server.specs.Asked.{Line, Request, asked, body_of, longest_line, request_of}
use Rattle.cil_server.specs.Asked.Line.{Install, Import, Quit, TooBig}
use Rattle.cil_server.specs.Asked.Request.{Imports, Installs}
use Rattle.cil_server.specs.Replies.{no_memory, ok, refused}
use Rattle.cil_server.specs.Session.{Ends, HasNoNewline, IsFailure, IsLine, IsShort, Runs, most_requests}
use Rattle.cil_server.specs.Step.{MayLack, Step}
use Rattle.cil_server.specs.Streams.{InputState, OutputState, Tells, buffer_size, unread}
use Rattle.cil_server.specs.Taken.{Moves, TakesFront, TakesPlain, TakesSome, ending_of}
use Rattle.cil_server.specs.Turns.{Announces, AnswersLine, Finishes, Goes, IsAnswered, IsFinished, IsLastTurn, IsRun, IsServed, IsTurnedAt, TellsLast, TurnOf, turn_losses}
use Rattle.cil_server.specs.Views.{plain_line, plain_request}
use Rattle.cil_server.specs.declared.line.Plain.{Plain}
use Rattle.cil_server.specs.declared.line.Plain.TheVariants as plain
use Rattle.cil_server.specs.declared.served.Served.{Served}
use Rattle.cil_server.specs.declared.served.Served.TheVariants as served
use Rattle.cil_server.specs.declared.streams.Broken.{Broken}
use Rattle.cil_server.specs.declared.streams.Broken.TheVariants as broken
use Rattle.cil_server.specs.declared.turn.Turn.{Turn}
use Rattle.cil_server.specs.declared.turn.Turn.TheVariants as turns
use Rattle.cil_server.proofs.StreamLemmas.{at_end, consumed, tells_both, tells_none, writes_both, writes_none}

-- ---- the same, told behind something else

module _ (t u : List ℕ → Type 0) (f : (xs : List ℕ) → t xs → u xs) where
  pub answered_after : (old new : State) (request : Request) → IsAnswered old request new t → IsAnswered old request new u
  answered_after old new request a = record { reply = a.reply; step = a.step; told = f a.reply a.told }

  pub served_after : (bytes : List ℕ) (after : Option (List ℕ)) (old new : State) → IsServed bytes after old new t → IsServed bytes after old new u
  served_after bytes after old new g = record { request = g.request; rest = g.rest; is_rest = g.is_rest; next = g.next; answered = answered_after old new g.request g.answered }

  finishes_after : (bytes : List ℕ) (after : Option (List ℕ)) (ending : Served) → Finishes bytes after t ending → Finishes bytes after u ending
  finishes_after bytes after ending (Finishes.finished e reply rest ends is told) = Finishes.finished e reply rest ends is (f reply told)
  finishes_after bytes after ending (Finishes.stopped e is short told) = Finishes.stopped e is short (f [] told)

  pub finished_after : (bytes : List ℕ) (after : Option (List ℕ)) (old new : State) (ending : Served) → IsFinished bytes after old new t ending → IsFinished bytes after old new u ending
  finished_after bytes after old new ending e = record { stays = e.stays; finishes = finishes_after bytes after ending e.finishes }

  pub turn_after : (bytes : List ℕ) (after : Option (List ℕ)) (old new : State) (turn : Turn) → TurnOf bytes after old new t turn → TurnOf bytes after old new u turn
  turn_after bytes after old new turns.Next g = served_after bytes after old new g
  turn_after bytes after old new (turns.Ended ending) e = finished_after bytes after old new ending e

-- ---- behind a line

module _ (before after : Option (List ℕ)) (old new : State) (tells : List ℕ → Type 0) where
  -- a request with its body
  pub bodied : (said : Line) (request : Request) (body : List ℕ) → Consumes before after body → length body ≡ body_of said → request_of said body ≡ Some request
      → IsAnswered old request new tells → AnswersLine said before after old new tells turns.Next
  bodied said request body f len is a = λ bytes line rest l e known.
      let c = consumed before after rest body f known in
      record {
        request = request;
        rest = c.0;
        is_rest = c.1;
        next = record {
          line = line;
          body = body;
          is_line = subst (λ z. IsLine bytes line z) c.2 l;
          body_length = len ∙ ap body_of (sym e);
          is_request = ap (λ z. request_of z body) e ∙ is;
        };
        answered = a;
      }

  -- a request without a body
  pub alone : (said : Line) (request : Request) → before ≡ after → body_of said ≡ 0 → request_of said [] ≡ Some request → IsAnswered old request new tells
      → AnswersLine said before after old new tells turns.Next
  alone said request same none is a = λ bytes line rest l e known. record {
    request = request;
    rest = rest;
    is_rest = sym same ∙ known;
    next = record { line = line; body = []; is_line = l; body_length = sym none ∙ ap body_of (sym e); is_request = ap (λ z. request_of z []) e ∙ is };
    answered = a;
  }

-- a request without a body is whole behind its line
pub no_body : (p : Plain) → body_of (plain_line p) ≡ 0
no_body plain.Export = refl
no_body plain.List = refl
no_body plain.Load = refl
no_body plain.Optionals = refl
no_body plain.Why = refl
no_body (plain.Ask q) = refl
no_body (plain.Check q p) = refl
no_body (plain.Set b v) = refl
no_body plain.Unknown = refl

pub is_whole : (p : Plain) → request_of (plain_line p) [] ≡ Some (plain_request p)
is_whole plain.Export = refl
is_whole plain.List = refl
is_whole plain.Load = refl
is_whole plain.Optionals = refl
is_whole plain.Why = refl
is_whole (plain.Ask q) = refl
is_whole (plain.Check q p) = refl
is_whole (plain.Set b v) = refl
is_whole plain.Unknown = refl

pub installs : (count : ℕ) → Announces (Install count) count
installs count = record { size = refl; request = Installs; is_request = λ body. refl; may_lack = λ h body. MayLack.installs }

pub imports : (count : ℕ) → Announces (Import count) count
imports count = record { size = refl; request = Imports; is_request = λ body. refl; may_lack = λ h body. MayLack.imports }

module _ (before after : Option (List ℕ)) (h : State) (tells : List ℕ → Type 0) where
  finished_so : (bytes reply rest : List ℕ) (ending : Served) → ((count : ℕ) → count < most_requests → Ends count bytes reply ending rest) → after ≡ Some rest → tells reply
      → IsFinished bytes after h h tells ending
  finished_so bytes reply rest ending ends is told = record { stays = refl; finishes = Finishes.finished ending reply rest ends is told }

  stopped_so : (bytes short rest : List ℕ) (ending : Served) → IsFailure ending → IsShort short → bytes ≡ short ++ rest → after ≡ Some rest → tells []
      → IsFinished bytes after h h tells ending
  stopped_so bytes short rest ending is s e known told =
      record { stays = refl; finishes = Finishes.stopped ending is (record { short = short; later = rest; is_left = known; whole = e; is_short = s }) told }

  -- there is no memory for a body
  pub body_lacks : (said : Line) (count : ℕ) → Announces said count → TakesSome before after count → tells no_memory → AnswersLine said before after h h tells turns.Next
  body_lacks said count a t told =
      bodied before after h h tells said (a.request t.bytes) t.bytes t.consumed (t.len ∙ sym a.size) (a.is_request t.bytes)
      (record { reply = no_memory; step = Step.lack (a.may_lack h t.bytes); told = told })

  -- the input ends in a body
  pub body_cut : (said : Line) (n : ℕ) → n < body_of said → TakesSome before after n → IsAtEnd after → tells (refused 83)
      → AnswersLine said before after h h tells (turns.Ended (served.Fault 83))
  body_cut said n less t end told = λ bytes line rest l e known.
      let c = consumed before after rest t.bytes t.consumed known in
      let none = at_end after c.0 end c.1 in
      let all : rest ≡ t.bytes = c.2 ∙ ap (λ z. t.bytes ++ z) none ∙ append-nil t.bytes in
      let few : length rest < body_of (asked line) =
      subst (λ z. length rest < body_of z) (sym e) (subst (λ k. k < body_of said) (sym (ap length all ∙ t.len)) less) in
      finished_so bytes (refused 83) [] (served.Fault 83) (λ count below. Ends.body_cut line rest below l few) (c.1 ∙ ap Some none) told

  -- a stream fails in a body
  pub body_stops : (said : Line) (n : ℕ) (b : Broken) → n < body_of said → TakesSome before after n → tells []
      → AnswersLine said before after h h tells (turns.Ended (ending_of b))
  body_stops said n b less t told = λ bytes line rest l e known.
      let c = consumed before after rest t.bytes t.consumed known in
      let few : length t.bytes < body_of (asked line) = subst (λ z. length t.bytes < body_of z) (sym e) (subst (λ k. k < body_of said) (sym t.len) less) in
      let short : IsShort (line ++ 10 ∷ t.bytes) = IsShort.body line t.bytes (record { whole = refl; plain = l.plain; fits = l.fits }) few in
      let whole : bytes ≡ (line ++ 10 ∷ t.bytes) ++ c.0 = l.whole ∙ ap (λ z. line ++ 10 ∷ z) c.2 ∙ sym (append_assoc line (10 ∷ t.bytes) c.0) in
      stopped_so bytes (line ++ 10 ∷ t.bytes) c.0 (ending_of b) (is_failure b) short whole c.1 told
    where
      is_failure : (b : Broken) → IsFailure (ending_of b)
      is_failure broken.Reader = tt
      is_failure broken.Writer = tt

  pub quits : after ≡ before → tells ok → AnswersLine Quit before after h h tells (turns.Ended served.Quit)
  quits same told = λ bytes line rest l e known. finished_so bytes ok rest served.Quit (λ count below. Ends.quit line rest below l e) (same ∙ known) told

  pub too_big : after ≡ before → tells (refused 84) → AnswersLine TooBig before after h h tells (turns.Ended (served.Fault 84))
  too_big same told = λ bytes line rest l e known. finished_so bytes (refused 84) rest (served.Fault 84) (λ count below. Ends.too_big line rest below l e) (same ∙ known) told

  -- ---- without a line

  -- a stream fails in a line
  pub line_stops : (bytes line : List ℕ) (n : ℕ) (b : Broken) → before ≡ Some bytes → n ≤ length line → TakesFront before after line n → tells []
      → IsFinished bytes after h h tells (ending_of b)
  line_stops bytes line n b known within t told =
      let c = consumed before after bytes (take n line) t.plain.consumed known in
      let len : length (take n line) ≡ n = length-take-le n line within in
      stopped_so bytes (take n line) c.0 (ending_of b) (is_failure b) (IsShort.line t.plain.plain (subst (λ k. k ≤ longest_line) (sym len) t.few)) c.2 c.1 told
    where
      is_failure : (b : Broken) → IsFailure (ending_of b)
      is_failure broken.Reader = tt
      is_failure broken.Writer = tt

  pub ends : (bytes : List ℕ) → before ≡ Some bytes → Consumes before after [] → IsAtEnd after → tells [] → IsFinished bytes after h h tells served.End
  ends bytes known f end told =
      let c = consumed before after bytes [] f known in
      let left = at_end after c.0 end c.1 in
      let none : bytes ≡ [] = c.2 ∙ left in
      finished_so bytes [] [] served.End (λ count below. subst (λ z. Ends count z [] served.End []) (sym none) (Ends.ended below)) (c.1 ∙ ap Some left) told

  pub line_too_long : (bytes front : List ℕ) → before ≡ Some bytes → TakesPlain before after front → length front ≡ suc longest_line → tells (refused 82)
      → IsFinished bytes after h h tells (served.Fault 82)
  line_too_long bytes front known t len told =
      let c = consumed before after bytes front t.consumed known in
      finished_so bytes (refused 82) c.0 (served.Fault 82) (λ count below. Ends.too_long front c.0 below c.2 t.plain len) c.1 told

  pub line_cut : (bytes line : List ℕ) (n : ℕ) → before ≡ Some bytes → n ≤ length line → 0 < n → TakesFront before after line n → IsAtEnd after → tells (refused 83)
      → IsFinished bytes after h h tells (served.Fault 83)
  line_cut bytes line n known within some t end told =
      let c = consumed before after bytes (take n line) t.plain.consumed known in
      let left = at_end after c.0 end c.1 in
      let all : bytes ≡ take n line = c.2 ∙ ap (λ z. take n line ++ z) left ∙ append-nil (take n line) in
      let len : length bytes ≡ n = ap length all ∙ length-take-le n line within in
      finished_so bytes (refused 83) [] (served.Fault 83)
      (λ count below. Ends.line_cut below (subst HasNoNewline (sym all) t.plain.plain) (subst (λ k. 0 < k) (sym len) some) (subst (λ k. k ≤ longest_line) (sym len) t.few))
      (c.1 ∙ ap Some left) told

-- a line was read, and answered
pub line_answered : (before mid after : Option (List ℕ)) (old new : State) (tells : List ℕ → Type 0) (turn : Turn) (bytes line : List ℕ) (said : Line) → before ≡ Some bytes
    → HasNoNewline line → length line ≤ longest_line → Consumes before mid (line ++ 10 ∷ []) → said ≡ asked line → AnswersLine said mid after old new tells turn
    → TurnOf bytes after old new tells turn
line_answered before mid after old new tells turn bytes line said known plain fits f e answer =
    let c = consumed before mid bytes (line ++ 10 ∷ []) f known in
    answer bytes line c.0 (record { whole = c.2 ∙ append_assoc line (10 ∷ []) c.0; plain = plain; fits = fits }) (sym e) c.1

-- ---- as the code names them

module _ (before after : Option (List ℕ)) (old new : State) (tells : List ℕ → Type 0) where
  pub answered_as : (said other : Line) (turn : Turn) → said ≡ other → AnswersLine other before after old new tells turn → AnswersLine said before after old new tells turn
  answered_as said other turn e f = λ bytes line rest l a known. f bytes line rest l (a ∙ e) known

  pub answered_by : (said : Line) (turn other : Turn) → turn ≡ other → AnswersLine said before after old new tells other → AnswersLine said before after old new tells turn
  answered_by said turn other e f = subst (λ z. AnswersLine said before after old new tells z) (sym e) f

  pub ended_by : (bytes : List ℕ) (turn : Turn) (ending : Served) → turn ≡ turns.Ended ending → IsFinished bytes after old new tells ending → TurnOf bytes after old new tells turn
  ended_by bytes turn ending e f = subst (λ z. TurnOf bytes after old new tells z) (sym e) f

pub answered_there : (before after there : Option (List ℕ)) (old new : State) (tells : List ℕ → Type 0) (said : Line) (turn : Turn) → there ≡ after
    → AnswersLine said before after old new tells turn → AnswersLine said before there old new tells turn
answered_there before after there old new tells said turn e f = subst (λ z. AnswersLine said before z old new tells turn) (sym e) f

pub turn_there : (after there : Option (List ℕ)) (old new : State) (tells : List ℕ → Type 0) (bytes : List ℕ) (turn : Turn) → there ≡ after
    → TurnOf bytes after old new tells turn → TurnOf bytes there old new tells turn
turn_there after there old new tells bytes turn e f = subst (λ z. TurnOf bytes z old new tells turn) (sym e) f

-- ---- what is known of all streams

module _ (i : InputState) (o : OutputState) (j : InputState) (p : OutputState) where
  -- a stream failed
  pub goes_broken : (b : Broken) → Moves i o j p (Some b) → Goes i o j p (turn_losses (turns.Ended (ending_of b)))
  goes_broken broken.Reader m = record { writes = m.told.writes; reader = m.reader; failures = m.failures }
  goes_broken broken.Writer m = record { writes = m.told.writes; reader = m.reader; failures = m.failures }

  pub at_broken : (b : Broken) → Moves i o j p (Some b) → IsTurnedAt (turns.Ended (ending_of b)) j p
  at_broken broken.Reader m = ((λ f. m.is_left.0), m.is_left)
  at_broken broken.Writer m = ((λ f. m.is_left.0), m.is_left.1)

  -- something was told behind
  pub goes_told : (q : OutputState) (xs : List ℕ) (n : ℕ) → Moves i o j p None → Tells p q xs → n ≡ 0 → Goes i o j q n
  goes_told q xs n m t none = record { writes = writes_both o p q m.told.writes t.writes; reader = m.reader; failures = m.failures ∙ ap (λ k. i.failures + k) (sym none) }

  pub goes_on : (k : InputState) (q : OutputState) (n : ℕ) → Moves i o j p None → Goes j p k q n → Goes i o k q n
  goes_on k q n m g = record { writes = writes_both o p q m.told.writes g.writes; reader = g.reader ∙ m.reader; failures = all _ _ _ _ m.failures g.failures }
    where
      all : (a b c n : ℕ) → b ≡ a + 0 → c ≡ b + n → c ≡ a + n
      all a b c n e h = omega (arith, e, h)

-- ---- all turns

-- this many requests were run, and the session may go on
pub record IsUpTo (bytes : List ℕ) (count : ℕ) (after : Option (List ℕ)) (old h : State) (o p : OutputState) : Type 0 where
  pub replies : List ℕ
  pub rest : List ℕ
  pub is_rest : after ≡ Some rest
  pub runs : Runs bytes old count replies rest h
  pub told : Tells o p replies
  pub few : length p.waiting ≤ buffer_size

pub up_to_none : (bytes : List ℕ) (after : Option (List ℕ)) (h : State) (o : OutputState) → after ≡ Some bytes → length o.waiting ≤ buffer_size → IsUpTo bytes 0 after h h o o
up_to_none bytes after h o known few = record { replies = []; rest = bytes; is_rest = known; runs = Runs.none; told = tells_none o; few = few }

-- another turn
pub up_to_more : (bytes : List ℕ) (i : ℕ) (between after : Option (List ℕ)) (old mid new : State) (o p q : OutputState) → IsUpTo bytes i between old mid o p
    → ((rest : List ℕ) → between ≡ Some rest → IsServed rest after mid new (Tells p q)) → length q.waiting ≤ buffer_size → IsUpTo bytes (i + 1) after old new o q
up_to_more bytes i between after old mid new o p q up turn few =
    let t = turn up.rest up.is_rest in
    let next : suc i ≡ i + 1 = omega arith in
    record {
      replies = up.replies ++ t.answered.reply;
      rest = t.rest;
      is_rest = t.is_rest;
      runs = subst (λ n. Runs bytes old n (up.replies ++ t.answered.reply) t.rest new) next (Runs.next t.request up.runs t.next t.answered.step);
      told = tells_both o p q up.replies t.answered.reply up.told t.answered.told;
      few = few;
    }

module _ (bytes : List ℕ) (i : ℕ) (between : Option (List ℕ)) (j : InputState) (old mid new : State) (o p q : OutputState) where
  -- what is told last
  last_told : (up : IsUpTo bytes i between old mid o p) → p.has_failed ≡ false → (last : List ℕ) → Tells p q last → TellsLast o q up.replies last
  last_told up sound last told = record { between = p; replied = up.told; sound = sound; few = up.few; ended = told }

  -- the writer failed in the reply of the last turn
  pub run_lost : i < most_requests → IsUpTo bytes i between old mid o p → p.has_failed ≡ false → ((rest : List ℕ) → between ≡ Some rest → IsServed rest (unread j) mid new (Tells p q))
      → IsRun bytes j old new o q served.WriteFailed
  run_lost less up sound turn = record {
    count = i;
    replies = up.replies;
    rest = up.rest;
    mid = mid;
    runs = up.runs;
    last = IsLastTurn.lost less (served_after (Tells p q) (TellsLast o q up.replies) (last_told up sound) up.rest (unread j) mid new (turn up.rest up.is_rest));
  }

  -- the last turn
  pub run_ends : (ending : Served) → i < most_requests → IsUpTo bytes i between old mid o p → p.has_failed ≡ false
      → ((rest : List ℕ) → between ≡ Some rest → IsFinished rest (unread j) mid new (Tells p q) ending) → (IsFailure ending → j.buffered ≡ []) → IsRun bytes j old new o q ending
  run_ends ending less up sound turn none = record {
    count = i;
    replies = up.replies;
    rest = up.rest;
    mid = mid;
    runs = up.runs;
    last = IsLastTurn.turned ending less
        (finished_after (Tells p q) (TellsLast o q up.replies) (last_told up sound) up.rest (unread j) mid new ending (turn up.rest up.is_rest)) none;
  }

  -- no turn is left
  pub run_full : most_requests ≤ i → i ≤ most_requests → IsUpTo bytes i between old mid o p → p.has_failed ≡ false → unread j ≡ between → new ≡ mid → Tells p q (refused 85)
      → IsRun bytes j old new o q (served.Fault 85)
  run_full low high up sound same stays told = record {
    count = i;
    replies = up.replies;
    rest = up.rest;
    mid = mid;
    runs = up.runs;
    last = IsLastTurn.full (refused 85) up.rest (Ends.too_many (omega (arith, low, high))) (same ∙ up.is_rest) stays (last_told up sound (refused 85) told);
  }

pub goes_none : (i : InputState) (o : OutputState) → Goes i o i o 0
goes_none i o = record { writes = writes_none o; reader = refl; failures = omega arith }

pub goes_then : (i : InputState) (o : OutputState) (j : InputState) (p : OutputState) (k : InputState) (q : OutputState) (n : ℕ) → Goes i o j p 0 → Goes j p k q n → Goes i o k q n
goes_then i o j p k q n f g = record { writes = writes_both o p q f.writes g.writes; reader = g.reader ∙ f.reader; failures = all _ _ _ _ f.failures g.failures }
  where
    all : (a b c n : ℕ) → b ≡ a + 0 → c ≡ b + n → c ≡ a + n
    all a b c n e h = omega (arith, e, h)
