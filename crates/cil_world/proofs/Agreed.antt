-- What is so at a moment depends on the replies before it alone.
use Rattle.std.specs.Prelude.{MatchOption, Option, Some, None, slice_get}
use Rattle.std.proofs.Common.{◌≡◌, ℕ, ◌<◌, ◌≤◌, inl, inr, List, ◌++◌, length, sym, ◌∙◌, arith, Bool}
use Rattle.cil_base.specs.Places.{get_in_front}
use Rattle.cil_host.specs.Machine.{Accepted, State}
use Rattle.cil_world.specs.declared.event.Event.{Event}
use Rattle.cil_world.specs.declared.event.Event.TheVariants.{Install, Export, Deliver, Load, Set, Ask, Restart}
use Rattle.cil_world.specs.declared.reply.Reply.{Reply}
use Rattle.cil_world.specs.Answers.{Answers}
use Rattle.cil_world.specs.Hosts.{IsHostAt, IsLastLoad, IsLoad, IsLoadedAt, IsOn, IsSet, NoSet, by_default, by_setting}
use Rattle.cil_world.specs.Reached.{Happens, HasReached, IsExport, Reached, delivered, installed}

-- two lists of replies have the same before a moment
abbrev pub Agree : ℕ → List Reply → List Reply → Type 0
Agree i a b = (j : ℕ) → j < i → slice_get a j ≡ slice_get b j

pub agree_turned : (i : ℕ) (a b : List Reply) → Agree i a b → Agree i b a
agree_turned i a b same j lt = sym (same j lt)

pub agree_before : (j i : ℕ) (a b : List Reply) → j ≤ i → Agree i a b → Agree j a b
agree_before j i a b le same k lt = same k (omega (arith, lt, le))

-- more replies change none before them
pub agree_more : (a more : List Reply) → Agree (length a) (a ++ more) a
agree_more a more j lt = get_in_front a more j lt

module _ (events : List Event) where
  happens_moved : (i j : ℕ) (a b : List Reply) (e : Event) → j < i → Agree i a b → Happens events a j e → Happens events b j e
  happens_moved i j a b e lt same h = record { event = h.event; reply = h.reply; answered = sym (same j lt) ∙ h.answered; counted = h.counted }

  pub export_moved : (i k e g : ℕ) (a b : List Reply) → e < i → Agree i a b → IsExport events a k e g → IsExport events b k e g
  export_moved i k e g a b lt same x = record { happens = happens_moved i e a b (Export g) lt same x.happens; numbered = x.numbered }

  pub reached_moved : (a b : List Reply) (i h : ℕ) (x : List ℕ) → Agree i a b → Reached events a i h x → Reached events b i h x
  reached_moved a b _ _ _ same (installed i h j x lt happens reads none) =
      installed i h j x lt (happens_moved i j a b (Install h x) lt same happens) reads none
  reached_moved a b _ _ _ same (delivered i h j k e g x lt happens none before export there) =
      delivered i h j k e g x lt (happens_moved i j a b (Deliver k h) lt same happens) none before
      (export_moved i k e g a b (omega (arith, before, lt)) same export)
      (reached_moved a b e g x (agree_before e i a b (omega (arith, before, lt)) same) there)

  pub has_moved : (a b : List Reply) (i h : ℕ) (modules : List (List ℕ)) → Agree i a b → HasReached events a i h modules → HasReached events b i h modules
  has_moved a b i h modules same has = record {
    are_modules = has.are_modules;
    members = λ x. (λ c. reached_moved a b i h x same ((has.members x).0 c), λ r. (has.members x).1 (reached_moved b a i h x (agree_turned i a b same) r));
  }

  load_moved : (i j h : ℕ) (a b : List Reply) → j < i → Agree i a b → IsLoad events a j h → IsLoad events b j h
  load_moved i j h a b lt same l = record { event = l.event; told = l.told; answered = sym (same j lt) ∙ l.answered }

  set_moved : (i j h : ℕ) (name : List ℕ) (value : Bool) (a b : List Reply) → j < i → Agree i a b → IsSet events a j h name value → IsSet events b j h name value
  set_moved i j h name value a b lt same s = record { event = s.event; answered = sym (same j lt) ∙ s.answered }

  last_moved : (i h j : ℕ) (a b : List Reply) → Agree i a b → IsLastLoad events a i h j → IsLastLoad events b i h j
  last_moved i h j a b same l = record {
    before = l.before;
    load = load_moved i j h a b l.before same l.load;
    last = λ m more lt is. l.last m more lt (load_moved i m h b a lt (agree_turned i a b same) is);
    kept = l.kept;
  }

  unset_moved : (i j h : ℕ) (name : List ℕ) (a b : List Reply) → Agree i a b → NoSet events a j i h name → NoSet events b j i h name
  unset_moved i j h name a b same none m value more lt is = none m value more lt (set_moved i m h name value b a lt (agree_turned i a b same) is)

  on_moved : (modules : List (List ℕ)) (j i h : ℕ) (name : List ℕ) (a b : List Reply) → Agree i a b → IsOn events a modules j i h name → IsOn events b modules j i h name
  on_moved modules j i h name a b same (by_default is none) = by_default is (unset_moved i j h name a b same none)
  on_moved modules j i h name a b same (by_setting m more lt is none) =
      by_setting m more lt (set_moved i m h name _ a b lt same is) (unset_moved i m h name a b same none)

  accepted_moved : (i h : ℕ) (accepted : Accepted) (a b : List Reply) → Agree i a b → IsLoadedAt events a i h accepted → IsLoadedAt events b i h accepted
  accepted_moved i h accepted a b same l =
      let lt = l.is_last.before in
      record {
        load = l.load;
        is_last = last_moved i h l.load a b same l.is_last;
        reached = has_moved a b l.load h accepted.modules (agree_before l.load i a b (omega (arith, lt)) same) l.reached;
        can_load = l.can_load;
        on = record {
          rising = l.on.rising;
          members = λ name. (
            λ c. on_moved accepted.modules l.load i h name a b same ((l.on.members name).0 c),
            λ is. (l.on.members name).1 (on_moved accepted.modules l.load i h name b a (agree_turned i a b same) is),
          );
        };
      }

  loaded_moved : (i h : ℕ) (loaded : Option Accepted) (a b : List Reply) → Agree i a b
      → MatchOption loaded ((j : ℕ) → IsLastLoad events a i h j → ⊥) (IsLoadedAt events a i h)
      → MatchOption loaded ((j : ℕ) → IsLastLoad events b i h j → ⊥) (IsLoadedAt events b i h)
  loaded_moved i h None a b same none = λ j is. none j (last_moved i h j b a (agree_turned i a b same) is)
  loaded_moved i h (Some accepted) a b same is = accepted_moved i h accepted a b same is

  pub host_moved : (a b : List Reply) (i h : ℕ) (host : State) → Agree i a b → IsHostAt events a i h host → IsHostAt events b i h host
  host_moved a b i h host same is =
      record { reached = has_moved a b i h host.modules same is.reached; loaded = loaded_moved i h host.loaded a b same is.loaded }

  pub answers_moved : (a b : List Reply) (i : ℕ) (event : Event) (old new : State) (reply : Reply) → Agree i a b → Answers events a i event old reply new
      → Answers events b i event old reply new
  answers_moved a b i (Deliver k h) old new reply same (inl r) =
      let lt = r.before in
      inl (record {
        event = r.event;
        host = r.host;
        modules = r.modules;
        before = r.before;
        export = export_moved i k r.event r.host a b r.before same r.export;
        reached = has_moved a b r.event r.host r.modules (agree_before r.event i a b (omega (arith, lt)) same) r.reached;
        is_bundle = r.is_bundle;
        imports = r.imports;
      })
  answers_moved a b i (Deliver k h) old new reply same (inr m) =
      inr (record { none = λ e g lt is. m.none e g lt (export_moved i k e g b a lt (agree_turned i a b same) is); told = m.told; same = m.same })
  answers_moved a b i (Install h text) old new reply same is = is
  answers_moved a b i (Export h) old new reply same is = is
  answers_moved a b i (Load h) old new reply same is = is
  answers_moved a b i (Set h name value) old new reply same is = is
  answers_moved a b i (Ask h source target class_name) old new reply same is = is
  answers_moved a b i (Restart h) old new reply same is = is
