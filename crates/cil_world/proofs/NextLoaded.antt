-- What a host has loaded one moment later.
use Rattle.std.specs.Prelude.{slice_get, Contains, MatchOption}
use Rattle.std.proofs.Common.{◌≡◌, ℕ, suc, Bool, true, List, Option, Some, None, sym, ap, subst, ◌∙◌, arith, inl, inr}
use Rattle.cil_base.specs.Decided.{same_list, same_number}
use Rattle.cil_base.specs.Lists.{Lists, text_cmp}
use Rattle.cil_host.specs.declared.host.Loaded.{Loaded as Told}
use Rattle.cil_host.specs.Machine.{Accepted, CanLoad}
use Rattle.cil_host.specs.Settings.{IsDefaultOn, IsSetTo}
use Rattle.cil_world.specs.declared.event.Event.{Event}
use Rattle.cil_world.specs.declared.event.Event.TheVariants.{Load, Restart, Set}
use Rattle.cil_world.specs.declared.reply.Reply.{Reply}
use Rattle.cil_world.specs.declared.reply.Reply.TheVariants.{Done, Loaded}
use Rattle.cil_world.specs.Hosts.{IsLastLoad, IsLoad, IsLoadedAt, IsOn, IsSet, NoSet, by_default, by_setting}
use Rattle.cil_world.specs.Reached.{HasReached}
use Rattle.cil_world.proofs.NextMoment.{earlier, one_of, unrestarted_on}

module _ (events : List Event) (replies : List Reply) (i : ℕ) (event : Event) (reply : Reply) (is_event : slice_get events i ≡ Some event)
    (is_reply : slice_get replies i ≡ Some reply) where
  -- the host that a moment has for a host of the number
  abbrev pub HasLoaded : ℕ → ℕ → Option Accepted → Type 0
  HasLoaded j h loaded = MatchOption loaded ((l : ℕ) → IsLastLoad events replies j h l → ⊥) (IsLoadedAt events replies j h)

  -- the event is no accepted load of a host
  abbrev pub NoLoadNow : ℕ → Type 0
  NoLoadNow h = (told : Told) → event ≡ Load h → reply ≡ Loaded told → ⊥

  -- nor does it set a boolean of it
  abbrev pub NoSetNow : ℕ → List ℕ → Type 0
  NoSetNow h name = (value : Bool) → event ≡ Set h name value → reply ≡ Done → ⊥

  load_now : (h m : ℕ) → m ≡ i → IsLoad events replies m h → (event ≡ Load h) × ((told : Told) × (reply ≡ Loaded told))
  load_now h m now l = (
    one_of _ event (Load h) is_event (subst (λ (n : ℕ). slice_get events n ≡ Some (Load h)) now l.event),
    (l.told, one_of _ reply (Loaded l.told) is_reply (subst (λ (n : ℕ). slice_get replies n ≡ Some (Loaded l.told)) now l.answered)),
  )

  set_now : (h m : ℕ) (name : List ℕ) (value : Bool) → m ≡ i → IsSet events replies m h name value → (event ≡ Set h name value) × (reply ≡ Done)
  set_now h m name value now s = (
    one_of _ event (Set h name value) is_event (subst (λ (n : ℕ). slice_get events n ≡ Some (Set h name value)) now s.event),
    one_of _ reply Done is_reply (subst (λ (n : ℕ). slice_get replies n ≡ Some Done) now s.answered),
  )

  -- ---- the last load

  last_on : (h l : ℕ) → NoLoadNow h → (event ≡ Restart h → ⊥) → IsLastLoad events replies i h l → IsLastLoad events replies (suc i) h l
  last_on h l never not last =
      let lt = last.before in
      record {
        before = omega (arith, lt);
        load = last.load;
        last = λ m more less is. elim (earlier m i less) [
          | inl before ↦ last.last m more before is
          | inr now ↦ let here = load_now h m now is in never here.1.0 here.0 here.1.1
        ];
        kept = unrestarted_on events replies i event reply is_event is_reply l h last.kept not;
      }

  last_back : (h l : ℕ) → NoLoadNow h → IsLastLoad events replies (suc i) h l → IsLastLoad events replies i h l
  last_back h l never last = record {
    before = elim (earlier l i last.before) [
      | inl before ↦ before
      | inr now ↦ let here = load_now h l now last.load in absurd (never here.1.0 here.0 here.1.1)
    ];
    load = last.load;
    last = λ m more less is. last.last m more (omega (arith, less)) is;
    kept = λ m more less restart. last.kept m more (omega (arith, less)) restart;
  }

  -- ---- booleans

  unset_on : (l h : ℕ) (name : List ℕ) → NoSetNow h name → NoSet events replies l i h name → NoSet events replies l (suc i) h name
  unset_on l h name never none m value more less is = elim (earlier m i less) [
    | inl before ↦ none m value more before is
    | inr now ↦ let here = set_now h m name value now is in never value here.0 here.1
  ]

  unset_back : (l h : ℕ) (name : List ℕ) → NoSet events replies l (suc i) h name → NoSet events replies l i h name
  unset_back l h name none m value more less is = none m value more (omega (arith, less)) is

  on_on : (modules : List (List ℕ)) (l h : ℕ) (name : List ℕ) → NoSetNow h name → IsOn events replies modules l i h name → IsOn events replies modules l (suc i) h name
  on_on modules l h name never (by_default is none) = by_default is (unset_on l h name never none)
  on_on modules l h name never (by_setting m more less is none) = by_setting m more (omega (arith, less)) is (unset_on m h name never none)

  on_back : (modules : List (List ℕ)) (l h : ℕ) (name : List ℕ) → NoSetNow h name → IsOn events replies modules l (suc i) h name → IsOn events replies modules l i h name
  on_back modules l h name never (by_default is none) = by_default is (unset_back l h name none)
  on_back modules l h name never (by_setting m more less is none) = elim (earlier m i less) [
    | inl before ↦ by_setting m more before is (unset_back m h name none)
    | inr now ↦ let here = set_now h m name true now is in absurd (never true here.0 here.1)
  ]

  -- ---- what is loaded

  pub loaded_stays : (h : ℕ) (loaded : Option Accepted) → NoLoadNow h → ((name : List ℕ) → NoSetNow h name) → (event ≡ Restart h → ⊥) → HasLoaded i h loaded
      → HasLoaded (suc i) h loaded
  loaded_stays h None never unset not none = λ l last. none l (last_back h l never last)
  loaded_stays h (Some accepted) never unset not is = record {
    load = is.load;
    is_last = last_on h is.load never not is.is_last;
    reached = is.reached;
    can_load = is.can_load;
    on = record {
      rising = is.on.rising;
      members = λ name. (
        λ c. on_on accepted.modules is.load h name (unset name) ((is.on.members name).0 c),
        λ o. (is.on.members name).1 (on_back accepted.modules is.load h name (unset name) o),
      );
    };
  }

  -- the host loads its modules
  pub loads_now : (h : ℕ) (told : Told) (accepted : Accepted) → event ≡ Load h → reply ≡ Loaded told → HasReached events replies i h accepted.modules
      → CanLoad accepted.modules accepted.reasons → Lists text_cmp (IsDefaultOn accepted.modules) accepted.on → HasLoaded (suc i) h (Some accepted)
  loads_now h told accepted is answered has can on = record {
    load = i;
    is_last = record {
      before = omega arith;
      load = record { event = is_event ∙ ap Some is; told = told; answered = is_reply ∙ ap Some answered };
      last = λ m more less l. absurd (omega (arith, more, less));
      kept = λ m more less restart. absurd (omega (arith, more, less));
    };
    reached = has;
    can_load = can;
    on = record {
      rising = on.rising;
      members = λ name. (λ c. by_default ((on.members name).0 c) (none_yet name), λ o. (on.members name).1 (default_of name o));
    };
  }
    where
      none_yet : (name : List ℕ) → NoSet events replies i (suc i) h name
      none_yet name m value more less s = absurd (omega (arith, more, less))

      default_of : (name : List ℕ) → IsOn events replies accepted.modules i (suc i) h name → IsDefaultOn accepted.modules name
      default_of name (by_default d none) = d
      default_of name (by_setting m more less s none) = absurd (omega (arith, more, less))

  -- a boolean is set
  pub sets_now : (h : ℕ) (name : List ℕ) (value : Bool) (before after : Accepted) → event ≡ Set h name value → reply ≡ Done → IsSetTo before.on name value after.on
      → after.modules ≡ before.modules → after.reasons ≡ before.reasons → HasLoaded i h (Some before) → HasLoaded (suc i) h (Some after)
  sets_now h name value before after is answered set same_modules same_reasons was = record {
    load = was.load;
    is_last = last_on h was.load (λ told e f. let g : Set h name value ≡ Load h = sym is ∙ e in cc) (λ e. let g : Set h name value ≡ Restart h = sym is ∙ e in cc) was.is_last;
    reached = subst (λ (ms : List (List ℕ)). HasReached events replies was.load h ms) (sym same_modules) was.reached;
    can_load =
        subst (λ (ms : List (List ℕ)). CanLoad ms after.reasons) (sym same_modules) (subst (λ r. CanLoad before.modules r) (sym same_reasons) was.can_load);
    on = subst (λ (ms : List (List ℕ)). Lists text_cmp (IsOn events replies ms was.load (suc i) h) after.on) (sym same_modules)
        (record { rising = set.rising; members = λ other. (λ c. there other c, λ o. back other o) });
  }
    where
      set_here : IsSet events replies i h name value
      set_here = record { event = is_event ∙ ap Some is; answered = is_reply ∙ ap Some answered }

      none_after : NoSet events replies i (suc i) h name
      none_after m other more less s = absurd (omega (arith, more, less))

      apart_now : (other : List ℕ) → (other ≡ name → ⊥) → NoSetNow h other
      apart_now other apart v e f = apart (let g : Set h other v ≡ Set h name value = sym e ∙ is in cc)

      same_value : (v : Bool) → event ≡ Set h name v → v ≡ value
      same_value v e = let g : Set h name v ≡ Set h name value = sym e ∙ is in cc

      -- it is on exactly where it was turned on
      on_here : value ≡ true → IsOn events replies before.modules was.load (suc i) h name
      on_here v = by_setting i (was.is_last.before) (omega arith) (subst (λ (b : Bool). IsSet events replies i h name b) v set_here) none_after

      here_on : IsOn events replies before.modules was.load (suc i) h name → value ≡ true
      here_on (by_default d none) = absurd (none i value was.is_last.before (omega arith) set_here)
      here_on (by_setting m more less s none) = elim (earlier m i less) [
        | inl sooner ↦ absurd (none i value sooner (omega arith) set_here)
        | inr now ↦ sym (same_value true (set_now h m name true now s).0)
      ]

      there : (other : List ℕ) → Contains after.on other → IsOn events replies before.modules was.load (suc i) h other
      there other c = elim (same_list same_number other name) [
        | inl e ↦ subst (λ (n : List ℕ). IsOn events replies before.modules was.load (suc i) h n) (sym e) (on_here (set.set.0 (subst (Contains after.on) e c)))
        | inr apart ↦ on_on before.modules was.load h other (apart_now other apart) ((was.on.members other).0 ((set.others other apart).0 c))
      ]

      back : (other : List ℕ) → IsOn events replies before.modules was.load (suc i) h other → Contains after.on other
      back other o = elim (same_list same_number other name) [
        | inl e ↦ subst (Contains after.on) (sym e) (set.set.1 (here_on (subst (λ (n : List ℕ). IsOn events replies before.modules was.load (suc i) h n) e o)))
        | inr apart ↦ (set.others other apart).1 ((was.on.members other).1 (on_back before.modules was.load h other (apart_now other apart) o))
      ]

  -- after a restart nothing is loaded
  pub nothing_loaded : (h : ℕ) → event ≡ Restart h → HasLoaded (suc i) h None
  nothing_loaded h is = λ l last. elim (earlier l i last.before) [
    | inl before ↦ last.kept i before (omega arith) (is_event ∙ ap Some is)
    | inr now ↦ let here = load_now h l now last.load in let e : Restart h ≡ Load h = sym is ∙ here.0 in cc
  ]
