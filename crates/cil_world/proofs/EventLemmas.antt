-- One event: the hosts of the next moment, the bundles that are kept then, and that the event is answered as it should be.
use Rattle.std.specs.Prelude.{slice_get, Contains, ◌↔◌, Result, Ok, Err}
use Rattle.std.proofs.Common.{◌≡◌, ℕ, suc, ◌<◌, ◌≤◌, ◌⊎◌, ◌^◌, Bool, true, false, List, [], ◌∷◌, ◌++◌, length, Some, refl, sym, ap, subst, ◌∙◌, arith, inl, inr}
use Rattle.std.specs.List.{flat_map}
use Rattle.std.proofs.lemmas.List.{length-append}
use Rattle.cil_base.specs.Lists.{contains_cases, contains_none}
use Rattle.cil_host.specs.faults.Failure.{Failure}
use Rattle.cil_host.specs.faults.Failure.TheVariants as failures
use Rattle.cil_host.specs.modset.BundleError.{BundleError}
use Rattle.cil_host.specs.modset.BundleError.TheVariants as bundles
use Rattle.cil_host.specs.modset.Installed.{Installed as IsNew}
use Rattle.cil_host.specs.modset.Installed.TheVariants as installed
use Rattle.cil_host.specs.modset.Bundle.{IsBundle, bundle, entry, magic, number}
use Rattle.cil_host.specs.modset.Changes.{IsImported, IsInstalled}
use Rattle.cil_host.specs.modset.Laws.{NeverBoth as NoBadBundle}
use Rattle.cil_host.specs.sexpr.Laws.{NeverBoth as NoBadText}
use Rattle.cil_host.specs.sexpr.Text.{IsReadable}
use Rattle.cil_host.specs.sexpr.ReadError.{ReadError}
use Rattle.cil_host.specs.sexpr.ReadError.TheVariants as texts
use Rattle.cil_host.specs.declared.fault.QueryFault.{QueryFault}
use Rattle.cil_host.specs.declared.fault.QueryFault.TheVariants as query
use Rattle.cil_host.specs.declared.host.Loaded.{Loaded as Told}
use Rattle.cil_host.specs.Machine.{State}
use Rattle.cil_host.specs.Refusal.{Loads as LoadsHost}
use Rattle.cil_host.specs.Sets.{Sets as SetsHost}
use Rattle.cil_world.specs.declared.event.Event.{Event}
use Rattle.cil_world.specs.declared.event.Event.TheVariants.{Install, Export, Deliver, Load, Set, Ask, Restart}
use Rattle.cil_world.specs.declared.reply.Reply.{Reply}
use Rattle.cil_world.specs.declared.reply.Reply.TheVariants.{Done, Loaded, Query}
use Rattle.cil_world.specs.Answers.{Answers, Exports, Imports, Installs, Misses, Receives, fresh}
use Rattle.cil_world.specs.Events.{host_of, is_export}
use Rattle.cil_world.specs.Hosts.{IsHostAt}
use Rattle.cil_world.specs.Reached.{HasReached, Reached}
use Rattle.cil_world.specs.Replies.{counts, of_import, of_install, of_load, of_set}
use Rattle.cil_world.specs.Steps.{Hands, Keeps, Kept, Lacks, LeavesOut, Steps}
use Rattle.cil_world.proofs.ExportLemmas.{AreKept, IsKeptAt, export_one, kept_bundle, kept_empty, kept_none}
use Rattle.cil_world.proofs.NextLoaded.{HasLoaded, NoLoadNow, NoSetNow, loaded_stays, loads_now, nothing_loaded, sets_now}
use Rattle.cil_world.proofs.NextMoment.{Brings, brings_there, delivered_is, delivers, empties, installed_is, installs, joins, nothing_else, stays}

-- a set whose bundle is short has few modules
entries_long : (modules : List (List ℕ)) → length modules ≤ length (flat_map entry modules)
entries_long [] = omega arith
entries_long (x ∷ xs) =
    let rest = entries_long xs in
    let both = length-append (entry x) (flat_map entry xs) in
    let inner = length-append (number (length x)) x in
    let eight : length (number (length x)) ≡ 8 = refl in
    omega (arith, rest, both, inner, eight)

modules_counted : (modules : List (List ℕ)) → length (bundle modules) < 2 ^ 64 → length modules < 2 ^ 64
modules_counted modules short =
    let all = length-append magic (number (length modules) ++ flat_map entry modules) in
    let behind = length-append (number (length modules)) (flat_map entry modules) in
    let long = entries_long modules in
    omega (arith, short, all, behind, long)

pub uncounted : (r : Reply) (b : Bool) → counts r ≡ b → b ≡ false → counts r ≡ true → ⊥
uncounted r b e f t = let g : true ≡ false = sym t ∙ e ∙ f in cc

-- what an event leaves: the host of the next moment, and the answer
pub record IsStepped (events : List Event) (replies : List Reply) (i : ℕ) (event : Event) (old : State) (reply : Reply) (new : State) (kept : Kept) : Type 0 where
  pub host : IsHostAt events replies (suc i) (host_of event) new
  pub answers : Answers events replies i event old reply new
  pub kept_so : AreKept events replies (suc i) kept

module _ (events : List Event) (replies : List Reply) (i : ℕ) (event : Event) (reply : Reply) (is_event : slice_get events i ≡ Some event)
    (is_reply : slice_get replies i ≡ Some reply) where
  -- the modules are those of the next moment, and nothing happens to what is loaded
  pub kept_loaded : (h : ℕ) (old new : State) → NoLoadNow events replies i event reply is_event is_reply h
      → ((name : List ℕ) → NoSetNow events replies i event reply is_event is_reply h name) → (event ≡ Restart h → ⊥)
      → HasReached events replies (suc i) h new.modules → new.loaded ≡ old.loaded → IsHostAt events replies i h old → IsHostAt events replies (suc i) h new
  kept_loaded h old new never unset not has same was = record {
    reached = has;
    loaded = subst (HasLoaded events replies i event reply is_event is_reply (suc i) h) (sym same)
        (loaded_stays events replies i event reply is_event is_reply h old.loaded never unset not was.loaded);
  }

  -- a host to which nothing happens is as it was
  pub other_stays : (g : ℕ) (host : State) → (host_of event ≡ g → ⊥) → IsHostAt events replies i g host → IsHostAt events replies (suc i) g host
  other_stays g host apart was =
      kept_loaded g host host (λ told e f. apart (ap host_of e)) (λ name value e f. apart (ap host_of e)) (λ e. apart (ap host_of e))
      (stays events replies i event reply is_event is_reply g host.modules (λ x counted b. absurd (apart (brings_there events replies i event reply is_event is_reply g x b)))
      (λ e. apart (ap host_of e)) was.reached) refl was

  -- ---- a text is installed

  install_reached : (h : ℕ) (text : List ℕ) (old new : List (List ℕ)) → NoBadText → event ≡ Install h text → (r : Result IsNew ReadError) → IsInstalled old text r new
      → reply ≡ of_install r → HasReached events replies i h old → HasReached events replies (suc i) h new
  install_reached h text old new law is (Ok installed.New) m told has =
      joins events replies i event reply is_event is_reply h old (text ∷ []) new
      (installs events replies i event reply is_event is_reply h text is (m.readable refl)) (ap counts told) (λ e. let f : Install h text ≡ Restart h = sym is ∙ e in cc)
      (m.joined refl)
      (λ x c. elim (contains_cases x text [] c) [ inl e ↦ subst IsReadable e (m.readable refl) | inr d ↦ absurd (contains_none x d) ]) has
  install_reached h text old new law is (Ok installed.Known) m told has =
      subst (HasReached events replies (suc i) h) (sym (m.stays refl))
      (stays events replies i event reply is_event is_reply h old
      (λ x counted b. let brought = installed_is events replies i event reply is_event is_reply h text is h x b in subst (Contains old) brought.0 (m.known.0 refl))
      (λ e. let f : Install h text ≡ Restart h = sym is ∙ e in cc) has)
  install_reached h text old new law is (Err (texts.Fault fault)) m told has =
      subst (HasReached events replies (suc i) h) (sym m.err)
      (stays events replies i event reply is_event is_reply h old
      (λ x counted b. let brought = installed_is events replies i event reply is_event is_reply h text is h x b in
      absurd (law text fault.code fault.at (subst IsReadable (sym brought.0) brought.2) m.refusal))
      (λ e. let f : Install h text ≡ Restart h = sym is ∙ e in cc) has)
  install_reached h text old new law is (Err texts.NoMemory) m told has =
      subst (HasReached events replies (suc i) h) (sym m.err)
      (stays events replies i event reply is_event is_reply h old (λ x counted b. absurd (uncounted reply false (ap counts told) refl counted))
      (λ e. let f : Install h text ≡ Restart h = sym is ∙ e in cc) has)

  install_step : (h : ℕ) (text : List ℕ) (old new : State) → NoBadText → event ≡ Install h text → Installs old text reply new → IsHostAt events replies i h old
      → IsHostAt events replies (suc i) h new
  install_step h text old new law is s was =
      kept_loaded h old new (λ told e f. let g : Install h text ≡ Load h = sym is ∙ e in cc) (λ name value e f. let g : Install h text ≡ Set h name value = sym is ∙ e in cc)
      (λ e. let g : Install h text ≡ Restart h = sym is ∙ e in cc) (install_reached h text old.modules new.modules law is s.result s.modules s.told was.reached) s.loaded was

  -- ---- an event that brings nothing

  abbrev quiet : Event → Bool
  quiet (Install h text) = false
  quiet (Deliver k h) = false
  quiet (Restart h) = false
  quiet (Export h) = true
  quiet (Load h) = true
  quiet (Set h name value) = true
  quiet (Ask h source target class_name) = true

  quiet_reached : (h : ℕ) (modules : List (List ℕ)) → quiet event ≡ true → HasReached events replies i h modules → HasReached events replies (suc i) h modules
  quiet_reached h modules is has =
      stays events replies i event reply is_event is_reply h modules
      (λ x counted b. absurd (nothing_else events replies i event reply is_event is_reply (λ g text e. loud (Install g text) e refl) (λ k g e. loud (Deliver k g) e refl) h x b))
      (λ e. loud (Restart h) e refl) has
    where
      loud : (e : Event) → event ≡ e → quiet e ≡ false → ⊥
      loud e same not = let f : true ≡ false = sym is ∙ ap quiet same ∙ not in cc

  -- it neither loads nor sets anything
  quiet_step : (h : ℕ) (old new : State) → quiet event ≡ true → NoLoadNow events replies i event reply is_event is_reply h
      → ((name : List ℕ) → NoSetNow events replies i event reply is_event is_reply h name) → new ≡ old → IsHostAt events replies i h old → IsHostAt events replies (suc i) h new
  quiet_step h old new is never unset same was =
      subst (IsHostAt events replies (suc i) h) (sym same)
      (kept_loaded h old old never unset (λ e. let f : true ≡ false = sym is ∙ ap quiet e in cc) (quiet_reached h old.modules is was.reached) refl was)

  -- ---- a bundle is delivered

  -- an event that does not count changes no modules
  pub lost_reached : (h : ℕ) (modules : List (List ℕ)) → counts reply ≡ false → (event ≡ Restart h → ⊥) → HasReached events replies i h modules
      → HasReached events replies (suc i) h modules
  lost_reached h modules fails not has =
      stays events replies i event reply is_event is_reply h modules (λ x counted b. absurd (uncounted reply false fails refl counted)) not has

  module _ (k h : ℕ) (bytes : List ℕ) (is : event ≡ Deliver k h) (at : IsKeptAt events replies i k bytes) where
    is_bundle : IsBundle bytes at.modules
    is_bundle = record { readable = at.reached.are_modules; counted = modules_counted at.modules (subst (λ (b : List ℕ). length b < 2 ^ 64) at.spelled at.counted); spelled = at.spelled }

    brings_modules : (x : List ℕ) → Contains at.modules x ↔ Brings events replies i event reply is_event is_reply event h x
    brings_modules x = (
      λ c. delivers events replies i event reply is_event is_reply k h at.event at.host x is at.before at.export ((at.reached.members x).0 c),
      λ b.
          let d = (delivered_is events replies i event reply is_event is_reply k h is h x b).1 in
          let one = export_one events replies k d.0 d.1 at.event at.host d.3 at.export in
          (at.reached.members x).1 (subst (λ (m : ℕ). Reached events replies m at.host x) one.0 (subst (λ (n : ℕ). Reached events replies d.0 n x) one.1 d.4)),
    )

    no_restart : (g : ℕ) → event ≡ Restart g → ⊥
    no_restart g e = let f : Deliver k h ≡ Restart g = sym is ∙ e in cc

    import_reached : (old new : List (List ℕ)) → NoBadBundle → (r : Result ℕ BundleError) → IsImported old bytes r new → reply ≡ of_import r
        → HasReached events replies i h old → HasReached events replies (suc i) h new
    import_reached old new law (Ok added) m told has =
        joins events replies i event reply is_event is_reply h old at.modules new brings_modules (ap counts told) (no_restart h) (m.union at.modules is_bundle)
        (λ x c. at.reached.are_modules.readable x c) has
    import_reached old new law (Err (bundles.Fault fault)) m told has = absurd (law bytes at.modules fault is_bundle m.refusal)
    import_reached old new law (Err bundles.NoMemory) m told has =
        subst (HasReached events replies (suc i) h) (sym m.err) (lost_reached h old (ap counts told) (no_restart h) has)

  deliver_step : (k h : ℕ) (exports : Kept) (old new : State) → NoBadBundle → event ≡ Deliver k h → AreKept events replies i exports
      → Hands exports k old reply new ⊎ Lacks exports k old reply new → IsHostAt events replies i h old
      → IsHostAt events replies (suc i) h new × (Receives events replies i k old reply new ⊎ Misses events replies i k old reply new)
  deliver_step k h exports old new law is are (inl s) was =
      let at = are.each k s.bytes s.is_kept in (
        kept_loaded h old new (λ told e f. let g : Deliver k h ≡ Load h = sym is ∙ e in cc) (λ name value e f. let g : Deliver k h ≡ Set h name value = sym is ∙ e in cc)
            (λ e. let g : Deliver k h ≡ Restart h = sym is ∙ e in cc)
            (import_reached k h s.bytes is at old.modules new.modules law s.imports.result s.imports.modules s.imports.told was.reached) s.imports.loaded was,
        inl (record {
          event = at.event;
          host = at.host;
          modules = at.modules;
          before = at.before;
          export = at.export;
          reached = at.reached;
          is_bundle = subst (λ (b : List ℕ). IsBundle b at.modules) at.spelled (is_bundle k h s.bytes is at);
          imports = subst (λ (b : List ℕ). Imports old b reply new) at.spelled s.imports;
        }),
      )
  deliver_step k h exports old new law is are (inr s) was = (
    subst (IsHostAt events replies (suc i) h) (sym s.same)
        (kept_loaded h old old (λ told e f. let g : Deliver k h ≡ Load h = sym is ∙ e in cc) (λ name value e f. let g : Deliver k h ≡ Set h name value = sym is ∙ e in cc)
        (λ e. let g : Deliver k h ≡ Restart h = sym is ∙ e in cc)
        (lost_reached h old.modules (ap counts s.told) (λ e. let g : Deliver k h ≡ Restart h = sym is ∙ e in cc) was.reached) refl was),
    inr (record { none = λ e g lt x. let found = are.all k e g lt x in s.none found.0 found.1; told = s.told; same = s.same }),
  )

  -- ---- a load

  load_step : (h : ℕ) (old new : State) → event ≡ Load h → (r : Result Told Failure) → LoadsHost old new r → reply ≡ of_load r → IsHostAt events replies i h old
      → IsHostAt events replies (suc i) h new
  load_step h old new is (Ok loaded) l told was =
      subst (IsHostAt events replies (suc i) h) (sym l.5)
      (record {
        reached = quiet_reached h old.modules (ap quiet is) was.reached;
        loaded = loads_now events replies i event reply is_event is_reply h loaded (record { modules = old.modules; reasons = l.0; on = l.1 }) is told was.reached l.2 l.3;
      })
  load_step h old new is (Err (failures.Faults faults)) l told was =
      quiet_step h old new (ap quiet is) (λ answered e f. let g : of_load (Err (failures.Faults faults)) ≡ Loaded answered = sym told ∙ f in cc)
      (λ name value e f. let g : Load h ≡ Set h name value = sym is ∙ e in cc) l.1 was
  load_step h old new is (Err failures.NoMemory) l told was =
      quiet_step h old new (ap quiet is) (λ answered e f. let g : of_load (Err failures.NoMemory) ≡ Loaded answered = sym told ∙ f in cc)
      (λ name value e f. let g : Load h ≡ Set h name value = sym is ∙ e in cc) l.1 was

  -- ---- a boolean is set

  -- it is not set
  unset_step : (h : ℕ) (name : List ℕ) (value : Bool) (fault : QueryFault) (old new : State) → event ≡ Set h name value → reply ≡ Query fault → new ≡ old
      → IsHostAt events replies i h old → IsHostAt events replies (suc i) h new
  unset_step h name value fault old new is told same was =
      quiet_step h old new (ap quiet is) (λ answered e f. let g : Set h name value ≡ Load h = sym is ∙ e in cc)
      (λ other b e f. let g : Query fault ≡ Done = sym told ∙ f in cc) same was

  set_step : (h : ℕ) (name : List ℕ) (value : Bool) (old new : State) → event ≡ Set h name value → (r : Result (Unit {0}) QueryFault) → SetsHost old new name value r
      → reply ≡ of_set r → IsHostAt events replies i h old → IsHostAt events replies (suc i) h new
  set_step h name value old new is (Ok u) s told was =
      subst (IsHostAt events replies (suc i) h) (sym s.is)
      (record {
        reached = quiet_reached h old.modules (ap quiet is) was.reached;
        loaded = sets_now events replies i event reply is_event is_reply h name value s.before
            (record { modules = s.before.modules; reasons = s.before.reasons; on = s.on }) is told s.set refl refl
            (subst (HasLoaded events replies i event reply is_event is_reply i h) s.was_loaded was.loaded);
      })
  set_step h name value old new is (Err query.NoPolicy) s told was = unset_step h name value query.NoPolicy old new is told s.1 was
  set_step h name value old new is (Err query.NoBoolean) s told was = unset_step h name value query.NoBoolean old new is told s.1 was
  set_step h name value old new is (Err query.BadSource) s told was = absurd s
  set_step h name value old new is (Err query.BadTarget) s told was = absurd s
  set_step h name value old new is (Err query.NoClass) s told was = absurd s
  set_step h name value old new is (Err query.NoPermission) s told was = absurd s

  -- ---- a restart

  restart_step : (h : ℕ) (new : State) → event ≡ Restart h → new ≡ fresh → IsHostAt events replies (suc i) h new
  restart_step h new is same = subst (IsHostAt events replies (suc i) h) (sym same) (record {
    reached = empties events replies i event reply is_event is_reply h is;
    loaded = nothing_loaded events replies i event reply is_event is_reply h is;
  })

  -- ---- an export

  export_kept : (h : ℕ) (exports kept : Kept) (old : State) → event ≡ Export h → AreKept events replies i exports → IsHostAt events replies i h old
      → Keeps old exports reply kept ⊎ LeavesOut exports reply kept → AreKept events replies (suc i) kept × Exports old reply
  export_kept h exports kept old is are was (inl k) = (
    subst (AreKept events replies (suc i)) (sym k.kept_is)
        (kept_bundle events replies i event reply is_event is_reply exports h (length (bundle old.modules)) old.modules is k.told k.counted was.reached are),
    inl k.told,
  )
  export_kept h exports kept old is are was (inr k) = (
    subst (AreKept events replies (suc i)) (sym k.kept_is) (kept_empty events replies i event reply is_event is_reply exports (ap is_export is) (ap counts k.told) are),
    inr k.told,
  )

  -- any other event keeps no bundle
  none_kept : (exports kept : Kept) → is_export event ≡ false → kept ≡ exports → AreKept events replies i exports → AreKept events replies (suc i) kept
  none_kept exports kept not same are =
      subst (AreKept events replies (suc i)) (sym same) (kept_none events replies i event reply is_event is_reply exports not are)

-- ---- an event at a host that is there

pub one_step : (events : List Event) (replies : List Reply) (i : ℕ) (event : Event) (reply : Reply) (old new : State) (exports kept : Kept) → NoBadText → NoBadBundle
    → slice_get events i ≡ Some event → slice_get replies i ≡ Some reply → AreKept events replies i exports → IsHostAt events replies i (host_of event) old
    → Steps event old exports reply new kept → IsStepped events replies i event old reply new kept
one_step events replies i (Install h text) reply old new exports kept texts_law bundles_law at told are was s = record {
  host = install_step events replies i (Install h text) reply at told h text old new texts_law refl s.0 was;
  answers = s.0;
  kept_so = none_kept events replies i (Install h text) reply at told exports kept refl s.1 are;
}
one_step events replies i (Export h) reply old new exports kept texts_law bundles_law at told are was s =
    let made = export_kept events replies i (Export h) reply at told h exports kept old refl are was s.0 in
    record {
      host = quiet_step events replies i (Export h) reply at told h old new refl (λ answered e f. absurd cc) (λ name value e f. absurd cc) s.1 was;
      answers = (made.1, s.1);
      kept_so = made.0;
    }
one_step events replies i (Deliver k h) reply old new exports kept texts_law bundles_law at told are was s =
    let done = deliver_step events replies i (Deliver k h) reply at told k h exports old new bundles_law refl are s.0 was in
    record { host = done.0; answers = done.1; kept_so = none_kept events replies i (Deliver k h) reply at told exports kept refl s.1 are }
one_step events replies i (Load h) reply old new exports kept texts_law bundles_law at told are was s = record {
  host = load_step events replies i (Load h) reply at told h old new refl s.0.result s.0.loads s.0.told was;
  answers = s.0;
  kept_so = none_kept events replies i (Load h) reply at told exports kept refl s.1 are;
}
one_step events replies i (Set h name value) reply old new exports kept texts_law bundles_law at told are was s = record {
  host = set_step events replies i (Set h name value) reply at told h name value old new refl s.0.result s.0.sets s.0.told was;
  answers = s.0;
  kept_so = none_kept events replies i (Set h name value) reply at told exports kept refl s.1 are;
}
one_step events replies i (Ask h source target class_name) reply old new exports kept texts_law bundles_law at told are was s = record {
  host = quiet_step events replies i (Ask h source target class_name) reply at told h old new refl (λ answered e f. absurd cc) (λ name value e f. absurd cc) s.1 was;
  answers = (s.0, s.1);
  kept_so = none_kept events replies i (Ask h source target class_name) reply at told exports kept refl s.2 are;
}
one_step events replies i (Restart h) reply old new exports kept texts_law bundles_law at told are was s = record {
  host = restart_step events replies i (Restart h) reply at told h new refl s.1;
  answers = (s.0, s.1);
  kept_so = none_kept events replies i (Restart h) reply at told exports kept refl s.2 are;
}
