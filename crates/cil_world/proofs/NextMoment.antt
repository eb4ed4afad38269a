-- What has reached a host one moment later.
use Rattle.std.specs.Prelude.{slice_get, Contains, ◌↔◌}
use Rattle.std.proofs.Common.{◌≡◌, ℕ, suc, ◌<◌, ◌⊎◌, true, List, [], ◌∷◌, Option, Some, refl, sym, ap, subst, ◌∙◌, arith, inl, inr}
use Rattle.std.specs.List.Sorted.{IsStrictlySortedBy}
use Rattle.cil_base.specs.Lists.{contains_cases, contains_here, contains_none}
use Rattle.cil_base.specs.Places.{some_same}
use Rattle.cil_host.specs.modset.Modules.{IsUnion}
use Rattle.cil_host.specs.sexpr.Text.{IsReadable}
use Rattle.cil_world.specs.declared.event.Event.{Event}
use Rattle.cil_world.specs.declared.event.Event.TheVariants.{Install, Deliver, Restart}
use Rattle.cil_world.specs.declared.reply.Reply.{Reply}
use Rattle.cil_world.specs.Events.{host_of}
use Rattle.cil_world.specs.Reached.{Happens, NoRestart, IsExport, HasReached, Reached, delivered, installed}
use Rattle.cil_world.specs.Replies.{counts}

pub earlier : (j i : ℕ) → j < suc i → (j < i) ⊎ (j ≡ i)
earlier j i lt = grind arith

pub one_of : {X : Type 0} (o : Option X) (x y : X) → o ≡ Some x → o ≡ Some y → x ≡ y
one_of o x y p q = some_same x y (sym p ∙ q)

module _ (events : List Event) (replies : List Reply) (i : ℕ) (event : Event) (reply : Reply) (is_event : slice_get events i ≡ Some event)
    (is_reply : slice_get replies i ≡ Some reply) where
  -- what one event brings to a host
  pub data Brings : Event → ℕ → List ℕ → Type 0 where
    by_install : (h : ℕ) (x : List ℕ) → IsReadable x → Brings (Install h x) h x
    by_delivery : (k h e g : ℕ) (x : List ℕ) → e < i → IsExport events replies k e g → Reached events replies e g x → Brings (Deliver k h) h x

  still : (j h : ℕ) → NoRestart events replies j (suc i) h → NoRestart events replies j i h
  still j h none m more lt = none m more (omega (arith, lt))

  not_restart : (j h : ℕ) → j < i → NoRestart events replies j (suc i) h → event ≡ Restart h → ⊥
  not_restart j h lt none e = none i lt (omega arith) (is_event ∙ ap Some e)

  pub counted_here : (e : Event) → Happens events replies i e → (event ≡ e) × (counts reply ≡ true)
  counted_here e h = (one_of _ event e is_event h.event, ap counts (one_of _ reply h.reply is_reply h.answered) ∙ h.counted)

  -- what has reached a host by the next moment was brought by this event, or had reached it and no restart took it away
  next_is : (h : ℕ) (x : List ℕ) → Reached events replies (suc i) h x
      → ((counts reply ≡ true) × Brings event h x) ⊎ (Reached events replies i h x × (event ≡ Restart h → ⊥))
  next_is _ _ (installed i2 h j x lt happens reads none) =
      elim (earlier j i lt) [
        | inl before ↦ inr (installed i h j x before happens reads (still j h none), not_restart j h before none)
        | inr now ↦
            let here = counted_here (Install h x) (subst (λ (m : ℕ). Happens events replies m (Install h x)) now happens) in
            inl (here.1, subst (λ (e : Event). Brings e h x) (sym here.0) (by_install h x reads))
      ]
  next_is _ _ (delivered i2 h j k e g x lt happens none before export there) =
      elim (earlier j i lt) [
        | inl sooner ↦ inr (delivered i h j k e g x sooner happens (still j h none) before export there, not_restart j h sooner none)
        | inr now ↦
            let here = counted_here (Deliver k h) (subst (λ (m : ℕ). Happens events replies m (Deliver k h)) now happens) in
            inl (here.1, subst (λ (d : Event). Brings d h x) (sym here.0) (by_delivery k h e g x (omega (arith, before, now)) export there))
      ]

  happens_now : (e : Event) → event ≡ e → counts reply ≡ true → Happens events replies i e
  happens_now e is counted = record { event = is_event ∙ ap Some is; reply = reply; answered = is_reply; counted = counted }

  none_after : (h : ℕ) → NoRestart events replies i (suc i) h
  none_after h m more lt = absurd (omega (arith, more, lt))

  brought : (e : Event) (h : ℕ) (x : List ℕ) → event ≡ e → counts reply ≡ true → Brings e h x → Reached events replies (suc i) h x
  brought e _ _ is counted (by_install h x reads) = installed (suc i) h i x (omega arith) (happens_now (Install h x) is counted) reads (none_after h)
  brought e _ _ is counted (by_delivery k h d g x before export there) =
      delivered (suc i) h i k d g x (omega arith) (happens_now (Deliver k h) is counted) (none_after h) before export there

  pub unrestarted_on : (j h : ℕ) → NoRestart events replies j i h → (event ≡ Restart h → ⊥) → NoRestart events replies j (suc i) h
  unrestarted_on j h none not m more lt restart =
      elim (earlier m i lt) [
        | inl before ↦ none m more before restart
        | inr now ↦ not (one_of _ event (Restart h) is_event (subst (λ (n : ℕ). slice_get events n ≡ Some (Restart h)) now restart))
      ]

  kept : (h : ℕ) (x : List ℕ) → Reached events replies i h x → (event ≡ Restart h → ⊥) → Reached events replies (suc i) h x
  kept _ _ (installed i2 h j x lt happens reads none) not = installed (suc i) h j x (omega (arith, lt)) happens reads (unrestarted_on j h none not)
  kept _ _ (delivered i2 h j k e g x lt happens none before export there) not =
      delivered (suc i) h j k e g x (omega (arith, lt)) happens (unrestarted_on j h none not) before export there

  -- ---- the modules of a host

  -- what was there is there, where the event neither brings something else to the host nor restarts it
  pub stays : (h : ℕ) (modules : List (List ℕ)) → ((x : List ℕ) → counts reply ≡ true → Brings event h x → Contains modules x) → (event ≡ Restart h → ⊥)
      → HasReached events replies i h modules → HasReached events replies (suc i) h modules
  stays h modules nothing not has = record {
    are_modules = has.are_modules;
    members = λ x. (
      λ c. kept h x ((has.members x).0 c) not,
      λ r. elim (next_is h x r) [ inl new ↦ nothing x new.0 new.1 | inr old ↦ (has.members x).1 old.0 ],
    );
  }

  -- what is brought is joined
  pub joins : (h : ℕ) (modules new both : List (List ℕ)) → ((x : List ℕ) → Contains new x ↔ Brings event h x) → counts reply ≡ true → (event ≡ Restart h → ⊥)
      → IsUnion modules new both → ((x : List ℕ) → Contains new x → IsReadable x) → HasReached events replies i h modules → HasReached events replies (suc i) h both
  joins h modules new both brings counted not union reads has = record {
    are_modules = record {
      rising = union.rising;
      readable = λ x c. elim ((union.members x).0 c) [ inl old ↦ has.are_modules.readable x old | inr fresh ↦ reads x fresh ];
    };
    members = λ x. (
      λ c. elim ((union.members x).0 c) [
        | inl old ↦ kept h x ((has.members x).0 old) not
        | inr fresh ↦ brought event h x refl counted ((brings x).0 fresh)
      ],
      λ r. elim (next_is h x r) [ inl new ↦ (union.members x).1 (inr ((brings x).1 new.1)) | inr old ↦ (union.members x).1 (inl ((has.members x).1 old.0)) ],
    );
  }

  -- ---- what events bring

  install_brings : (h g : ℕ) (e : Event) (text x : List ℕ) → e ≡ Install h text → Brings e g x → (text ≡ x) × (h ≡ g) × IsReadable x
  install_brings h _ _ text _ e (by_install g x reads) = (cc, cc, reads)
  install_brings h _ _ text _ e (by_delivery k g d f x before export there) = absurd cc

  -- an install brings its text
  pub installs : (h : ℕ) (text : List ℕ) → event ≡ Install h text → IsReadable text → (x : List ℕ) → Contains (text ∷ []) x ↔ Brings event h x
  installs h text is reads x = (
    λ c. elim (contains_cases x text [] c) [
      | inl e ↦ subst (λ (w : List ℕ). Brings event h w) e (subst (λ (d : Event). Brings d h text) (sym is) (by_install h text reads))
      | inr c ↦ absurd (contains_none x c)
    ],
    λ b. subst (λ (w : List ℕ). Contains (text ∷ []) w) (install_brings h h event text x is b).0 (contains_here text []),
  )

  -- it brings nothing else, and nothing where the text does not read
  pub installed_is : (h : ℕ) (text : List ℕ) → event ≡ Install h text → (g : ℕ) (x : List ℕ) → Brings event g x → (text ≡ x) × (h ≡ g) × IsReadable x
  installed_is h text is g x b = install_brings h g event text x is b

  delivery_brings : (k h g : ℕ) (c : Event) (x : List ℕ) → c ≡ Deliver k h → Brings c g x
      → (h ≡ g) × ((e f : ℕ) × (e < i) × IsExport events replies k e f × Reached events replies e f x)
  delivery_brings k h _ _ _ e (by_install g x reads) = absurd cc
  delivery_brings k h _ _ _ e (by_delivery l g d f x before export there) =
      let same : k ≡ l = cc in
      (cc, (d, f, before, subst (λ (m : ℕ). IsExport events replies m d f) (sym same) export, there))

  -- what a delivery brings had reached the host of the export
  pub delivered_is : (k h : ℕ) → event ≡ Deliver k h → (g : ℕ) (x : List ℕ) → Brings event g x
      → (h ≡ g) × ((e f : ℕ) × (e < i) × IsExport events replies k e f × Reached events replies e f x)
  delivered_is k h is g x b = delivery_brings k h g event x is b

  pub delivers : (k h e f : ℕ) (x : List ℕ) → event ≡ Deliver k h → e < i → IsExport events replies k e f → Reached events replies e f x → Brings event h x
  delivers k h e f x is lt export there = subst (λ (d : Event). Brings d h x) (sym is) (by_delivery k h e f x lt export there)

  other_brings : (g : ℕ) (c : Event) (x : List ℕ) → Brings c g x → ((h : ℕ) (text : List ℕ) → c ≡ Install h text → ⊥) → ((k h : ℕ) → c ≡ Deliver k h → ⊥) → ⊥
  other_brings _ _ _ (by_install g x reads) never none = never g x refl
  other_brings _ _ _ (by_delivery l g d f x before export there) never none = none l g refl

  -- no other event brings anything
  pub nothing_else : ((h : ℕ) (text : List ℕ) → event ≡ Install h text → ⊥) → ((k h : ℕ) → event ≡ Deliver k h → ⊥) → (g : ℕ) (x : List ℕ) → Brings event g x → ⊥
  nothing_else never none g x b = other_brings g event x b never none

  brings_host : (g : ℕ) (c : Event) (x : List ℕ) → Brings c g x → host_of c ≡ g
  brings_host _ _ _ (by_install g x reads) = refl
  brings_host _ _ _ (by_delivery k g d f x before export there) = refl

  -- an event brings something to its own host alone
  pub brings_there : (g : ℕ) (x : List ℕ) → Brings event g x → host_of event ≡ g
  brings_there g x b = brings_host g event x b

  -- after a restart a host has nothing
  pub empties : (h : ℕ) → event ≡ Restart h → HasReached events replies (suc i) h []
  unfolding IsStrictlySortedBy
  empties h is = record {
    are_modules = record { rising = tt; readable = λ x c. absurd (contains_none x c) };
    members = λ x. (
      λ c. absurd (contains_none x c),
      λ r. elim (next_is h x r) [
        | inl new ↦ absurd (nothing_else (λ g text e. let f : Restart h ≡ Install g text = sym is ∙ e in cc) (λ k g e. let f : Restart h ≡ Deliver k g = sym is ∙ e in cc) h x new.1)
        | inr old ↦ absurd (old.1 is)
      ],
    );
  }
