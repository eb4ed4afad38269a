-- The bundles that are kept, and the numbers of exports.
use Rattle.std.specs.Prelude.{slice_get}
use Rattle.std.specs.List.{count_by}
use Rattle.std.proofs.Common.{◌≡◌, ℕ, zero, suc, ◌+◌, ◌<◌, ◌≤◌, ◌^◌, Bool, true, false, List, [], ◌∷◌, ◌++◌, length, take, Option, Some, None, sym, ap, subst, ◌∙◌, arith, inl, inr}
use Rattle.std.proofs.lemmas.Bool.{cases_order}
use Rattle.std.proofs.lemmas.List.Sums.{count_by_more_no, count_by_more_yes}
use Rattle.cil_base.specs.Counts.{count_cons}
use Rattle.cil_base.specs.Places.{at_or_last, get_in_front, get_last, get_so, in_range, longer, some_same}
use Rattle.cil_host.specs.modset.Bundle.{bundle}
use Rattle.cil_world.specs.declared.event.Event.{Event}
use Rattle.cil_world.specs.declared.event.Event.TheVariants.{Export}
use Rattle.cil_world.specs.declared.reply.Reply.{Reply}
use Rattle.cil_world.specs.declared.reply.Reply.TheVariants.{Exported}
use Rattle.cil_world.specs.Events.{is_export}
use Rattle.cil_world.specs.Reached.{Happens, HasReached, IsExport}
use Rattle.cil_world.specs.Replies.{counts}
use Rattle.cil_world.specs.Steps.{Kept}
use Rattle.cil_world.proofs.Agreed.{Agree, agree_before, agree_turned, export_moved, has_moved}
use Rattle.cil_world.proofs.NextMoment.{counted_here, earlier, one_of}

-- ---- numbers

count_rises : {X : Type 0} (p : X → Bool) (xs : List X) (a b : ℕ) → a ≤ b → count_by p (take a xs) ≤ count_by p (take b xs)
count_rises p [] zero b le = omega arith
count_rises p [] (suc a) zero le = absurd (omega (arith, le))
count_rises p [] (suc a) (suc b) le = omega arith
count_rises p (x ∷ xs) zero b le = omega arith
count_rises p (x ∷ xs) (suc a) zero le = absurd (omega (arith, le))
count_rises p (x ∷ xs) (suc a) (suc b) le =
    let rest = count_rises p xs a b (omega (arith, le)) in
    let one = count_cons p x (take a xs) in
    let other = count_cons p x (take b xs) in
    omega (arith, rest, one, other)

module _ (events : List Event) (replies : List Reply) where
  -- an export behind another one has a greater number
  passed : (k e g d : ℕ) → e < d → IsExport events replies k e g → k < count_by is_export (take d events)
  passed k e g d less x =
      let at = get_so events e (Export g) (Export g) x.happens.event in
      let within = in_range events e (Export g) x.happens.event in
      let more = count_by_more_yes is_export events e (Export g) within (ap is_export at) in
      let numbered = x.numbered in
      let rises = count_rises is_export events (e + 1) d (omega (arith, less)) in
      omega (arith, more, numbered, rises)

  pub export_one : (k e g d f : ℕ) → IsExport events replies k e g → IsExport events replies k d f → (e ≡ d) × (g ≡ f)
  export_one k e g d f x y = elim (cases_order e d) [
    | inl same ↦
        let one = one_of _ (Export g) (Export f) x.happens.event (subst (λ (n : ℕ). slice_get events n ≡ Some (Export f)) (sym same) y.happens.event) in
        (same, cc)
    | inr apart ↦ elim apart [
      | inl less ↦ let more = passed k e g d less x in let numbered = y.numbered in absurd (omega (arith, more, numbered))
      | inr less ↦ let more = passed k d f e less y in let numbered = x.numbered in absurd (omega (arith, more, numbered))
    ]
  ]

  -- ---- what is kept

  -- the bytes are the bundle of what had reached the host of export k
  pub record IsKeptAt (i k : ℕ) (bytes : List ℕ) : Type 0 where
    pub event : ℕ
    pub host : ℕ
    pub modules : List (List ℕ)
    pub before : event < i
    pub export : IsExport events replies k event host
    pub reached : HasReached events replies event host modules
    pub spelled : bytes ≡ bundle modules
    pub counted : length bytes < 2 ^ 64

  -- under the number of each export before a moment is its bundle, and else nothing
  pub record AreKept (i : ℕ) (exports : Kept) : Type 0 where
    pub numbers : length exports ≡ count_by is_export (take i events)
    pub each : (k : ℕ) (bytes : List ℕ) → slice_get exports k ≡ Some (Some bytes) → IsKeptAt i k bytes
    pub all : (k e g : ℕ) → e < i → IsExport events replies k e g → (bytes : List ℕ) × (slice_get exports k ≡ Some (Some bytes))

pub kept_moved : (events : List Event) (a b : List Reply) (i : ℕ) (exports : Kept) → Agree i a b → AreKept events a i exports → AreKept events b i exports
kept_moved events a b i exports same are = record {
  numbers = are.numbers;
  each = λ k bytes at. let is = are.each k bytes at in let lt = is.before in record {
    event = is.event;
    host = is.host;
    modules = is.modules;
    before = is.before;
    export = export_moved events i k is.event is.host a b is.before same is.export;
    reached = has_moved events a b is.event is.host is.modules (agree_before is.event i a b (omega (arith, lt)) same) is.reached;
    spelled = is.spelled;
    counted = is.counted;
  };
  all = λ k e g lt x. are.all k e g lt (export_moved events i k e g b a lt (agree_turned i a b same) x);
}

module _ (events : List Event) (replies : List Reply) (i : ℕ) (event : Event) (reply : Reply) (is_event : slice_get events i ≡ Some event)
    (is_reply : slice_get replies i ≡ Some reply) where
  plus : (n : ℕ) → n + 1 ≡ suc n
  plus n = omega arith

  count_no : is_export event ≡ false → count_by is_export (take (suc i) events) ≡ count_by is_export (take i events)
  count_no not = subst (λ (n : ℕ). count_by is_export (take n events) ≡ count_by is_export (take i events)) (plus i)
      (count_by_more_no is_export events i event (in_range events i event is_event) (ap is_export (get_so events i event event is_event) ∙ not))

  count_yes : is_export event ≡ true → count_by is_export (take (suc i) events) ≡ count_by is_export (take i events) + 1
  count_yes is = subst (λ (n : ℕ). count_by is_export (take n events) ≡ count_by is_export (take i events) + 1) (plus i)
      (count_by_more_yes is_export events i event (in_range events i event is_event) (ap is_export (get_so events i event event is_event) ∙ is))

  later : (k : ℕ) (bytes : List ℕ) → IsKeptAt events replies i k bytes → IsKeptAt events replies (suc i) k bytes
  later k bytes is = let lt = is.before in record {
    event = is.event;
    host = is.host;
    modules = is.modules;
    before = omega (arith, lt);
    export = is.export;
    reached = is.reached;
    spelled = is.spelled;
    counted = is.counted;
  }

  -- the export of this event
  export_now : (k e g : ℕ) → e ≡ i → IsExport events replies k e g → (event ≡ Export g) × (counts reply ≡ true) × (count_by is_export (take i events) ≡ k)
  export_now k e g now x =
      let here = counted_here events replies i event reply is_event is_reply (Export g) (subst (λ (m : ℕ). Happens events replies m (Export g)) now x.happens) in
      (here.0, here.1, subst (λ (m : ℕ). count_by is_export (take m events) ≡ k) now x.numbered)

  -- the event is no export
  pub kept_none : (exports : Kept) → is_export event ≡ false → AreKept events replies i exports → AreKept events replies (suc i) exports
  kept_none exports not are = record {
    numbers = are.numbers ∙ sym (count_no not);
    each = λ k bytes at. later k bytes (are.each k bytes at);
    all = λ k e g lt x. elim (earlier e i lt) [
      | inl before ↦ are.all k e g before x
      | inr now ↦ let here = export_now k e g now x in let is : true ≡ false = sym (ap is_export here.0) ∙ not in absurd cc
    ];
  }

  module _ (exports : Kept) (place : Option (List ℕ)) (is : is_export event ≡ true) (are : AreKept events replies i exports) where
    numbers_more : length (exports ++ place ∷ []) ≡ count_by is_export (take (suc i) events)
    numbers_more = longer exports place ∙ ap (λ (n : ℕ). n + 1) are.numbers ∙ sym (count_yes is)

    in_front : (k : ℕ) (bytes : List ℕ) → slice_get exports k ≡ Some (Some bytes) → slice_get (exports ++ place ∷ []) k ≡ Some (Some bytes)
    in_front k bytes at = get_in_front exports (place ∷ []) k (in_range exports k (Some bytes) at) ∙ at

    found_before : (k e g : ℕ) → e < i → IsExport events replies k e g → (bytes : List ℕ) × (slice_get (exports ++ place ∷ []) k ≡ Some (Some bytes))
    found_before k e g lt x = let found = are.all k e g lt x in (found.0, in_front k found.0 found.1)

  -- the export failed, and its place is empty
  pub kept_empty : (exports : Kept) → is_export event ≡ true → counts reply ≡ false → AreKept events replies i exports → AreKept events replies (suc i) (exports ++ None ∷ [])
  kept_empty exports is fails are = record {
    numbers = numbers_more exports None is are;
    each = λ k bytes at. elim (at_or_last exports None (Some bytes) k at) [
      | inl old ↦ later k bytes (are.each k bytes old)
      | inr new ↦ let e : None ≡ Some bytes = new.1 in absurd cc
    ];
    all = λ k e g lt x. elim (earlier e i lt) [
      | inl before ↦ found_before exports None is are k e g before x
      | inr now ↦ let here = export_now k e g now x in let is : true ≡ false = sym here.1 ∙ fails in absurd cc
    ];
  }

  -- the bundle of the modules of the host is kept
  pub kept_bundle : (exports : Kept) (h size : ℕ) (modules : List (List ℕ)) → event ≡ Export h → reply ≡ Exported size → length (bundle modules) < 2 ^ 64
      → HasReached events replies i h modules → AreKept events replies i exports → AreKept events replies (suc i) (exports ++ Some (bundle modules) ∷ [])
  kept_bundle exports h size modules is told short has are = record {
    numbers = numbers_more exports (Some (bundle modules)) (ap is_export is) are;
    each = λ k bytes at. elim (at_or_last exports (Some (bundle modules)) (Some bytes) k at) [
      | inl old ↦ later k bytes (are.each k bytes old)
      | inr new ↦ let same = some_same (bundle modules) bytes new.1 in record {
        event = i;
        host = h;
        modules = modules;
        before = omega arith;
        export = record {
          happens = record { event = is_event ∙ ap Some is; reply = reply; answered = is_reply; counted = ap counts told };
          numbered = sym are.numbers ∙ sym new.0;
        };
        reached = has;
        spelled = sym same;
        counted = subst (λ (b : List ℕ). length b < 2 ^ 64) same short;
      }
    ];
    all = λ k e g lt x. elim (earlier e i lt) [
      | inl before ↦ found_before exports (Some (bundle modules)) (ap is_export is) are k e g before x
      | inr now ↦
          let here = export_now k e g now x in (
            bundle modules,
            subst (λ (n : ℕ). slice_get (exports ++ Some (bundle modules) ∷ []) n ≡ Some (Some (bundle modules))) (are.numbers ∙ here.2)
                (get_last exports (Some (bundle modules))),
          )
    ];
  }
