-- What is wrong with orders, part by part and together.
use Rattle.std.specs.Prelude.{Contains, MatchOption, Option, Some, None, Result, Ok, Err}
use Rattle.std.specs.Global.{Vec}
use Rattle.std.proofs.Common.{◌≡◌, ◌↔◌, ℕ, ◌<◌, ◌≤◌, Bool, true, false, List, [], ◌∷◌, ◌++◌, length, refl, sym, ◌∙◌, ap, subst, inl, inr, arith}
use Rattle.std.proofs.lemmas.Bool.{true≢false}
use Rattle.std.proofs.lemmas.Cmp.{nat_list_cmp_total}
use Rattle.cil_base.specs.Lists.{Lists, contains_cases, contains_here, contains_none, one_list, text_cmp}
use Rattle.cil_faults.specs.Fails.{AreFaults}
use Rattle.cil_faults.specs.Refusal.{Answers, Fails}
use Rattle.cil_faults.specs.Reported.{global_fault}
use Rattle.cil_faults.specs.declared.code.FaultCode.{FaultCode}
use Rattle.cil_faults.specs.declared.code.FaultCode.TheVariants as causes
use Rattle.cil_faults.specs.declared.failure.Failure.{Failure}
use Rattle.cil_faults.specs.declared.failure.Failure.TheVariants.{Faults, NoMemory}
use Rattle.cil_faults.specs.declared.fault.Fault.{Fault}
use Rattle.cil_faults.proofs.RefusalLemmas.{fails_alike, faults_alike}
use Rattle.cil_syntax.specs.declared.kind.Keyword.{Keyword}
use Rattle.cil_syntax.specs.declared.kind.Kind.{Kind}
use Rattle.cil_attrs.specs.macros.Item.{Item, OptSet}
use Rattle.cil_attrs.specs.names.Declarations.{nowhere}
use Rattle.cil_attrs.specs.known.Members.{space_of}
use Rattle.cil_attrs.specs.SetFaults.{IsItemName, SetFault}
use Rattle.cil_mls.specs.Ordering.{HasNoOrder, IsNumberedOrder}
use Rattle.cil_mls.specs.OrderFaults.{IsUnordered, OrderFault, Switches, alias_of_category, alias_of_sensitivity, categories_unordered, circular_set, many_categories, many_sensitivities, mls_twice, sensitivities_unordered}
use Rattle.cil_mls.specs.OrderParts.{IsOn, IsOrderOf, JudgedFault, MlsTwice, SpaceFault}
use Rattle.cil_mls.specs.PolicyFaults.{IsOrdered, IsOver}

-- ---- faults of the whole policy

-- the one fault that is listed
pub one_listed : (empty pushed : List Fault) (f : Fault) (list : List Fault) → empty ≡ [] → pushed ≡ empty ++ f ∷ [] → AreFaults (Contains pushed) list → AreFaults (λ g. g ≡ f) list
one_listed empty pushed f list none push are =
    let alone : pushed ≡ f ∷ [] = push ∙ ap (λ l. l ++ f ∷ []) none in
    faults_alike (Contains pushed) (λ g. g ≡ f) list
    (λ g c. elim (contains_cases g f [] (subst (λ l. Contains l g) alone c)) [ inl e ↦ sym e | inr d ↦ absurd (contains_none g d) ])
    (λ g e. subst (λ l. Contains l g) (sym alone) (subst (Contains (f ∷ [])) (sym e) (contains_here f []))) are

module _ (xs : List Item) (s : OptSet) (kind : Kind) (names : List (List ℕ)) (are : Lists text_cmp (IsItemName xs s kind) names) (most : ℕ) (word : List ℕ) where
  pub not_over : length names ≤ most → (f : Fault) → IsOver xs s kind most word f → ⊥
  not_over few f o =
      let len = ap length (one_list text_cmp nat_list_cmp_total (IsItemName xs s kind) o.0.names names o.0.are_names are) in
      let big = o.0.many in
      omega (arith, few, len, big)

  pub over_told : most < length names → (failure : Failure) → Fails (λ f. f ≡ global_fault causes.TooMany nowhere word) failure → Fails (IsOver xs s kind most word) failure
  over_told big failure told =
      fails_alike (λ f. f ≡ global_fault causes.TooMany nowhere word) (IsOver xs s kind most word) (λ f is. (record { names = names; are_names = are; many = big }, is)) (λ f o. o.1) failure told

-- ---- one name space

module _ (xs : List Item) (s : OptSet) (kind : Kind) (order : Keyword) (code : FaultCode) where
  -- where aliases are sound, what is told is that there is no one order
  pub order_judged : (names : List (List ℕ)) (o : Option (Vec ℕ)) → MatchOption o (HasNoOrder xs s kind order) (λ row. IsNumberedOrder xs s kind order names row.items)
      → ((f : Fault) → SetFault xs s (space_of kind) f → ⊥) → (r : Result (Vec ℕ) Failure) → IsOrdered code o r → Answers (IsOrderOf xs s kind order names) (SpaceFault xs s kind order code) r
  order_judged names (Some row) is sound r same =
      subst (Answers (IsOrderOf xs s kind order names) (SpaceFault xs s kind order code)) (sym same)
      (is, λ f h. elim h [ inl t ↦ sound f t | inr u ↦ u.0.1 is.row is.is_order ])
  order_judged names None none sound (Ok row) told = absurd told
  order_judged names None none sound (Err failure) told =
      fails_alike (λ f. f ≡ global_fault code nowhere []) (SpaceFault xs s kind order code) (λ f is. inr ((sound, none), is)) (λ f h. elim h [ inl t ↦ absurd (sound f t) | inr u ↦ u.1 ]) failure told

  -- where they are not, no order is judged
  not_sound : (fs : List Fault) → AreFaults (SetFault xs s (space_of kind)) fs → IsUnordered xs s kind order → ⊥
  not_sound [] are u = let some = are.some in omega (arith, some)
  not_sound (g ∷ gs) are u = u.0 g ((are.listed.members g).0 (contains_here g gs))

  pub aliases_refused : (failure : Failure) → Fails (SetFault xs s (space_of kind)) failure → Fails (SpaceFault xs s kind order code) failure
  aliases_refused (Faults fs) are =
      faults_alike (SetFault xs s (space_of kind)) (SpaceFault xs s kind order code) fs (λ f t. inl t) (λ f h. elim h [ inl t ↦ t | inr u ↦ absurd (not_sound fs are u.0) ]) are
  aliases_refused NoMemory are = tt

-- ---- whether levels are on

module _ (xs : List Item) (s : OptSet) (on off : Bool) (is_on : (on ≡ true) ↔ Switches xs s true) (is_off : (off ≡ true) ↔ Switches xs s false) where
  pub both_told : on ≡ true → off ≡ true → (failure : Failure) → Fails (λ f. f ≡ global_fault causes.MlsTwice nowhere []) failure → Fails (MlsTwice xs s) failure
  both_told is_yes is_no failure told = fails_alike (λ f. f ≡ global_fault causes.MlsTwice nowhere []) (MlsTwice xs s) (λ f is. ((is_on.0 is_yes, is_off.0 is_no), is)) (λ f t. t.1) failure told

  pub only_on : on ≡ true → off ≡ false → IsOn xs s true × ((f : Fault) → MlsTwice xs s f → ⊥)
  only_on is_yes none = (((λ e. is_on.0 is_yes), λ w. refl), λ f t. true≢false (sym (is_off.1 t.0.1) ∙ none))

pub not_on : (xs : List Item) (s : OptSet) (on : Bool) → (on ≡ true) ↔ Switches xs s true → on ≡ false → IsOn xs s false × ((f : Fault) → MlsTwice xs s f → ⊥)
not_on xs s on is_on none = (((λ e. absurd (true≢false (sym e))), λ w. absurd (true≢false (sym (is_on.1 w) ∙ none))), λ f t. true≢false (sym (is_on.1 t.0.0) ∙ none))

-- ---- all parts

module _ (xs : List Item) (s : OptSet) (f : Fault) where
  pub judged_there : JudgedFault xs s f → OrderFault xs s f
  judged_there j = elim j [
    | inl o ↦ elim o [
      | inl p ↦ elim p [ inl t ↦ alias_of_sensitivity t | inr u ↦ sensitivities_unordered u.0 u.1 ]
      | inr p ↦ elim p [ inl t ↦ alias_of_category t | inr u ↦ categories_unordered u.0 u.1 ]
    ]
    | inr o ↦ elim o [
      | inl t ↦ mls_twice t.0.0 t.0.1 t.1
      | inr p ↦ elim p [ inl q ↦ elim q [ inl m ↦ many_sensitivities m.0 m.1 | inr m ↦ many_categories m.0 m.1 ] | inr c ↦ circular_set c ]
    ]
  ]

  pub judged_back : OrderFault xs s f → JudgedFault xs s f
  judged_back (alias_of_sensitivity t) = inl (inl (inl t))
  judged_back (alias_of_category t) = inl (inr (inl t))
  judged_back (sensitivities_unordered u is) = inl (inl (inr (u, is)))
  judged_back (categories_unordered u is) = inl (inr (inr (u, is)))
  judged_back (mls_twice on off is) = inr (inl ((on, off), is))
  judged_back (many_sensitivities m is) = inr (inr (inl (inl (m, is))))
  judged_back (many_categories m is) = inr (inr (inl (inr (m, is))))
  judged_back (circular_set c) = inr (inr (inr c))
