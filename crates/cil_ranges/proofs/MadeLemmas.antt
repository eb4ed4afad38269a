-- The levels of a policy, made of their parts.
use Rattle.std.specs.Prelude.{Contains, Option, Some, Ok, Err, length}
use Rattle.std.proofs.Common.{◌≡◌, ◌↔◌, ◌⊎◌, ℕ, ◌≤◌, List, [], refl, sym, ◌∙◌, ap, subst, inl, inr, arith}
use Rattle.cil_base.specs.Lists.{contains_none}
use Rattle.cil_faults.specs.Refusal.{Fails}
use Rattle.cil_faults.specs.declared.failure.Failure.{Failure}
use Rattle.cil_faults.specs.declared.failure.Failure.TheVariants.{Faults, NoMemory}
use Rattle.cil_faults.specs.declared.fault.Fault.{Fault}
use Rattle.cil_faults.specs.Reported.{fault_at}
use Rattle.cil_faults.specs.declared.code.FaultCode.TheVariants as causes
use Rattle.cil_syntax.specs.declared.kind.Kind.{Kind}
use Rattle.cil_macros.specs.Item.{Item, OptSet}
use Rattle.cil_known.specs.declared.known.Known.{Known}
use Rattle.cil_names.specs.Laws.{MeansWhatItNames}
use Rattle.cil_known.specs.Known.{IsKnown, enabled_in, meant_in}
use Rattle.cil_mls.specs.declared.in_order.Orders.{Orders}
use Rattle.cil_mls.specs.OrderFaults.{AreOrders}
use Rattle.cil_mls.specs.Values.{in_term}
use Rattle.cil_levels.specs.Held.{HoldCategories}
use Rattle.cil_levels.specs.Laws.{AreEvaluated}
use Rattle.cil_ranges.specs.declared.levels.Found.{Found}
use Rattle.cil_ranges.specs.declared.levels.Measured.{Measured}
use Rattle.cil_ranges.specs.declared.levels.Tables.{Tables}
use Rattle.cil_ranges.specs.declared.scale.Scale.{Scale}
use Rattle.cil_ranges.specs.declared.users.UserRanges.{UserRanges}
use Rattle.cil_ranges.specs.Given.{AreGiven}
use Rattle.cil_ranges.specs.LevelFaults.{IsFaultSaid}
use Rattle.cil_ranges.specs.Levels.{Ground, IsSensitivityAt}
use Rattle.cil_ranges.specs.Made.{AreAllFaults, AreMeasured, AreTables, IsAnswered, IsFound, IsPermittedBy, IsScaleOf, MeasuresAs}
use Rattle.cil_ranges.specs.Reading.{HaveMore, Measures, meant}
use Rattle.cil_ranges.specs.Steps.{AreUserRanges, IsGround, LevelFault, no_range, said, two_ranges}
use Rattle.cil_ranges.specs.Users.{HasNoRange, HasTwoRanges}
use Rattle.cil_ranges.proofs.UserFaultLemmas.{twice_is}

-- ---- what is handed on

pub measures_by : (k : Known) (m : Measured) (count : ℕ) (g : Ground) (by : Scale) → IsScaleOf m count by → MeasuresAs k m count g → Measures k by g
measures_by k m count g by is right = record {
  sensitivities = λ w n. subst (λ (l : List (Option ℕ)). IsSensitivityAt (enabled_in k) g w n ↔ (meant l (meant_in k w) ≡ Some n)) (sym is.sensitivities) (right.sensitivities w n);
  categories = subst (HoldCategories k g.items g.categories) (sym is.held) right.categories;
  values = λ e c l.
      (λ i. in_term (is.held i) (is.count_is i) (meant_in k) c e) ∙ right.values e c l;
}

pub few_by : (m : Measured) (count : ℕ) (by : Scale) → IsScaleOf m count by → count ≤ 1024 → by.categories.count ≤ 1024
few_by m count by is few = let e = is.count_is in omega (arith, e, few)

-- ---- the ground

module _ (k : Known) (xs : List Item) (sensitivities categories : List (List ℕ)) (orders : Orders) (o : AreOrders xs (enabled_in k) sensitivities categories orders) (m : Measured)
    (are : AreMeasured k xs o.of_sensitivities.row o.of_categories.row m) where
  abbrev pub ground : Ground
  ground = record { items = xs; sensitivities = o.of_sensitivities.row; categories = o.of_categories.row; values = are.values }

  pub is_ground : IsGround xs (enabled_in k) ground
  is_ground = record { items = refl; sensitivities = o.of_sensitivities.is_order; categories = o.of_categories.is_order; values = are.held.are; ranked = (are.held.rank, are.held.ranked) }

  pub measured_as : AreEvaluated → (count : ℕ) → count ≡ length o.of_categories.row → MeasuresAs k m count ground
  measured_as evaluated count is = record {
    sensitivities = are.places;
    categories = are.held.categories;
    values = λ e c l. ap (λ n. in_term m.held.items n (meant_in k) c e) is ∙ evaluated k xs o.of_categories.row m.held.items are.values are.held e c l;
  }

-- ---- all faults

-- where nothing is said twice, each user has the range that is kept
pub users_are : (k : Known) (xs : List Item) (sections : Kind → List (List ℕ)) → IsKnown k xs sections → MeansWhatItNames → (g : Ground) (items : g.items ≡ xs) (all : UserRanges) → AreGiven k g xs all
    → ((f : Fault) → HasTwoRanges (enabled_in k) g f → ⊥) → AreUserRanges k g all.ranges.items
users_are k xs sections known law g items all are none = record {
  each = λ d r e. let h = are.each d r e in (h.0, h.2);
  every = λ x d r h.
      let is_x = subst (λ l. Contains l x) items h.gives.is_item in
      let (p, there, same) = are.every x d r is_x h in
      let f = fault_at causes.UserRangeTwice h.word.at x.space h.word.bytes in (
        p,
        there,
        elim same [
          | inl s ↦ s
          | inr t ↦ absurd (none f ((twice_is k xs sections known law g items all are f).0 (x, is_x, record { entry = d; range = r; gives = h; flagged = t; told = refl })))
        ],
      );
}

-- what is found is all that is wrong
pub all_found : (s : OptSet) (g : Ground) (xs : List Item) → g.items ≡ xs → (mid new : List Fault) → HaveMore [] mid (λ f. (x : Item) × Contains xs x × IsFaultSaid s g x f) → HaveMore mid new (λ f. HasTwoRanges s g f ⊎ HasNoRange s g f)
    → AreAllFaults s g new
all_found s g xs items mid new first second f = (
  λ c. elim ((second f).0 c) [
    | inl m ↦ elim ((first f).0 m) [ inl o ↦ absurd (contains_none f o) | inr h ↦ said h.0 (subst (λ l. Contains l h.0) (sym items) h.1) h.2 ]
    | inr b ↦ elim b [ inl t ↦ two_ranges t | inr n ↦ no_range n ]
  ],
  by,
) where
  by : LevelFault s g f → Contains new f
  by (said x c h) = (second f).1 (inl ((first f).1 (inr (x, subst (λ l. Contains l x) items c, h))))
  by (two_ranges h) = (second f).1 (inr (inl h))
  by (no_range h) = (second f).1 (inr (inr h))

-- ---- what is answered

module _ (k : Known) (g : Ground) (is : IsGround g.items (enabled_in k) g) (m : Measured) (t : Tables) (found : Found) (permitted : IsPermittedBy k g m) (tables : AreTables k g t) (are : IsFound k g found) where
  pub nothing_wrong_found : ((f : Fault) → Contains found.faults.items f → ⊥) → IsAnswered k g.items (Ok (record { permitted = m.permitted; levels = t.levels; ranges = t.ranges; users = found.users.ranges }))
  nothing_wrong_found none =
      let right : (f : Fault) → LevelFault (enabled_in k) g f → ⊥ = λ f h. none f ((are.faults f).1 h) in
      (g, is, record { permitted = permitted; levels = tables.levels; ranges = tables.ranges; users = are.users right }, right)

  pub wrong_found : (failure : Failure) → Fails (Contains found.faults.items) failure → IsAnswered k g.items (Err failure)
  wrong_found (Faults faults) fails = (g, is, record { listed = record { members = λ f. (λ c. (are.faults f).0 ((fails.listed.members f).0 c), λ h. (fails.listed.members f).1 ((are.faults f).1 h)); rising = fails.listed.rising }; some = fails.some })
  wrong_found NoMemory fails = tt
