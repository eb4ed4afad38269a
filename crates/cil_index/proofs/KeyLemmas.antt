-- What stands in aims.
use Rattle.std.specs.Prelude.{◌⊎◌, ◌-◌, IsTrue, cond, nat_lt}
use Rattle.std.proofs.Common.{◌≡◌, ℕ, Bool, ◌+◌, ◌/◌, ◌<◌, ◌≤◌, true, false, List, [], ◌∷◌, length, refl, sym, ◌∙◌, ap, subst, inl, inr, arith}
use Rattle.std.proofs.Math.Dec.{ltb}
use Rattle.std.proofs.lemmas.Bool.Decides.{nat_tests}
use Rattle.cil_index.specs.declared.asked.Asked.{Asked}
use Rattle.cil_index.specs.declared.memberships.Memberships.{Memberships}
use Rattle.cil_base.specs.Places.{is_there, not_there}
use Rattle.cil_index.specs.Entries.{aim_of, alone_key, beyond, heading_of, in_class, itself, key_of_set, last_type, other_side, reached_key, set_key, several, target_key}
use Rattle.cil_index.specs.declared.asked.Aims.{Aims}
use Rattle.cil_index.specs.declared.asked.Step.{Step}
use Rattle.cil_index.specs.declared.asked.Step.TheVariants as steps
use Rattle.cil_index.specs.Found.{AreAims, AreOfClass, IsAmongSeveral, IsStep, Leads, MayReach}
use Rattle.cil_index.specs.Memberships.{HasBit, IsKnownFor}
use Rattle.cil_index.specs.Sets.{set_of}
use Rattle.cil_index.proofs.SetLemmas.{none_is}

ltb_true : (a b : ℕ) → ltb a b ≡ true → a < b
ltb_true a b e = grind (arith, nat_tests)

ltb_false : (a b : ℕ) → ltb a b ≡ false → b ≤ a
ltb_false a b e = grind (arith, nat_tests)

-- ---- numbers that stand for others

-- a number, or what stands for one without room
chosen : (n bound v other : ℕ) (P : ℕ → Type 0) → (n < bound → P v) → (bound ≤ n → P other) → P (cond (nat_lt n bound) v other)
chosen n bound v other P yes_ no_ = cases (nat_lt n bound) refl
  where
    cases : (b : Bool) → nat_lt n bound ≡ b → P (cond b v other)
    cases true e = yes_ (ltb_true n bound e)
    cases false e = no_ (ltb_false n bound e)

-- what stands for one type is below all that stands for several
pub alone_below : (t : ℕ) → alone_key t < several
alone_below t = chosen t last_type t last_type (λ k. k < several) (λ less. omega (arith, less)) (λ over. omega arith)

-- what stands for a set is the last, or behind the first of them by its number
set_is : (n : ℕ) → ((several + n ≡ set_key n) × (set_key n < beyond)) ⊎ (set_key n ≡ beyond)
set_is n = chosen n 2097150 (several + n) beyond (λ k. ((several + n ≡ k) × (k < beyond)) ⊎ (k ≡ beyond)) (λ less. inl (refl, omega (arith, less))) (λ over. inr refl)

pub set_room : (n : ℕ) → set_key n ≤ itself
set_room n = elim (set_is n) [ inl d ↦ let less = d.1 in omega (arith, less) | inr d ↦ omega (arith, d) ]

-- there is room for each target
pub key_room : (other : ℕ) (set : List ℕ) → other ≤ itself → key_of_set other set ≤ itself
key_room other [] le = le
key_room other (t ∷ []) le = let less = alone_below t in omega (arith, less)
key_room other (t ∷ u ∷ rest) le = le

-- ---- what stands for the target of a record

-- the number of a set stands for it
pub key_of_number : (sets : List (List ℕ)) (target source other key : ℕ) → target < length sets → other ≡ set_key target → key ≡ key_of_set other (set_of sets target) → key ≡ target_key sets target source
key_of_number sets target source other key less stands is =
    is ∙ ap (λ k. key_of_set k (set_of sets target)) stands ∙ sym (ap (λ o. reached_key o target (set_of sets source)) (is_there sets target [] less))

-- and where there is none the sources stand for themselves
pub key_of_itself : (sets : List (List ℕ)) (target source key : ℕ) (answer : Bool) → (target < length sets → IsTrue answer) → answer ≡ false → key ≡ key_of_set itself (set_of sets source) → key ≡ target_key sets target source
key_of_itself sets target source key answer tells none is = is ∙ sym (ap (λ o. reached_key o target (set_of sets source)) (not_there sets target (none_is sets target answer tells none)))

module _ (m : Memberships) (asked : Asked) where
  -- a target that may have the type is the type alone, or stands among those of several
  pub reach_cases : (key : ℕ) → MayReach m asked key → (key ≡ alone_key asked.target) ⊎ ((several ≤ key) × (key ≤ itself))
  reach_cases key (inl e) = inl e
  reach_cases key (inr (inl e)) = let at = e.0 in inr (omega (arith, at), omega (arith, at))
  reach_cases key (inr (inr (n, e, known))) = inr (elim (set_is n) [
    | inl d ↦ let sum = d.0 in let less = d.1 in (omega (arith, e, sum), omega (arith, e, less))
    | inr d ↦ (omega (arith, e, d), omega (arith, e, d))
  ])

  module _ (aims : Aims) (are : AreAims m asked aims) (aim : ℕ) where
    -- the source itself stands behind all sets
    itself_leads : aim ≡ aim_of (in_class asked.class) itself → asked.source ≡ asked.target → IsAmongSeveral aims aim
    itself_leads at own =
        let first = are.several_is in
        let last = are.last_own own in
        let room = are.sets_below in record {
          low = omega (arith, at, first);
          high = omega (arith, at, last);
          small = λ less. absurd (omega (arith, at, first, less, room));
        }

    -- and so does a set for whose number there is no room
    beyond_leads : aim ≡ aim_of (in_class asked.class) beyond → IsAmongSeveral aims aim
    beyond_leads at =
        let first = are.several_is in
        let last = are.last_low in
        let room = are.sets_below in record {
          low = omega (arith, at, first);
          high = omega (arith, at, last);
          small = λ less. absurd (omega (arith, at, first, less, room));
        }

    -- the number of another set is the lower part of its aim
    set_leads : (n : ℕ) → aim ≡ aim_of (in_class asked.class) (several + n) → several + n < beyond → IsKnownFor m asked.target n → IsAmongSeveral aims aim
    set_leads n at less known =
        let first = are.several_is in
        let last = are.last_low in record {
          low = omega (arith, at, first);
          high = omega (arith, at, less, last);
          small = λ below. has_bit below known;
        }
      where
        has_bit : aim < aims.several + aims.small → IsKnownFor m asked.target n → HasBit aims.filter (aim - aims.several)
        has_bit below (inl past) = let first = are.several_is in let small = are.small_below in absurd (omega (arith, at, first, below, small, past))
        has_bit below (inr member) = let first = are.several_is in subst (HasBit aims.filter) (omega (arith, at, first)) (are.filtered.all n member)

    -- what may have the type, and is not one type alone, is searched for among several
    pub among : (key : ℕ) → aim ≡ aim_of (in_class asked.class) key → several ≤ key → MayReach m asked key → IsAmongSeveral aims aim
    among key is ge (inl e) = let less = alone_below asked.target in absurd (omega (arith, e, ge, less))
    among key is ge (inr (inl (at, own))) = itself_leads (is ∙ ap (aim_of (in_class asked.class)) at) own
    among key is ge (inr (inr (n, at, known))) = elim (set_is n) [
      | inl d ↦ let less = d.1 in let sum = d.0 in set_leads n (is ∙ ap (aim_of (in_class asked.class)) (at ∙ sym sum)) (omega (arith, less, sum)) known
      | inr d ↦ beyond_leads (is ∙ ap (aim_of (in_class asked.class)) (at ∙ d))
    ]

    -- and what may have the type is searched for
    pub leads : (key : ℕ) → aim ≡ aim_of (in_class asked.class) key → MayReach m asked key → Leads aims aim
    leads key is reach = elim (reach_cases key reach) [
      | inl e ↦ inl (is ∙ ap (aim_of (in_class asked.class)) e ∙ sym are.alone_is)
      | inr w ↦ inr (among key is w.0 reach)
    ]

  -- the aims of what is searched for are of the class
  pub of_class : (aims : Aims) → AreAims m asked aims → AreOfClass (in_class asked.class) aims
  of_class aims are =
      let alone = are.alone_is in
      let first = are.several_is in
      let less = alone_below asked.target in record {
        alone_in = omega (arith, alone, less);
        alone_below = omega (arith, alone, first, less);
        several_is = first;
        last_high = are.last_high;
      }

-- the class of an aim that leads is the upper part
pub class_of_aim : (class_ : ℕ) (aims : Aims) → AreOfClass class_ aims → (aim : ℕ) → Leads aims aim → aim / 4194304 ≡ aims.several / 4194304
class_of_aim class_ aims are aim (inl same) = let first = are.several_is in let alone = are.alone_in in omega (arith, same, first, alone)
class_of_aim class_ aims are aim (inr among) =
    let low = among.low in
    let high = among.high in
    let first = are.several_is in
    let last = are.last_high in omega (arith, low, high, first, last)

-- ---- one step of a search

module _ (aims : Aims) (aim : ℕ) where
  -- at a small set, by its bit
  pub small_step : (number : ℕ) (step : Step) → (aims.several ≤ aim → aim - aims.several ≡ number) → number < aims.small → (step ≡ steps.Read) ⊎ ((step ≡ steps.Pass) × (HasBit aims.filter number → ⊥))
      → IsStep aims aim step
  small_step number step is less (inl read) = subst (IsStep aims aim) (sym read) tt
  small_step number step is less (inr (pass, none)) = subst (IsStep aims aim) (sym pass) (λ among.
      let low = among.low in let same = is low in none (subst (HasBit aims.filter) same (among.small (omega (arith, less, same, low)))))

  -- in front of all sets
  pub low_step : aim < aims.several → IsAmongSeveral aims aim → ⊥
  low_step less among = let low = among.low in omega (arith, less, low)

-- ---- the heading and the other side of a rule

pub heading_of_type : (sets : List (List ℕ)) (source target : ℕ) → target < several → length sets + target ≡ heading_of sets source target
heading_of_type sets source target less = chosen target several (length sets + target) source (λ z. length sets + target ≡ z) (λ below. refl) (λ over. absurd (omega (arith, less, over)))

pub heading_of_set : (sets : List (List ℕ)) (source target : ℕ) → several ≤ target → source ≡ heading_of sets source target
heading_of_set sets source target ge = chosen target several (length sets + target) source (λ z. source ≡ z) (λ below. absurd (omega (arith, ge, below))) (λ over. refl)

pub side_of_type : (sets : List (List ℕ)) (source target : ℕ) → target < several → key_of_set (set_key source) (set_of sets source) ≡ other_side sets source target
side_of_type sets source target less =
    let sources = key_of_set (set_key source) (set_of sets source) in
    chosen target several sources target (λ z. sources ≡ z) (λ below. refl) (λ over. absurd (omega (arith, less, over)))

pub side_of_set : (sets : List (List ℕ)) (source target : ℕ) → several ≤ target → target ≡ other_side sets source target
side_of_set sets source target ge = chosen target several (key_of_set (set_key source) (set_of sets source)) target (λ z. target ≡ z) (λ below. absurd (omega (arith, ge, below))) (λ over. refl)
