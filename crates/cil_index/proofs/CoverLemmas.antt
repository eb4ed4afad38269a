-- The masks of some aims, and by which of them all rules on a class and a pair of types are found.
use Rattle.std.specs.Prelude.{◌↔◌, ◌⊎◌, Bool, true, false, Contains, IfSome, IsBitSet, IsTrue, Option, Some, None, bit_or, map, option_map, slice_get}
use Rattle.std.proofs.Common.{◌≡◌, ℕ, suc, ◌+◌, ◌*◌, ◌%◌, ◌<◌, ◌≤◌, List, [], ◌∷◌, length, get_or, sym, ◌∙◌, ap, subst, inl, inr, refl, arith}
use Rattle.std.proofs.Math.Dec.{eqb}
use Rattle.std.proofs.lemmas.Bool.{cases_lt}
use Rattle.std.proofs.lemmas.Bool.Decides.{eqb_tells}
use Rattle.std.proofs.lemmas.List.{get_or_default}
use Rattle.std.proofs.lemmas.Option.{slice_get-map}
use Rattle.cil_base.specs.Lists.{contains_cases, contains_none}
use Rattle.cil_base.specs.MadeLists.{from_map}
use Rattle.cil_base.specs.Places.{get_at, get_contains, get_so, is_there, none_some, not_there, some_same}
use Rattle.cil_rules.proofs.classes_lemmas.BitLemmas.{none_set, set_in_either}
use Rattle.cil_rules.specs.conditions.Branch.{Branch}
use Rattle.cil_rules.specs.Rule.{Rule}
use Rattle.cil_rules.specs.Covers.{Covers, HasCover, Reaches}
use Rattle.cil_index.specs.declared.asked.Aims.{Aims}
use Rattle.cil_index.specs.declared.asked.Asked.{Asked}
use Rattle.cil_index.specs.declared.index.Bounds.{Bounds}
use Rattle.cil_index.specs.declared.index.Index.{Index}
use Rattle.cil_index.specs.declared.memberships.Memberships.{Memberships}
use Rattle.cil_index.specs.declared.record.Record.{Record}
use Rattle.cil_index.specs.Entries.{AreBelow, AreBounds, IsFoundAt, IsInPart, IsIndex, RiseIn, aim_of, aim_of_record, alone_key, heading_of_record, in_class, itself, key_of_set, other_side, part_of, reached_key, set_key, several, target_key}
use Rattle.cil_index.specs.Found.{AreAims, AreOfClass, CoversAt, HandOver, Hands, HasAllOf, IsAmongSeveral, IsTheAlone, Leads, Matches, MayReach, turned}
use Rattle.cil_index.specs.Memberships.{AreMemberships, IsNotedSet}
use Rattle.cil_index.specs.Kept.{reached, rule_of, target_at}
use Rattle.cil_index.specs.Sets.{set_of}
use Rattle.cil_index.proofs.KeyLemmas.{among, class_of_aim, heading_of_set, heading_of_type, leads, reach_cases, side_of_set, side_of_type}
use Rattle.cil_index.proofs.RunLemmas.{none_past}
use Rattle.cil_index.proofs.SetLemmas.{none_is, set_within}

module _ (on : ℕ → Bool) (rules : List Rule) (leads : ℕ → Type 0) (asked : Asked) (index : Index) where
  -- the rule that stands here covers the permission
  abbrev pub CoversThere : (at bit : ℕ) → Type 0
  CoversThere at bit = CoversAt on rules asked.source asked.target asked.class at bit

  -- the mask has what the rules of these aims cover that lead to what is asked, and nothing that no rule covers
  pub record IsJoined (start end mask : ℕ) : Type 0 where
    pub sound : (bit : ℕ) → IsBitSet mask bit → HasCover on rules asked.source asked.target asked.class bit
    pub all : HasAllOf on rules leads asked index start end mask

  covered_there : (place bit : ℕ) → CoversAt on rules asked.source asked.target asked.class place bit → HasCover on rules asked.source asked.target asked.class bit
  covered_there place bit c = record { rule = c.rule; is_rule = get_contains rules place c.rule c.is_there; covers = c.covers }

  pub joined_none : (start : ℕ) → IsJoined start start 0
  joined_none start = record { sound = λ bit set. absurd (none_set bit set); all = λ at bit ge less aimed covers. absurd (omega (arith, ge, less)) }

  -- behind an aim past the last one none leads
  pub joined_up_to : (start end i last mask : ℕ) → RiseIn index.aims.items start end → start ≤ i → last < get_or index.aims.items i 0 → ((aim : ℕ) → leads aim → aim ≤ last) → IsJoined start i mask
      → HasAllOf on rules leads asked index start end mask
  joined_up_to start end i last mask up inside past up_to so_far at bit ge less aimed covers = elim (cases_lt at i) [
    | inl below ↦ so_far.all at bit ge below aimed covers
    | inr over ↦ let rise = up i at inside over less in let before = up_to (get_or index.aims.items at 0) aimed in absurd (omega (arith, rise, past, before))
  ]

  pub joined_all : (start end i mask : ℕ) → end ≤ i → IsJoined start i mask → HasAllOf on rules leads asked index start end mask
  joined_all start end i mask over so_far at bit ge less aimed covers = so_far.all at bit ge (omega (arith, less, over)) aimed covers

  -- one aim more adds what its rule covers
  pub joined_more : (start i mask more : ℕ) → ((bit : ℕ) → IsBitSet more bit ↔ CoversThere i bit) → IsJoined start i mask → IsJoined start (i + 1) (bit_or mask more)
  joined_more start i mask more tells so_far = record {
    sound = λ bit set. elim ((set_in_either mask more bit).0 set) [
      | inl t ↦ so_far.sound bit t
      | inr t ↦ covered_there i bit ((tells bit).0 t)
    ];
    all = λ at bit ge less aimed covers. (set_in_either mask more bit).1 (elim (cases_lt at i) [
      | inl below ↦ inl (so_far.all at bit ge below aimed covers)
      | inr over ↦ let same : at ≡ i = omega (arith, less, over) in inr ((tells bit).1 (subst (λ k. CoversThere k bit) same covers))
    ]);
  }

  -- one that does not lead adds nothing
  pub joined_pass : (start i mask : ℕ) → (leads (get_or index.aims.items i 0) → ⊥) → IsJoined start i mask → IsJoined start (i + 1) mask
  joined_pass start i mask away so_far = record {
    sound = so_far.sound;
    all = λ at bit ge less aimed covers. elim (cases_lt at i) [
      | inl below ↦ so_far.all at bit ge below aimed covers
      | inr over ↦ let same : at ≡ i = omega (arith, less, over) in absurd (away (subst (λ k. leads (get_or index.aims.items k 0)) same aimed))
    ];
  }

-- what the aims of a part hand over is what the heading does
module _ (on : ℕ → Bool) (rules : List Rule) (aims : Aims) (asked : Asked) (index : Index) (are : AreOfClass (in_class asked.class) aims) (heading : ℕ) (b : Bounds)
    (bounds : AreBounds index (part_of heading aims.several) b) where
  -- an aim that leads to what is asked stands in the part of the class
  inside : (at : ℕ) → Leads aims (get_or index.aims.items at 0) → IsInPart index.starts.items (part_of heading (get_or index.aims.items at 0)) at → (b.start ≤ at) × (at < b.to)
  inside at aimed of =
      bounds.all at (subst (λ p. IsInPart index.starts.items p at) (ap (λ c. heading * 8 + c % 8) (class_of_aim (in_class asked.class) aims are (get_or index.aims.items at 0) aimed)) of)

  behind : (start mid aim at : ℕ) → AreBelow index.aims.items start mid aim → start ≤ at → aim ≤ get_or index.aims.items at 0 → mid ≤ at
  behind start mid aim at below ge above = elim (cases_lt at mid) [ inl less ↦ let r = below at ge less in absurd (omega (arith, r, above)) | inr over ↦ over ]

  pub one_run : (run : Bounds) (mask : ℕ) → run.to ≡ b.to → AreBelow index.aims.items b.start run.start aims.several → HasAllOf on rules (IsAmongSeveral aims) asked index run.start run.to mask
      → Hands on rules (IsAmongSeveral aims) asked index heading mask
  one_run run mask same below has at bit of among covers =
      let within = inside at (inr among) of in
      let less = within.1 in
      has at bit (behind b.start run.start aims.several at below within.0 among.low) (omega (arith, less, same)) among covers

  pub two_runs : (alone several : Bounds) (x y : ℕ) → alone.to ≡ b.to → several.to ≡ alone.to → AreBelow index.aims.items b.start alone.start aims.alone
      → AreBelow index.aims.items alone.start several.start aims.several → HasAllOf on rules (IsTheAlone aims) asked index alone.start alone.to x
      → HasAllOf on rules (IsAmongSeveral aims) asked index several.start several.to y → Hands on rules (Leads aims) asked index heading (bit_or x y)
  two_runs alone several x y same_end also below_one below_two has_x has_y at bit of aimed covers =
      let within = inside at aimed of in
      let less = within.1 in
      let first = are.alone_below in
      (set_in_either x y bit).1 (elim aimed [
        | inl same ↦ inl (has_x at bit (behind b.start alone.start aims.alone at below_one within.0 (omega (arith, same))) (omega (arith, less, same_end)) same covers)
        | inr among ↦ let low = among.low in
            inr (has_y at bit (behind alone.start several.start aims.several at below_two (behind b.start alone.start aims.alone at below_one within.0 (omega (arith, low, first))) low)
            (omega (arith, less, same_end, also)) among covers)
      ])

-- ---- what stands in the aim of a rule that covers

-- a set with a type stands as the type, or has several
key_cases : (other : ℕ) (set : List ℕ) (t : ℕ) → Contains set t → (key_of_set other set ≡ alone_key t) ⊎ ((key_of_set other set ≡ other) × (set ≡ t ∷ [] → ⊥))
key_cases other [] t c = absurd (contains_none t c)
key_cases other (u ∷ []) t c = elim (contains_cases t u [] c) [ inl e ↦ inl (ap alone_key e) | inr d ↦ absurd (contains_none t d) ]
key_cases other (u ∷ v ∷ rest) t c = inr (refl, λ e. let size : suc (suc (length rest)) ≡ 1 = ap (λ (z : List ℕ). length z) e in absurd (omega (arith, size)))

target_reached : (sets : List (List ℕ)) (m : Memberships) (asked : Asked) → AreMemberships sets m → (target source : ℕ) → Contains (set_of sets source) asked.source
    → Reaches (target_at sets target) asked.source asked.target → MayReach m asked (target_key sets target source)
target_reached sets m asked hold target source c reach = by_case (slice_get sets target) refl reach
  where
    by_case : (found : Option (List ℕ)) → slice_get sets target ≡ found → Reaches (reached found) asked.source asked.target → MayReach m asked (reached_key found target (set_of sets source))
    by_case (Some set) at r =
        let same : set_of sets target ≡ set = get_so sets target set [] at in
        elim (key_cases (set_key target) set asked.target r) [
          | inl e ↦ inl e
          | inr e ↦ elim (hold.known target asked.target (subst (λ (s : List ℕ). Contains s asked.target) (sym same) r)) [
            | inl one ↦ absurd (e.1 (sym same ∙ one.is_one))
            | inr known ↦ inr (inr (target, e.0, known))
          ]
        ]
    by_case None at r = elim (key_cases itself (set_of sets source) asked.source c) [
      | inl e ↦ inl (e ∙ ap alone_key r)
      | inr e ↦ inr (inl (e.0, r))
    ]

-- ---- whether a record reaches the target

-- where its number is that of a set, that is asked
pub reaches_set : (sets : List (List ℕ)) (n s t : ℕ) (answer : Bool) → n < length sets → IsTrue answer ↔ Contains (set_of sets n) t → IsTrue answer ↔ Reaches (target_at sets n) s t
reaches_set sets n s t answer less tells = subst (λ x. IsTrue answer ↔ Reaches (reached x) s t) (sym (is_there sets n [] less)) tells

-- and else the source
pub reaches_itself : (sets : List (List ℕ)) (n s t : ℕ) (found : Bool) → (n < length sets → IsTrue found) → found ≡ false → IsTrue (eqb s t) ↔ Reaches (target_at sets n) s t
reaches_itself sets n s t found tells none =
    subst (λ x. IsTrue (eqb s t) ↔ Reaches (reached x) s t) (sym (not_there sets n (none_is sets n found tells none))) (elim (eqb_tells s t) [
      | inl e ↦ (λ yes_. e.1, λ same. e.0)
      | inr e ↦ (λ yes_. let no_ = e.0 in absurd cc, λ same. absurd (e.1 same))
    ])

-- its sources may have the type for which they are asked
source_reached : (sets : List (List ℕ)) (m : Memberships) (asked : Asked) → AreMemberships sets m → (source : ℕ) → Contains (set_of sets source) asked.source
    → MayReach m (turned asked) (key_of_set (set_key source) (set_of sets source))
source_reached sets m asked hold source c = elim (key_cases (set_key source) (set_of sets source) asked.source c) [
  | inl e ↦ inl e
  | inr e ↦ elim (hold.known source asked.source c) [ inl one ↦ absurd (e.1 one.is_one) | inr known ↦ inr (inr (source, e.0, known)) ]
]

-- ---- the record of a rule that covers

module _ (on : ℕ → Bool) (rules : List Rule) (asked : Asked) (index : Index) (bit : ℕ) where
  -- its aim stands among those of a heading, and leads to what is asked
  pub record IsFound (leads : ℕ → Type 0) (heading : ℕ) : Type 0 where
    pub at : ℕ
    pub in_part : IsInPart index.starts.items (part_of heading (get_or index.aims.items at 0)) at
    pub aimed : leads (get_or index.aims.items at 0)
    pub covers : CoversAt on rules asked.source asked.target asked.class at bit

  found_at : (leads : ℕ → Type 0) (heading aim at : ℕ) → IsFoundAt index heading aim at → leads aim → CoversAt on rules asked.source asked.target asked.class at bit → IsFound leads heading
  found_at leads heading aim at found aimed covers = record {
    at = at;
    in_part = subst (λ a. IsInPart index.starts.items (part_of heading a) at) (sym found.aim_is) found.in_part;
    aimed = subst leads (sym found.aim_is) aimed;
    covers = covers;
  }

-- it is found by the target, or by its sources
module _ (on : ℕ → Bool) (branches : List Branch) (sets : List (List ℕ)) (records : List Record) (index : Index) (is : IsIndex sets records index) (m : Memberships) (hold : AreMemberships sets m)
    (asked : Asked) (sources targets : Aims) (are_sources : AreAims m (turned asked) sources) (are_targets : AreAims m asked targets) (bit : ℕ) where
  -- by the target
  abbrev pub IsByTarget : Type 0
  IsByTarget = IsFound on (map (rule_of branches sets) records) asked index bit (Leads sources) (length sets + alone_key asked.target)

  -- by a set that has the source
  pub record IsBySource : Type 0 where
    pub number : ℕ
    pub has_source : Contains (set_of sets number) asked.source
    pub found : IsFound on (map (rule_of branches sets) records) asked index bit (IsAmongSeveral targets) number

  by_record : (k : Record) (place : ℕ) → IsFoundAt index (heading_of_record sets k) (aim_of_record sets k) place → Covers on (rule_of branches sets k) asked.source asked.target asked.class bit
      → CoversAt on (map (rule_of branches sets) records) asked.source asked.target asked.class place bit → IsByTarget ⊎ IsBySource
  by_record k place found covers there =
      let key = target_key sets k.target k.source in
      let reach = target_reached sets m asked hold k.target k.source covers.has_source covers.has_target in
      let of_class = covers.of_class in
      elim (cases_lt key several) [
        | inl less ↦
            let is_alone : key ≡ alone_key asked.target = elim (reach_cases m asked key reach) [ inl e ↦ e | inr w ↦ let low = w.0 in absurd (omega (arith, low, less)) ] in
            let heading : length sets + alone_key asked.target ≡ heading_of_record sets k = ap (λ z. length sets + z) (sym is_alone) ∙ heading_of_type sets k.source key less in
            let side = key_of_set (set_key k.source) (set_of sets k.source) in
            let aim : aim_of_record sets k ≡ aim_of (in_class asked.class) side = ap (λ (c : ℕ). aim_of (in_class c) (other_side sets k.source key)) of_class ∙ ap (aim_of (in_class asked.class)) (sym (side_of_type sets k.source key less)) in
            inl (found_at on (map (rule_of branches sets) records) asked index bit (Leads sources) _ _ place (subst (λ h. IsFoundAt index h (aim_of_record sets k) place) (sym heading) found)
            (leads m (turned asked) sources are_sources (aim_of_record sets k) side aim (source_reached sets m asked hold k.source covers.has_source)) there)
        | inr over ↦
            let aim : aim_of_record sets k ≡ aim_of (in_class asked.class) key = ap (λ (c : ℕ). aim_of (in_class c) (other_side sets k.source key)) of_class ∙ ap (aim_of (in_class asked.class)) (sym (side_of_set sets k.source key over)) in
            inr (record {
              number = k.source;
              has_source = covers.has_source;
              found = found_at on (map (rule_of branches sets) records) asked index bit (IsAmongSeveral targets) _ _ place (subst (λ h. IsFoundAt index h (aim_of_record sets k) place) (sym (heading_of_set sets k.source key over)) found)
                  (among m asked targets are_targets (aim_of_record sets k) key aim over reach) there;
            })
      ]

  pub found_by : HasCover on (map (rule_of branches sets) records) asked.source asked.target asked.class bit → IsByTarget ⊎ IsBySource
  found_by covered =
      let (k, is_kept, made) = from_map (rule_of branches sets) records covered.rule covered.is_rule in
      let at = get_at records k is_kept in
      let covers : Covers on (rule_of branches sets k) asked.source asked.target asked.class bit = subst (λ (r : Rule). Covers on r asked.source asked.target asked.class bit) (sym made) covered.covers in
      by_record k at.0 (is.each at.0 k at.2) covers (record {
        rule = rule_of branches sets k;
        is_there = slice_get-map (rule_of branches sets) records at.0 ∙ ap (option_map (rule_of branches sets)) at.2;
        covers = covers;
      })

-- where there are no aims, no rule covers anything
pub no_rule : (on : ℕ → Bool) (branches : List Branch) (sets : List (List ℕ)) (records : List Record) (index : Index) (s t c bit : ℕ) → IsIndex sets records index → length index.aims.items ≡ 0
    → HasCover on (map (rule_of branches sets) records) s t c bit → ⊥
no_rule on branches sets records index s t c bit is none covered =
    let (k, is_kept, made) = from_map (rule_of branches sets) records covered.rule covered.is_rule in
    let at = get_at records k is_kept in
    let found = is.each at.0 k at.2 in
    let high = found.in_part.ends in
    let past = is.laid_out.within (part_of (heading_of_record sets k) (aim_of_record sets k) + 1) in omega (arith, past, high, none)

-- ---- sources, one after another

module _ (on : ℕ → Bool) (rules : List Rule) (leads : ℕ → Type 0) (asked : Asked) (index : Index) where
  -- a heading behind the last one with a start has no rules
  pub none_behind : (n mask : ℕ) → length index.starts.items ≤ n + 1 → Hands on rules leads asked index n mask
  none_behind n mask past at bit of = absurd (none_past index.starts.items (part_of n (get_or index.aims.items at 0)) at (omega (arith, past)) of)

module _ (on : ℕ → Bool) (rules : List Rule) (leads : ℕ → Type 0) (asked : Asked) (index : Index) (numbers : List ℕ) where
  -- a source is one of the first
  abbrev pub IsAmong : (i n : ℕ) → Type 0
  IsAmong i n = (k : ℕ) × (k < i) × (get_or numbers k n ≡ n)

  -- the mask has what the rules of the first sources cover, and nothing that no rule covers
  pub record AreJoined (i mask : ℕ) : Type 0 where
    pub sound : (bit : ℕ) → IsBitSet mask bit → HasCover on rules asked.source asked.target asked.class bit
    pub all : HandOver on rules leads asked index (IsAmong i) mask

  pub none_joined : AreJoined 0 0
  none_joined = record { sound = λ bit set. absurd (none_set bit set); all = λ n (k, below, is) at bit of aimed covers. absurd (omega (arith, below)) }

  pub joined_source : (i number mask more : ℕ) → i < length numbers → number ≡ get_or numbers i number → AreJoined i mask
      → ((bit : ℕ) → IsBitSet more bit → HasCover on rules asked.source asked.target asked.class bit) → Hands on rules leads asked index number more → AreJoined (i + 1) (bit_or mask more)
  joined_source i number mask more within here so_far sound all = record {
    sound = λ bit set. elim ((set_in_either mask more bit).0 set) [ inl x ↦ so_far.sound bit x | inr x ↦ sound bit x ];
    all = λ n (k, below, is) at bit of aimed covers. (set_in_either mask more bit).1 (elim (cases_lt k i) [
      | inl before ↦ inl (so_far.all n (k, before, is) at bit of aimed covers)
      | inr ge ↦ let same : k ≡ i = omega (arith, ge, below) in
          let one : n ≡ number = sym is ∙ ap (λ j. get_or numbers j n) same ∙ get_or_default numbers i n number within ∙ sym here in
          inr (all at bit (subst (λ j. IsInPart index.starts.items (part_of j (get_or index.aims.items at 0)) at) one of) aimed covers)
    ]);
  }

  pub all_sources : (i mask : ℕ) → length numbers ≤ i → AreJoined i mask → HandOver on rules leads asked index (λ n. Contains numbers n) mask
  all_sources i mask over so_far n (k, within, is) at bit of aimed covers = so_far.all n (k, omega (arith, within, over), is) at bit of aimed covers

-- ---- the sets that are asked for every type, one after another

module _ (on : ℕ → Bool) (rules : List Rule) (leads : ℕ → Type 0) (asked : Asked) (index : Index) (first : ℕ) where
  -- the mask has what the rules of the sources from the first on and below a number cover, and nothing that no rule covers
  pub record AreJoinedFrom (number mask : ℕ) : Type 0 where
    pub sound : (bit : ℕ) → IsBitSet mask bit → HasCover on rules asked.source asked.target asked.class bit
    pub all : HandOver on rules leads asked index (λ n. (first ≤ n) × (n < number)) mask

  pub none_joined_from : AreJoinedFrom first 0
  none_joined_from = record { sound = λ bit set. absurd (none_set bit set); all = λ n (ge, below) at bit of aimed covers. absurd (omega (arith, ge, below)) }

  pub joined_next : (mask more number : ℕ) → AreJoinedFrom number mask → ((bit : ℕ) → IsBitSet more bit → HasCover on rules asked.source asked.target asked.class bit)
      → Hands on rules leads asked index number more → AreJoinedFrom (number + 1) (bit_or mask more)
  joined_next mask more number so_far sound all = record {
    sound = λ bit set. elim ((set_in_either mask more bit).0 set) [ inl x ↦ so_far.sound bit x | inr x ↦ sound bit x ];
    all = λ n (ge, below) at bit of aimed covers. (set_in_either mask more bit).1 (elim (cases_lt n number) [
      | inl before ↦ inl (so_far.all n (ge, before) at bit of aimed covers)
      | inr past ↦ let same : n ≡ number = omega (arith, below, past) in
          inr (all at bit (subst (λ k. IsInPart index.starts.items (part_of k (get_or index.aims.items at 0)) at) same of) aimed covers)
    ]);
  }

  pub joined_to : (number end mask : ℕ) → end ≤ number → AreJoinedFrom number mask → HandOver on rules leads asked index (λ n. (first ≤ n) × (n < end)) mask
  joined_to number end mask over so_far n (ge, below) = so_far.all n (ge, omega (arith, below, over))

-- what is covered is found by the target, by the set of the source alone, by a large set or by one that is noted for the source
module _ (on : ℕ → Bool) (branches : List Branch) (sets : List (List ℕ)) (records : List Record) (index : Index) (is : IsIndex sets records index) (asked : Asked)
    (m : Memberships) (hold : AreMemberships sets m) (sources targets : Aims) (are_sources : AreAims m (turned asked) sources) (are_targets : AreAims m asked targets)
    (target alone large own : ℕ)
    (by_target : Hands on (map (rule_of branches sets) records) (Leads sources) asked index (length sets + alone_key asked.target) target)
    (by_alone : HandOver on (map (rule_of branches sets) records) (IsAmongSeveral targets) asked index (λ n. n ≡ suc asked.source) alone)
    (by_large : HandOver on (map (rule_of branches sets) records) (IsAmongSeveral targets) asked index (λ n. (m.first_large ≤ n) × (n < length sets)) large)
    (by_own : HandOver on (map (rule_of branches sets) records) (IsAmongSeveral targets) asked index (λ n. Contains (get_or m.lists.items asked.source []) n) own) where
  by_sources : (bit : ℕ) → IsBySource on branches sets records index is m hold asked sources targets are_sources are_targets bit → IsBitSet (bit_or (bit_or (bit_or target alone) large) own) bit
  by_sources bit f = (set_in_either (bit_or (bit_or target alone) large) own bit).1 (elim (hold.known f.number asked.source f.has_source) [
    | inl one ↦ inl ((set_in_either (bit_or target alone) large bit).1 (inl ((set_in_either target alone bit).1 (inr (by_alone f.number one.has_number f.found.at bit f.found.in_part f.found.aimed f.found.covers)))))
    | inr known ↦ elim known [
      | inl past ↦ inl ((set_in_either (bit_or target alone) large bit).1 (inr (by_large f.number (past, set_within sets f.number asked.source f.has_source) f.found.at bit f.found.in_part f.found.aimed f.found.covers)))
      | inr member ↦ inr (by_own f.number member f.found.at bit f.found.in_part f.found.aimed f.found.covers)
    ]
  ])

  pub in_one_of : (bit : ℕ) → HasCover on (map (rule_of branches sets) records) asked.source asked.target asked.class bit → IsBitSet (bit_or (bit_or (bit_or target alone) large) own) bit
  in_one_of bit covered = elim (found_by on branches sets records index is m hold asked sources targets are_sources are_targets bit covered) [
    | inl f ↦ (set_in_either (bit_or (bit_or target alone) large) own bit).1 (inl ((set_in_either (bit_or target alone) large bit).1 (inl ((set_in_either target alone bit).1 (inl (by_target f.at bit f.in_part f.aimed f.covers))))))
    | inr f ↦ by_sources bit f
  ]

-- nothing else is
module _ (on : ℕ → Bool) (rules : List Rule) (s t c target alone large own : ℕ) where
  abbrev pub AreSound : ℕ → Type 0
  AreSound mask = (bit : ℕ) → IsBitSet mask bit → HasCover on rules s t c bit

  sound_both : (x y : ℕ) → AreSound x → AreSound y → AreSound (bit_or x y)
  sound_both x y one two bit set = elim ((set_in_either x y bit).0 set) [ inl a ↦ one bit a | inr b ↦ two bit b ]

  pub only_these : AreSound target → AreSound alone → AreSound large → AreSound own → AreSound (bit_or (bit_or (bit_or target alone) large) own)
  only_these one two three four = sound_both (bit_or (bit_or target alone) large) own (sound_both (bit_or target alone) large (sound_both target alone one two) three) four

-- ---- the rule at a place

pub at_rule : (on : ℕ → Bool) (rules : List Rule) (place : ℕ) (r : Rule) (source target class_ : ℕ) → slice_get rules place ≡ Some r → Matches on r source target class_ → (bit : ℕ)
    → IsBitSet r.mask bit ↔ CoversAt on rules source target class_ place bit
at_rule on rules place r source target class_ at fits bit = (
  λ s. record {
    rule = r;
    is_there = at;
    covers = record { active = fits.active; has_source = fits.has_source; has_target = fits.has_target; of_class = fits.of_class; permits = s };
  },
  λ c. subst (λ (z : Rule). IsBitSet z.mask bit) (some_same c.rule r (sym c.is_there ∙ at)) c.covers.permits,
)

pub at_other : (on : ℕ → Bool) (rules : List Rule) (place : ℕ) (r : Rule) (source target class_ : ℕ) → slice_get rules place ≡ Some r → (Matches on r source target class_ → ⊥) → (bit : ℕ)
    → IsBitSet 0 bit ↔ CoversAt on rules source target class_ place bit
at_other on rules place r source target class_ at differs bit = (
  λ s. absurd (none_set bit s),
  λ c. absurd (differs (subst (λ (z : Rule). Matches on z source target class_) (some_same c.rule r (sym c.is_there ∙ at))
      (record { active = c.covers.active; has_source = c.covers.has_source; has_target = c.covers.has_target; of_class = c.covers.of_class }))),
)

pub at_none : (on : ℕ → Bool) (rules : List Rule) (place : ℕ) (source target class_ : ℕ) → slice_get rules place ≡ None → (bit : ℕ)
    → IsBitSet 0 bit ↔ CoversAt on rules source target class_ place bit
at_none on rules place source target class_ at bit = (
  λ s. absurd (none_set bit s),
  λ c. absurd (none_some c.rule (sym at ∙ c.is_there)),
)

-- ---- whether a set has a type

-- one of several types that is not large has just those for which it is noted
pub held_as_noted : (sets : List (List ℕ)) (m : Memberships) (set t : ℕ) (answer : Bool) → AreMemberships sets m → IsNotedSet m set
    → IsTrue answer ↔ Contains (get_or m.lists.items t []) set → IsTrue answer ↔ Contains (set_of sets set) t
held_as_noted sets m set t answer are noted tells = (
  λ yes_. are.noted set t (tells.0 yes_),
  λ has. elim (are.known set t has) [
    | inl one ↦ let before = one.before in let from = noted.from in absurd (omega (arith, before, from))
    | inr known ↦ elim known [ inl past ↦ let below = noted.below in absurd (omega (arith, past, below)) | inr member ↦ tells.1 member ]
  ],
)

-- ---- a set that is known to have the source

pub known_has : (o : Option ℕ) (set : ℕ) (P : ℕ → Type 0) → o ≡ Some set → IfSome o P → P set
known_has o set P is p = subst (λ (z : Option ℕ). IfSome z P) is p

pub yes_both : (P : Type 0) → P → IsTrue true ↔ P
yes_both P p = (λ t. p, λ q. refl)
