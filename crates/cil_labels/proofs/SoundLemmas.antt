-- The label of a text, and that it has no other.
use Rattle.std.specs.Prelude.{◌≡◌, ◌↔◌, ℕ, ◌<◌, Bool, true, false, IfSome, IsSomeAnd, IsTrue, List, MatchOption, Option, None, Some, slice_get}
use Rattle.std.proofs.Common.{refl, sym, ◌∙◌, subst}
use Rattle.cil_base.specs.Places.{none_some, some_same}
use Rattle.cil_mls.specs.declared.categories.Categories.{Categories}
use Rattle.cil_mls.specs.declared.level.Level.{Level}
use Rattle.cil_mls.specs.declared.level.Range.{Range}
use Rattle.cil_mls.specs.Bits.{AreWords, in_words}
use Rattle.cil_mls.specs.Dominance.{AreSame, Dominates, IsIn, no_level}
use Rattle.cil_mls.specs.LevelTexts.{IsLevelText, IsParted, IsRangeText, IsWithout, one_level, two_levels}
use Rattle.cil_mls.specs.Names.{IsNamed, IsRangeOf, NamesOfLevels}
use Rattle.cil_mls.proofs.NameLemmas.{named_once}
use Rattle.cil_mls.proofs.PartLemmas.{not_parted, parted_once}
use Rattle.cil_mls.proofs.SameLemmas.{one_level_of, same_levels}
use Rattle.cil_labels.specs.declared.label.Label.{Label}
use Rattle.cil_labels.specs.Index.{AreIndexed}
use Rattle.cil_labels.specs.Labels.{plain, levelled}
use Rattle.cil_labels.specs.LevelTable.{IsCleared, IsLabelOf, LevelTable, NamesPlace, PermitsBy}
use Rattle.cil_labels.specs.Sound.{IsOneSound, IsSoundIn, IsSoundText}
use Rattle.cil_labels.proofs.LabelLemmas.{range_moved}

-- ---- what a sensitivity permits

module _ (permitted : List Categories) (n : ℕ) (l : Level) (answer : Bool) where
  -- a place of no sensitivity permits none
  pub none_permitted : slice_get permitted n ≡ None → (none : List ℕ) → ((c : ℕ) → in_words none c ≡ false)
      → IsTrue answer ↔ ((c : ℕ) → c < 1024 → IsIn l c → in_words none c ≡ true) → IsTrue answer ↔ ((c : ℕ) → c < 1024 → IsIn l c → PermitsBy permitted n c)
  none_permitted missing none empty says = (
    λ e c less i. absurd (let f : false ≡ true = sym (empty c) ∙ says.0 e c less i in cc),
    λ all. says.1 (λ c less i. let p = all c less i in absurd (none_some p.set (sym missing ∙ p.is_set))),
  )

  pub set_permits : (set : Categories) → slice_get permitted n ≡ Some set
      → IsTrue answer ↔ ((c : ℕ) → c < 1024 → IsIn l c → in_words set.words c ≡ true) → IsTrue answer ↔ ((c : ℕ) → c < 1024 → IsIn l c → PermitsBy permitted n c)
  set_permits set at says = (
    λ e c less i. record { set = set; is_set = at; has = says.0 e c less i },
    λ all. says.1 (λ c less i. let p = all c less i in subst (λ (s : Categories). in_words s.words c ≡ true) (some_same p.set set (sym p.is_set ∙ at)) p.has),
  )

-- ---- sound ranges

module _ (t : LevelTable) (low high : Level) (answer : Bool) where
  -- where what is permitted to a level is asked, and is not
  pub unsound_low : (ps : List Categories) → ps ≡ t.permitted → IsTrue answer ↔ ((c : ℕ) → c < 1024 → IsIn low c → PermitsBy ps low.sensitivity c) → answer ≡ false → IsTrue false ↔ IsSoundIn t low high
  unsound_low ps same says refused = (
    λ f. absurd (let g : false ≡ true = f in cc),
    λ s. absurd (let e = says.1 (λ c less i. subst (λ qs. PermitsBy qs low.sensitivity c) (sym same) (s.of_low.permitted c less i)) in cc),
  )

  pub unsound_high : (ps : List Categories) → ps ≡ t.permitted → IsTrue answer ↔ ((c : ℕ) → c < 1024 → IsIn high c → PermitsBy ps high.sensitivity c) → answer ≡ false → IsTrue false ↔ IsSoundIn t low high
  unsound_high ps same says refused = (
    λ f. absurd (let g : false ≡ true = f in cc),
    λ s. absurd (let e = says.1 (λ c less i. subst (λ qs. PermitsBy qs high.sensitivity c) (sym same) (s.of_high.permitted c less i)) in cc),
  )

  -- where both are permitted, dominance is what is left
  pub sound_so : AreWords low.categories.words → AreWords high.categories.words → (ps qs : List Categories) → ps ≡ t.permitted → qs ≡ t.permitted
      → ((c : ℕ) → c < 1024 → IsIn low c → PermitsBy ps low.sensitivity c) → ((c : ℕ) → c < 1024 → IsIn high c → PermitsBy qs high.sensitivity c)
      → IsTrue answer ↔ Dominates high low → IsTrue answer ↔ IsSoundIn t low high
  sound_so a b ps qs same_ps same_qs of_low of_high says = (
    λ e. record {
      of_low = record { words = a; permitted = λ c less i. subst (λ rs. PermitsBy rs low.sensitivity c) same_ps (of_low c less i) };
      of_high = record { words = b; permitted = λ c less i. subst (λ rs. PermitsBy rs high.sensitivity c) same_qs (of_high c less i) };
      dominates = says.0 e;
    },
    λ s. says.1 s.dominates,
  )

-- ---- clearance

module _ (t : LevelTable) (user : ℕ) (low high : Level) where
  pub none_cleared : slice_get t.users user ≡ None → IsTrue false ↔ IsCleared t user low high
  none_cleared missing = (λ f. absurd (let g : false ≡ true = f in cc), λ is. absurd (none_some is.range (sym missing ∙ is.is_range)))

  module _ (r : Range) (at : slice_get t.users user ≡ Some r) (answer : Bool) where
    -- the low level does not dominate that of the user
    pub not_from : IsTrue answer ↔ Dominates low r.low → answer ≡ false → IsTrue answer ↔ IsCleared t user low high
    not_from says refused = (
      λ e. absurd (let f : false ≡ true = sym refused ∙ e in cc),
      λ is. says.1 (subst (λ (q : Range). Dominates low q.low) (some_same is.range r (sym is.is_range ∙ at)) is.from),
    )

    -- it does, and the high level is what is left
    pub cleared_to : Dominates low r.low → IsTrue answer ↔ Dominates r.high high → IsTrue answer ↔ IsCleared t user low high
    cleared_to from says = (
      λ e. record { range = r; is_range = at; from = from; to = says.0 e },
      λ is. says.1 (subst (λ (q : Range). Dominates q.high high) (some_same is.range r (sym is.is_range ∙ at)) is.to),
    )

-- ---- the one range of a text

module _ (S C : List ℕ → ℕ → Type 0) (same_s : (t : List ℕ) (n m : ℕ) → S t n → S t m → n ≡ m) where
  range_once : (text : List ℕ) (l h a b : Level) → IsRangeText S C text l h → IsRangeText S C text a b → AreSame l a × AreSame h b
  range_once text l h a b (one_level t m w is) (one_level u k v it) = (one_level_of S C same_s text l a is it, one_level_of S C same_s text l a is it)
  range_once text l h a b (one_level t m w is) (two_levels u f r c d part p q) = absurd (not_parted 45 text f r w part)
  range_once text l h a b (two_levels u f r c d part p q) (one_level t m w is) = absurd (not_parted 45 text f r w part)
  range_once text l h a b (two_levels t f r c d part p q) (two_levels u g s e k other x y) =
      let both = parted_once 45 text f g r s part other in
      (one_level_of S C same_s f l a p (subst (λ z. IsLevelText S C z a) (sym both.0) x), one_level_of S C same_s r h b q (subst (λ z. IsLevelText S C z b) (sym both.1) y))

module _ (t : LevelTable) (ns : NamesOfLevels) (indexed : AreIndexed t ns) (text : List ℕ) where
  abbrev Sensitivity : List ℕ → ℕ → Type 0
  Sensitivity = NamesPlace t.sensitivities t.sensitivity_aliases

  abbrev Category : List ℕ → ℕ → Type 0
  Category = NamesPlace t.categories t.category_aliases

  abbrev IsRangeHere : Level → Level → Type 0
  IsRangeHere low high = IsRangeText Sensitivity Category text low high

  one_place : (name : List ℕ) (n m : ℕ) → Sensitivity name n → Sensitivity name m → n ≡ m
  one_place name n m a b =
      named_once ns.sensitivities indexed.sensitivities.are_names.rising name n m ((indexed.sensitivities.same name n).1 a) ((indexed.sensitivities.same name m).1 b)

  by_table : (low high : Level) → IsRangeText (IsNamed ns.sensitivities) (IsNamed ns.categories) text low high → IsRangeHere low high
  by_table low high is = range_moved (IsNamed ns.sensitivities) Sensitivity (IsNamed ns.categories) Category indexed.sensitivities.same indexed.categories.same text low high is

  by_index : (low high : Level) → IsRangeHere low high → IsRangeText (IsNamed ns.sensitivities) (IsNamed ns.categories) text low high
  by_index low high is =
      range_moved Sensitivity (IsNamed ns.sensitivities) Category (IsNamed ns.categories) (λ u n. ((indexed.sensitivities.same u n).1, (indexed.sensitivities.same u n).0))
      (λ u n. ((indexed.categories.same u n).1, (indexed.categories.same u n).0)) text low high is

  -- what is no range has no sound one
  pub no_range : ((r : Range) → IsRangeOf ns text r → ⊥) → (l h : Level) → IsSoundText t text l h → ⊥
  no_range none l h is = none (record { low = l; high = h }) (by_index l h is.is_text)

  module _ (r : Range) (is : IsRangeOf ns text r) (low : AreWords r.low.categories.words) (high : AreWords r.high.categories.words) where
    same_range : (l h : Level) → IsSoundText t text l h → (r.low ≡ l) × (r.high ≡ h)
    same_range l h it =
        let both = range_once Sensitivity Category one_place text r.low r.high l h (by_table r.low r.high is) it.is_text in
        (same_levels r.low l low it.sound.of_low.words both.0, same_levels r.high h high it.sound.of_high.words both.1)

    -- where its range is not sound, no other one is
    pub not_sound : (IsSoundIn t r.low r.high → ⊥) → (l h : Level) → IsSoundText t text l h → ⊥
    not_sound none l h it =
        let same = same_range l h it in none (subst (λ a. IsSoundIn t a r.high) (sym same.0) (subst (λ b. IsSoundIn t l b) (sym same.1) it.sound))

    pub one_sound : IsSoundIn t r.low r.high → IsOneSound t text r.low r.high
    one_sound sound = record { is = record { is_text = by_table r.low r.high is; sound = sound }; only = same_range }

-- ---- labels

module _ (t : LevelTable) (text : List ℕ) where
  -- where contexts have no levels, the text is the type alone
  module _ (off : t.are_on ≡ true → ⊥) where
    plain_label : (kind : List ℕ) (low high : Level) → IsWithout 58 text → kind ≡ text → low ≡ no_level → high ≡ no_level → IsLabelOf t text kind low high
    plain_label kind low high w k l h =
        subst (λ z. IsLabelOf t text z low high) (sym k) (subst (λ z. IsLabelOf t text text z high) (sym l) (subst (λ z. IsLabelOf t text text no_level z) (sym h) (plain text off w)))

    its_parts : (kind : List ℕ) (low high : Level) → IsLabelOf t text kind low high → (text ≡ kind) × (no_level ≡ low) × (no_level ≡ high)
    its_parts kind low high (plain k f w) = (refl, refl, refl)
    its_parts kind low high (levelled u k range l h on part is sound) = absurd (off on)

    no_plain : (IsWithout 58 text → ⊥) → (kind : List ℕ) (low high : Level) → IsLabelOf t text kind low high → ⊥
    no_plain none kind low high (plain k f w) = none w
    no_plain none kind low high (levelled u k range l h on part is sound) = absurd (off on)

    abbrev IsPlain : Option Label → Type 0
    IsPlain o = MatchOption o (IsWithout 58 text → ⊥) (λ l. IsWithout 58 text × (l.kind.now ≡ text) × (l.low ≡ no_level) × (l.high ≡ no_level))

    pub plain_found : (o : Option Label) → IsPlain o → IfSome o (λ l. IsLabelOf t text l.kind.now l.low l.high)
    plain_found None none = tt
    plain_found (Some l) is = plain_label l.kind.now l.low l.high is.0 is.1 is.2 is.3

    pub plain_only : (o : Option Label) → IsPlain o → (kind : List ℕ) (low high : Level) → IsLabelOf t text kind low high
        → IsSomeAnd o (λ l. (l.kind.now ≡ kind) × (l.low ≡ low) × (l.high ≡ high))
    plain_only None none kind low high is = no_plain none kind low high is
    plain_only (Some l) made kind low high is = let parts = its_parts kind low high is in (made.1 ∙ parts.0, made.2 ∙ parts.1, made.3 ∙ parts.2)

  -- where they have some, they are behind the first colon
  module _ (on : t.are_on ≡ true) where
    pub no_levels : IsWithout 58 text → (kind : List ℕ) (low high : Level) → IsLabelOf t text kind low high → ⊥
    no_levels w kind low high (plain k off v) = off on
    no_levels w kind low high (levelled u k range l h o part is sound) = not_parted 58 text kind range w part

    module _ (first rest : List ℕ) (part : IsParted 58 text first rest) where
      sound_of : (kind : List ℕ) (low high : Level) → IsLabelOf t text kind low high → (first ≡ kind) × IsSoundText t rest low high
      sound_of kind low high (plain k off v) = absurd (off on)
      sound_of kind low high (levelled u k range l h o other is sound) =
          let both = parted_once 58 text first kind rest range part other in
          (both.0, record { is_text = subst (λ z. IsRangeText (NamesPlace t.sensitivities t.sensitivity_aliases) (NamesPlace t.categories t.category_aliases) z low high) (sym both.1) is; sound = sound })

      pub no_sound : ((l h : Level) → IsSoundText t rest l h → ⊥) → (kind : List ℕ) (low high : Level) → IsLabelOf t text kind low high → ⊥
      no_sound none kind low high is = none low high (sound_of kind low high is).1

      pub levels_label : (low high : Level) → IsOneSound t rest low high → IsLabelOf t text first low high
      levels_label low high one = levelled text first rest low high on part one.is.is_text one.is.sound

      pub levels_only : (low high : Level) → IsOneSound t rest low high → (kind : List ℕ) (l h : Level) → IsLabelOf t text kind l h → (first ≡ kind) × (low ≡ l) × (high ≡ h)
      levels_only low high one kind l h is =
          let (named, it) = sound_of kind l h is in
          let same = one.only l h it in
          (named, same.0, same.1)
