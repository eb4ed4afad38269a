-- The settings of booleans by numbers and by names.
use Rattle.std.specs.Int.{bit_at}
use Rattle.std.specs.Prelude.{◌↔◌, ◌/◌, ◌%◌, Bool, true, false, Contains, Some, get_or, if◌then◌else◌, slice_get}
use Rattle.std.specs.List.{AllByRecursion}
use Rattle.std.specs.List.Sorted.{IsStrictlySortedBy}
use Rattle.std.specs.Cmp.Lexicographic.{bytes_decides}
use Rattle.std.specs.declared.cmp.Ordering.TheVariants.{Less}
use Rattle.std.proofs.Common.{◌≡◌, ℕ, zero, suc, ◌+◌, ◌<◌, List, [], ◌∷◌, refl, sym, ◌∙◌, ap, subst, inl, inr, arith}
use Rattle.std.proofs.lemmas.Bool.{true≢false}
use Rattle.std.proofs.lemmas.Cmp.{nat_list_cmp_total}
use Rattle.std.proofs.lemmas.List.Folds.{list_any_at}
use Rattle.std.proofs.lemmas.Map.Lookups.{exact_bytes}
use Rattle.std.proofs.lemmas.Map.Views.{Contains-from_any}
use Rattle.std.proofs.lemmas.Nat.Bits.{bit_at-lt}
use Rattle.std.proofs.lemmas.Option.{same_Some}
use Rattle.cil_base.specs.Lists.{Lists, contains_cases, contains_here, contains_later, contains_none, text_cmp}
use Rattle.cil_base.specs.Places.{get_at, get_contains, none_some}
use Rattle.cil_base.proofs.SearchLemmas.{one_number}
use Rattle.cil_syntax.specs.declared.kind.Kind.TheVariants as kinds
use Rattle.cil_syntax.specs.Spelling.{same_bytes}
use Rattle.cil_table_bytes.specs.names_crate.Declarations.{name_of}
use Rattle.cil_table_bytes.specs.conditions.Bits.{IsOn, is_on, is_one}
use Rattle.cil_table_bytes.specs.conditions.Spelled.{AreSameSettings}
use Rattle.cil_table_bytes.proofs.classes_lemmas.BitLemmas.{set_is_one}
use Rattle.cil_table_bytes.specs.tables.Agrees.{Compiles}
use Rattle.cil_table_bytes.specs.tables.Booleans.{is_default_on}
use Rattle.cil_table_bytes.specs.tables.Named.{IsNameOf}
use Rattle.cil_table_bytes.specs.tables.Table.{Table, boolean_names}
use Rattle.cil_table_bytes.proofs.tables_lemmas.CompileLemmas.{policy_moved}
use Rattle.cil_avc.specs.decide_crate.Decides.{IsOnAtFirst}
use Rattle.cil_avc.proofs.decide_lemmas.BooleanLemmas.{at_name}
use Rattle.cil_host.specs.Settings.{IsDefaultOn, IsSetTo, on_from, on_in, on_names}

-- ---- bits

one_true : (v : ℕ) → v < 2 → (v ≡ 1) ↔ (is_one v ≡ true)
one_true zero small = (λ e. absurd (omega (arith, e)), λ e. absurd (true≢false (sym e)))
one_true (suc zero) small = (λ e. refl, λ e. refl)
one_true (suc (suc v)) small = absurd (omega (arith, small))

-- the bit of a number, as a test
pub on_true : (words : List ℕ) (n : ℕ) → IsOn words n ↔ (is_on words n ≡ true)
on_true words n =
    let word = get_or words (n / 64) 0 in
    let set = set_is_one word (n % 64) in
    let one = one_true (bit_at word (n % 64)) (bit_at-lt word (n % 64)) in
    (λ on. one.0 (set.0 on), λ e. set.1 (one.1 e))

same_bool : (a b : Bool) → (a ≡ true → b ≡ true) → (b ≡ true → a ≡ true) → a ≡ b
same_bool true b there back = sym (there refl)
same_bool false true there back = back refl
same_bool false false there back = refl

-- ---- names that are on

-- a name that is on is one of the names, and its number is on
on_there : (n : ℕ) (on : ℕ → Bool) (names : List (List ℕ)) (name : List ℕ) → Contains (on_from n on names) name
    → (k : ℕ) × (slice_get names k ≡ Some name) × (on (n + k) ≡ true)
unfolding on_from
on_there n on [] name c = absurd (contains_none name c)
on_there n on (x ∷ names) name c = go (on n) refl (on_there (suc n) on names name) c
  where
    later : (k : ℕ) × (slice_get names k ≡ Some name) × (on (suc n + k) ≡ true) → (k : ℕ) × (slice_get (x ∷ names) k ≡ Some name) × (on (n + k) ≡ true)
    later r = let e : suc n + r.0 ≡ n + suc r.0 = omega arith in (suc r.0, r.1, sym (ap on e) ∙ r.2)

    go : (b : Bool) → on n ≡ b → (Contains (on_from (suc n) on names) name → (k : ℕ) × (slice_get names k ≡ Some name) × (on (suc n + k) ≡ true))
        → Contains (if b then x ∷ on_from (suc n) on names else on_from (suc n) on names) name → (k : ℕ) × (slice_get (x ∷ names) k ≡ Some name) × (on (n + k) ≡ true)
    go true e again d = elim (contains_cases name x (on_from (suc n) on names) d) [
      | inl same ↦ let z : n + 0 ≡ n = omega arith in (0, ap Some same, ap on z ∙ e)
      | inr f ↦ later (again f)
    ]
    go false e again d = later (again d)

on_back : (n : ℕ) (on : ℕ → Bool) (names : List (List ℕ)) (k : ℕ) (name : List ℕ) → slice_get names k ≡ Some name → on (n + k) ≡ true → Contains (on_from n on names) name
unfolding on_from
on_back n on [] k name at is = absurd (none_some name at)
on_back n on (x ∷ names) zero name at is =
    let z : n + 0 ≡ n = omega arith in
    subst (λ b. Contains (if b then x ∷ on_from (suc n) on names else on_from (suc n) on names) name) (sym (sym (ap on z) ∙ is))
    (subst (Contains (x ∷ on_from (suc n) on names)) (same_Some _ _ at) (contains_here x (on_from (suc n) on names)))
on_back n on (x ∷ names) (suc k) name at is =
    let e : n + suc k ≡ suc n + k = omega arith in go (on n) (on_back (suc n) on names k name at (sym (ap on e) ∙ is))
  where
    go : (b : Bool) → Contains (on_from (suc n) on names) name → Contains (if b then x ∷ on_from (suc n) on names else on_from (suc n) on names) name
    go true c = contains_later name x (on_from (suc n) on names) c
    go false c = c

name_on : (on : ℕ → Bool) (names : List (List ℕ)) (name : List ℕ) → Contains (on_names on names) name → (k : ℕ) × (slice_get names k ≡ Some name) × (on k ≡ true)
name_on on names name c = let r = on_there 0 on names name c in let e : 0 + r.0 ≡ r.0 = omega arith in (r.0, r.1, sym (ap on e) ∙ r.2)

on_name : (on : ℕ → Bool) (names : List (List ℕ)) (k : ℕ) (name : List ℕ) → slice_get names k ≡ Some name → on k ≡ true → Contains (on_names on names) name
on_name on names k name at is = let e : 0 + k ≡ k = omega arith in on_back 0 on names k name at (ap on e ∙ is)

all_on : (P : List ℕ → Type 0) (n : ℕ) (on : ℕ → Bool) (names : List (List ℕ)) → AllByRecursion P names → AllByRecursion P (on_from n on names)
unfolding on_from
all_on P n on [] all = tt
all_on P n on (x ∷ names) all = go (on n) (all_on P (suc n) on names all.1)
  where
    go : (b : Bool) → AllByRecursion P (on_from (suc n) on names) → AllByRecursion P (if b then x ∷ on_from (suc n) on names else on_from (suc n) on names)
    go true rest = (all.0, rest)
    go false rest = rest

-- where names rise, those that are on do
on_rising : (n : ℕ) (on : ℕ → Bool) (names : List (List ℕ)) → IsStrictlySortedBy text_cmp names → IsStrictlySortedBy text_cmp (on_from n on names)
unfolding on_from IsStrictlySortedBy
on_rising n on [] up = tt
on_rising n on (x ∷ names) up = go (on n) (all_on (λ y. text_cmp x y ≡ Less) (suc n) on names up.0) (on_rising (suc n) on names up.1)
  where
    go : (b : Bool) → AllByRecursion (λ y. text_cmp x y ≡ Less) (on_from (suc n) on names) → IsStrictlySortedBy text_cmp (on_from (suc n) on names)
        → IsStrictlySortedBy text_cmp (if b then x ∷ on_from (suc n) on names else on_from (suc n) on names)
    go true all rest = (all, rest)
    go false all rest = rest

any_has : (names : List (List ℕ)) (name : List ℕ) → Contains names name → on_in names name ≡ true
any_has names name c =
    list_any_at (same_bytes name) names c.0 name c.1 (subst (λ z. same_bytes name z ≡ true) (sym c.2) ((bytes_decides name name).1 refl))

has_any : (names : List (List ℕ)) (name : List ℕ) → on_in names name ≡ true → Contains names name
has_any names name e = Contains-from_any (λ a b. (bytes_decides a b).0) name names e

module _ (names : List (List ℕ)) (up : IsStrictlySortedBy text_cmp names) where
  -- a name has one number
  one_place : (m n : ℕ) (name : List ℕ) → slice_get names m ≡ Some name → slice_get names n ≡ Some name → m ≡ n
  one_place m n name at bt = one_number (λ x. x) text_cmp nat_list_cmp_total exact_bytes names m n name name up at bt refl

  -- a name that is on has its number on
  place_on : (on : ℕ → Bool) (n : ℕ) (name : List ℕ) → slice_get names n ≡ Some name → Contains (on_names on names) name → on n ≡ true
  place_on on n name at c = let r = name_on on names name c in sym (ap on (one_place r.0 n name r.1 at)) ∙ r.2

  -- a number has the setting of its name
  pub same_setting : (on : ℕ → Bool) (n : ℕ) (name : List ℕ) → slice_get names n ≡ Some name → on n ≡ on_in (on_names on names) name
  same_setting on n name at =
      same_bool (on n) (on_in (on_names on names) name) (λ e. any_has (on_names on names) name (on_name on names n name at e))
      (λ e. place_on on n name at (has_any (on_names on names) name e))

  -- one number was set
  pub one_set : (old new : ℕ → Bool) (n : ℕ) (name : List ℕ) (value : Bool) → slice_get names n ≡ Some name → new n ≡ value → ((k : ℕ) → (k ≡ n → ⊥) → new k ≡ old k)
      → IsSetTo (on_names old names) name value (on_names new names)
  one_set old new n name value at same others = record {
    rising = on_rising 0 new names up;
    set = (λ c. sym same ∙ place_on new n name at c, λ e. on_name new names n name at (same ∙ e));
    others = λ other apart. (
      λ c. let r = name_on new names other c in
          on_name old names r.0 other r.1 (sym (others r.0 (λ e. apart (name_there r.0 other e r.1))) ∙ r.2),
      λ c. let r = name_on old names other c in
          on_name new names r.0 other r.1 (others r.0 (λ e. apart (name_there r.0 other e r.1)) ∙ r.2),
    );
  }
    where
      name_there : (k : ℕ) (other : List ℕ) → k ≡ n → slice_get names k ≡ Some other → other ≡ name
      name_there k other e there = same_Some _ _ (sym there ∙ ap (slice_get names) e ∙ at)

-- a boolean of a table was turned on or off
pub boolean_set : (names : List (List ℕ)) → IsStrictlySortedBy text_cmp names → (old new : List ℕ) (n : ℕ) (name : List ℕ) (value : Bool) → slice_get names n ≡ Some name
    → (IsOn new n ↔ (value ≡ true)) → ((k : ℕ) → (k ≡ n → ⊥) → IsOn new k ↔ IsOn old k) → IsSetTo (on_names (is_on old) names) name value (on_names (is_on new) names)
boolean_set names up old new n name value at same others =
    one_set names up (is_on old) (is_on new) n name value at
    (same_bool (is_on new n) value (λ e. same.0 ((on_true new n).1 e)) (λ e. (on_true new n).0 (same.1 e)))
    (λ k apart. same_bool (is_on new k) (is_on old k) (λ e. (on_true old k).0 ((others k apart).0 ((on_true new k).1 e)))
    (λ e. (on_true new k).0 ((others k apart).1 ((on_true old k).1 e))))

-- ---- the loaded policy

module _ (modules : List (List ℕ)) (t : Table) (compiles : Compiles modules t) where
  pub names_rise : IsStrictlySortedBy text_cmp (boolean_names t.booleans)
  names_rise = compiles.table.booleans.names.rising

  -- the settings of a host by numbers are those by names
  pub same_settings : (words : List ℕ) → AreSameSettings (boolean_names t.booleans) (is_on words) (on_in (on_names (is_on words) (boolean_names t.booleans)))
  same_settings words n b at = same_setting (boolean_names t.booleans) names_rise (is_on words) n (name_of b) at

  module _ (words : List ℕ) (first : (n : ℕ) → IsOn words n ↔ IsOnAtFirst t.booleans n) where
    default_there : (name : List ℕ) → Contains (on_names (is_on words) (boolean_names t.booleans)) name → IsDefaultOn modules name
    default_there name c =
        let r = name_on (is_on words) (boolean_names t.booleans) name c in
        let is = (first r.0).0 ((on_true words r.0).1 r.2) in
        let b = at_name t.booleans r.0 name r.1 in
        let same = same_Some _ _ (sym is.is_boolean ∙ b.1) in
        record {
          items = compiles.items;
          enabled = compiles.enabled;
          policy = compiles.policy;
          declared = (compiles.table.booleans.names.members name).0 (get_contains (boolean_names t.booleans) r.0 name r.1);
          is_on = sym (ap (is_default_on compiles.items compiles.enabled) b.2) ∙ sym (compiles.table.booleans.defaults b.0 (get_contains t.booleans r.0 b.0 b.1))
              ∙ sym (ap (λ z. z.default) same) ∙ is.default;
        }

    default_back : (name : List ℕ) → IsDefaultOn modules name → Contains (on_names (is_on words) (boolean_names t.booleans)) name
    default_back name d =
        let here = policy_moved modules d.items compiles.items d.enabled compiles.enabled d.policy compiles.policy
        (λ xs s. IsNameOf xs s kinds.Boolean name × (is_default_on xs s name ≡ true)) (d.declared, d.is_on) in
        let n = get_at (boolean_names t.booleans) name ((compiles.table.booleans.names.members name).1 here.0) in
        let b = at_name t.booleans n.0 name n.2 in
        on_name (is_on words) (boolean_names t.booleans) n.0 name n.2 ((on_true words n.0).0 ((first n.0).1 (record {
          boolean = b.0;
          is_boolean = b.1;
          default = compiles.table.booleans.defaults b.0 (get_contains t.booleans n.0 b.0 b.1) ∙ ap (is_default_on compiles.items compiles.enabled) b.2 ∙ here.1;
        })))

    -- the booleans that are on at first are those that are so by default
    pub defaults_listed : Lists text_cmp (IsDefaultOn modules) (on_names (is_on words) (boolean_names t.booleans))
    defaults_listed = record { rising = on_rising 0 (is_on words) (boolean_names t.booleans) names_rise; members = λ name. (default_there name, default_back name) }
