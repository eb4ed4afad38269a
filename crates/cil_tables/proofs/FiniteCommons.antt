-- The faults of classes with two different commons are finite.
use Rattle.std.specs.Prelude.{Contains, ◌&&◌, None, Option, Some}
use Rattle.std.specs.Cmp.Lexicographic.{bytes_decides}
use Rattle.std.specs.Option.{option_map_or}
use Rattle.std.proofs.Common.{◌≡◌, true, false, List, refl, sym, ◌∙◌, ap, subst, inl, inr}
use Rattle.std.proofs.lemmas.Bool.{and_parts}
use Rattle.std.proofs.lemmas.Option.{none-some, same_Some}
use Rattle.cil_base.specs.Decided.{Decided, decided_both, decided_not, decided_same, same_bool}
use Rattle.cil_faults.specs.Namespaces.{Namespace}
use Rattle.cil_faults.specs.Reported.{fault_at}
use Rattle.cil_faults.specs.declared.code.FaultCode.TheVariants as causes
use Rattle.cil_faults.specs.declared.fault.Fault.{Fault}
use Rattle.cil_syntax.proofs.DecidedEquality.{spaces_decide}
use Rattle.cil_syntax.specs.Forms.{two_words}
use Rattle.cil_syntax.specs.Scopes.{ScopedWord, asked, same_space}
use Rattle.cil_syntax.specs.Spelling.{same_bytes}
use Rattle.cil_syntax.specs.declared.kind.Sign.{Sign}
use Rattle.cil_syntax.specs.declared.kind.Sign.TheVariants as signs
use Rattle.cil_macros.specs.Item.{Item, is_enabled, nobody}
use Rattle.cil_names.proofs.DeclareDecided.{same_symbol, symbol_by}
use Rattle.cil_names.proofs.SharedLemmas.{named_none}
use Rattle.cil_names.specs.Declarations.{Symbol}
use Rattle.cil_names.specs.Resolves.{found_in, has, is_class_common, names_outside}
use Rattle.cil_names.specs.Shared.{IsSharing, Pair, Shares}
use Rattle.cil_classes.specs.Commons.{HasTwoCommons, IsToldTwice}
use Rattle.cil_tables.proofs.Finite.{Finite, decided_where, finite_all, finite_given, finite_if, finite_list, finite_nothing, finite_one, finite_same}

module _ (xs : List Item) where
  -- ---- what a word names

  one_named : (sign : Sign) (w : ScopedWord) (n : Namespace) → found_in xs nobody w ≡ Some n → (c : Symbol) → names_outside xs sign w c ≡ true → record { space = n; name = (asked w.bytes).name } ≡ c
  one_named sign w n found c named =
      let (front, there) = and_parts (option_map_or (λ m. same_space m c.space) (found_in xs nobody w) false && same_bytes (asked w.bytes).name c.name) (has xs nobody c.name sign c.space) named in
      let (spaced, same) = and_parts (option_map_or (λ m. same_space m c.space) (found_in xs nobody w) false) (same_bytes (asked w.bytes).name c.name) front in
      symbol_by (record { space = n; name = (asked w.bytes).name }) c
      ((spaces_decide n c.space).0 (ap (λ o. option_map_or (λ m. same_space m c.space) o false) (sym found) ∙ spaced))
      ((bytes_decides (asked w.bytes).name c.name).0 same)

  finite_named : (sign : Sign) (w : ScopedWord) → Finite (λ c. names_outside xs sign w c ≡ true)
  finite_named sign w = go (found_in xs nobody w) refl
    where
      by_name : (n : Namespace) → found_in xs nobody w ≡ Some n → Decided (names_outside xs sign w (record { space = n; name = (asked w.bytes).name }) ≡ true) → Finite (λ c. names_outside xs sign w c ≡ true)
      by_name n found (inl t) =
          finite_same (λ c. record { space = n; name = (asked w.bytes).name } ≡ c) (λ c. names_outside xs sign w c ≡ true) (λ c e. subst (λ d. names_outside xs sign w d ≡ true) e t) (one_named sign w n found)
          (finite_one (record { space = n; name = (asked w.bytes).name }))
      by_name n found (inr f) =
          finite_nothing (λ c. names_outside xs sign w c ≡ true) (λ c named. f (ap (names_outside xs sign w) (one_named sign w n found c named) ∙ named))

      go : (o : Option Namespace) → found_in xs nobody w ≡ o → Finite (λ c. names_outside xs sign w c ≡ true)
      go None none = finite_nothing (λ c. names_outside xs sign w c ≡ true) (named_none xs sign w none)
      go (Some n) found = by_name n found (same_bool (names_outside xs sign w (record { space = n; name = (asked w.bytes).name })) true)

  -- ---- what a statement shares

  finite_words : (x : Item) → Finite (λ p. two_words x.args ≡ Some p)
  finite_words x = go (two_words x.args)
    where
      go : (o : Option (ScopedWord × ScopedWord)) → Finite (λ p. o ≡ Some p)
      go None = finite_nothing (λ p. None ≡ Some p) (λ p e. none-some p e)
      go (Some q) = finite_same (λ p. q ≡ p) (λ p. Some q ≡ Some p) (λ p e. ap Some e) (λ p e. same_Some q p e) (finite_one q)

  -- the pair that these words name
  abbrev Names : ScopedWord × ScopedWord → Pair → Type 0
  Names p k = (c : Symbol) × (names_outside xs signs.PlainClass p.0 c ≡ true) × ((m : Symbol) × (names_outside xs signs.Commons p.1 m ≡ true) × (record { class_ = c; common = m } ≡ k))

  finite_pairs : (p : ScopedWord × ScopedWord) → Finite (Names p)
  finite_pairs p =
      finite_all (λ c k. (m : Symbol) × (names_outside xs signs.Commons p.1 m ≡ true) × (record { class_ = c; common = m } ≡ k)) (λ c. names_outside xs signs.PlainClass p.0 c ≡ true)
      (finite_named signs.PlainClass p.0)
      (λ c t. finite_all (λ m k. record { class_ = c; common = m } ≡ k) (λ m. names_outside xs signs.Commons p.1 m ≡ true) (finite_named signs.Commons p.1)
      (λ m u. finite_one (record { class_ = c; common = m })))

  abbrev Joins : Item → Type 0
  Joins x = (is_enabled nobody x ≡ true) × (is_class_common x.keyword ≡ true)

  finite_shares : (x : Item) → Finite (Shares xs x)
  finite_shares x =
      finite_same (λ k. Joins x × ((p : ScopedWord × ScopedWord) × (two_words x.args ≡ Some p) × Names p k)) (Shares xs x)
      (λ k h. to_shares k h.0 h.1.0 h.1.1 h.1.2)
      (λ k s. ((s.outside, s.keyword), ((s.class_word, s.common_word), s.says, (k.class_, s.names_class, (k.common, s.names_common, refl)))))
      (finite_given (Joins x) (λ k. (p : ScopedWord × ScopedWord) × (two_words x.args ≡ Some p) × Names p k)
      (decided_both (same_bool (is_enabled nobody x) true) (same_bool (is_class_common x.keyword) true))
      (finite_all Names (λ p. two_words x.args ≡ Some p) (finite_words x) (λ p e. finite_pairs p)))
    where
      to_shares : (k : Pair) → Joins x → (p : ScopedWord × ScopedWord) → two_words x.args ≡ Some p → Names p k → Shares xs x k
      to_shares k j p says n =
          subst (Shares xs x) n.2.2 (record { class_word = p.0; common_word = p.1; outside = j.0; keyword = j.1; says = says; names_class = n.1; names_common = n.2.1 })

  finite_sharing : Finite (IsSharing xs)
  finite_sharing = finite_all (Shares xs) (Contains xs) (finite_list xs) (λ x c. finite_shares x)

  -- ---- what is told

  -- two commons are joined to the class
  abbrev HaveTwo : Symbol → Type 0
  HaveTwo c = (j : Pair) × IsSharing xs j × ((l : Pair) × IsSharing xs l × ((j.class_ ≡ c) × (l.class_ ≡ c) × (j.common ≡ l.common → ⊥)))

  decided_two : (c : Symbol) → Decided (HaveTwo c)
  decided_two c =
      decided_where (IsSharing xs) (λ j. (l : Pair) × IsSharing xs l × ((j.class_ ≡ c) × (l.class_ ≡ c) × (j.common ≡ l.common → ⊥))) finite_sharing
      (λ j s. decided_where (IsSharing xs) (λ l. (j.class_ ≡ c) × (l.class_ ≡ c) × (j.common ≡ l.common → ⊥)) finite_sharing
      (λ l t. decided_same (λ h. (h.0, h.1.0, h.1.1)) (λ h. (h.0, (h.1, h.2)))
      (decided_both (same_symbol j.class_ c) (decided_both (same_symbol l.class_ c) (decided_not (same_symbol j.common l.common))))))

  abbrev Tells : Item → Fault → Type 0
  Tells x f = (p : ScopedWord × ScopedWord) × (two_words x.args ≡ Some p) × ((k : Pair) × Shares xs x k × ((fault_at causes.CommonTwice p.0.at x.space p.0.bytes ≡ f) × HaveTwo k.class_))

  finite_tells : (x : Item) → Finite (Tells x)
  finite_tells x =
      finite_all (λ p f. (k : Pair) × Shares xs x k × ((fault_at causes.CommonTwice p.0.at x.space p.0.bytes ≡ f) × HaveTwo k.class_)) (λ p. two_words x.args ≡ Some p) (finite_words x)
      (λ p e. finite_all (λ k f. (fault_at causes.CommonTwice p.0.at x.space p.0.bytes ≡ f) × HaveTwo k.class_) (Shares xs x) (finite_shares x) (λ k s. finite_if (HaveTwo k.class_) (fault_at causes.CommonTwice p.0.at x.space p.0.bytes) (decided_two k.class_)))

  finite_two : (x : Item) → Finite (HasTwoCommons xs x)
  finite_two x = finite_same (Tells x) (HasTwoCommons xs x) (λ f t. to_two f t.0 t.1 t.2.0 t.2.1 t.2.2.0 t.2.2.1) from_two (finite_tells x)
    where
      with_class : (j : Pair) (c : Symbol) → IsSharing xs j → j.class_ ≡ c → IsSharing xs (record { class_ = c; common = j.common })
      with_class j c s same = subst (λ d. IsSharing xs (record { class_ = d; common = j.common })) same s

      to_two : (f : Fault) (p : ScopedWord × ScopedWord) → two_words x.args ≡ Some p → (k : Pair) → Shares xs x k → fault_at causes.CommonTwice p.0.at x.space p.0.bytes ≡ f → HaveTwo k.class_ → HasTwoCommons xs x f
      to_two f p says k s told h =
          let same : s.class_word ≡ p.0 = ap (λ (q : ScopedWord × ScopedWord). q.0) (same_Some (s.class_word, s.common_word) p (sym s.says ∙ says)) in
          record {
            pair = k;
            shares = s;
            first = h.0.common;
            second = h.2.0.common;
            has_first = with_class h.0 k.class_ h.1 h.2.2.0;
            has_second = with_class h.2.0 k.class_ h.2.1 h.2.2.1;
            differ = h.2.2.2;
            told = sym told ∙ ap (λ (w : ScopedWord). fault_at causes.CommonTwice w.at x.space w.bytes) (sym same);
          }

      from_two : (f : Fault) → HasTwoCommons xs x f → Tells x f
      from_two f t = (
        (t.shares.class_word, t.shares.common_word),
        t.shares.says,
        (
          t.pair,
          t.shares,
          (
            sym t.told,
            (record { class_ = t.pair.class_; common = t.first }, t.has_first, (record { class_ = t.pair.class_; common = t.second }, t.has_second, (refl, refl, t.differ))),
          ),
        ),
      )

  -- the items have finitely many faults of classes with two commons
  pub finite_twice : Finite (IsToldTwice xs)
  finite_twice = finite_all (HasTwoCommons xs) (Contains xs) (finite_list xs) (λ x c. finite_two x)
