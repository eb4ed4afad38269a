-- What a class permission gives: a class and the mask of its permissions.
use Rattle.std.specs.Prelude.{Contains, Option, Some, None, IsBitSet, if◌then◌else◌, option_map, slice_get}
use Rattle.std.specs.List.Sorted.{IsStrictlySortedBy}
use Rattle.std.specs.Option.{option_map_or}
use Rattle.std.proofs.Common.{◌≡◌, ℕ, ◌++◌, List, [], ◌∷◌, drop, get_or, length, map, true, refl, sym, ◌∙◌, ap, subst, arith}
use Rattle.std.proofs.lemmas.Bool.{and_from, and_parts}
use Rattle.std.proofs.lemmas.Cmp.{nat_list_cmp_total}
use Rattle.std.proofs.lemmas.Option.{none-some, same_Some, slice_get-map}
use Rattle.std.proofs.lemmas.Simd.{map-map}
use Rattle.cil_base.specs.Lists.{Lists, contains_none, one_list, text_cmp}
use Rattle.cil_base.specs.Places.{get_at, get_contains, some_at}
use Rattle.cil_faults.specs.declared.spot.Spot.{Spot}
use Rattle.cil_syntax.specs.Forms.{IsClassForm, class_form}
use Rattle.cil_syntax.specs.Kinds.{is_wanted}
use Rattle.cil_syntax.specs.declared.kind.Kind.{Kind}
use Rattle.cil_syntax.specs.declared.kind.Kind.TheVariants as kinds
use Rattle.cil_syntax.specs.declared.kind.Sign.TheVariants as signs
use Rattle.cil_syntax.specs.declared.term.Op.TheVariants as ops
use Rattle.cil_syntax.specs.declared.term.Term as rust
use Rattle.cil_syntax.specs.declared.term.Word.{Word}
use Rattle.cil_syntax.specs.Said.{said_of}
use Rattle.cil_syntax.specs.Scopes.{ScopedWord, asked}
use Rattle.cil_syntax.specs.Terms.{Term, Leaf, Form, nil, cons}
use Rattle.cil_macros.specs.Item.{Item, OptSet, words_in}
use Rattle.cil_macros.proofs.FormLemmas.{across, class_across, no_class, words_across}
use Rattle.cil_names.specs.Declarations.{Symbol, name_of}
use Rattle.cil_names.specs.Entries.{IsAnswer, IsNamed}
use Rattle.cil_known.specs.Known.{BeginWith, IsKnown, IsNumberFor, StandsForNothing, enabled_in, meant_in, value_in}
use Rattle.cil_names.specs.Laws.{MeansWhatItNames}
use Rattle.cil_known.specs.Members.{StandsFor}
use Rattle.cil_names.specs.Symbols.{symbol_of}
use Rattle.cil_names.specs.PermissionWords.{listed_for, listed_of, number_among}
use Rattle.cil_names.specs.Resolves.{Permission as APermission, Word as AWord, has_permission, wanted_in}
use Rattle.cil_names.specs.Unresolved.{listed_at, term_with}
use Rattle.cil_names.specs.declared.entry.Entry.{Entry}
use Rattle.cil_known.specs.declared.known.Known.{Known}
use Rattle.cil_names.proofs.CandidateLemmas.{parts_of, they_are}
use Rattle.cil_names.proofs.DeclareDecided.{symbol_by}
use Rattle.cil_known.proofs.MemberLemmas.{found_of, named_of, wanted_of}
use Rattle.cil_names.proofs.PermissionWordLemmas.{meant_always}
use Rattle.cil_classes.specs.ClassRows.{AreClasses}
use Rattle.cil_classes.specs.Masks.{GivesNothing, IsGiven, IsMaskOf}
use Rattle.cil_classes.specs.Numbers.{AreNumbered, numbers_of}
use Rattle.cil_classes.specs.Pairs.{HasPair, of_class}
use Rattle.cil_classes.specs.Values.{in_value, in_value_there}
use Rattle.cil_classes.specs.declared.row.Class.{Class}
use Rattle.cil_classes.proofs.BitLemmas.{none_set}
use Rattle.cil_classes.proofs.MaskLemmas.{has_bit, positive}
use Rattle.cil_classes.proofs.OutsideLemmas.{always_there}
use Rattle.cil_classes.proofs.ValueLemmas.{value_there}
use Rattle.cil_classes.proofs.WidthLemmas.{listed_are}

-- ---- the numbers of the permissions

class_wanted : (at : Spot) (w : ScopedWord) (e : Term ScopedWord)
    → wanted_in (Form at ops.ClassPermissions (cons (Leaf w) (cons e nil))) ≡ AWord w ∷ map (APermission w) (words_in e ++ [])
unfolding wanted_in words_in
class_wanted at w e = refl

nothing_more : {X : Type 0} (xs : List X) → xs ++ [] ≡ xs
nothing_more [] = refl
nothing_more (x ∷ xs) = ap (λ ys. x ∷ ys) (nothing_more xs)

module _ (k : Known) (f : Word → ScopedWord) (said : Term Word) (word : Word) (expression : Term Word) (form : IsClassForm said word expression) (words : List (Option ℕ)) (begin : BeginWith k f said words) where
  -- the permissions of the class of the class word
  abbrev permissions : List (List ℕ)
  permissions = listed_for k.lookup.namespaces.now k.lookup.names.now k.permissions.now (f word)

  values : words ≡ meant_in k (f word) ∷ (numbers_of permissions f (words_in expression) ++ begin.more)
  values =
      begin.are
      ∙ ap (λ ls. map (value_in k) ls ++ begin.more)
      (ap wanted_in (ap (across f) form.1 ∙ class_across f form.0 word expression) ∙ class_wanted form.0 (f word) (across f expression)
      ∙ ap (λ ws. AWord (f word) ∷ map (APermission (f word)) ws) (nothing_more (words_in (across f expression)) ∙ words_across f expression))
      ∙ ap (λ ns. meant_in k (f word) ∷ (ns ++ begin.more))
      (map-map (value_in k) (APermission (f word)) (map f (words_in expression)) ∙ map-map (λ (w : ScopedWord). number_among permissions w.bytes) f (words_in expression))

  -- the first is what the class word means
  pub class_means : (r : Option ℕ) → r ≡ get_or words 0 None → r ≡ meant_in k (f word)
  class_means r is = is ∙ ap (λ ws. get_or ws 0 None) values

  -- behind it are the numbers of the permissions
  pub numbers_behind : (rest : List (Option ℕ)) → rest ≡ drop 1 words → AreNumbered permissions f (words_in expression) rest
  numbers_behind rest is = record { more = begin.more; are = is ∙ ap (drop 1) values }

-- ---- what is given

-- a permission that is given, with the parts of the class permission that gives it
record IsPair (xs : List Item) (s : OptSet) (t : Term ScopedWord) (c : Symbol) (p : List ℕ) : Type 0 where
  word : ScopedWord
  expression : Term ScopedWord
  form : class_form t ≡ Some (word, expression)
  stands : StandsFor xs s kinds.Class word c
  value : in_value (has_permission xs c) expression p ≡ true

parts_of_pair : (xs : List Item) (s : OptSet) (t : Term ScopedWord) (c : Symbol) (p : List ℕ) → HasPair xs s t c p → IsPair xs s t c p
parts_of_pair xs s t c p (of_class at word expression d q stands value) = record { word = word; expression = expression; form = refl; stands = stands; value = value }

row_at : (o : Option Class) (name : List ℕ) → option_map (λ (row : Class). row.name) o ≡ Some name → (row : Class) × (o ≡ Some row) × (row.name ≡ name)
row_at None name e = absurd (none-some name e)
row_at (Some row) name e = (row, refl, same_Some row.name name e)

module _ (xs : List Item) (s : OptSet) (f : Word → ScopedWord) (said : Term Word) where
  pub gives_nothing : class_form said ≡ None → GivesNothing xs s (across f said)
  gives_nothing none c p pair =
      let parts = parts_of_pair xs s (across f said) c p pair in none-some _ (sym (no_class f said none) ∙ parts.form)

  module _ (word : Word) (expression : Term Word) (form : IsClassForm said word expression) where
    is_form : across f said ≡ Form form.0 ops.ClassPermissions (cons (Leaf (f word)) (cons (across f expression) nil))
    is_form = ap (across f) form.1 ∙ class_across f form.0 word expression

    stands_of : (c : Symbol) (p : List ℕ) → HasPair xs s (across f said) c p → StandsFor xs s kinds.Class (f word) c
    stands_of c p pair =
        let parts = parts_of_pair xs s (across f said) c p pair in
        let same = same_Some _ _ (sym parts.form ∙ ap class_form is_form) in
        subst (λ w. StandsFor xs s kinds.Class w c) (ap (λ r. r.0) same) parts.stands

    -- the class has the permission, and it is in the value of the expression
    parts_there : (c : Symbol) (p : List ℕ) → HasPair xs s (across f said) c p → (has_permission xs c p ≡ true) × (in_value_there (across f expression) p ≡ true)
    parts_there c p pair =
        let parts = parts_of_pair xs s (across f said) c p pair in
        let same = same_Some _ _ (sym parts.form ∙ ap class_form is_form) in
        and_parts (has_permission xs c p) (in_value_there (across f expression) p)
        (sym (value_there (has_permission xs c) (across f expression) p) ∙ subst (λ e. in_value (has_permission xs c) e p ≡ true) (ap (λ r. r.1) same) parts.value)

    to_pair : (c : Symbol) (p : List ℕ) → StandsFor xs s kinds.Class (f word) c → has_permission xs c p ≡ true → in_value_there (across f expression) p ≡ true → HasPair xs s (across f said) c p
    to_pair c p stands has value =
        subst (λ w. HasPair xs s w c p) (sym is_form) (of_class form.0 (f word) (across f expression) c p stands
        (value_there (has_permission xs c) (across f expression) p ∙ and_from (has_permission xs c p) (in_value_there (across f expression) p) has value))

    -- a class word that names nothing
    pub without_class : StandsForNothing xs s kinds.Class (f word) → GivesNothing xs s (across f said)
    without_class none c p pair = none c (stands_of c p pair)

    module _ (names : List (List ℕ)) (classes : List Class) (are : AreClasses xs s names classes) (n : ℕ) (number : IsNumberFor xs s kinds.Class names (f word) n) where
      -- the class has a row
      has_row : (row : Class) × (slice_get classes n ≡ Some row) × (row.name ≡ name_of number.symbol)
      has_row =
          row_at _ (name_of number.symbol)
          (sym (slice_get-map (λ row. row.name) classes n) ∙ ap (λ ns. slice_get ns n) are.named ∙ number.numbered)

      -- there is a row for each class that has a number
      pub always_a_row : slice_get classes n ≡ None → GivesNothing xs s (across f said)
      always_a_row none = absurd (none-some has_row.0 (sym none ∙ has_row.1))

      module _ (row : Class) (is_row : slice_get classes n ≡ Some row) where
        named : row.name ≡ name_of number.symbol
        named = ap (λ (c : Class). c.name) (same_Some row has_row.0 (sym is_row ∙ has_row.1)) ∙ has_row.2

        pub listed : Lists text_cmp (λ p. has_permission xs number.symbol p ≡ true) row.permissions
        listed = are.each row number.symbol (get_contains classes n row is_row) number.stands.declared named

        one_class : (c : Symbol) (p : List ℕ) → HasPair xs s (across f said) c p → c ≡ number.symbol
        one_class c p pair = number.only_symbol c (stands_of c p pair)

        -- the class has no permission
        pub empty_row : row.permissions ≡ [] → GivesNothing xs s (across f said)
        empty_row empty c p pair =
            let has = (parts_there c p pair).0 in
            contains_none p (subst (λ ps. Contains ps p) empty ((listed.members p).1 (ap (λ d. has_permission xs d p) (sym (one_class c p pair)) ∙ has)))

        module _ (mask : ℕ) (bits : IsMaskOf row.permissions (across f expression) mask) where
          bit_of_pair : (p : List ℕ) → HasPair xs s (across f said) number.symbol p → (bit : ℕ) × (slice_get row.permissions bit ≡ Some p) × IsBitSet mask bit
          bit_of_pair p pair =
              let (has, value) = parts_there number.symbol p pair in
              let at = get_at row.permissions p ((listed.members p).1 has) in
              (at.0, at.2, (bits at.0).1 (record { permission = p; at = at.2; value = value }))

          pair_of_bit : (bit : ℕ) → IsBitSet mask bit → (p : List ℕ) × (slice_get row.permissions bit ≡ Some p) × HasPair xs s (across f said) number.symbol p
          pair_of_bit bit set =
              let b = (bits bit).0 set in
              let has = (listed.members b.permission).0 (get_contains row.permissions bit b.permission b.at) in
              (b.permission, b.at, to_pair number.symbol b.permission number.stands has b.value)

          -- an empty mask gives nothing
          pub empty_mask : mask ≡ 0 → GivesNothing xs s (across f said)
          empty_mask zero c p pair =
              let b = bit_of_pair p (subst (λ d. HasPair xs s (across f said) d p) (one_class c p pair) pair) in
              none_set b.0 (subst (λ k. IsBitSet k b.0) zero b.2)

          pub is_given : (mask ≡ 0 → ⊥) → IsGiven xs s classes (across f said) n mask
          is_given some =
              let first = has_bit mask some in
              let pair = pair_of_bit first.0 first.1 in
              record {
                symbol = number.symbol;
                some = (pair.0, pair.2);
                only_symbol = one_class;
                row = row;
                is_row = is_row;
                named = named;
                bits = λ bit. (pair_of_bit bit, λ h. (bits bit).1 (record { permission = h.0; at = h.1; value = (parts_there number.symbol h.0 h.2).1 }));
              }

-- ---- the permissions of the class of the class word are those of its row

module _ (k : Known) (xs : List Item) (names : Kind → List (List ℕ)) (known : IsKnown k xs names) (w : ScopedWord) where
  abbrev entries : List Entry
  entries = k.lookup.names.now

  -- the entry that a word means is that of the class
  module _ (c : Symbol) (stands : StandsFor xs (enabled_in k) kinds.Class w c) (d : ℕ) (named : IsNamed k.lookup.namespaces.now xs entries (enabled_in k) w d) where
    there : c.space ≡ named.space
    there = same_Some c.space named.space (sym (found_of xs (enabled_in k) kinds.Class refl w c stands) ∙ named.found)

    its_symbol : symbol_of k.lookup.namespaces.now named.entry ≡ c
    its_symbol =
        let (space, name, wanted) = parts_of k.lookup.namespaces.now (asked w.bytes).name w.sign named.space named.entry named.fits in
        symbol_by (symbol_of k.lookup.namespaces.now named.entry) c (space ∙ sym there) (name ∙ sym (named_of xs (enabled_in k) kinds.Class refl w c stands))

    its_kind : named.entry.kind ≡ kinds.Class
    its_kind =
        let (i, f) = known.entries.each (enabled_in k) stands.declared.declaration stands.declared.declares in
        let fits = they_are k.lookup.namespaces.now (asked w.bytes).name w.sign named.space f.entry (f.in_space ∙ stands.declared.in_space ∙ there)
        (f.of_name ∙ stands.declared.of_name ∙ named_of xs (enabled_in k) kinds.Class refl w c stands)
        (ap (is_wanted w.sign) (f.of_kind ∙ stands.declared.of_kind) ∙ wanted_of xs (enabled_in k) kinds.Class refl w c stands) in
        let one : named.entry ≡ f.entry = same_Some named.entry f.entry (sym named.at ∙ ap (slice_get entries) (sym (named.only i f.entry f.at fits)) ∙ f.at) in
        ap (λ (x : Entry). x.kind) one ∙ f.of_kind ∙ stands.declared.of_kind

    is_class : is_wanted signs.Classes named.entry.kind ≡ true
    is_class = ap (is_wanted signs.Classes) its_kind

    its_permissions : Lists text_cmp (λ p. has_permission xs c p ≡ true) (listed_at k.permissions.now d)
    its_permissions =
        subst (λ (t : Symbol). Lists text_cmp (λ p. has_permission xs t p ≡ true) (listed_at k.permissions.now d)) its_symbol
        (listed_are k.permissions.now d k.lookup.namespaces.now entries xs known.permissions named.entry named.at is_class)

    listed_there : listed_of entries k.permissions.now d ≡ listed_at k.permissions.now d
    listed_there =
        ap (λ o. option_map_or (λ (e : Entry). if is_wanted signs.Classes e.kind then listed_at k.permissions.now d else []) o []) named.at
        ∙ ap (λ b. if b then listed_at k.permissions.now d else []) is_class

    row_listed : (permissions : List (List ℕ)) → Lists text_cmp (λ p. has_permission xs c p ≡ true) permissions → (p : List ℕ) → Contains permissions p → Some d ≡ meant_in k w
        → listed_for k.lookup.namespaces.now entries k.permissions.now w ≡ permissions
    row_listed permissions are p some means =
        let has : has_permission xs (symbol_of k.lookup.namespaces.now named.entry) p ≡ true = ap (λ (t : Symbol). has_permission xs t p) its_symbol ∙ (are.members p).0 some in
        let always = always_there k.lookup.namespaces.now known.namespaces xs entries known.entries d named.entry named.at is_class p has in
        ap (λ o. option_map_or (listed_of entries k.permissions.now) o []) (sym (meant_always k.lookup.namespaces.now (enabled_in k) entries w d named.entry named.at always means))
        ∙ listed_there
        ∙ one_list text_cmp nat_list_cmp_total (λ p. has_permission xs c p ≡ true) (listed_at k.permissions.now d) permissions its_permissions are

  pub row_permissions : MeansWhatItNames → (c : Symbol) → StandsFor xs (enabled_in k) kinds.Class w c → (permissions : List (List ℕ)) → Lists text_cmp (λ p. has_permission xs c p ≡ true) permissions
      → (p : List ℕ) → Contains permissions p → listed_for k.lookup.namespaces.now entries k.permissions.now w ≡ permissions
  row_permissions law c stands permissions are p some =
      go (meant_in k w) refl (law k.lookup.namespaces.now xs entries (enabled_in k) w known.namespaces known.entries)
    where
      go : (o : Option ℕ) → o ≡ meant_in k w → IsAnswer k.lookup.namespaces.now xs entries (enabled_in k) w o → listed_for k.lookup.namespaces.now entries k.permissions.now w ≡ permissions
      go None means none = absurd (none-some c.space (sym none ∙ found_of xs (enabled_in k) kinds.Class refl w c stands))
      go (Some d) means named = row_listed c stands d named permissions are p some means

-- the mask that was made by the numbers of the permissions is that of the permissions of the row
module _ (k : Known) (xs : List Item) (names : Kind → List (List ℕ)) (known : IsKnown k xs names) (law : MeansWhatItNames) (f : Word → ScopedWord) (said : Term Word) (word : Word) (m : ℕ) (t : rust.Term)
    (form : IsClassForm said word (said_of m t)) (words : List (Option ℕ)) (begin : BeginWith k f said words) (classes : List Class) (are : AreClasses xs (enabled_in k) (names kinds.Class) classes) (n : ℕ)
    (number : IsNumberFor xs (enabled_in k) kinds.Class (names kinds.Class) (f word) n) (row : Class) (is_row : slice_get classes n ≡ Some row) where
  pub its_mask : (rest : List (Option ℕ)) (count mask : ℕ) → rest ≡ drop 1 words → count ≡ length row.permissions → (count ≡ 0 → ⊥)
      → ((g : Word → ScopedWord) (j : ℕ) (ps : List (List ℕ)) → IsStrictlySortedBy text_cmp ps → length ps ≡ count → AreNumbered ps g (words_in (said_of j t)) rest → IsMaskOf ps (term_with g j t) mask)
      → IsMaskOf row.permissions (across f (said_of m t)) mask
  its_mask rest count mask behind counted some made =
      let all = listed xs (enabled_in k) f said word (said_of m t) form (names kinds.Class) classes are n number row is_row in
      let (p, at) = some_at row.permissions 0 (positive (length row.permissions) (λ e. some (counted ∙ e))) in
      made f m row.permissions all.rising (sym counted)
      (subst (λ ps. AreNumbered ps f (words_in (said_of m t)) rest)
      (row_permissions k xs names known (f word) law number.symbol number.stands row.permissions all p (get_contains row.permissions 0 p at))
      (numbers_behind k f said word (said_of m t) form words begin rest behind))

  pub nothing_listed : (count : ℕ) → count ≡ length row.permissions → count ≡ 0 → GivesNothing xs (enabled_in k) (across f said)
  nothing_listed count counted zero =
      empty_row xs (enabled_in k) f said word (said_of m t) form (names kinds.Class) classes are n number row is_row (none_there row.permissions (sym counted ∙ zero))
    where
      none_there : (ps : List (List ℕ)) → length ps ≡ 0 → ps ≡ []
      none_there [] e = refl
      none_there (p ∷ ps) e = absurd (omega (arith, e))
