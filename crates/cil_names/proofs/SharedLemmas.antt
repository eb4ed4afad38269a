-- The permissions that classes share by commons.
use Rattle.std.specs.Prelude.{◌⊎◌, ◌&&◌, ◌||◌, ◌==◌, Contains, MatchOption, None, Option, Some, slice_get, set}
use Rattle.std.specs.Cmp.Lexicographic.{bytes_decides}
use Rattle.std.specs.Global.{Vec}
use Rattle.std.specs.List.{list_all, list_any}
use Rattle.std.specs.List.Retain.{DiffersFromLast, IsFiltered}
use Rattle.std.specs.List.Sorted.{IsPermutation, IsSorted, IsStrictlySortedBy}
use Rattle.std.specs.Option.{option_map_or, unwrap_or}
use Rattle.std.specs.Ordering.{eq_by_cmp}
use Rattle.std.proofs.Common.{◌≡◌, ℕ, ◌+◌, ◌<◌, ◌≤◌, Bool, true, false, List, [], ◌∷◌, ◌++◌, length, take, get_or, refl, sym, ◌∙◌, ap, append-nil, subst, inl, inr, arith}
use Rattle.std.proofs.lemmas.Bool.{and_from, and_parts, cases_Bool, cases_eq, true≢false}
use Rattle.std.proofs.lemmas.Bool.Decides.{nat_tests}
use Rattle.std.proofs.lemmas.List.{length-set, take_all, take_more}
use Rattle.std.proofs.lemmas.List.Folds.{list_any-append}
use Rattle.std.proofs.lemmas.Option.{none-some, same_Some}
use Rattle.cil_base.specs.Lists.{Lists, text_cmp}
use Rattle.cil_base.specs.Places.{contains_at, get_at, get_contains, get_set_other, get_set_same, in_range, there_as}
use Rattle.cil_base.specs.Records.{AreRecordsOf, IsRecordOf}
use Rattle.cil_base.specs.Searches.{any_from, any_true, same_truth}
use Rattle.cil_base.specs.declared.bytes.Bytes.{Bytes}
use Rattle.cil_base.proofs.RecordLemmas.{none_more, record_more}
use Rattle.cil_base.proofs.SortedLists.{sorted_list}
use Rattle.cil_syntax.specs.declared.kind.Keyword.{Keyword}
use Rattle.cil_syntax.specs.declared.kind.Keyword.TheVariants as keywords
use Rattle.cil_syntax.specs.declared.kind.Kind.{Kind}
use Rattle.cil_syntax.specs.declared.kind.Kind.TheVariants as kinds
use Rattle.cil_syntax.specs.declared.kind.Sign.{Sign}
use Rattle.cil_syntax.specs.declared.kind.Sign.TheVariants as signs
use Rattle.cil_syntax.specs.declared.term.Word.{Word}
use Rattle.cil_syntax.specs.Forms.{two_words}
use Rattle.cil_syntax.specs.Kinds.{is_wanted}
use Rattle.cil_syntax.specs.Scopes.{ScopedWord, asked, same_space}
use Rattle.cil_syntax.specs.Spelling.{same_bytes}
use Rattle.cil_syntax.specs.Terms.{Leaf, Terms, nil, cons}
use Rattle.cil_syntax.proofs.DecidedEquality.{spaces_decide}
use Rattle.cil_faults.specs.Namespaces.{Namespace}
use Rattle.cil_macros.specs.blocks.Space.{Space}
use Rattle.cil_macros.specs.blocks.Namespaces.{AreNamespaces, IsNumber, space_at}
use Rattle.cil_macros.specs.Item.{Item, all_replaced, is_enabled, nobody}
use Rattle.cil_macros.specs.Items.{may_say_lists, says_as_written}
use Rattle.cil_macros.proofs.FormLemmas.{no_pair, pair_across}
use Rattle.cil_names.specs.declared.entry.Entry.{Entry}
use Rattle.cil_names.specs.declared.shared.Shared.{Shared}
use Rattle.cil_names.specs.Declarations.{Symbol, by, declared_by}
use Rattle.cil_names.specs.Entries.{AreEntries, HasNoEntry, IsEntryAt, IsNamed, is_declared_at, listed as listing}
use Rattle.cil_names.specs.Symbols.{symbol_of}
use Rattle.cil_names.specs.Permissions.{AreOwn}
use Rattle.cil_names.specs.Resolves.{fits, found_in, gives_permission, has, has_permission, is_class_common, listed_permissions, lists_named, lists_permission, names_outside, shares_permission, shares_words}
use Rattle.cil_names.specs.Shared.{AreApart, AreShared, HaveCommons, IsAddedTo, IsEntryOf, IsEntryOutside, IsOutside, IsPairOf, Pair, Shares, lists_name, shares_name}
use Rattle.cil_names.specs.SharedOrder.{one_pair, shared_cmp, shared_total}
use Rattle.cil_names.specs.Unresolved.{ArePermissions, listed_at}
use Rattle.cil_names.proofs.AnswerLemmas.{known_live, one_entry, unknown_gone}
use Rattle.cil_names.proofs.CandidateLemmas.{answer, parts_of, they_are}
use Rattle.cil_names.proofs.DeclLemmas.{has_from, has_true}
use Rattle.cil_names.proofs.DeclareDecided.{symbol_by}
use Rattle.cil_names.proofs.EntryLemmas.{parts_fit}

equal_number : (a b : ℕ) → (a == b) ≡ true → a ≡ b
equal_number a b e = grind (arith, nat_tests)

equal_test : (a b : ℕ) → a ≡ b → (a == b) ≡ true
equal_test a b e = grind (arith, nat_tests)

unequal_test : (a b : ℕ) → (a ≡ b → ⊥) → (a == b) ≡ false
unequal_test a b e = grind (arith, nat_tests)

or_false : (b : Bool) → (b || false) ≡ b
or_false true = refl
or_false false = refl

-- the names of a list, and of others, sorted
any_both : (p : List ℕ) (xs ys zs : List (List ℕ)) → Lists text_cmp (Contains (xs ++ ys)) zs → list_any (same_bytes p) zs ≡ (list_any (same_bytes p) xs || list_any (same_bytes p) ys)
any_both p xs ys zs all =
    same_truth (list_any (same_bytes p) zs) (list_any (same_bytes p) (xs ++ ys))
    (λ t. let (x, c, same) = any_true (same_bytes p) zs t in any_from (same_bytes p) (xs ++ ys) x ((all.members x).0 c) same)
    (λ t. let (x, c, same) = any_true (same_bytes p) (xs ++ ys) t in any_from (same_bytes p) zs x ((all.members x).1 c) same)
    ∙ list_any-append (same_bytes p) xs ys

module _ (h : Shared) (old : List (Vec Bytes)) (before none_yet after common : Vec Bytes) (apart : h.common ≡ h.class → ⊥) (was : slice_get old h.class ≡ Some before) (other : slice_get (set old h.class none_yet) h.common ≡ Some common)
    (all : Lists text_cmp (Contains (before.items ++ common.items)) after.items) where
  abbrev new : List (Vec Bytes)
  new = set (set old h.class none_yet) h.class after

  here : slice_get new h.class ≡ Some after
  here = get_set_same (set old h.class none_yet) h.class after (let a = length-set old h.class none_yet in let b = in_range old h.class before was in omega (arith, a, b))

  elsewhere : (d : ℕ) → (d ≡ h.class → ⊥) → slice_get new d ≡ slice_get old d
  elsewhere d differ = get_set_other (set old h.class none_yet) h.class d after differ ∙ get_set_other old h.class d none_yet differ

  listed : (lists : List (Vec Bytes)) (d : ℕ) (v : Vec Bytes) → slice_get lists d ≡ Some v → listed_at lists d ≡ v.items
  listed lists d v e = ap (λ o. option_map_or (λ (w : Vec Bytes). w.items) o []) e

  common_was : slice_get old h.common ≡ Some common
  common_was = sym (get_set_other old h.class h.common none_yet apart) ∙ other

  some_vec : {a b : Vec Bytes} → Some a ≡ Some b → a ≡ b
  some_vec {a} {b} e = ap (λ o. unwrap_or o a) e

  pub added_to : IsAddedTo h old new
  added_to = record {
    len = length-set (set old h.class none_yet) h.class after ∙ length-set old h.class none_yet;
    rising = λ up v c.
        let (d, below_d, at) = get_at new v c in
        elim (cases_eq d h.class) [
          | inl e ↦ subst (λ (w : Vec Bytes). IsStrictlySortedBy text_cmp w.items) (some_vec (sym here ∙ ap (slice_get new) (sym e) ∙ at)) all.rising
          | inr differ ↦ up v (get_contains old d v (sym (elsewhere d differ) ∙ at))
        ];
    each = λ d p. elim (cases_eq d h.class) [
      | inl e ↦
          ap (λ k. lists_name new k p) e
          ∙ ap (list_any (same_bytes p)) (listed new h.class after here)
          ∙ any_both p before.items common.items after.items all
          ∙ ap (λ l. list_any (same_bytes p) l || list_any (same_bytes p) common.items) (sym (listed old h.class before was) ∙ ap (listed_at old) (sym e))
          ∙ ap (λ l. lists_name old d p || list_any (same_bytes p) l) (sym (listed old h.common common common_was))
          ∙ ap (λ b. lists_name old d p || (b && lists_name old h.common p)) (sym (equal_test h.class d (sym e)))
      | inr differ ↦
          ap (λ o. list_any (same_bytes p) (option_map_or (λ (w : Vec Bytes). w.items) o [])) (elsewhere d differ)
          ∙ sym (or_false (lists_name old d p))
          ∙ ap (λ b. lists_name old d p || (b && lists_name old h.common p)) (sym (unequal_test h.class d (λ e. differ (sym e))))
    ];
  }

-- ---- one after another

or_assoc : (a b c : Bool) → ((a || b) || c) ≡ (a || (b || c))
or_assoc true b c = refl
or_assoc false b c = refl

pub none_shared : (own : List (Vec Bytes)) → ((v : Vec Bytes) → Contains own v → IsStrictlySortedBy text_cmp v.items) → HaveCommons own [] own
none_shared own rising = record { len = refl; rising = rising; each = λ d p. sym (or_false (lists_name own d p)) }

module _ (own : List (Vec Bytes)) (shared : List Shared) (apart : AreApart (length own) shared) where
  -- nothing is shared with a common
  nothing : (i : ℕ) (h : Shared) → Contains shared h → (p : List ℕ) → shares_name own (take i shared) h.common p ≡ false
  nothing i h c p = elim (cases_Bool (shares_name own (take i shared) h.common p)) [
    | inr f ↦ f
    | inl t ↦
        let (g, cg, both) = any_true (λ (x : Shared). (x.class == h.common) && lists_name own x.common p) (take i shared) t in
        absurd (apart.apart h g c (in_take i shared g cg) (sym (equal_number g.class h.common (first_of (g.class == h.common) (lists_name own g.common p) both))))
  ]
    where
      first_of : (a b : Bool) → (a && b) ≡ true → a ≡ true
      first_of true b e = refl
      first_of false b e = absurd (true≢false (sym e))

      in_take : (i : ℕ) (xs : List Shared) (g : Shared) → Contains (take i xs) g → Contains xs g
      in_take i xs g c = Rattle.cil_base.specs.Places.in_take (Contains xs) i xs (λ k d l b. contains_at xs k (get_or xs k d) d b refl) g c

  pub one_shared : (i : ℕ) (h d : Shared) (all more : List (Vec Bytes)) → i < length shared → h ≡ get_or shared i d → HaveCommons own (take i shared) all → IsAddedTo h all more
      → HaveCommons own (take (i + 1) shared) more
  one_shared i h e all more l is so_far one =
      let next : take (i + 1) shared ≡ take i shared ++ h ∷ [] = take_more shared i e l ∙ ap (λ z. take i shared ++ z ∷ []) (sym is) in
      let ch : Contains shared h = contains_at shared i h e l is in
      record {
        len = one.len ∙ so_far.len;
        rising = one.rising so_far.rising;
        each = λ d p.
            one.each d p
            ∙ ap (λ b. b || ((h.class == d) && lists_name all h.common p)) (so_far.each d p)
            ∙ ap (λ b. (lists_name own d p || shares_name own (take i shared) d p) || ((h.class == d) && b)) (so_far.each h.common p ∙ ap (λ b. lists_name own h.common p || b) (nothing i h ch p) ∙ or_false (lists_name own h.common p))
            ∙ or_assoc (lists_name own d p) (shares_name own (take i shared) d p) ((h.class == d) && lists_name own h.common p)
            ∙ ap (λ b. lists_name own d p || b)
            (ap (λ b. shares_name own (take i shared) d p || b) (sym (or_false ((h.class == d) && lists_name own h.common p)))
            ∙ sym (list_any-append (λ (x : Shared). (x.class == d) && lists_name own x.common p) (take i shared) (h ∷ []))
            ∙ ap (λ hs. shares_name own hs d p) (sym next));
      }

  pub all_shared : (i : ℕ) (all : List (Vec Bytes)) → length shared ≤ i → HaveCommons own (take i shared) all → HaveCommons own shared all
  all_shared i all over so_far = subst (λ hs. HaveCommons own hs all) (take_all i shared over) so_far

-- what was taken from a place stood there
pub taken_at : {X : Type 0} (xs : List X) (k : ℕ) (taken there : X) → k < length xs → taken ≡ there → there ≡ get_or xs k there → slice_get xs k ≡ Some taken
taken_at xs k taken there l same is = there_as xs k there l is ∙ ap Some (sym same)

-- ---- records, one statement after another

pub records_next : {X K Y : Type 0} (asked : X → K → Type 0) (gives : K → Y → Type 0) (xs : List X) (i : ℕ) (x : X) → take (i + 1) xs ≡ take i xs ++ x ∷ [] → (old : List Y)
    → AreRecordsOf asked gives (take i xs) old → (r : Option Y) (new : List Y) → IsRecordOf asked gives x r → new ≡ old ++ listing r → AreRecordsOf asked gives (take (i + 1) xs) new
records_next asked gives xs i x taken old so_far None more none push =
    subst (AreRecordsOf asked gives (take (i + 1) xs)) (sym (push ∙ append-nil old)) (none_more asked gives xs i x taken old so_far none)
records_next asked gives xs i x taken old so_far (Some y) more one push = record_more asked gives xs i x taken old so_far y more one push

-- ---- what a word names where no optional is enabled

-- a name that is found
pub record IsFoundAs (xs : List Item) (sign : Sign) (w : ScopedWord) (c : Symbol) : Type 0 where
  found : found_in xs nobody w ≡ Some c.space
  named : (asked w.bytes).name ≡ c.name
  there : has xs nobody c.name sign c.space ≡ true

module _ (xs : List Item) (sign : Sign) (w : ScopedWord) where
  pub found_as : (c : Symbol) → names_outside xs sign w c ≡ true → IsFoundAs xs sign w c
  found_as c e =
      let (front, there) = and_parts (option_map_or (λ n. same_space n c.space) (found_in xs nobody w) false && same_bytes (asked w.bytes).name c.name) (has xs nobody c.name sign c.space) e in
      let (spaced, named) = and_parts (option_map_or (λ n. same_space n c.space) (found_in xs nobody w) false) (same_bytes (asked w.bytes).name c.name) front in
      record { found = in_space (found_in xs nobody w) spaced; named = (bytes_decides (asked w.bytes).name c.name).0 named; there = there }
    where
      in_space : (o : Option Namespace) → option_map_or (λ n. same_space n c.space) o false ≡ true → o ≡ Some c.space
      in_space None h = absurd (true≢false (sym h))
      in_space (Some n) h = ap Some ((spaces_decide n c.space).0 h)

  pub found_from : (c : Symbol) → IsFoundAs xs sign w c → names_outside xs sign w c ≡ true
  found_from c is =
      and_from _ _
      (and_from _ _ (ap (λ o. option_map_or (λ n. same_space n c.space) o false) is.found ∙ (spaces_decide c.space c.space).1 refl) ((bytes_decides (asked w.bytes).name c.name).1 is.named))
      is.there

  -- it names one symbol at most
  pub named_one : (c d : Symbol) → names_outside xs sign w c ≡ true → names_outside xs sign w d ≡ true → c ≡ d
  named_one c d p q =
      let a = found_as c p in
      let b = found_as d q in
      symbol_by c d (same_Some c.space d.space (sym a.found ∙ b.found)) (sym a.named ∙ b.named)

  pub named_none : found_in xs nobody w ≡ None → (c : Symbol) → names_outside xs sign w c ≡ true → ⊥
  named_none none c e = none-some c.space (sym none ∙ (found_as c e).found)

module _ (ss : List Space) (are : AreNamespaces ss) (xs : List Item) (es : List Entry) (entries : AreEntries ss xs es) (sign : Sign) where
  -- the word names an entry of some kind
  module _ (w : ScopedWord) (d : ℕ) (named : IsNamed ss xs es nobody w d) (e : Entry) (at : slice_get es d ≡ Some e) where
    this : named.entry ≡ e
    this = same_Some named.entry e (sym named.at ∙ at)

    its_space : space_at ss e.space ≡ named.space
    its_space = sym (ap (λ (x : Entry). space_at ss x.space) this) ∙ (parts_of ss (asked w.bytes).name w.sign named.space named.entry named.fits).0

    its_name : e.name ≡ (asked w.bytes).name
    its_name = sym (ap (λ (x : Entry). x.name) this) ∙ (parts_of ss (asked w.bytes).name w.sign named.space named.entry named.fits).1

    numbered : IsNumber ss (space_at ss e.space) e.space
    numbered = record { within = entries.ordered.within e (get_contains es d e at); is = refl }

    -- whatever symbol it names, it is that of this entry
    its_symbol : (c : Symbol) → names_outside xs sign w c ≡ true → symbol_of ss e ≡ c
    its_symbol c h =
        let is = found_as xs sign w c h in
        symbol_by (symbol_of ss e) c (its_space ∙ same_Some named.space c.space (sym named.found ∙ is.found)) (its_name ∙ is.named)

    its_has : (c : Symbol) → names_outside xs sign w c ≡ true → has xs nobody e.name sign (space_at ss e.space) ≡ true
    its_has c h = ap (λ (t : Symbol). has xs nobody t.name sign t.space) (its_symbol c h) ∙ (found_as xs sign w c h).there

    pub no_symbol : HasNoEntry es e.name sign e.space → (c : Symbol) → names_outside xs sign w c ≡ true → ⊥
    no_symbol none c h =
        true≢false (sym (its_has c h)
        ∙ unknown_gone ss are xs es entries nobody e.name sign (space_at ss e.space) (sym (answer ss are es entries.ordered e.name sign (space_at ss e.space) e.space numbered None none)))

    module _ (f : ℕ) (is : IsEntryAt es e.name sign e.space f) where
      there_is : has xs nobody e.name sign (space_at ss e.space) ≡ is_declared_at nobody es f
      there_is = known_live ss are xs es entries nobody e.name sign (space_at ss e.space) f (sym (answer ss are es entries.ordered e.name sign (space_at ss e.space) e.space numbered (Some f) is))

      pub gone_symbol : is_declared_at nobody es f ≡ false → (c : Symbol) → names_outside xs sign w c ≡ true → ⊥
      gone_symbol gone c h = true≢false (sym (its_has c h) ∙ there_is ∙ gone)

      pub is_symbol : is_declared_at nobody es f ≡ true → IsEntryOutside ss es xs sign w f
      is_symbol live =
          let (space, name, wanted) = parts_fit e.name sign e.space is.entry is.fits in
          record {
            symbol = symbol_of ss e;
            entry = record { entry = is.entry; at = is.at; wanted = wanted; symbol = symbol_by (symbol_of ss is.entry) (symbol_of ss e) (ap (space_at ss) space) name };
            named = found_from xs sign w (symbol_of ss e) (record { found = named.found ∙ ap Some (sym its_space); named = sym its_name; there = there_is ∙ live });
          }

      pub where_live : (r : Option ℕ) → MatchOption r (is_declared_at nobody es f ≡ false) (λ d. (d ≡ f) × (is_declared_at nobody es f ≡ true)) → IsOutside ss es xs sign w r
      where_live None gone = gone_symbol gone
      where_live (Some d) (same, live) = subst (IsEntryOutside ss es xs sign w) (sym same) (is_symbol live)

  -- the entry of a symbol that a word names
  pub entry_of_named : (w : ScopedWord) (c : Symbol) → names_outside xs sign w c ≡ true → (d : ℕ) × IsEntryOf ss es sign d c
  entry_of_named w c h =
      let (d, is_d, fit) = has_true xs nobody c.name sign c.space (found_as xs sign w c h).there in
      let (named, spaced) = and_parts (same_bytes d.name c.name && is_wanted sign d.kind) (same_space d.space c.space) fit in
      let (same, wanted) = and_parts (same_bytes d.name c.name) (is_wanted sign d.kind) named in
      let (i, e) = entries.each nobody d is_d in (
        i,
        record {
          entry = e.entry;
          at = e.at;
          wanted = ap (is_wanted sign) e.of_kind ∙ wanted;
          symbol = symbol_by (symbol_of ss e.entry) c (e.in_space ∙ (spaces_decide d.space c.space).0 spaced) (e.of_name ∙ (bytes_decides d.name c.name).0 same);
        },
      )

-- ---- what one statement shares

pub joins_as_written : (k : Keyword) → is_class_common k ≡ true → says_as_written k ≡ true
joins_as_written keywords.ClassCommon e = refl
joins_as_written k e = absurd (true≢false (sym e))

pub joins_named : (k : Keyword) → is_class_common k ≡ true → may_say_lists k ≡ false
joins_named keywords.ClassCommon e = refl
joins_named k e = absurd (true≢false (sym e))

none_on : (round : List ℕ) → list_all nobody round ≡ true → round ≡ []
none_on [] e = refl
none_on (o ∷ os) e = absurd (true≢false (sym e))

module _ (ss : List Space) (es : List Entry) (xs : List Item) (x : Item) where
  abbrev Answers : Option Shared → Type 0
  Answers = IsRecordOf (Shares xs) (IsPairOf ss es) x

  pub other_keyword : is_class_common x.keyword ≡ false → (k : Pair) → Shares xs x k → ⊥
  other_keyword other k is = true≢false (sym is.keyword ∙ other)

  pub inside : (x.round ≡ [] → ⊥) → (k : Pair) → Shares xs x k → ⊥
  inside in_one k is = in_one (none_on x.round is.outside)

  module _ (f : Word → ScopedWord) (args : Terms Word) (says : x.args ≡ all_replaced (λ at. at) f args) where
    pub other_terms : two_words args ≡ None → (k : Pair) → Shares xs x k → ⊥
    other_terms none k is = none-some (is.class_word, is.common_word) (sym (no_pair f args none) ∙ ap two_words (sym says) ∙ is.says)

    module _ (first second : Word) (said : args ≡ cons (Leaf first) (cons (Leaf second) nil)) where
      is_two : two_words x.args ≡ Some (f first, f second)
      is_two = ap two_words (says ∙ ap (all_replaced (λ at. at) f) said ∙ pair_across f first second)

      first_names : (k : Pair) → Shares xs x k → names_outside xs signs.PlainClass (f first) k.class_ ≡ true
      first_names k is =
          let same : is.class_word ≡ f first = ap (λ (q : ScopedWord × ScopedWord). q.0) (same_Some (is.class_word, is.common_word) (f first, f second) (sym is.says ∙ is_two)) in
          ap (λ w. names_outside xs signs.PlainClass w k.class_) (sym same) ∙ is.names_class

      second_names : (k : Pair) → Shares xs x k → names_outside xs signs.Commons (f second) k.common ≡ true
      second_names k is =
          let same : is.common_word ≡ f second = ap (λ (q : ScopedWord × ScopedWord). q.1) (same_Some (is.class_word, is.common_word) (f first, f second) (sym is.says ∙ is_two)) in
          ap (λ w. names_outside xs signs.Commons w k.common) (sym same) ∙ is.names_common

      pub pair_is : x.round ≡ [] → is_class_common x.keyword ≡ true → (class_ common : Option ℕ) → IsOutside ss es xs signs.PlainClass (f first) class_ → IsOutside ss es xs signs.Commons (f second) common
          → (r : Option Shared) → MatchOption r ((class_ ≡ None) ⊎ (common ≡ None)) (λ h. (class_ ≡ Some h.class) × (common ≡ Some h.common)) → Answers r
      pair_is outside keyword class_ common of_class of_common None (inl none) = λ k is. subst (IsOutside ss es xs signs.PlainClass (f first)) none of_class k.class_ (first_names k is)
      pair_is outside keyword class_ common of_class of_common None (inr none) = λ k is. subst (IsOutside ss es xs signs.Commons (f second)) none of_common k.common (second_names k is)
      pair_is outside keyword class_ common of_class of_common (Some h) (at, from) =
          let c : IsEntryOutside ss es xs signs.PlainClass (f first) h.class = subst (IsOutside ss es xs signs.PlainClass (f first)) at of_class in
          let m : IsEntryOutside ss es xs signs.Commons (f second) h.common = subst (IsOutside ss es xs signs.Commons (f second)) from of_common in (
            (
              record { class_ = c.symbol; common = m.symbol },
              record {
                class_word = f first;
                common_word = f second;
                outside = ap (list_all nobody) outside;
                keyword = keyword;
                says = is_two;
                names_class = c.named;
                names_common = m.named;
              },
            ),
            (λ k is. record {
              is_class = subst (IsEntryOf ss es signs.PlainClass h.class) (named_one xs signs.PlainClass (f first) c.symbol k.class_ c.named (first_names k is)) c.entry;
              is_common = subst (IsEntryOf ss es signs.Commons h.common) (named_one xs signs.Commons (f second) m.symbol k.common m.named (second_names k is)) m.entry;
            }),
          )

-- ---- what all statements share

pub all_listed : (ss : List Space) (es : List Entry) (xs : List Item) (raw ys zs : List Shared) → AreRecordsOf (Shares xs) (IsPairOf ss es) xs raw
    → IsPermutation raw ys → IsSorted shared_cmp ys → IsFiltered (DiffersFromLast (eq_by_cmp shared_cmp)) [] ys zs → AreShared ss es xs zs
all_listed ss es xs raw ys zs are moved sorted kept =
    let list = sorted_list shared_cmp shared_total one_pair raw ys zs moved sorted kept in
    record {
      rising = list.rising;
      each = λ k (x, c, is). let r = are.each x k c is in (r.0, r.1, (list.members r.0).1 r.2);
      only = λ h c. let o = are.only h ((list.members h).0 c) in (o.1, (o.0, o.2, o.3), o.4);
    }

-- ---- the lists with those of commons are the permissions of the classes

-- no class is a common
plain_apart : (kind : Kind) → is_wanted signs.PlainClass kind ≡ true → is_wanted signs.Commons kind ≡ true → ⊥
plain_apart kinds.Class a b = true≢false (sym b)
plain_apart kind a b = true≢false (sym a)

plain_is : (kind : Kind) → is_wanted signs.PlainClass kind ≡ true → is_wanted signs.Classes kind ≡ true
plain_is kinds.Class e = refl
plain_is kind e = absurd (true≢false (sym e))

module _ (ss : List Space) (are : AreNamespaces ss) (xs : List Item) (es : List Entry) (entries : AreEntries ss xs es) (shared : List Shared) (is : AreShared ss es xs shared) where
  pub are_apart : (count : ℕ) → count ≡ length es → AreApart count shared
  are_apart count len = record {
    within = λ h c.
        let (k, sharing, pair) = is.only h c in
        let a = in_range es h.class pair.is_class.entry pair.is_class.at in
        let b = in_range es h.common pair.is_common.entry pair.is_common.at in
        (omega (arith, a, len), omega (arith, b, len));
    apart = λ h g ch cg e.
        let (k, of_h, one) = is.only h ch in
        let (l, of_g, other) = is.only g cg in
        let same : one.is_common.entry ≡ other.is_class.entry = same_Some one.is_common.entry other.is_class.entry (sym one.is_common.at ∙ ap (slice_get es) e ∙ other.is_class.at) in
        plain_apart other.is_class.entry.kind other.is_class.wanted (subst (λ (y : Entry). is_wanted signs.Commons y.kind ≡ true) same one.is_common.wanted);
  }

  -- one entry is that of a symbol
  one_number : (sign : Sign) (c : Symbol) (d e : ℕ) → IsEntryOf ss es sign d c → IsEntryOf ss es sign e c → d ≡ e
  one_number sign c d e a b =
      one_entry ss are es entries.ordered c.name sign c.space d e a.entry b.entry a.at b.at
      (they_are ss c.name sign c.space a.entry (ap (λ (t : Symbol). t.space) a.symbol) (ap (λ (t : Symbol). t.name) a.symbol) a.wanted)
      (they_are ss c.name sign c.space b.entry (ap (λ (t : Symbol). t.space) b.symbol) (ap (λ (t : Symbol). t.name) b.symbol) b.wanted)

  -- what lists a permission is declared
  declared_list : (m : Symbol) (p : List ℕ) → lists_permission xs signs.Commons m p ≡ true → has xs nobody m.name signs.Commons m.space ≡ true
  unfolding lists_permission
  declared_list m p e =
      let (x, cx, gives) = any_true (gives_permission signs.Commons m p) xs e in
      let (front, lists) = and_parts (is_enabled nobody x && list_any (fits m.name signs.Commons m.space) (declared_by x)) (list_any (same_bytes p) (listed_permissions x.args)) gives in
      let (on, some) = and_parts (is_enabled nobody x) (list_any (fits m.name signs.Commons m.space) (declared_by x)) front in
      let (d, cd, fit) = any_true (fits m.name signs.Commons m.space) (declared_by x) some in
      has_from xs nobody m.name signs.Commons m.space d (by x d cx on cd) fit

  -- the common of a shared permission
  sharing_of : (c : Symbol) (p : List ℕ) (x : Item) → shares_permission xs c p x ≡ true → (m : Symbol) × Shares xs x (record { class_ = c; common = m }) × (lists_permission xs signs.Commons m p ≡ true)
  sharing_of c p x e =
      let (front, some) = and_parts (is_enabled nobody x && is_class_common x.keyword) (shares_words xs c p (two_words x.args)) e in
      let (on, key) = and_parts (is_enabled nobody x) (is_class_common x.keyword) front in
      by_words (two_words x.args) refl on key some
    where
      by_space : (v k : ScopedWord) → two_words x.args ≡ Some (v, k) → is_enabled nobody x ≡ true → is_class_common x.keyword ≡ true → names_outside xs signs.PlainClass v c ≡ true
          → (o : Option Namespace) → found_in xs nobody k ≡ o → option_map_or (λ n. lists_permission xs signs.Commons (record { space = n; name = (asked k.bytes).name }) p) o false ≡ true
          → (m : Symbol) × Shares xs x (record { class_ = c; common = m }) × (lists_permission xs signs.Commons m p ≡ true)
      by_space v k says on key class_ None found h = absurd (true≢false (sym h))
      by_space v k says on key class_ (Some n) found h = (
        record { space = n; name = (asked k.bytes).name },
        record {
          class_word = v;
          common_word = k;
          outside = on;
          keyword = key;
          says = says;
          names_class = class_;
          names_common =
              found_from xs signs.Commons k (record { space = n; name = (asked k.bytes).name })
              (record { found = found; named = refl; there = declared_list (record { space = n; name = (asked k.bytes).name }) p h });
        },
        h,
      )

      by_words : (o : Option (ScopedWord × ScopedWord)) → two_words x.args ≡ o → is_enabled nobody x ≡ true → is_class_common x.keyword ≡ true → shares_words xs c p o ≡ true
          → (m : Symbol) × Shares xs x (record { class_ = c; common = m }) × (lists_permission xs signs.Commons m p ≡ true)
      by_words None says on key h = absurd (true≢false (sym h))
      by_words (Some (v, k)) says on key h =
          let (class_, named) = and_parts (names_outside xs signs.PlainClass v c) (lists_named xs k p) h in by_space v k says on key class_ (found_in xs nobody k) refl named

  shared_by : (k : Pair) (p : List ℕ) (x : Item) → Contains xs x → Shares xs x k → lists_permission xs signs.Commons k.common p ≡ true → list_any (shares_permission xs k.class_ p) xs ≡ true
  shared_by k p x cx shares h =
      let found = found_as xs signs.Commons shares.common_word k.common shares.names_common in
      any_from (shares_permission xs k.class_ p) xs x cx
      (and_from _ _ (and_from _ _ shares.outside shares.keyword)
      (ap (shares_words xs k.class_ p) shares.says
      ∙ and_from _ _ shares.names_class
      (ap (λ o. option_map_or (λ n. lists_permission xs signs.Commons (record { space = n; name = (asked shares.common_word.bytes).name }) p) o false) found.found
      ∙ ap (λ name. lists_permission xs signs.Commons (record { space = k.common.space; name = name }) p) found.named
      ∙ h)))

  module _ (own all : List (Vec Bytes)) (lists : AreOwn ss es xs own) (have : HaveCommons own shared all) where
    lists_common : (e : ℕ) (m : Symbol) (p : List ℕ) → IsEntryOf ss es signs.Commons e m → lists_name own e p ≡ lists_permission xs signs.Commons m p
    lists_common e m p of = lists.each signs.Commons refl e of.entry of.at of.wanted p ∙ ap (λ (t : Symbol). lists_permission xs signs.Commons t p) of.symbol

    lists_are : (d : ℕ) (e : Entry) → slice_get es d ≡ Some e → is_wanted signs.Classes e.kind ≡ true → (p : List ℕ) → lists_name all d p ≡ has_permission xs (symbol_of ss e) p
    unfolding has_permission
    lists_are d e at wanted p =
        have.each d p
        ∙ ap (λ b. b || shares_name own shared d p) (lists.each signs.Classes refl d e at wanted p)
        ∙ ap (λ b. lists_permission xs signs.Classes (symbol_of ss e) p || b) (same_truth (shares_name own shared d p) (list_any (shares_permission xs (symbol_of ss e) p) xs) to from)
      where
        to : shares_name own shared d p ≡ true → list_any (shares_permission xs (symbol_of ss e) p) xs ≡ true
        to t =
            let (h, ch, both) = any_true (λ (g : Shared). (g.class == d) && lists_name own g.common p) shared t in
            let (here, listed) = and_parts (h.class == d) (lists_name own h.common p) both in
            let (k, (x, cx, shares), pair) = is.only h ch in
            let same : pair.is_class.entry ≡ e = same_Some pair.is_class.entry e (sym pair.is_class.at ∙ ap (slice_get es) (equal_number h.class d here) ∙ at) in
            let one : k.class_ ≡ symbol_of ss e = sym pair.is_class.symbol ∙ ap (symbol_of ss) same in
            subst (λ (t : Symbol). list_any (shares_permission xs t p) xs ≡ true) one
            (shared_by k p x cx shares (sym (lists_common h.common k.common p pair.is_common) ∙ listed))

        from : list_any (shares_permission xs (symbol_of ss e) p) xs ≡ true → shares_name own shared d p ≡ true
        from t =
            let (x, cx, gives) = any_true (shares_permission xs (symbol_of ss e) p) xs t in
            let (m, shares, listed) = sharing_of (symbol_of ss e) p x gives in
            let (h, pair, ch) = is.each (record { class_ = symbol_of ss e; common = m }) (x, cx, shares) in
            let here : h.class ≡ d =
            one_number signs.Classes (symbol_of ss e) h.class d
            (record { entry = pair.is_class.entry; at = pair.is_class.at; wanted = plain_is pair.is_class.entry.kind pair.is_class.wanted; symbol = pair.is_class.symbol })
            (record { entry = e; at = at; wanted = wanted; symbol = refl }) in
            any_from (λ (g : Shared). (g.class == d) && lists_name own g.common p) shared h ch
            (and_from _ _ (equal_test h.class d here) (lists_common h.common m p pair.is_common ∙ listed))

    pub permissions_are : ArePermissions ss es xs all
    permissions_are = record { rising = have.rising; each = λ d e at wanted p. lists_are d e at wanted p }
