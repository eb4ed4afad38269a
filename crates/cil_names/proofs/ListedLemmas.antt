-- The permissions that are listed for the class of a word are those that the class has.
use Rattle.std.proofs.Common.{◌≡◌, ℕ, ◌<◌, ◌≤◌, ◌&&◌, ◌||◌, Bool, false, true, if◌then◌else◌, List, [], get_or, length, refl, sym, ◌∙◌, ap, inl, inr}
use Rattle.std.specs.Prelude.{Option, Some, None, slice_get}
use Rattle.std.specs.Global.{Vec}
use Rattle.std.specs.List.{list_any}
use Rattle.std.specs.Option.{is_some, option_map_or}
use Rattle.std.specs.Cmp.Lexicographic.{bytes_decides}
use Rattle.std.proofs.lemmas.Bool.{and_parts, cases_Bool, or_cases, true≢false}
use Rattle.cil_base.specs.Searches.{any_true}
use Rattle.cil_base.specs.Places.{get_contains, there_as}
use Rattle.cil_base.specs.declared.bytes.Bytes.{Bytes}
use Rattle.cil_base.proofs.AtPlace.{past_end}
use Rattle.cil_syntax.specs.declared.kind.Kind.{Kind}
use Rattle.cil_syntax.specs.declared.kind.Kind.TheVariants as kinds
use Rattle.cil_syntax.specs.declared.kind.Sign.TheVariants as signs
use Rattle.cil_syntax.specs.Forms.{two_words}
use Rattle.cil_syntax.specs.Spelling.{same_bytes}
use Rattle.cil_syntax.specs.Scopes.{asked, same_space, ScopedWord}
use Rattle.cil_syntax.proofs.DecidedEquality.{spaces_decide}
use Rattle.cil_names.proofs.DeclareDecided.{symbol_by}
use Rattle.cil_names.specs.declared.entry.Entry.{Entry}
use Rattle.cil_macros.specs.blocks.Space.{Space}
use Rattle.cil_names.specs.Classes.{is_class_at}
use Rattle.cil_names.specs.Declarations.{Declaration, IsDeclaration, Symbol, by, declared_by}
use Rattle.cil_names.specs.Entries.{AreEntries, HasNoEntry, IsAnswer, IsEntryAt, IsNamed}
use Rattle.cil_macros.specs.Item.{Item, OptSet, is_enabled, nobody}
use Rattle.cil_names.specs.Symbols.{symbol_of}
use Rattle.cil_names.specs.PermissionWords.{has_permission_at, listed_of}
use Rattle.cil_names.specs.Resolves.{Permission as APermission, fits, found_in, gives_permission, has, has_permission, is_class_common, listed_permissions, lists_named, lists_permission, names_outside, resolves, shares_permission, shares_words}
use Rattle.cil_syntax.specs.Kinds.{is_wanted}
use Rattle.cil_macros.specs.blocks.Namespaces.{AreNamespaces, space_at}
use Rattle.cil_names.specs.Unresolved.{ArePermissions, listed_at}
use Rattle.cil_names.proofs.CandidateLemmas.{parts_of}
use Rattle.cil_names.proofs.DeclLemmas.{has_true}
use Rattle.cil_names.proofs.EntryLemmas.{parts_fit, they_fit}
use Rattle.cil_macros.proofs.blocks_lemmas.NamespaceLemmas.{same_number}

-- ---- the list of an entry

module _ (lists : List (Vec Bytes)) (d : ℕ) where
  pub none_listed_there : length lists ≤ d → [] ≡ listed_at lists d
  none_listed_there past = sym (ap (λ o. option_map_or (λ (v : Vec Bytes). v.items) o []) (past_end lists lists d refl past))

  pub listed_there : (v : Vec Bytes) → d < length lists → v ≡ get_or lists d v → v.items ≡ listed_at lists d
  listed_there v within is = sym (ap (λ o. option_map_or (λ (v : Vec Bytes). v.items) o []) (there_as lists d v within is))

module _ (es : List Entry) (d : ℕ) (e : Entry) (within : d < length es) (is : e ≡ get_or es d e) (b : Bool) (tells : b ≡ is_wanted signs.Classes e.kind) where
  pub class_there : b ≡ is_class_at es d
  class_there = tells ∙ sym (ap (λ o. option_map_or (λ (e : Entry). is_wanted signs.Classes e.kind) o false) (there_as es d e within is))

  -- that of a class has numbers
  pub listed_numbered : b ≡ true → (lists : List (Vec Bytes)) (l : List (List ℕ)) → l ≡ listed_at lists d → l ≡ listed_of es lists d
  listed_numbered of_class lists l same =
      same
      ∙ sym (ap (λ o. option_map_or (λ (e : Entry). if is_wanted signs.Classes e.kind then listed_at lists d else []) o []) (there_as es d e within is)
      ∙ ap (λ c. if c then listed_at lists d else []) (sym tells ∙ of_class))

  pub no_class_there : b ≡ false → is_class_at es d ≡ true → ⊥
  no_class_there other t = true≢false (sym t ∙ sym class_there ∙ other)

-- an answer tells whether the word is found
pub answered_found : (ss : List Space) (xs : List Item) (es : List Entry) (s : OptSet) (w : ScopedWord) (r : Option ℕ) → IsAnswer ss xs es s w r
    → is_some r ≡ is_some (found_in xs s w)
answered_found ss xs es s w None none = ap is_some (sym none)
answered_found ss xs es s w (Some d) named = ap is_some (sym named.found)

-- what a class alone may name, a class or a class map may name
class_wanted : (kind : Kind) → is_wanted signs.PlainClass kind ≡ true → is_wanted signs.Classes kind ≡ true
class_wanted kinds.Class e = refl
class_wanted kind e = absurd (true≢false (sym e))

module _ (ss : List Space) (are : AreNamespaces ss) (xs : List Item) (es : List Entry) (entries : AreEntries ss xs es) where
  -- a permission is given to a class that is declared
  module _ (k : ℕ) (name : List ℕ) (within : k ≤ length ss) (none : HasNoEntry es name signs.Classes k) (p : List ℕ) where
    abbrev missing : Symbol
    missing = record { space = space_at ss k; name = name }

    not_declared : (d : Declaration) → IsDeclaration xs nobody d → same_bytes d.name name ≡ true → is_wanted signs.Classes d.kind ≡ true → same_space d.space (space_at ss k) ≡ true → ⊥
    not_declared d is_d same wanted spaced =
        let (i, e) = entries.each nobody d is_d in
        none i e.entry e.at
        (they_fit name signs.Classes k e.entry
        (same_number ss are (space_at ss k) e.entry.space k
        (record { within = entries.ordered.within e.entry (get_contains es i e.entry e.at); is = e.in_space ∙ (spaces_decide d.space (space_at ss k)).0 spaced })
        (record { within = within; is = refl }))
        (e.of_name ∙ (bytes_decides d.name name).0 same) (ap (is_wanted signs.Classes) e.of_kind ∙ wanted))

    none_listed : lists_permission xs signs.Classes missing p ≡ true → ⊥
    unfolding lists_permission
    none_listed t =
        let (x, cx, gives) = any_true (gives_permission signs.Classes missing p) xs t in
        let (front, lists) = and_parts (is_enabled nobody x && list_any (fits name signs.Classes (space_at ss k)) (declared_by x)) (list_any (same_bytes p) (listed_permissions x.args)) gives in
        let (on, some) = and_parts (is_enabled nobody x) (list_any (fits name signs.Classes (space_at ss k)) (declared_by x)) front in
        let (d, cd, fit) = any_true (fits name signs.Classes (space_at ss k)) (declared_by x) some in
        let (named, spaced) = and_parts (same_bytes d.name name && is_wanted signs.Classes d.kind) (same_space d.space (space_at ss k)) fit in
        let (same, wanted) = and_parts (same_bytes d.name name) (is_wanted signs.Classes d.kind) named in
        not_declared d (by x d cx on cd) same wanted spaced

    none_named : (w : ScopedWord) → names_outside xs signs.PlainClass w missing ≡ true → ⊥
    none_named w t =
        let (front, there) = and_parts (option_map_or (λ n. same_space n (space_at ss k)) (found_in xs nobody w) false && same_bytes (asked w.bytes).name name) (has xs nobody name signs.PlainClass (space_at ss k)) t in
        let (d, is_d, fit) = has_true xs nobody name signs.PlainClass (space_at ss k) there in
        let (named, spaced) = and_parts (same_bytes d.name name && is_wanted signs.PlainClass d.kind) (same_space d.space (space_at ss k)) fit in
        let (same, wanted) = and_parts (same_bytes d.name name) (is_wanted signs.PlainClass d.kind) named in
        not_declared d is_d same (class_wanted d.kind wanted) spaced

    none_shared : list_any (shares_permission xs missing p) xs ≡ true → ⊥
    none_shared t =
        let (x, cx, gives) = any_true (shares_permission xs missing p) xs t in
        by_words (two_words x.args) (and_parts (is_enabled nobody x && is_class_common x.keyword) (shares_words xs missing p (two_words x.args)) gives).1
      where
        by_words : (o : Option (ScopedWord × ScopedWord)) → shares_words xs missing p o ≡ true → ⊥
        by_words None h = true≢false (sym h)
        by_words (Some (v, w)) h = none_named v (and_parts (names_outside xs signs.PlainClass v missing) (lists_named xs w p) h).0

    no_class : has_permission xs missing p ≡ false
    unfolding has_permission
    no_class =
        elim (cases_Bool (lists_permission xs signs.Classes missing p || list_any (shares_permission xs missing p) xs)) [
          | inl t ↦ elim (or_cases (lists_permission xs signs.Classes missing p) (list_any (shares_permission xs missing p) xs) t) [
            | inl own ↦ absurd (none_listed own)
            | inr shared ↦ absurd (none_shared shared)
          ]
          | inr f ↦ f
        ]

  -- the class of the name of an entry
  module _ (d : ℕ) (e : Entry) (at : slice_get es d ≡ Some e) (p : List ℕ) where
    has_of : has_permission_at ss es xs p d ≡ has_permission xs (symbol_of ss e) p
    has_of = ap (λ o. option_map_or (λ (x : Entry). has_permission xs (symbol_of ss x) p) o false) at

    -- it is of a class
    pub listed_of_itself : (lists : List (Vec Bytes)) → ArePermissions ss es xs lists → is_wanted signs.Classes e.kind ≡ true → (l : List (List ℕ)) → l ≡ listed_at lists d
        → list_any (same_bytes p) l ≡ has_permission_at ss es xs p d
    listed_of_itself lists permissions wanted l same = ap (list_any (same_bytes p)) same ∙ permissions.each d e at wanted p ∙ sym has_of

    -- no class has this name
    pub listed_of_none : HasNoEntry es e.name signs.Classes e.space → false ≡ has_permission_at ss es xs p d
    listed_of_none none = sym (has_of ∙ no_class e.space e.name (entries.ordered.within e (get_contains es d e at)) none p)

    -- one has it
    pub listed_of_class : (lists : List (Vec Bytes)) → ArePermissions ss es xs lists → (c : ℕ) → IsEntryAt es e.name signs.Classes e.space c → (l : List (List ℕ))
        → l ≡ listed_at lists c → list_any (same_bytes p) l ≡ has_permission_at ss es xs p d
    listed_of_class lists permissions c class_ l same =
        let (space, name, wanted) = parts_fit e.name signs.Classes e.space class_.entry class_.fits in
        ap (list_any (same_bytes p)) same ∙ permissions.each c class_.entry class_.at wanted p
        ∙ ap (λ (t : Symbol). has_permission xs t p) (symbol_by (symbol_of ss class_.entry) (symbol_of ss e) (ap (space_at ss) space) name)
        ∙ sym has_of

  -- the class that a class word names
  module _ (c : ScopedWord) (d : ℕ) (named : IsNamed ss xs es nobody c d) where
    abbrev found_symbol : Symbol
    found_symbol = record { space = named.space; name = (asked c.bytes).name }

    one_symbol : symbol_of ss named.entry ≡ found_symbol
    one_symbol =
        let (space, name, wanted) = parts_of ss (asked c.bytes).name c.sign named.space named.entry named.fits in
        symbol_by (symbol_of ss named.entry) found_symbol space name

    -- a permission resolves where this class has it
    pub asked_of_class : (s : OptSet) (q : ScopedWord) → resolves xs s (APermission c q) ≡ has_permission_at ss es xs q.bytes d
    asked_of_class s q =
        ap (λ o. option_map_or (λ n. has_permission xs (record { space = n; name = (asked c.bytes).name }) q.bytes) o false) named.found
        ∙ ap (λ (t : Symbol). has_permission xs t q.bytes) (sym one_symbol)
        ∙ sym (has_of d named.entry named.at q.bytes)

-- a permission of a class that is missing does not resolve
pub asked_of_none : (ss : List Space) (xs : List Item) (es : List Entry) (c : ScopedWord) → IsAnswer ss xs es nobody c None → (s : OptSet) (q : ScopedWord)
    → resolves xs s (APermission c q) ≡ false
asked_of_none ss xs es c none s q =
    ap (λ o. option_map_or (λ n. has_permission xs (record { space = n; name = (asked c.bytes).name }) q.bytes) o false) none
