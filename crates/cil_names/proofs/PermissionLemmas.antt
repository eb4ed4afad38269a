-- The permissions that statements list for classes, class maps and commons.
use Rattle.std.specs.Prelude.{Contains, Option, Some, None, slice_get}
use Rattle.std.specs.Cmp.Lexicographic.{bytes_decides}
use Rattle.std.specs.Global.{Vec}
use Rattle.std.specs.List.{list_all, list_any}
use Rattle.std.specs.List.Sorted.{IsStrictlySortedBy}
use Rattle.std.specs.Option.{option_map, option_map_or, unwrap_or}
use Rattle.std.proofs.Common.{◌≡◌, ℕ, ◌+◌, ◌<◌, ◌≤◌, ◌&&◌, ◌||◌, Bool, true, false, List, [], ◌∷◌, ◌++◌, length, map, take, get_or, set, refl, sym, ◌∙◌, ap, subst, inl, inr, arith, append_assoc}
use Rattle.std.proofs.lemmas.Bool.{and_from, and_parts, cases_Bool, cases_eq, true≢false}
use Rattle.std.proofs.lemmas.List.{append-nil, take_more, take_all, length-map, length-set}
use Rattle.std.proofs.lemmas.List.Elements.{Contains-append_cases}
use Rattle.std.proofs.lemmas.List.Folds.{list_any-append}
use Rattle.std.proofs.lemmas.Option.{none-some, same_Some, slice_get-map, slice_get_within}
use Rattle.cil_base.specs.Lists.{Lists, contains_cases, contains_here, contains_none, text_cmp}
use Rattle.cil_base.specs.MadeLists.{from_map}
use Rattle.cil_base.specs.Searches.{any_from, any_true, same_truth}
use Rattle.cil_base.specs.Places.{get_at, get_contains, get_set_other, get_set_same, longer}
use Rattle.cil_base.specs.Rising.{rising_nothing}
use Rattle.cil_base.specs.declared.bytes.Bytes.{Bytes}
use Rattle.cil_syntax.specs.declared.kind.Keyword.{Keyword}
use Rattle.cil_syntax.specs.declared.kind.Keyword.TheVariants as keywords
use Rattle.cil_syntax.specs.declared.kind.Kind.{Kind}
use Rattle.cil_syntax.specs.declared.kind.Kind.TheVariants as kinds
use Rattle.cil_syntax.specs.declared.kind.Sign.{Sign}
use Rattle.cil_syntax.specs.declared.kind.Sign.TheVariants as signs
use Rattle.cil_faults.specs.declared.spot.Spot.{Spot}
use Rattle.cil_syntax.specs.declared.term.Term as rust
use Rattle.cil_syntax.specs.declared.term.Word.{Word}
use Rattle.cil_syntax.specs.Forms.{listed_behind_name}
use Rattle.cil_syntax.specs.Said.{all_said, args_of, said_of}
use Rattle.cil_syntax.specs.Program.{statement_of}
use Rattle.cil_syntax.specs.declared.program.Statement.{Statement}
use Rattle.cil_syntax.specs.Written.{Written}
use Rattle.cil_syntax.specs.Spelling.{same_bytes}
use Rattle.cil_syntax.specs.Table.{entry_of}
use Rattle.cil_syntax.specs.Terms.{Leaf, Name, Form, Term, Terms, nil, cons}
use Rattle.cil_faults.specs.Namespaces.{Namespace}
use Rattle.cil_syntax.specs.Scopes.{ScopedWord, same_space}
use Rattle.cil_syntax.proofs.DecidedEquality.{spaces_decide}
use Rattle.std.proofs.Math.Bool.{or-false}
use Rattle.cil_names.specs.declared.entry.Entry.{Entry}
use Rattle.cil_macros.specs.blocks.Space.{Space}
use Rattle.cil_names.specs.Declarations.{Declaration, Symbol, content_of, declarations, declared_by}
use Rattle.cil_names.specs.Entries.{AreOrdered, HasNoEntry, IsEntryAt, is_entry}
use Rattle.cil_macros.specs.blocks.Entries.{statement_at}
use Rattle.cil_macros.specs.Item.{Item, all_replaced, is_enabled, names_in, nobody, replaced}
use Rattle.cil_macros.specs.Items.{Kept, item_at, items_in, may_say_lists, placed_at, says_as_written, word_at}
use Rattle.cil_macros.specs.Walks.{written_in}
use Rattle.cil_macros.proofs.ItemLemmas.{items_taken}
use Rattle.cil_macros.proofs.ItemsThere.{named_there}
use Rattle.cil_names.specs.Symbols.{symbol_of}
use Rattle.cil_names.specs.Permissions.{AreEmpty, AreListed, AreOwn, DeclaresList, DeclaresNoList, SaysList, SaysNoList, has_list, list_sign, listed_by}
use Rattle.cil_names.specs.Resolves.{fits, gives_permission, listed_permissions, lists_permission}
use Rattle.cil_syntax.specs.Kinds.{is_wanted}
use Rattle.cil_macros.specs.blocks.Namespaces.{AreNamespaces, IsNumber, space_at}
use Rattle.cil_names.specs.Unresolved.{listed_at}
use Rattle.cil_names.proofs.EntryLemmas.{parts_fit, they_fit}
use Rattle.cil_macros.proofs.blocks_lemmas.NamespaceLemmas.{same_number}

-- ---- the names among terms

names_of_first : (t : Term Word) (ts : Terms Word) → names_in (cons t ts) ≡ names_in (cons t nil) ++ names_in ts
unfolding names_in
names_of_first (Leaf w) ts = refl
names_of_first (Name at name) ts = refl
names_of_first (Form at op parts) ts = refl

module _ (m : ℕ) where
  no_names : names_in (all_said m []) ≡ []
  unfolding names_in
  no_names = refl

  names_of_two : (xs : List rust.Term) (t : rust.Term) → names_in (all_said m (xs ++ t ∷ [])) ≡ names_in (all_said m xs) ++ names_in (all_said m (t ∷ []))
  names_of_two [] t = sym (ap (λ z. z ++ names_in (all_said m (t ∷ []))) no_names)
  names_of_two (x ∷ xs) t =
      names_of_first (said_of m x) (all_said m (xs ++ t ∷ []))
      ∙ ap (λ z. names_in (cons (said_of m x) nil) ++ z) (names_of_two xs t)
      ∙ sym (append_assoc (names_in (cons (said_of m x) nil)) (names_in (all_said m xs)) (names_in (all_said m (t ∷ []))))
      ∙ ap (λ z. z ++ names_in (all_said m (t ∷ []))) (sym (names_of_first (said_of m x) (all_said m xs)))

  pub names_begun : (xs : List rust.Term) (old : List (List ℕ)) → old ≡ old ++ names_in (all_said m (take 0 xs))
  names_begun [] old = sym (ap (λ z. old ++ z) no_names ∙ append-nil old)
  names_begun (x ∷ xs) old = sym (ap (λ z. old ++ z) no_names ∙ append-nil old)

  pub names_more : (xs : List rust.Term) (i : ℕ) (x : rust.Term) (start old new : List (List ℕ)) → i < length xs → x ≡ get_or xs i x
      → old ≡ start ++ names_in (all_said m (take i xs)) → new ≡ old ++ names_in (all_said m (x ∷ [])) → new ≡ start ++ names_in (all_said m (take (i + 1) xs))
  names_more xs i x start old new within is was push =
      push ∙ ap (λ z. z ++ names_in (all_said m (x ∷ []))) was
      ∙ append_assoc start (names_in (all_said m (take i xs))) (names_in (all_said m (x ∷ [])))
      ∙ ap (λ z. start ++ z) (sym (ap (λ ts. names_in (all_said m ts)) (take_more xs i x within ∙ ap (λ z. take i xs ++ z ∷ []) (sym is)) ∙ names_of_two (take i xs) x))

  pub names_all : (xs : List rust.Term) (i : ℕ) (start new : List (List ℕ)) → new ≡ start ++ names_in (all_said m (take i xs)) → length xs ≤ i
      → new ≡ start ++ names_in (all_said m xs)
  names_all xs i start new is over = is ∙ ap (λ ts. start ++ names_in (all_said m ts)) (take_all i xs over)

-- ---- what a statement lists, as an item

module _ (f : Word → ScopedWord) where
  names_said : (ts : Terms Word) → names_in (all_replaced (λ at. at) f ts) ≡ names_in ts
  unfolding names_in all_replaced
  names_said nil = refl
  names_said (cons (Leaf w) ts) = names_said ts
  names_said (cons (Name at name) ts) = ap (λ z. name ∷ z) (names_said ts)
  names_said (cons (Form at op parts) ts) = names_said ts

  listed_said : (ts : Terms Word) → listed_permissions (all_replaced (λ at. at) f ts) ≡ listed_permissions ts
  unfolding all_replaced
  listed_said nil = refl
  listed_said (cons (Leaf w) ts) = refl
  listed_said (cons (Form at op parts) ts) = refl
  listed_said (cons (Name at name) nil) = refl
  listed_said (cons (Name at name) (cons (Leaf w) ts)) = refl
  listed_said (cons (Name at name) (cons (Name bt other) ts)) = refl
  listed_said (cons (Name at name) (cons (Form bt op parts) ts)) = names_said parts

permissions_in : (ts : Terms Word) → listed_permissions ts ≡ option_map_or names_in (listed_behind_name ts) []
permissions_in nil = refl
permissions_in (cons (Leaf w) ts) = refl
permissions_in (cons (Form at op parts) ts) = refl
permissions_in (cons (Name at name) nil) = refl
permissions_in (cons (Name at name) (cons (Leaf w) ts)) = refl
permissions_in (cons (Name at name) (cons (Name bt other) ts)) = refl
permissions_in (cons (Name at name) (cons (Form bt op parts) ts)) = refl

-- only such a statement declares what a word of such a sign may name
as_class : (k : Keyword) → list_any (is_wanted signs.Classes) (entry_of k).declares ≡ true → list_sign k ≡ Some signs.Classes
unfolding entry_of
as_class keywords.Class e = refl
as_class keywords.ClassMap e = refl
as_class k e = absurd (true≢false (sym e))

as_common : (k : Keyword) → list_any (is_wanted signs.Commons) (entry_of k).declares ≡ true → list_sign k ≡ Some signs.Commons
unfolding entry_of
as_common keywords.Common e = refl
as_common k e = absurd (true≢false (sym e))

as_listed : (sign : Sign) → has_list sign ≡ true → (k : Keyword) → list_any (is_wanted sign) (entry_of k).declares ≡ true → list_sign k ≡ Some sign
as_listed signs.Classes h k e = as_class k e
as_listed signs.Commons h k e = as_common k e
as_listed sign h k e = absurd (true≢false (sym h))

list_keyword : (sign : Sign) → has_list sign ≡ true → (k : Keyword) (kind : Kind) → Contains (entry_of k).declares kind → is_wanted sign kind ≡ true → list_sign k ≡ Some sign
list_keyword sign h k kind c wanted = as_listed sign h k (any_from (is_wanted sign) (entry_of k).declares kind c wanted)

-- what a statement of this keyword declares
record IsListOf (k : Keyword) (sign : Sign) : Type 0 where
  kind : Kind
  declares : (entry_of k).declares ≡ kind ∷ []
  wanted : is_wanted sign kind ≡ true
  has : has_list sign ≡ true
  written : says_as_written k ≡ true
  named : may_say_lists k ≡ false

list_kind : (k : Keyword) (sign : Sign) → list_sign k ≡ Some sign → IsListOf k sign
unfolding entry_of
list_kind keywords.Class sign e =
    subst (IsListOf keywords.Class) (same_Some signs.Classes sign e) (record { kind = kinds.Class; declares = refl; wanted = refl; has = refl; written = refl; named = refl })
list_kind keywords.ClassMap sign e =
    subst (IsListOf keywords.ClassMap) (same_Some signs.Classes sign e) (record { kind = kinds.ClassMap; declares = refl; wanted = refl; has = refl; written = refl; named = refl })
list_kind keywords.Common sign e =
    subst (IsListOf keywords.Common) (same_Some signs.Commons sign e) (record { kind = kinds.Common; declares = refl; wanted = refl; has = refl; written = refl; named = refl })
list_kind k sign e = absurd (none-some sign e)

pub class_declares : (entry_of keywords.Class).declares ≡ kinds.Class ∷ []
unfolding entry_of
class_declares = refl

list_declared : (n : Namespace) (kind : Kind) (at : Spot) (name : List ℕ) (rest : Terms ScopedWord)
    → declarations n (kind ∷ []) (cons (Name at name) rest) ≡ record { kind = kind; space = n; name = name; content = content_of rest } ∷ []
list_declared n kind at name rest = refl

-- no word of one sign may name what one of the other may name
kinds_apart : (kind : Kind) → is_wanted signs.Classes kind ≡ true → is_wanted signs.Commons kind ≡ true → ⊥
kinds_apart kinds.Class a b = true≢false (sym b)
kinds_apart kinds.ClassMap a b = true≢false (sym b)
kinds_apart kind a b = true≢false (sym a)

listed_alike : (a b : Sign) (kind : Kind) → has_list a ≡ true → has_list b ≡ true → is_wanted a kind ≡ true → is_wanted b kind ≡ true → a ≡ b
listed_alike a b kind of_a of_b is_a is_b = by_sign a b of_a of_b is_a is_b
  where
    with_class : (b : Sign) → has_list b ≡ true → is_wanted signs.Classes kind ≡ true → is_wanted b kind ≡ true → signs.Classes ≡ b
    with_class signs.Classes h p q = refl
    with_class signs.Commons h p q = absurd (kinds_apart kind p q)
    with_class b h p q = absurd (true≢false (sym h))

    with_common : (b : Sign) → has_list b ≡ true → is_wanted signs.Commons kind ≡ true → is_wanted b kind ≡ true → signs.Commons ≡ b
    with_common signs.Classes h p q = absurd (kinds_apart kind q p)
    with_common signs.Commons h p q = refl
    with_common b h p q = absurd (true≢false (sym h))

    by_sign : (a b : Sign) → has_list a ≡ true → has_list b ≡ true → is_wanted a kind ≡ true → is_wanted b kind ≡ true → a ≡ b
    by_sign signs.Classes b g h p q = with_class b h p q
    by_sign signs.Commons b g h p q = with_common b h p q
    by_sign a b g h p q = absurd (true≢false (sym g))

-- ---- what an item gives

none_on : (round : List ℕ) → list_all nobody round ≡ true → round ≡ []
none_on [] e = refl
none_on (o ∷ os) e = absurd (true≢false (sym e))

module _ (x : Item) where
  -- where a declaration comes from
  record IsFront (declares : List Kind) (args : Terms ScopedWord) (d : Declaration) : Type 0 where
    at : Spot
    name : List ℕ
    rest : Terms ScopedWord
    says : args ≡ cons (Name at name) rest
    named : d.name ≡ name
    spaced : d.space ≡ x.space
    declared : Contains declares d.kind

  front_of : (declares : List Kind) (args : Terms ScopedWord) (d : Declaration) → Contains (declarations x.space declares args) d → IsFront declares args d
  front_of declares nil d c = absurd (contains_none d c)
  front_of declares (cons (Leaf w) rest) d c = absurd (contains_none d c)
  front_of declares (cons (Form at op parts) rest) d c = absurd (contains_none d c)
  front_of declares (cons (Name at name) rest) d c =
      let (kind, ck, e) = from_map (λ (k : Kind). record { kind = k; space = x.space; name = name; content = content_of rest }) declares d c in
      record {
        at = at;
        name = name;
        rest = rest;
        says = refl;
        named = ap (λ (y : Declaration). y.name) (sym e);
        spaced = ap (λ (y : Declaration). y.space) (sym e);
        declared = subst (Contains declares) (ap (λ (y : Declaration). y.kind) e) ck;
      }

  -- what lists a permission of a class, a class map or a common declares it
  record Gives (sign : Sign) (c : Symbol) (p : List ℕ) : Type 0 where
    declares : DeclaresList x sign c.name
    spaced : x.space ≡ c.space
    lists : list_any (same_bytes p) (listed_permissions x.args) ≡ true

  gives_only : (sign : Sign) → has_list sign ≡ true → (c : Symbol) (p : List ℕ) → gives_permission sign c p x ≡ true → Gives sign c p
  gives_only sign has c p e =
      let (front, lists) = and_parts (is_enabled nobody x && list_any (fits c.name sign c.space) (declared_by x)) (list_any (same_bytes p) (listed_permissions x.args)) e in
      let (on, some) = and_parts (is_enabled nobody x) (list_any (fits c.name sign c.space) (declared_by x)) front in
      let (d, cd, fit) = any_true (fits c.name sign c.space) (declared_by x) some in
      let (named, spaced) = and_parts (same_bytes d.name c.name && is_wanted sign d.kind) (same_space d.space c.space) fit in
      let (same, wanted) = and_parts (same_bytes d.name c.name) (is_wanted sign d.kind) named in
      let is = front_of (entry_of x.keyword).declares x.args d cd in
      record {
        declares = record {
          outside = none_on x.round on;
          keyword = list_keyword sign has x.keyword d.kind is.declared wanted;
          at = is.at;
          rest = is.rest;
          says = is.says ∙ ap (λ n. cons (Name is.at n) is.rest) (sym is.named ∙ (bytes_decides d.name c.name).0 same);
        };
        spaced = sym is.spaced ∙ (spaces_decide d.space c.space).0 spaced;
        lists = lists;
      }

  gives_from : (sign : Sign) (c : Symbol) (p : List ℕ) → Gives sign c p → gives_permission sign c p x ≡ true
  gives_from sign c p g =
      and_from _ _
      (and_from _ _ (ap (list_all nobody) g.declares.outside)
      (any_from (fits c.name sign c.space) (declared_by x) d (subst (λ ds. Contains ds d) (sym declared) (contains_here d []))
      (and_from _ _ (and_from _ _ ((bytes_decides c.name c.name).1 refl) of.wanted) ((spaces_decide x.space c.space).1 g.spaced))))
      g.lists
    where
      of : IsListOf x.keyword sign
      of = list_kind x.keyword sign g.declares.keyword

      d : Declaration
      d = record { kind = of.kind; space = x.space; name = c.name; content = content_of g.declares.rest }

      declared : declared_by x ≡ d ∷ []
      declared =
          ap (λ ks. declarations x.space ks x.args) of.declares
          ∙ ap (declarations x.space (of.kind ∷ [])) g.declares.says
          ∙ list_declared x.space of.kind g.declares.at c.name g.declares.rest

-- ---- the lists of all entries

listed_some : (lists : List (Vec Bytes)) (d : ℕ) (v : Vec Bytes) → slice_get lists d ≡ Some v → listed_at lists d ≡ v.items
listed_some lists d v e = ap (λ o. option_map_or (λ (w : Vec Bytes). w.items) o []) e

-- the number of an entry is a place of the lists
pub class_within : {X : Type 0} (lists : List X) (es : List Entry) (name : List ℕ) (sign : Sign) (k d : ℕ) → length lists ≡ length es → IsEntryAt es name sign k d → d < length lists
class_within lists es name sign k d len is = let h = slice_get_within es d is.entry is.at in omega (arith, len, h)

module _ (ss : List Space) (es : List Entry) where
  empty_at : (lists : List (Vec Bytes)) → AreEmpty es lists → (d : ℕ) → listed_at lists d ≡ []
  empty_at lists empty d = at _ refl
    where
      at : (o : Option (Vec Bytes)) → slice_get lists d ≡ o → listed_at lists d ≡ []
      at None e = ap (λ o. option_map_or (λ (w : Vec Bytes). w.items) o []) e
      at (Some v) e = listed_some lists d v e ∙ empty.each v (get_contains lists d v e)

  -- no items list nothing
  pub nothing_listed : (lists : List (Vec Bytes)) → AreEmpty es lists → AreOwn ss es [] lists
  unfolding lists_permission
  nothing_listed lists empty = record {
    rising = λ v c. subst (IsStrictlySortedBy text_cmp) (sym (empty.each v c)) (rising_nothing text_cmp);
    each = λ sign has d e at wanted p. ap (list_any (same_bytes p)) (empty_at lists empty d);
  }

  module _ (xs : List Item) (x : Item) where
    abbrev more : List Item
    more = xs ++ x ∷ []

    has_more : (sign : Sign) (c : Symbol) (p : List ℕ) → lists_permission more sign c p ≡ (lists_permission xs sign c p || (gives_permission sign c p x || false))
    unfolding lists_permission
    has_more sign c p = list_any-append (gives_permission sign c p) xs (x ∷ [])

    has_same : (sign : Sign) (c : Symbol) (p : List ℕ) → gives_permission sign c p x ≡ false → lists_permission more sign c p ≡ lists_permission xs sign c p
    has_same sign c p e = has_more sign c p ∙ ap (λ b. lists_permission xs sign c p || (b || false)) e ∙ or-false (lists_permission xs sign c p)

    no_gift : (sign : Sign) → has_list sign ≡ true → (c : Symbol) (p : List ℕ) → (Gives x sign c p → ⊥) → gives_permission sign c p x ≡ false
    no_gift sign has c p none = elim (cases_Bool (gives_permission sign c p x)) [ inl t ↦ absurd (none (gives_only x sign has c p t)) | inr e ↦ e ]

    kept : (lists : List (Vec Bytes)) → ((sign : Sign) (d : ℕ) (e : Entry) (p : List ℕ) → slice_get es d ≡ Some e → is_wanted sign e.kind ≡ true → Gives x sign (symbol_of ss e) p → ⊥)
        → AreOwn ss es xs lists → AreOwn ss es more lists
    kept lists none are = record {
      rising = are.rising;
      each = λ sign has d e at wanted p. are.each sign has d e at wanted p ∙ sym (has_same sign (symbol_of ss e) p (no_gift sign has (symbol_of ss e) p (none sign d e p at wanted)));
    }

    -- the item declares nothing with a list
    pub kept_without : (lists : List (Vec Bytes)) → DeclaresNoList x → AreOwn ss es xs lists → AreOwn ss es more lists
    kept_without lists without = kept lists (λ sign d e p at wanted g. without sign e.name g.declares)

    module _ (namespaces : AreNamespaces ss) (ordered : AreOrdered ss es) (k : ℕ) (placed : IsNumber ss x.space k) where
      one_space : (e : Entry) → Contains es e → x.space ≡ space_at ss e.space → e.space ≡ k
      one_space e c same =
          same_number ss namespaces (space_at ss e.space) e.space k (record { within = ordered.within e c; is = refl }) (record { within = placed.within; is = placed.is ∙ same })

      permissions_said : (f : Word → ScopedWord) (args : Terms Word) → x.args ≡ all_replaced (λ at. at) f args → listed_permissions x.args ≡ option_map_or names_in (listed_behind_name args) []
      permissions_said f args says = ap listed_permissions says ∙ listed_said f args ∙ permissions_in args

      one_name : (s t : Sign) (a b : List ℕ) → DeclaresList x s a → DeclaresList x t b → a ≡ b
      one_name s t a b x y = let e : cons (Name x.at a) x.rest ≡ cons (Name y.at b) y.rest = sym x.says ∙ y.says in cc

      module _ (sign : Sign) (name : List ℕ) (declares : DeclaresList x sign name) where
        fits_here : (other : Sign) (e : Entry) (p : List ℕ) (d : ℕ) → slice_get es d ≡ Some e → is_wanted other e.kind ≡ true → Gives x other (symbol_of ss e) p
            → is_entry name sign k e ≡ true
        fits_here other e p d at wanted g =
            they_fit name sign k e (one_space e (get_contains es d e at) g.spaced) (one_name other sign e.name name g.declares declares)
            (subst (λ (t : Sign). is_wanted t e.kind ≡ true) (same_Some other sign (sym g.declares.keyword ∙ declares.keyword)) wanted)

        -- it has no entry
        pub kept_unknown : (lists : List (Vec Bytes)) → HasNoEntry es name sign k → AreOwn ss es xs lists → AreOwn ss es more lists
        kept_unknown lists none = kept lists (λ other d e p at wanted g. none d e at (fits_here other e p d at wanted g))

        -- the statement has no list
        pub kept_unlisted : (f : Word → ScopedWord) (args : Terms Word) → x.args ≡ all_replaced (λ at. at) f args → (lists : List (Vec Bytes)) → listed_behind_name args ≡ None
            → AreOwn ss es xs lists → AreOwn ss es more lists
        kept_unlisted f args says lists none =
            kept lists (λ other d e p at wanted g.
            let empty : listed_permissions x.args ≡ [] = permissions_said f args says ∙ ap (λ o. option_map_or names_in o []) none in
            true≢false (sym g.lists ∙ ap (list_any (same_bytes p)) empty))

        -- the names that the statement lists were listed before
        pub kept_again : (lists : List (Vec Bytes)) (class_ : ℕ) → IsEntryAt es name sign k class_
            → ((p : List ℕ) → list_any (same_bytes p) (listed_permissions x.args) ≡ true → list_any (same_bytes p) (listed_at lists class_) ≡ true)
            → AreOwn ss es xs lists → AreOwn ss es more lists
        kept_again lists class_ is there are = record {
          rising = are.rising;
          each = λ other has d e at wanted p.
              are.each other has d e at wanted p
              ∙ sym (has_more other (symbol_of ss e) p
              ∙ known (lists_permission xs other (symbol_of ss e) p) (gives_permission other (symbol_of ss e) p x) (λ t.
              let g = gives_only x other has (symbol_of ss e) p t in
              let one : d ≡ class_ = is.only d e at (fits_here other e p d at wanted g) in
              sym (are.each other has d e at wanted p) ∙ ap (λ n. list_any (same_bytes p) (listed_at lists n)) one ∙ there p g.lists));
        }
          where
            known : (b g : Bool) → (g ≡ true → b ≡ true) → (b || (g || false)) ≡ b
            known true g h = refl
            known false true h = sym (h refl)
            known false false h = refl

        -- the names that the statement lists are added to those of its name
        module _ (f : Word → ScopedWord) (args : Terms Word) (says : x.args ≡ all_replaced (λ at. at) f args) (old : List (Vec Bytes)) (class_ : ℕ) (is : IsEntryAt es name sign k class_) (before none_yet after : Vec Bytes) (m : ℕ) (items : List rust.Term)
            (len : length old ≡ length es) (was : slice_get old class_ ≡ Some before) (listed : listed_behind_name args ≡ Some (all_said m items))
            (all : Lists text_cmp (Contains (before.items ++ names_in (all_said m items))) after.items) where
          abbrev new : List (Vec Bytes)
          new = set (set old class_ none_yet) class_ after

          pub new_len : length new ≡ length es
          new_len = length-set (set old class_ none_yet) class_ after ∙ length-set old class_ none_yet ∙ len

          within : class_ < length (set old class_ none_yet)
          within = let a = length-set old class_ none_yet in let b = slice_get_within old class_ before was in omega (arith, a, b)

          here : slice_get new class_ ≡ Some after
          here = get_set_same (set old class_ none_yet) class_ after within

          elsewhere : (d : ℕ) → (d ≡ class_ → ⊥) → slice_get new d ≡ slice_get old d
          elsewhere d differ = get_set_other (set old class_ none_yet) class_ d after differ ∙ get_set_other old class_ d none_yet differ

          rises : ((v : Vec Bytes) → Contains old v → IsStrictlySortedBy text_cmp v.items) → (v : Vec Bytes) → Contains new v → IsStrictlySortedBy text_cmp v.items
          rises up v c =
              let (d, below_d, at) = get_at new v c in
              elim (cases_eq d class_) [
                | inl e ↦ subst (λ (w : Vec Bytes). IsStrictlySortedBy text_cmp w.items) (some_vec (sym here ∙ ap (slice_get new) (sym e) ∙ at)) all.rising
                | inr differ ↦ up v (get_contains old d v (sym (elsewhere d differ) ∙ at))
              ]
            where
              some_vec : {a b : Vec Bytes} → Some a ≡ Some b → a ≡ b
              some_vec {a} {b} e = ap (λ o. unwrap_or o a) e

          said : listed_permissions x.args ≡ names_in (all_said m items)
          said = permissions_said f args says ∙ ap (λ o. option_map_or names_in o []) listed

          -- a name is among the new ones where it was among the old ones or is listed
          any_all : (p : List ℕ) → list_any (same_bytes p) after.items ≡ (list_any (same_bytes p) before.items || list_any (same_bytes p) (listed_permissions x.args))
          any_all p =
              same_truth (list_any (same_bytes p) after.items) (list_any (same_bytes p) (before.items ++ names_in (all_said m items)))
              (λ t. let (x, c, same) = any_true (same_bytes p) after.items t in any_from (same_bytes p) _ x ((all.members x).0 c) same)
              (λ t. let (x, c, same) = any_true (same_bytes p) (before.items ++ names_in (all_said m items)) t in any_from (same_bytes p) after.items x ((all.members x).1 c) same)
              ∙ list_any-append (same_bytes p) before.items (names_in (all_said m items))
              ∙ ap (λ l. list_any (same_bytes p) before.items || list_any (same_bytes p) l) (sym said)

          gives_all : (other : Sign) → has_list other ≡ true → (e : Entry) → slice_get es class_ ≡ Some e → is_wanted other e.kind ≡ true → (p : List ℕ)
              → gives_permission other (symbol_of ss e) p x ≡ list_any (same_bytes p) (listed_permissions x.args)
          gives_all other has e at also p =
              let (space, same, wanted) = parts_fit name sign k is.entry is.fits in
              let one : is.entry ≡ e = same_Some is.entry e (sym is.at ∙ at) in
              let alike : sign ≡ other = listed_alike sign other e.kind (list_kind x.keyword sign declares.keyword).has has (subst (λ (y : Entry). is_wanted sign y.kind ≡ true) one wanted) also in
              same_truth _ _
              (λ t. (gives_only x other has (symbol_of ss e) p t).lists)
              (λ t. gives_from x other (symbol_of ss e) p (record {
                declares = subst (λ (z : Sign). DeclaresList x z e.name) alike (subst (DeclaresList x sign) (sym same ∙ ap (λ (y : Entry). y.name) one) declares);
                spaced = sym placed.is ∙ ap (space_at ss) (sym space ∙ ap (λ (y : Entry). y.space) one);
                lists = t;
              }))

          -- the statement is the one whose permissions were added last
          pub listed_after : (i : Kept) (last : List (Option ℕ)) (number : ℕ) → class_ < length last → listed_permissions x.args ≡ listed_by i number → AreListed i last old
              → AreListed i (set last class_ (Some number)) new
          listed_after i last number inside same are = λ d j at p t. elim (cases_eq d class_) [
            | inl e ↦
                let one : number ≡ j = same_Some number j (same_Some (Some number) (Some j) (sym (get_set_same last class_ (Some number) inside) ∙ ap (slice_get (set last class_ (Some number))) (sym e) ∙ at)) in
                ap (λ n. list_any (same_bytes p) (listed_at new n)) e
                ∙ ap (list_any (same_bytes p)) (listed_some new class_ after here)
                ∙ any_all p
                ∙ ap (λ b. list_any (same_bytes p) before.items || b) (ap (list_any (same_bytes p)) (same ∙ ap (listed_by i) one) ∙ t)
                ∙ or_true (list_any (same_bytes p) before.items)
            | inr differ ↦
                ap (λ o. list_any (same_bytes p) (option_map_or (λ (w : Vec Bytes). w.items) o [])) (elsewhere d differ)
                ∙ are d j (sym (get_set_other last class_ d (Some number) differ) ∙ at) p t
          ]
            where
              or_true : (b : Bool) → (b || true) ≡ true
              or_true true = refl
              or_true false = refl

          pub added : AreOwn ss es xs old → AreOwn ss es more new
          added are = record {
            rising = rises are.rising;
            each = λ other has d e at wanted p. elim (cases_eq d class_) [
              | inl same ↦
                  let at_class : slice_get es class_ ≡ Some e = ap (slice_get es) (sym same) ∙ at in
                  ap (λ k. list_any (same_bytes p) (listed_at new k)) same
                  ∙ ap (list_any (same_bytes p)) (listed_some new class_ after here)
                  ∙ any_all p
                  ∙ ap (λ b. b || list_any (same_bytes p) (listed_permissions x.args)) (ap (list_any (same_bytes p)) (sym (listed_some old class_ before was)) ∙ are.each other has class_ e at_class wanted p)
                  ∙ ap (λ b. lists_permission xs other (symbol_of ss e) p || b) (sym (gives_all other has e at_class wanted p) ∙ or_last (gives_permission other (symbol_of ss e) p x))
                  ∙ sym (has_more other (symbol_of ss e) p)
              | inr differ ↦
                  ap (λ o. list_any (same_bytes p) (option_map_or (λ (w : Vec Bytes). w.items) o [])) (elsewhere d differ)
                  ∙ are.each other has d e at wanted p
                  ∙ sym (has_same other (symbol_of ss e) p (no_gift other has (symbol_of ss e) p (λ g. differ (is.only d e at (fits_here other e p d at wanted g)))))
            ];
          }
            where
              or_last : (b : Bool) → b ≡ (b || false)
              or_last true = refl
              or_last false = refl

-- ---- place by place

module _ (ss : List Space) (es : List Entry) where
  pub listed_more : (i : Kept) (at : ℕ) (lists : List (Vec Bytes)) → at < length (items_in i) → AreOwn ss es (take at (items_in i) ++ item_at i at ∷ []) lists
      → AreOwn ss es (take (at + 1) (items_in i)) lists
  listed_more i at lists within are = subst (λ xs. AreOwn ss es xs lists) (sym (items_taken i at within)) are

  pub listed_all : (xs : List Item) (n : ℕ) (lists : List (Vec Bytes)) → length xs ≤ n → AreOwn ss es (take n xs) lists → AreOwn ss es xs lists
  listed_all xs n lists over are = subst (λ ys. AreOwn ss es ys lists) (take_all n xs over) are

  pub listed_none : (xs : List Item) (lists : List (Vec Bytes)) → AreEmpty es lists → AreOwn ss es (take 0 xs) lists
  listed_none [] lists empty = nothing_listed ss es lists empty
  listed_none (x ∷ xs) lists empty = nothing_listed ss es lists empty

-- ---- the statement at a place

-- what begins with a name where its words are replaced began with it
name_back : (f : Word → ScopedWord) (ts : Terms Word) (at : Spot) (name : List ℕ) (rest : Terms ScopedWord) → all_replaced (λ bt. bt) f ts ≡ cons (Name at name) rest
    → (more : Terms Word) × (ts ≡ cons (Name at name) more)
unfolding replaced all_replaced
name_back f nil at name rest e = absurd cc
name_back f (cons (Leaf w) ts) at name rest e = absurd cc
name_back f (cons (Form bt op parts) ts) at name rest e = absurd cc
name_back f (cons (Name bt b) ts) at name rest e = (ts, (let p : bt ≡ at = cc in let q : b ≡ name = cc in λ i. cons (Name (p i) (q i)) ts))

-- where it is in an optional
pub none_in_optional : (x : Item) → (x.round ≡ [] → ⊥) → DeclaresNoList x
none_in_optional x inside sign name d = inside d.outside

module _ (i : Kept) (at : ℕ) where
  module _ (s : Statement) (says : statement_of s ≡ (placed_at i at).standing.statement.statement) where
    list_says : (sign : Sign) → list_sign s.keyword ≡ Some sign → (item_at i at).args ≡ all_replaced (λ bt. bt) (word_at i at) (args_of s)
    list_says sign k = let kind = list_kind s.keyword sign k in named_there i at s says kind.named kind.written

    pub none_declared : SaysNoList s → DeclaresNoList (item_at i at)
    none_declared none sign name d =
        let k : list_sign s.keyword ≡ Some sign = ap list_sign (ap (λ t. t.keyword) says) ∙ d.keyword in
        let (more, e) = name_back (word_at i at) (args_of s) d.at name d.rest (sym (list_says sign k) ∙ d.says) in
        none sign d.at name (record { keyword = k; rest = more; says = e })

    module _ (sign : Sign) (bt : Spot) (name : List ℕ) (d : SaysList s sign bt name) where
      pub said_by_list : (item_at i at).args ≡ all_replaced (λ bt. bt) (word_at i at) (args_of s)
      said_by_list = list_says sign d.keyword

      pub listed_here : (number : ℕ) → (placed_at i at).standing.statement ≡ statement_at (written_in i.0) number → listed_permissions (item_at i at).args ≡ listed_by i number
      listed_here number same =
          ap listed_permissions said_by_list ∙ listed_said (word_at i at) (args_of s) ∙ ap (λ t. listed_permissions t.args) says ∙ ap (λ (w : Written). listed_permissions w.statement.args) same

      pub one_declared : (item_at i at).round ≡ [] → DeclaresList (item_at i at) sign name
      unfolding replaced all_replaced
      one_declared outside = record {
        outside = outside;
        keyword = ap list_sign (sym (ap (λ t. t.keyword) says)) ∙ d.keyword;
        at = bt;
        rest = all_replaced (λ ct. ct) (word_at i at) d.rest;
        says = said_by_list ∙ ap (all_replaced (λ ct. ct) (word_at i at)) d.says;
      }

-- ---- no lists

pub empty_more : {X : Type 0} (es : List X) (k : ℕ) (x : X) (lists grown : List (Vec Bytes)) (v : Vec Bytes) → k < length es → x ≡ get_or es k x → AreEmpty (take k es) lists → v.items ≡ []
    → grown ≡ lists ++ v ∷ [] → AreEmpty (take (k + 1) es) grown
empty_more es k x lists grown v within e empty none push = subst (AreEmpty (take (k + 1) es)) (sym push) (record {
  len = longer lists v ∙ ap (λ n. n + 1) empty.len ∙ sym (ap length (take_more es k x within ∙ ap (λ z. take k es ++ z ∷ []) (sym e)) ∙ longer (take k es) x);
  each = λ w c. elim (Contains-append_cases lists (v ∷ []) w c) [
    | inl old ↦ empty.each w old
    | inr last ↦ elim (contains_cases w v [] last) [ inl same ↦ ap (λ (z : Vec Bytes). z.items) (sym same) ∙ none | inr n ↦ absurd (contains_none w n) ]
  ];
})

pub empty_all : {X : Type 0} (es : List X) (k : ℕ) (lists : List (Vec Bytes)) → length es ≤ k → AreEmpty (take k es) lists → AreEmpty es lists
empty_all es k lists over empty = subst (λ xs. AreEmpty xs lists) (take_all k es over) empty

pub empty_none : {X : Type 0} (es : List X) (lists : List (Vec Bytes)) → lists ≡ [] → AreEmpty (take 0 es) lists
empty_none [] lists e = subst (AreEmpty []) (sym e) (record { len = refl; each = λ v c. absurd (contains_none v c) })
empty_none (x ∷ xs) lists e = subst (AreEmpty []) (sym e) (record { len = refl; each = λ v c. absurd (contains_none v c) })

-- no statement for each entry
module _ {X : Type 0} (es : List X) where
  none_said : (d : ℕ) (o : Option X) → slice_get es d ≡ o → (k : ℕ) → slice_get (map (λ e. None) es) d ≡ Some (Some k) → ⊥
  none_said d o e k at = impossible o (sym (slice_get-map (λ e. None) es d ∙ ap (option_map (λ e. None)) e) ∙ at)
    where
      impossible : (o : Option X) → option_map (λ e. None) o ≡ Some (Some k) → ⊥
      impossible None f = absurd (let g : None ≡ Some (Some k) = f in cc)
      impossible (Some x) f = absurd (let g : None ≡ Some k = same_Some None (Some k) f in cc)

  pub none_listed : (i : Kept) (last : List (Option ℕ)) (lists : List (Vec Bytes)) → last ≡ map (λ e. None) es → AreListed i last lists
  none_listed i last lists e = λ d k at p t. absurd (none_said d (slice_get es d) refl k (ap (λ l. slice_get l d) (sym e) ∙ at))

  pub none_len : (last : List (Option ℕ)) → last ≡ map (λ e. None) es → length last ≡ length es
  none_len last e = ap length e ∙ length-map es (λ e. None)
