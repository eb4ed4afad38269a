-- Classes with too many permissions, by the entries of their names.
use Rattle.std.specs.Prelude.{Contains, Some, None, slice_get, Option}
use Rattle.std.specs.Cmp.Lexicographic.{bytes_decides, pointwise_decides}
use Rattle.std.specs.Global.{Vec}
use Rattle.std.proofs.Common.{◌≡◌, ◌⊎◌, ℕ, ◌+◌, ◌<◌, ◌≤◌, true, false, List, [], ◌∷◌, ◌++◌, length, take, refl, sym, ◌∙◌, ap, subst, inl, inr, arith, ◌&&◌}
use Rattle.std.proofs.lemmas.Bool.{true≢false, and_parts}
use Rattle.std.proofs.lemmas.Cmp.{nat_list_cmp_total}
use Rattle.std.proofs.lemmas.List.{take_all}
use Rattle.std.proofs.lemmas.List.Elements.{Contains-append_cases, Contains-append_left, Contains-append_right}
use Rattle.cil_base.specs.Lists.{Lists, text_cmp, contains_cases, contains_here, contains_none, one_list}
use Rattle.cil_base.specs.Searches.{any_from, any_true}
use Rattle.cil_base.specs.Places.{get_contains}
use Rattle.cil_base.specs.Rising.{rising_nothing}
use Rattle.cil_faults.specs.declared.code.FaultCode.TheVariants as causes
use Rattle.cil_base.specs.declared.bytes.Bytes.{Bytes}
use Rattle.cil_faults.specs.declared.fault.Fault.{Fault}
use Rattle.cil_syntax.specs.declared.kind.Kind.TheVariants as kinds
use Rattle.cil_syntax.specs.declared.kind.Sign.TheVariants as signs
use Rattle.cil_faults.specs.declared.spot.Spot.{Spot}
use Rattle.cil_syntax.specs.declared.term.Word.{Word}
use Rattle.cil_syntax.specs.Program.{statement_of}
use Rattle.cil_syntax.specs.Said.{args_of}
use Rattle.cil_syntax.specs.Spelling.{same_bytes}
use Rattle.cil_syntax.specs.Table.{entry_of}
use Rattle.cil_syntax.specs.declared.kind.Keyword.TheVariants as keywords
use Rattle.cil_syntax.specs.Terms.{Leaf, Name, Form, Terms, nil, cons}
use Rattle.cil_faults.specs.Reported.{fault_at}
use Rattle.cil_syntax.specs.Scopes.{same_space, ScopedWord}
use Rattle.cil_syntax.specs.Forms.{DeclaresClass, DeclaresNoClass}
use Rattle.cil_names.proofs.PermissionLemmas.{class_declares}
use Rattle.cil_names.proofs.CandidateLemmas.{they_are}
use Rattle.cil_names.specs.declared.entry.Entry.{Entry}
use Rattle.cil_syntax.specs.declared.program.Statement.{Statement}
use Rattle.cil_macros.specs.blocks.Space.{Space}
use Rattle.cil_names.specs.Declarations.{Declaration, Symbol, by, content_of, declarations, declared_by}
use Rattle.cil_names.specs.Entries.{AreEntries, HasNoEntryIn, IsEntryIn, is_entry_of}
use Rattle.cil_macros.specs.Item.{Item, OptSet, all_replaced, is_enabled}
use Rattle.cil_macros.specs.Items.{Kept, item_at, may_say_lists, placed_at, says_as_written, word_at}
use Rattle.cil_names.specs.Symbols.{symbol_of}
use Rattle.cil_names.specs.Resolves.{has_permission}
use Rattle.cil_syntax.specs.Kinds.{is_wanted}
use Rattle.cil_macros.specs.blocks.Namespaces.{space_at}
use Rattle.cil_names.specs.Unresolved.{ArePermissions, listed_at}
use Rattle.cil_macros.proofs.ItemsThere.{keyword_there, named_there}
use Rattle.cil_classes.specs.Faults.{ClassFault, HasManyClasses, too_many, two_commons, wide}
use Rattle.cil_classes.specs.Row.{most_permissions}
use Rattle.cil_classes.specs.Widths.{AreToldOf, IsWide, IsWrong}
use Rattle.std.specs.List.Sorted.{IsStrictlySortedBy}
use Rattle.std.specs.Option.{option_map_or}

-- ---- the permissions that are listed for an entry

module _ (lists : List (Vec Bytes)) (d : ℕ) where
  listed_rises : ((v : Vec Bytes) → Contains lists v → IsStrictlySortedBy text_cmp v.items) → IsStrictlySortedBy text_cmp (listed_at lists d)
  listed_rises up = at _ refl
    where
      at : (o : Option (Vec Bytes)) → slice_get lists d ≡ o → IsStrictlySortedBy text_cmp (listed_at lists d)
      at None e = subst (IsStrictlySortedBy text_cmp) (sym (ap (λ o. option_map_or (λ (w : Vec Bytes). w.items) o []) e)) (rising_nothing text_cmp)
      at (Some v) e = subst (IsStrictlySortedBy text_cmp) (sym (ap (λ o. option_map_or (λ (w : Vec Bytes). w.items) o []) e)) (up v (get_contains lists d v e))

  -- they are those of its class
  pub listed_are : (ss : List Space) (es : List Entry) (xs : List Item) → ArePermissions ss es xs lists → (e : Entry) → slice_get es d ≡ Some e → is_wanted signs.Classes e.kind ≡ true
      → Lists text_cmp (λ p. has_permission xs (symbol_of ss e) p ≡ true) (listed_at lists d)
  listed_are ss es xs are e at wanted = record {
    rising = listed_rises are.rising;
    members = λ p. (
      (λ c. sym (are.each d e at wanted p) ∙ any_from (same_bytes p) (listed_at lists d) p c ((bytes_decides p p).1 refl)),
      (λ has. let (q, c, same) = any_true (same_bytes p) (listed_at lists d) (are.each d e at wanted p ∙ has) in subst (Contains (listed_at lists d)) (sym ((bytes_decides p q).0 same)) c),
    );
  }

-- ---- the parts of an entry

pub entry_parts : (ss : List Space) (name : List ℕ) (n : List (List ℕ)) (e : Entry) → is_entry_of ss name signs.Classes n e ≡ true
    → (space_at ss e.space ≡ n) × (e.name ≡ name) × (is_wanted signs.Classes e.kind ≡ true)
entry_parts ss name n e fits =
    let (front, wanted) = and_parts (same_space (space_at ss e.space) n && same_bytes e.name name) (is_wanted signs.Classes e.kind) fits in
    let (space, named) = and_parts (same_space (space_at ss e.space) n) (same_bytes e.name name) front in
    ((pointwise_decides bytes_decides (space_at ss e.space) n).0 space, (bytes_decides e.name name).0 named, wanted)

-- ---- class statements

module _ (f : Word → ScopedWord) where
  pub said_front : (args : Terms Word) (at : Spot) (name : List ℕ) (rest : Terms ScopedWord) → all_replaced (λ at. at) f args ≡ cons (Name at name) rest
      → (more : Terms Word) × (args ≡ cons (Name at name) more)
  unfolding all_replaced
  said_front nil at name rest e = absurd cc
  said_front (cons (Leaf w) ts) at name rest e = absurd cc
  said_front (cons (Form bt op parts) ts) at name rest e = absurd cc
  said_front (cons (Name bt n) ts) at name rest e =
      let p : bt ≡ at = cc in let q : n ≡ name = cc in (ts, λ i. cons (Name (p i) (q i)) ts)

  item_says : (at : Spot) (name : List ℕ) (rest : Terms Word) → all_replaced (λ bt. bt) f (cons (Name at name) rest) ≡ cons (Name at name) (all_replaced (λ bt. bt) f rest)
  unfolding all_replaced
  item_says at name rest = refl

-- an item that is not enabled, or that says nothing
pub not_enabled : (xs : List Item) (s : OptSet) (x : Item) → is_enabled s x ≡ false → (f : Fault) → IsWide s xs x f → ⊥
not_enabled xs s x off f w = true≢false (sym w.enabled ∙ off)

-- what a class statement says is what is written
pub record IsClassSaid (st : Statement) (g : Word → ScopedWord) (x : Item) : Type 0 where
  pub keyword : x.keyword ≡ st.keyword
  pub args : st.keyword ≡ keywords.Class → x.args ≡ all_replaced (λ at. at) g (args_of st)

pub class_said : (i : Kept) (at : ℕ) (st : Statement) → statement_of st ≡ (placed_at i at).standing.statement.statement → IsClassSaid st (word_at i at) (item_at i at)
class_said i at st is = record { keyword = keyword_there i at st is; args = λ k. named_there i at st is (ap may_say_lists k) (ap says_as_written k) }

module _ (ss : List Space) (xs : List Item) (es : List Entry) (s : OptSet) (x : Item) (st : Statement) (g : Word → ScopedWord) (said : IsClassSaid st g x) where
  class_says : st.keyword ≡ keywords.Class → x.args ≡ all_replaced (λ at. at) g (args_of st)
  class_says k = said.args k

  declares_by : (f : Fault) (w : IsWide s xs x f) → DeclaresClass st w.at w.name
  declares_by f w =
      let k = sym said.keyword ∙ w.keyword in
      let (more, says) = said_front g (args_of st) w.at w.name w.rest (sym (class_says k) ∙ w.says) in
      record { keyword = k; rest = more; says = says }

  pub declares_none : DeclaresNoClass st → (f : Fault) → IsWide s xs x f → ⊥
  declares_none none f w = none w.at w.name (declares_by f w)

  module _ (at : Spot) (name : List ℕ) (declares : DeclaresClass st at name) where
    one_class : (bt : Spot) (other : List ℕ) → DeclaresClass st bt other → (bt ≡ at) × (other ≡ name)
    one_class bt other d =
        let e : cons (Name bt other) d.rest ≡ cons (Name at name) declares.rest = sym d.says ∙ declares.says in (cc, cc)

    abbrev rest : Terms ScopedWord
    rest = all_replaced (λ bt. bt) g declares.rest

    item_is : x.args ≡ cons (Name at name) rest
    item_is = class_says declares.keyword ∙ ap (all_replaced (λ bt. bt) g) declares.says ∙ item_says g at name declares.rest

    abbrev declaration : Declaration
    declaration = record { kind = kinds.Class; space = x.space; name = name; content = content_of rest }

    declared : Contains (declared_by x) declaration
    declared =
        subst (λ ds. Contains ds declaration)
        (sym ((λ i. declarations x.space (entry_of (said.keyword i)).declares (item_is i))
        ∙ ap (λ k. declarations x.space (entry_of k).declares (cons (Name at name) rest)) declares.keyword
        ∙ ap (λ ks. declarations x.space ks (cons (Name at name) rest)) class_declares))
        (contains_here declaration [])

    module _ (entries : AreEntries ss xs es) (member : Contains xs x) where
      -- an enabled class has an entry
      pub no_entry : HasNoEntryIn ss es name signs.Classes x.space → (f : Fault) → IsWide s xs x f → ⊥
      no_entry none f w =
          let (d, e) = entries.each s declaration (by x declaration member w.enabled declared) in
          none d e.entry e.at (they_are ss name signs.Classes x.space e.entry e.in_space e.of_name (ap (is_wanted signs.Classes) e.of_kind))

      module _ (lists : List (Vec Bytes)) (permissions : ArePermissions ss es xs lists) (d : ℕ) (entry : IsEntryIn ss es name signs.Classes x.space d) where
        symbol_is : symbol_of ss entry.entry ≡ record { space = x.space; name = name }
        symbol_is = let (space, named, wanted) = entry_parts ss name x.space entry.entry entry.fits in λ j. record { space = space j; name = named j }

        listed : Lists text_cmp (λ p. has_permission xs (record { space = x.space; name = name }) p ≡ true) (listed_at lists d)
        listed =
            let (space, named, wanted) = entry_parts ss name x.space entry.entry entry.fits in
            subst (λ (c : Symbol). Lists text_cmp (λ p. has_permission xs c p ≡ true) (listed_at lists d)) symbol_is (listed_are lists d ss es xs permissions entry.entry entry.at wanted)

        pub few : length (listed_at lists d) ≤ most_permissions → (f : Fault) → IsWide s xs x f → ⊥
        few short f w =
            let (spot, same) = one_class w.at w.name (declares_by f w) in
            let here : Lists text_cmp (λ p. has_permission xs (record { space = x.space; name = name }) p ≡ true) w.permissions =
            subst (λ n. Lists text_cmp (λ p. has_permission xs (record { space = x.space; name = n }) p ≡ true) w.permissions) same w.listed in
            let one = ap length (one_list text_cmp nat_list_cmp_total (λ p. has_permission xs (record { space = x.space; name = name }) p ≡ true) w.permissions (listed_at lists d) here listed) in
            let big = w.wide in
            omega (arith, short, one, big)

        pub many : is_enabled s x ≡ true → most_permissions < length (listed_at lists d) → (f : Fault)
            → (IsWide s xs x f → f ≡ fault_at causes.ClassWide at x.space name) × (f ≡ fault_at causes.ClassWide at x.space name → IsWide s xs x f)
        many on big f = (
          (λ w. let (spot, same) = one_class w.at w.name (declares_by f w) in w.told ∙ (λ j. fault_at causes.ClassWide (spot j) x.space (same j))),
          (λ told. record {
            at = at;
            name = name;
            rest = rest;
            permissions = listed_at lists d;
            enabled = on;
            keyword = said.keyword ∙ declares.keyword;
            says = item_is;
            listed = listed;
            wide = big;
            told = told;
          }),
        )

-- ---- item by item

-- a fault more, or none
pub none_more : (old : List Fault) (P : Fault → Type 0) → ((f : Fault) → P f → ⊥) → (f : Fault) → (Contains old f → Contains old f ⊎ P f) × (Contains old f ⊎ P f → Contains old f)
none_more old P none f = ((λ c. inl c), (λ e. elim e [ inl c ↦ c | inr p ↦ absurd (none f p) ]))

pub one_more : (old new : List Fault) (g : Fault) (P : Fault → Type 0) → new ≡ old ++ g ∷ [] → ((f : Fault) → (P f → f ≡ g) × (f ≡ g → P f))
    → (f : Fault) → (Contains new f → Contains old f ⊎ P f) × (Contains old f ⊎ P f → Contains new f)
one_more old new g P push told f = (
  (λ c. elim (Contains-append_cases old (g ∷ []) f (subst (λ z. Contains z f) push c)) [
    | inl d ↦ inl d
    | inr d ↦ elim (contains_cases f g [] d) [ inl e ↦ inr ((told f).1 (sym e)) | inr n ↦ absurd (contains_none f n) ]
  ]),
  (λ e. subst (λ z. Contains z f) (sym push) (elim e [
    | inl c ↦ Contains-append_left old (g ∷ []) f c
    | inr p ↦ Contains-append_right old (g ∷ []) f (subst (λ z. Contains (z ∷ []) f) ((told f).0 p) (contains_here f []))
  ])),
)

module _ (P : Item → Fault → Type 0) (xs : List Item) where
  pub told_none : (faults : List Fault) → faults ≡ [] → AreToldOf P (take 0 xs) faults
  told_none faults e f = ((λ c. absurd (contains_none f (subst (λ z. Contains z f) e c))), (λ t. absurd (nobody xs t.0 t.1)))
    where
      nobody : (ys : List Item) (x : Item) → Contains (take 0 ys) x → ⊥
      nobody [] x c = contains_none x c
      nobody (y ∷ ys) x c = contains_none x c

  pub told_more : (k : ℕ) (x : Item) (old new : List Fault) → take (k + 1) xs ≡ take k xs ++ x ∷ []
      → ((f : Fault) → (Contains new f → Contains old f ⊎ P x f) × (Contains old f ⊎ P x f → Contains new f)) → AreToldOf P (take k xs) old → AreToldOf P (take (k + 1) xs) new
  told_more k x old new taken step are f = (
    (λ c. elim ((step f).0 c) [
      | inl d ↦ let t = (are f).0 d in (t.0, subst (λ z. Contains z t.0) (sym taken) (Contains-append_left (take k xs) (x ∷ []) t.0 t.1), t.2)
      | inr w ↦ (x, subst (λ z. Contains z x) (sym taken) (Contains-append_right (take k xs) (x ∷ []) x (contains_here x [])), w)
    ]),
    (λ t. (step f).1 (elim (Contains-append_cases (take k xs) (x ∷ []) t.0 (subst (λ z. Contains z t.0) taken t.1)) [
      | inl d ↦ inl ((are f).1 (t.0, d, t.2))
      | inr d ↦ elim (contains_cases t.0 x [] d) [
        | inl e ↦ inr (subst (λ (y : Item). P y f) (sym e) t.2)
        | inr n ↦ absurd (contains_none t.0 n)
      ]
    ])),
  )

  pub told_all : (k : ℕ) (faults : List Fault) → length xs ≤ k → AreToldOf P (take k xs) faults → AreToldOf P xs faults
  told_all k faults over = subst (λ ys. AreToldOf P ys faults) (take_all k xs over)

-- with that of too many classes they are all
module _ (xs : List Item) (s : OptSet) (before faults : List Fault) (are : AreToldOf (IsWrong s xs) xs before)
    (last : (f : Fault) → (Contains faults f → Contains before f ⊎ HasManyClasses s xs f) × (Contains before f ⊎ HasManyClasses s xs f → Contains faults f)) where
  there_before : (f : Fault) → Contains before f → ClassFault s xs f
  there_before f c = let (x, cx, wrong) = (are f).0 c in elim wrong [
    | inl w ↦ subst (ClassFault s xs) (sym w.told) (wide x w.at w.name w.rest w.permissions cx w.enabled w.keyword w.says w.listed w.wide)
    | inr t ↦ two_commons x f cx t
  ]

  pub fault_there : (f : Fault) → Contains faults f → ClassFault s xs f
  fault_there f c = elim ((last f).0 c) [ inl d ↦ there_before f d | inr m ↦ too_many f m ]

  pub fault_back : (f : Fault) → ClassFault s xs f → Contains faults f
  fault_back f (wide x at name rest permissions c on keyword says listed big) =
      (last (fault_at causes.ClassWide at x.space name)).1 (inl ((are (fault_at causes.ClassWide at x.space name)).1 (
        x,
        c,
        inl (record { at = at; name = name; rest = rest; permissions = permissions; enabled = on; keyword = keyword; says = says; listed = listed; wide = big; told = refl }),
      )))
  fault_back f (two_commons x g c h) = (last f).1 (inl ((are f).1 (x, c, inr h)))
  fault_back f (too_many g m) = (last f).1 (inr m)
