-- The names of the booleans that are on at first, statement by statement.
use Rattle.std.specs.Prelude.{◌↔◌, ◌⊎◌, Contains, None, Some, Result, Ok, Err, codes}
use Rattle.std.specs.Option.{option_map_or}
use Rattle.std.proofs.Common.{◌≡◌, ℕ, ◌+◌, ◌<◌, ◌≤◌, Bool, true, false, List, [], ◌∷◌, ◌++◌, length, take, refl, sym, ◌∙◌, ap, subst, inl, inr, arith}
use Rattle.std.proofs.lemmas.Bool.{and_from, and_parts, true≢false}
use Rattle.std.proofs.lemmas.List.{map-append, take_all}
use Rattle.std.specs.Cmp.Lexicographic.{bytes_decides}
use Rattle.std.proofs.lemmas.List.Elements.{Contains-append_cases, Contains-append_left, Contains-append_right}
use Rattle.std.proofs.lemmas.Cmp.{nat_list_cmp_total}
use Rattle.cil_base.specs.Lists.{Lists, contains_cases, contains_here, contains_none, one_list, text_cmp}
use Rattle.cil_base.specs.Searches.{any_from, any_true}
use Rattle.cil_macros.specs.Item.{Item, OptSet, all_replaced, is_enabled}
use Rattle.cil_syntax.specs.Spelling.{same_bytes}
use Rattle.cil_syntax.specs.declared.kind.Keyword.{Keyword}
use Rattle.cil_syntax.specs.declared.kind.Keyword.TheVariants as keywords
use Rattle.cil_syntax.specs.declared.term.Word.{Word}
use Rattle.cil_syntax.specs.Scopes.{ScopedWord}
use Rattle.cil_syntax.specs.Terms.{Leaf, Name, Form, Terms, nil, cons}
use Rattle.cil_macros.specs.Items.{may_say_lists, says_as_written}
use Rattle.cil_tables.specs.declared.tables.Boolean.{Boolean}
use Rattle.cil_tables.specs.Table.{boolean_names, most_booleans}
use Rattle.cil_names.specs.Declarations.{name_of, nowhere}
use Rattle.cil_faults.specs.declared.code.FaultCode.TheVariants as causes
use Rattle.cil_faults.specs.declared.failure.Failure.{Failure}
use Rattle.cil_faults.specs.declared.fault.Fault.{Fault}
use Rattle.cil_faults.specs.Refusal.{Answers}
use Rattle.cil_faults.specs.Reported.{global_fault}
use Rattle.cil_syntax.specs.declared.kind.Kind.TheVariants as kinds
use Rattle.cil_classes.proofs.WidthLemmas.{one_more}
use Rattle.cil_faults.proofs.RefusalLemmas.{answers_alike}
use Rattle.cil_tables.specs.Named.{IsNameOf}
use Rattle.cil_tables.specs.Booleans.{HasManyBooleans, is_boolean, is_default_on, is_on_by, named_on, turns_on}

-- two tests that hold at once are one
pub same_tests : (a b : Bool) → (a ≡ true) ↔ (b ≡ true) → a ≡ b
same_tests true true both = refl
same_tests true false both = sym (both.0 refl)
same_tests false true both = both.1 refl
same_tests false false both = refl

-- one of these statements says that the boolean is on
pub record HasTurn (s : OptSet) (xs : List Item) (name : List ℕ) : Type 0 where
  pub item : Item
  pub is_item : Contains xs item
  pub on : is_on_by s name item ≡ true

abbrev pub AreOn : OptSet → List Item → List (List ℕ) → Type 0
AreOn s xs on = (name : List ℕ) → Contains on name ↔ HasTurn s xs name

-- what one statement more adds
abbrev pub AddsOn : OptSet → Item → List (List ℕ) → List (List ℕ) → Type 0
AddsOn s x old new = (name : List ℕ) → Contains new name ↔ (Contains old name ⊎ (is_on_by s name x ≡ true))

pub on_none : (s : OptSet) (xs : List Item) → AreOn s (take 0 xs) []
on_none s xs name = (λ c. absurd (contains_none name c), λ h. absurd (contains_none h.item h.is_item))

pub on_more : (s : OptSet) (before : List Item) (x : Item) (all : List Item) (old new : List (List ℕ)) → all ≡ before ++ x ∷ [] → AreOn s before old → AddsOn s x old new → AreOn s all new
on_more s before x all old new taken so_far adds = subst (λ xs. AreOn s xs new) (sym taken) (λ name. (
  λ c. elim ((adds name).0 c) [
    | inl d ↦ let h = (so_far name).0 d in record { item = h.item; is_item = Contains-append_left before (x ∷ []) h.item h.is_item; on = h.on }
    | inr e ↦ record { item = x; is_item = Contains-append_right before (x ∷ []) x (contains_here x []); on = e }
  ],
  λ h. (adds name).1 (elim (Contains-append_cases before (x ∷ []) h.item h.is_item) [
    | inl d ↦ inl ((so_far name).1 (record { item = h.item; is_item = d; on = h.on }))
    | inr d ↦ elim (contains_cases h.item x [] d) [
      | inl e ↦ inr (subst (λ (y : Item). is_on_by s name y ≡ true) (sym e) h.on)
      | inr none ↦ absurd (contains_none h.item none)
    ]
  ]),
))

pub on_all : (s : OptSet) (xs : List Item) (i : ℕ) (on : List (List ℕ)) → length xs ≤ i → AreOn s (take i xs) on
    → (name : List ℕ) → Contains on name ↔ (is_default_on xs s name ≡ true)
unfolding is_default_on
on_all s xs i on over are name = (
  λ c. let h = (subst (λ ys. AreOn s ys on) (take_all i xs over) are name).0 c in any_from (is_on_by s name) xs h.item h.is_item h.on,
  λ e. let h = any_true (is_on_by s name) xs e in
      (subst (λ ys. AreOn s ys on) (take_all i xs over) are name).1 (record { item = h.0; is_item = h.1; on = h.2 }),
)

-- ---- one statement

adds_nothing : (s : OptSet) (x : Item) (on : List (List ℕ)) → ((name : List ℕ) → is_on_by s name x ≡ true → ⊥) → AddsOn s x on on
adds_nothing s x on none name = (λ c. inl c, λ e. elim e [ inl c ↦ c | inr t ↦ absurd (none name t) ])

module _ (s : OptSet) (x : Item) (on : List (List ℕ)) where
  parts : (name : List ℕ) → is_on_by s name x ≡ true → (is_enabled s x ≡ true) × (turns_on name x ≡ true)
  parts name e = and_parts (is_enabled s x) (turns_on name x) e

  said : (name : List ℕ) → is_on_by s name x ≡ true
      → (is_boolean x.keyword ≡ true) × (option_map_or (λ n. same_bytes (name_of (record { space = x.space; name = n })) name) (named_on x.args) false ≡ true)
  said name e = and_parts (is_boolean x.keyword) (option_map_or (λ n. same_bytes (name_of (record { space = x.space; name = n })) name) (named_on x.args) false) (parts name e).1

  pub other_statement : is_boolean x.keyword ≡ false → AddsOn s x on on
  other_statement other = adds_nothing s x on (λ name e. true≢false (sym (said name e).0 ∙ other))

  pub not_enabled : is_enabled s x ≡ false → AddsOn s x on on
  not_enabled out = adds_nothing s x on (λ name e. true≢false (sym (parts name e).0 ∙ out))

  pub says_no : named_on x.args ≡ None → AddsOn s x on on
  says_no none = adds_nothing s x on (λ name e. true≢false (sym (said name e).1 ∙ ap (λ o. option_map_or (λ n. same_bytes (name_of (record { space = x.space; name = n })) name) o false) none))

  -- one that says it of a name adds the qualified name
  pub says_yes : is_enabled s x ≡ true → is_boolean x.keyword ≡ true → (n : List ℕ) → named_on x.args ≡ Some n → (spelled : List ℕ) → spelled ≡ name_of (record { space = x.space; name = n })
      → (new : List (List ℕ)) → new ≡ on ++ spelled ∷ [] → AddsOn s x on new
  says_yes enabled boolean n named spelled is new push name = (
    λ c. elim (Contains-append_cases on (spelled ∷ []) name (subst (λ (l : List (List ℕ)). Contains l name) push c)) [
      | inl d ↦ inl d
      | inr d ↦ elim (contains_cases name spelled [] d) [
        | inl e ↦ inr (and_from (is_enabled s x) (turns_on name x) enabled (and_from (is_boolean x.keyword) _ boolean
            (ap (λ o. option_map_or (λ m. same_bytes (name_of (record { space = x.space; name = m })) name) o false) named
            ∙ (bytes_decides (name_of (record { space = x.space; name = n })) name).1 (sym is ∙ e))))
        | inr none ↦ absurd (contains_none name none)
      ]
    ],
    λ e. subst (λ (l : List (List ℕ)). Contains l name) (sym push) (elim e [
      | inl c ↦ Contains-append_left on (spelled ∷ []) name c
      | inr t ↦
          let same = ap (λ o. option_map_or (λ m. same_bytes (name_of (record { space = x.space; name = m })) name) o false) named in
          let equal : spelled ≡ name = is ∙ (bytes_decides (name_of (record { space = x.space; name = n })) name).0 (sym same ∙ (said name t).1) in
          Contains-append_right on (spelled ∷ []) name (subst (λ (z : List ℕ). Contains (z ∷ []) name) (sym equal) (contains_here name []))
    ]),
  )

-- ---- what is written

-- words that say something have no part in it
pub named_across : (f : Word → ScopedWord) (ts : Terms Word) → named_on (all_replaced (λ at. at) f ts) ≡ named_on ts
unfolding all_replaced
named_across f nil = refl
named_across f (cons (Leaf w) rest) = refl
named_across f (cons (Form at op parts) rest) = refl
named_across f (cons (Name at name) nil) = refl
named_across f (cons (Name at name) (cons (Leaf w) rest)) = refl
named_across f (cons (Name at name) (cons (Name bt other) rest)) = refl
named_across f (cons (Name at name) (cons (Form bt op parts) rest)) = refl

pub boolean_as_written : (k : Keyword) → is_boolean k ≡ true → says_as_written k ≡ true
boolean_as_written keywords.Boolean e = refl
boolean_as_written k e = absurd (true≢false (sym e))

-- no list stands for a word of it
pub boolean_named : (k : Keyword) → is_boolean k ≡ true → may_say_lists k ≡ false
boolean_named keywords.Boolean e = refl
boolean_named k e = absurd (true≢false (sym e))

-- ---- the section

pub one_boolean_more : (names : List (List ℕ)) (i : ℕ) (name : List ℕ) (copied : List ℕ) (on : Bool) (old new : List Boolean) → take (i + 1) names ≡ take i names ++ name ∷ []
    → copied ≡ name → new ≡ old ++ record { name = copied; default = on } ∷ [] → boolean_names old ≡ take i names → boolean_names new ≡ take (i + 1) names
one_boolean_more names i name copied on old new taken same push so_far =
    ap boolean_names push ∙ map-append (λ (b : Boolean). b.name) old (record { name = copied; default = on } ∷ []) ∙ (λ k. so_far k ++ same k ∷ []) ∙ sym taken

pub defaults_more : (on : List (List ℕ)) (b : Boolean) (old new : List Boolean) → new ≡ old ++ b ∷ [] → ((b.default ≡ true) ↔ Contains on b.name)
    → ((a : Boolean) → Contains old a → (a.default ≡ true) ↔ Contains on a.name) → (a : Boolean) → Contains new a → (a.default ≡ true) ↔ Contains on a.name
defaults_more on b old new push one so_far a c = elim (Contains-append_cases old (b ∷ []) a (subst (λ (l : List Boolean). Contains l a) push c)) [
  | inl d ↦ so_far a d
  | inr d ↦ elim (contains_cases a b [] d) [
    | inl e ↦ subst (λ (z : Boolean). (z.default ≡ true) ↔ Contains on z.name) e one
    | inr none ↦ absurd (contains_none a none)
  ]
]

-- ---- how many booleans a policy may have

module _ (xs : List Item) (s : OptSet) (names : List (List ℕ)) (are : Lists text_cmp (IsNameOf xs s kinds.Boolean) names) where
  pub not_many : length names ≤ most_booleans → (f : Fault) → HasManyBooleans s xs f → ⊥
  not_many few f t =
      let len = ap length (one_list text_cmp nat_list_cmp_total (IsNameOf xs s kinds.Boolean) t.names names t.are_names are) in
      let big = t.many in
      omega (arith, few, len, big)

  are_many : most_booleans < length names → (word : List ℕ) → word ≡ codes "booleans" → (f : Fault) → HasManyBooleans s xs f ↔ (f ≡ global_fault causes.TooMany nowhere word)
  are_many big word is f = (
    λ t. t.told ∙ ap (global_fault causes.TooMany nowhere) (sym is),
    λ told. record { names = names; are_names = are; many = big; told = told ∙ ap (global_fault causes.TooMany nowhere) is },
  )

  -- the one fault, and nothing else
  pub many_refused : most_booleans < length names → (word : List ℕ) → word ≡ codes "booleans" → (old new : List Fault) → old ≡ [] → new ≡ old ++ global_fault causes.TooMany nowhere word ∷ []
      → (r : Result (Unit {0}) Failure) → Answers (λ done. Unit {0}) (Contains new) r → Answers (λ done. length names ≤ most_booleans) (HasManyBooleans s xs) r
  many_refused big word is old new empty push r told =
      let more = one_more old new (global_fault causes.TooMany nowhere word) (HasManyBooleans s xs) push (are_many big word is) in
      some_refused (global_fault causes.TooMany nowhere word) ((are_many big word is _).1 refl) r
      (answers_alike _ (HasManyBooleans s xs) (λ done. Unit {0})
      (λ f c. elim ((more f).0 c) [ inl d ↦ absurd (contains_none f (subst (λ (l : List Fault). Contains l f) empty d)) | inr p ↦ p ])
      (λ f p. (more f).1 (inr p)) r told)
    where
      some_refused : (g : Fault) → HasManyBooleans s xs g → (r : Result (Unit {0}) Failure) → Answers (λ done. Unit {0}) (HasManyBooleans s xs) r
          → Answers (λ done. length names ≤ most_booleans) (HasManyBooleans s xs) r
      some_refused g has (Ok u) a = absurd (a.1 g has)
      some_refused g has (Err failure) a = a
