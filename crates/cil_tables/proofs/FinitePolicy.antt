-- The sets that the definitions of a policy name are finite: what is declared, what words stand for, numbers, links and cases.
use Rattle.std.specs.Prelude.{Contains, Option, Some, None, slice_get}
use Rattle.std.proofs.Common.{◌≡◌, ◌⊎◌, ℕ, ◌<◌, true, List, length, refl, sym, ◌∙◌, ap, subst, inl, inr}
use Rattle.std.proofs.lemmas.Bool.{and_parts, true≢false}
use Rattle.std.proofs.lemmas.Option.{none-some, same_Some, slice_get_within}
use Rattle.cil_base.specs.Decided.{Decided, decided_both, decided_same, same_bool, same_text}
use Rattle.cil_syntax.specs.Forms.{rule_form, two_words}
use Rattle.cil_syntax.specs.declared.kind.Kind.{Kind}
use Rattle.cil_syntax.specs.declared.kind.Kind.TheVariants as kinds
use Rattle.cil_syntax.specs.declared.term.Op.TheVariants as ops
use Rattle.cil_faults.specs.declared.spot.Spot.{Spot}
use Rattle.cil_syntax.specs.Terms.{Term, Leaf, Name, Form, Terms, nil, cons}
use Rattle.cil_neverallow.specs.rules.Records.{HasNumber}
use Rattle.cil_tables.specs.Named.{IsNameOf}
use Rattle.cil_known.specs.Known.{IsNumbered}
use Rattle.cil_syntax.specs.Scopes.{ScopedWord}
use Rattle.cil_syntax.proofs.DecidedEquality.{kind_is, same_namespace}
use Rattle.cil_names.proofs.DeclareDecided.{same_symbol}
use Rattle.cil_names.specs.Declarations.{Declaration, declared_by, IsDeclaration, object, by, object_role, Declared, Symbol, name_of}
use Rattle.cil_macros.specs.Item.{Item, OptSet, is_enabled}
use Rattle.cil_known.specs.Members.{StandsFor}
use Rattle.cil_classes.specs.Given.{HasPair, Holder, IsGiven, by_mapping, by_set, mapped, named, of_class, of_map, of_name}
use Rattle.cil_classes.specs.Values.{in_value, in_value_there}
use Rattle.cil_classes.proofs.ValueLemmas.{value_there}
use Rattle.cil_names.specs.Resolves.{has_permission}
use Rattle.cil_tables.specs.Laws.{is_flat}
use Rattle.cil_tables.proofs.NoGifts.{HaveFlatKeywords, is_stood, stands_plain}
use Rattle.cil_tables.proofs.Finite.{Finite, decided_where, finite_all, finite_below, finite_either, finite_given, finite_image, finite_inverse, finite_list, finite_one, finite_same, finite_where, member}

-- ---- options and numbers

pub is_this : {X : Type 0} → ((x y : X) → Decided (x ≡ y)) → (o : Option X) (x : X) → Decided (o ≡ Some x)
is_this same (Some y) x = decided_same (ap Some) (same_Some y x) (same y x)
is_this same None x = inr (none-some x)

-- the numbers of a name
pub finite_numbers : (names : List (List ℕ)) (name : List ℕ) → Finite (λ n. slice_get names n ≡ Some name)
finite_numbers names name =
    finite_same (λ n. (n < length names) × (slice_get names n ≡ Some name)) (λ n. slice_get names n ≡ Some name)
    (λ n h. h.1) (λ n e. (slice_get_within names n name e, e))
    (finite_where (λ n. n < length names) (λ n. slice_get names n ≡ Some name) (finite_below (length names)) (λ n h. is_this same_text (slice_get names n) name))

-- ---- the forms of terms

two_of : ScopedWord × ScopedWord → Terms ScopedWord
two_of p = cons (Leaf p.0) (cons (Leaf p.1) nil)

two_are : (ts : Terms ScopedWord) (p : ScopedWord × ScopedWord) → two_words ts ≡ Some p → ts ≡ two_of p
unfolding two_of
two_are nil p e = absurd (none-some p e)
two_are (cons (Leaf a) nil) p e = absurd (none-some p e)
two_are (cons (Leaf a) (cons (Leaf b) nil)) p e = ap two_of (same_Some (a, b) p e)
two_are (cons (Leaf a) (cons (Leaf b) (cons c ts))) p e = absurd (none-some p e)
two_are (cons (Leaf a) (cons (Name at bytes) ts)) p e = absurd (none-some p e)
two_are (cons (Leaf a) (cons (Form at op parts) ts)) p e = absurd (none-some p e)
two_are (cons (Name at bytes) ts) p e = absurd (none-some p e)
two_are (cons (Form at op parts) ts) p e = absurd (none-some p e)

two_back : (p : ScopedWord × ScopedWord) → two_words (two_of p) ≡ Some p
unfolding two_of
two_back p = refl

-- the two words that some terms are
pub finite_two : (ts : Terms ScopedWord) → Finite (λ (p : ScopedWord × ScopedWord). ts ≡ cons (Leaf p.0) (cons (Leaf p.1) nil))
unfolding two_of
finite_two ts = finite_inverse two_of two_words two_back two_are ts

abbrev pub Three : Type 0
Three = ScopedWord × Term ScopedWord × Term ScopedWord

three_of : Three → Terms ScopedWord
three_of p = cons (Leaf p.0) (cons p.1 (cons p.2 nil))

three_are : (ts : Terms ScopedWord) (p : Three) → rule_form ts ≡ Some p → ts ≡ three_of p
unfolding three_of
three_are nil p e = absurd (none-some p e)
three_are (cons (Leaf a) nil) p e = absurd (none-some p e)
three_are (cons (Leaf a) (cons b nil)) p e = absurd (none-some p e)
three_are (cons (Leaf a) (cons b (cons c nil))) p e = ap three_of (same_Some (a, b, c) p e)
three_are (cons (Leaf a) (cons b (cons c (cons d ts)))) p e = absurd (none-some p e)
three_are (cons (Name at bytes) ts) p e = absurd (none-some p e)
three_are (cons (Form at op parts) ts) p e = absurd (none-some p e)

three_back : (p : Three) → rule_form (three_of p) ≡ Some p
unfolding three_of
three_back p = refl

-- the parts of a rule that some terms are
pub finite_three : (ts : Terms ScopedWord) → Finite (λ (p : Three). ts ≡ cons (Leaf p.0) (cons p.1 (cons p.2 nil)))
unfolding three_of
finite_three ts = finite_inverse three_of rule_form three_back three_are ts

-- the name that begins some terms, and what stands behind it
abbrev pub Front : Type 0
Front = Spot × List ℕ × Terms ScopedWord

front_of : Front → Terms ScopedWord
front_of p = cons (Name p.0 p.1) p.2

front_form : Terms ScopedWord → Option Front
front_form nil = None
front_form (cons (Leaf w) ts) = None
front_form (cons (Name at bytes) ts) = Some (at, bytes, ts)
front_form (cons (Form at op parts) ts) = None

front_are : (ts : Terms ScopedWord) (p : Front) → front_form ts ≡ Some p → ts ≡ front_of p
unfolding front_of front_form
front_are nil p e = absurd (none-some p e)
front_are (cons (Leaf w) ts) p e = absurd (none-some p e)
front_are (cons (Name at bytes) ts) p e = ap front_of (same_Some (at, bytes, ts) p e)
front_are (cons (Form at op parts) ts) p e = absurd (none-some p e)

front_back : (p : Front) → front_form (front_of p) ≡ Some p
unfolding front_of front_form
front_back p = refl

pub finite_front : (ts : Terms ScopedWord) → Finite (λ (p : Front). ts ≡ cons (Name p.0 p.1) p.2)
unfolding front_of
finite_front ts = finite_inverse front_of front_form front_back front_are ts

-- the parts of a class permission
abbrev pub Given : Type 0
Given = Spot × ScopedWord × Term ScopedWord

given_of : Given → Term ScopedWord
given_of p = Form p.0 ops.ClassPermissions (cons (Leaf p.1) (cons p.2 nil))

given_parts : Spot → Terms ScopedWord → Option Given
given_parts at nil = None
given_parts at (cons (Leaf w) nil) = None
given_parts at (cons (Leaf w) (cons t nil)) = Some (at, w, t)
given_parts at (cons (Leaf w) (cons t (cons u us))) = None
given_parts at (cons (Name bt bytes) ts) = None
given_parts at (cons (Form bt op parts) ts) = None

given_form : Term ScopedWord → Option Given
given_form (Leaf w) = None
given_form (Name at bytes) = None
given_form (Form at ops.ClassPermissions parts) = given_parts at parts
given_form (Form at op parts) = None

parts_are : (at : Spot) (ts : Terms ScopedWord) (p : Given) → given_parts at ts ≡ Some p → Form at ops.ClassPermissions ts ≡ given_of p
unfolding given_of given_parts
parts_are at nil p e = absurd (none-some p e)
parts_are at (cons (Leaf w) nil) p e = absurd (none-some p e)
parts_are at (cons (Leaf w) (cons t nil)) p e = ap given_of (same_Some (at, w, t) p e)
parts_are at (cons (Leaf w) (cons t (cons u us))) p e = absurd (none-some p e)
parts_are at (cons (Name bt bytes) ts) p e = absurd (none-some p e)
parts_are at (cons (Form bt op parts) ts) p e = absurd (none-some p e)

given_are : (t : Term ScopedWord) (p : Given) → given_form t ≡ Some p → t ≡ given_of p
unfolding given_form
given_are (Leaf w) p e = absurd (none-some p e)
given_are (Name at bytes) p e = absurd (none-some p e)
given_are (Form at ops.ClassPermissions parts) p e = parts_are at parts p e
given_are (Form at op parts) p e = absurd (none-some p e)

given_back : (p : Given) → given_form (given_of p) ≡ Some p
unfolding given_of given_form given_parts
given_back p = refl

finite_parts : (t : Term ScopedWord) → Finite (λ (p : Given). t ≡ Form p.0 ops.ClassPermissions (cons (Leaf p.1) (cons p.2 nil)))
unfolding given_of
finite_parts t = finite_inverse given_of given_form given_back given_are t

module _ (xs : List Item) (s : OptSet) where
  -- ---- declarations

  pub finite_declarations : Finite (IsDeclaration xs s)
  finite_declarations =
      finite_same (λ d. (object_role ≡ d) ⊎ ((x : Item) × Contains xs x × ((is_enabled s x ≡ true) × Contains (declared_by x) d))) (IsDeclaration xs s)
      (λ d h. elim h [ inl e ↦ subst (IsDeclaration xs s) e object | inr r ↦ by r.0 d r.1 r.2.0 r.2.1 ]) parts
      (finite_either (λ d. object_role ≡ d) (λ d. (x : Item) × Contains xs x × ((is_enabled s x ≡ true) × Contains (declared_by x) d)) (finite_one object_role)
      (finite_all (λ x d. (is_enabled s x ≡ true) × Contains (declared_by x) d) (Contains xs) (finite_list xs)
      (λ x c. finite_given (is_enabled s x ≡ true) (Contains (declared_by x)) (same_bool (is_enabled s x) true) (finite_list (declared_by x)))))
    where
      parts : (d : Declaration) → IsDeclaration xs s d → (object_role ≡ d) ⊎ ((x : Item) × Contains xs x × ((is_enabled s x ≡ true) × Contains (declared_by x) d))
      parts d object = inl refl
      parts d (by x e c is_on by_it) = inr (x, c, (is_on, by_it))

  pub decided_declared : (kind : Kind) (t : Symbol) → Decided (Declared xs s kind t)
  decided_declared kind t =
      decided_same
      (λ h. record { declaration = h.0; declares = h.1; of_kind = h.2.0; in_space = h.2.1.0; of_name = h.2.1.1 })
      (λ d. (d.declaration, d.declares, (d.of_kind, (d.in_space, d.of_name))))
      (decided_where (IsDeclaration xs s) (λ d. (d.kind ≡ kind) × ((d.space ≡ t.space) × (d.name ≡ t.name))) finite_declarations
      (λ d is. decided_both (kind_is d.kind kind) (decided_both (same_namespace d.space t.space) (same_text d.name t.name))))

  symbol_of : Declaration → Symbol
  symbol_of d = record { space = d.space; name = d.name }

  pub finite_declared : (kind : Kind) → Finite (Declared xs s kind)
  unfolding symbol_of
  finite_declared kind =
      finite_same (λ t. (d : Declaration) × (IsDeclaration xs s d × (d.kind ≡ kind)) × (symbol_of d ≡ t)) (Declared xs s kind)
      (λ t h. record { declaration = h.0; declares = h.1.0; of_kind = h.1.1; in_space = ap (λ (u : Symbol). u.space) h.2; of_name = ap (λ (u : Symbol). u.name) h.2 })
      (λ t d. (d.declaration, (d.declares, d.of_kind), λ i. record { space = d.in_space i; name = d.of_name i }))
      (finite_image (λ d. IsDeclaration xs s d × (d.kind ≡ kind)) symbol_of
      (finite_where (IsDeclaration xs s) (λ d. d.kind ≡ kind) finite_declarations (λ d is. kind_is d.kind kind)))

  pub finite_names : (kind : Kind) → Finite (IsNameOf xs s kind)
  finite_names kind =
      finite_same (λ n. (t : Symbol) × Declared xs s kind t × (name_of t ≡ n)) (IsNameOf xs s kind)
      (λ n h. record { symbol = h.0; declared = h.1; named = h.2 }) (λ n h. (h.symbol, h.declared, h.named))
      (finite_image (Declared xs s kind) name_of (finite_declared kind))

-- ---- what words stand for

module _ (xs : List Item) (flat : HaveFlatKeywords xs) (s : OptSet) where
  pub finite_stands : (kind : Kind) (w : ScopedWord) → Finite (StandsFor xs s kind w)
  finite_stands kind w =
      finite_same (λ t. Declared xs s kind t × (is_stood xs flat s kind w t ≡ true)) (StandsFor xs s kind w)
      (λ t h. (stands_plain xs flat s kind w t).1 (h.1, h.0))
      (λ t st. let h = (stands_plain xs flat s kind w t).0 st in (h.1, h.0))
      (finite_where (Declared xs s kind) (λ t. is_stood xs flat s kind w t ≡ true) (finite_declared xs s kind) (λ t d. same_bool (is_stood xs flat s kind w t) true))

  -- the numbers of the symbols for which a word stands
  pub finite_has_number : (types : List (List ℕ)) (w : ScopedWord) → Finite (HasNumber xs s types w)
  finite_has_number types w =
      finite_same (λ n. (t : Symbol) × StandsFor xs s kinds.Type_ w t × IsNumbered types t n) (HasNumber xs s types w)
      (λ n h. record { kind = h.0; stands = h.1; numbered = h.2 }) (λ n h. (h.kind, h.stands, h.numbered))
      (finite_all (λ t n. IsNumbered types t n) (StandsFor xs s kinds.Type_ w) (finite_stands kinds.Type_ w) (λ t st. finite_numbers types (name_of t)))

  -- ---- class permissions

  -- what gives a permission, by its parts
  record PairBy (t : Term ScopedWord) (c : Symbol) (p : List ℕ) : Type 0 where
    at : Spot
    word : ScopedWord
    expression : Term ScopedWord
    is : t ≡ Form at ops.ClassPermissions (cons (Leaf word) (cons expression nil))
    stands : StandsFor xs s kinds.Class word c
    value : in_value (has_permission xs c) expression p ≡ true

  -- no statement gives anything to a class permission or to a permission of a class map
  nothing_given : (h : Holder) (cp : Term ScopedWord) → IsGiven xs s h cp → ⊥
  nothing_given h cp (by_set word given n says stands) = true≢false (sym (flat says.item says.is_item) ∙ ap is_flat says.is_keyword)
  nothing_given h cp (by_mapping word permission given m says stands) = true≢false (sym (flat says.item says.is_item) ∙ ap is_flat says.is_keyword)

  pair_parts : (t : Term ScopedWord) (c : Symbol) (p : List ℕ) → HasPair xs s t c p → PairBy t c p
  pair_parts t c p (of_class at word expression d q stands value) =
      record { at = at; word = word; expression = expression; is = refl; stands = stands; value = value }
  pair_parts t c p (of_map at word expression given m d r q stands value is_given pair) = absurd (nothing_given (mapped m r) given is_given)
  pair_parts t c p (of_name word given n d q stands is_given pair) = absurd (nothing_given (named n) given is_given)

  -- what the value of an expression has, the class has
  has_of : (c : Symbol) (e : Term ScopedWord) (p : List ℕ) → in_value (has_permission xs c) e p ≡ true → has_permission xs c p ≡ true
  has_of c e p value = (and_parts (has_permission xs c p) (in_value_there e p) (sym (value_there (has_permission xs c) e p) ∙ value)).0

  -- the class of a permission that is given is declared
  pub pair_class : (t : Term ScopedWord) (c : Symbol) (p : List ℕ) → HasPair xs s t c p → Declared xs s kinds.Class c
  pair_class t c p h = (pair_parts t c p h).stands.declared

  -- the classes of which a class permission gives a permission
  pub finite_classes : ((c : Symbol) → Finite (λ p. has_permission xs c p ≡ true)) → (t : Term ScopedWord) → Finite (λ c. (p : List ℕ) × HasPair xs s t c p)
  finite_classes permissions t =
      finite_same
      (λ c. (g : Given) × (t ≡ Form g.0 ops.ClassPermissions (cons (Leaf g.1) (cons g.2 nil)))
      × (StandsFor xs s kinds.Class g.1 c × ((p : List ℕ) × (has_permission xs c p ≡ true) × (in_value (has_permission xs c) g.2 p ≡ true))))
      (λ c. (p : List ℕ) × HasPair xs s t c p)
      (λ c h. (h.2.1.0, subst (λ u. HasPair xs s u c h.2.1.0) (sym h.1) (of_class h.0.0 h.0.1 h.0.2 c h.2.1.0 h.2.0 h.2.1.2)))
      (λ c h. let b = pair_parts t c h.0 h.1 in ((b.at, b.word, b.expression), b.is, (b.stands, (h.0, has_of c b.expression h.0 b.value, b.value))))
      (finite_all (λ g c. StandsFor xs s kinds.Class g.1 c × ((p : List ℕ) × (has_permission xs c p ≡ true) × (in_value (has_permission xs c) g.2 p ≡ true)))
      (λ g. t ≡ Form g.0 ops.ClassPermissions (cons (Leaf g.1) (cons g.2 nil))) (finite_parts t)
      (λ g is. finite_where (StandsFor xs s kinds.Class g.1) (λ c. (p : List ℕ) × (has_permission xs c p ≡ true) × (in_value (has_permission xs c) g.2 p ≡ true)) (finite_stands kinds.Class g.1)
      (λ c st. decided_where (λ p. has_permission xs c p ≡ true) (λ p. in_value (has_permission xs c) g.2 p ≡ true) (permissions c) (λ p has. same_bool (in_value (has_permission xs c) g.2 p) true))))

  pub decided_pair : (t : Term ScopedWord) (c : Symbol) (p : List ℕ) → Decided (HasPair xs s t c p)
  decided_pair t c p =
      decided_same
      (λ h. subst (λ u. HasPair xs s u c p) (sym h.1) (of_class h.0.0 h.0.1 h.0.2 c p h.2.0 h.2.1))
      (λ h. let b = pair_parts t c p h in ((b.at, b.word, b.expression), b.is, (b.stands, b.value)))
      (decided_where (λ g. t ≡ Form g.0 ops.ClassPermissions (cons (Leaf g.1) (cons g.2 nil)))
      (λ (g : Given). StandsFor xs s kinds.Class g.1 c × (in_value (has_permission xs c) g.2 p ≡ true)) (finite_parts t)
      (λ g is. decided_both (member (StandsFor xs s kinds.Class g.1) (finite_stands kinds.Class g.1) same_symbol c) (same_bool (in_value (has_permission xs c) g.2 p) true)))
