-- What is true of the symbols of two contexts is true of their numbers.
use Rattle.std.specs.Prelude.{◌↔◌, Some, slice_get}
use Rattle.std.specs.Ordering.{nat_cmp}
use Rattle.std.proofs.Common.{◌≡◌, ◌⊎◌, ℕ, Bool, true, false, not, ◌&&◌, ◌||◌, ◌==◌, List, get_or, refl, sym, ◌∙◌, ap, subst, inl, inr}
use Rattle.std.proofs.lemmas.Option.{same_Some}
use Rattle.cil_base.specs.Among.{among}
use Rattle.cil_base.specs.Lists.{Lists}
use Rattle.cil_syntax.specs.declared.kind.Kind.{Kind}
use Rattle.cil_syntax.specs.Scopes.{ScopedWord}
use Rattle.cil_macros.specs.Item.{Item, OptSet}
use Rattle.cil_classes.specs.names.Entry.{Entry}
use Rattle.cil_classes.specs.names.Declarations.{Declared, Symbol}
use Rattle.cil_classes.specs.names.Entries.{is_declared_in}
use Rattle.cil_classes.specs.names.Symbols.{symbol_of}
use Rattle.cil_classes.proofs.names_lemmas.DeclareDecided.{symbol_by}
use Rattle.cil_classes.specs.known.DeclaredKnown.{Known}
use Rattle.cil_classes.specs.known.Known.{IsKnown, IsNumbered, enabled_in}
use Rattle.cil_classes.specs.known.Numbers.{AreApart, has_section}
use Rattle.cil_classes.proofs.known_lemmas.StandingLemmas.{one_number}
use Rattle.cil_constraints.specs.declared.expr.Context.{Context as Numbers}
use Rattle.cil_constraints.specs.declared.step.Part.{Part}
use Rattle.cil_constraints.specs.declared.step.Part.TheVariants as parts
use Rattle.cil_constraints.specs.declared.step.Side.{Side}
use Rattle.cil_constraints.specs.declared.step.Side.TheVariants as sides
use Rattle.cil_constraints.specs.declared.step.Equality.{Equality}
use Rattle.cil_constraints.specs.declared.step.Equality.TheVariants as equalities
use Rattle.cil_constraints.specs.Contexts.{AsAsked, Context, IsAmong, IsTrueOf, kind_of, symbol_of as part_of}
use Rattle.cil_constraints.specs.Expressions.{Expression, Negated, Both, Either, Compared, Ranked, Inside}
use Rattle.cil_constraints.specs.Numbered.{HasNumberAmong, IsContextOf, IsExpressionOf}
use Rattle.cil_constraints.specs.Truth.{as_asked, number_of, side_of, truth}
use Rattle.cil_constraints.proofs.NumberTests.{has_back, has_there, number_tells, same_number}

not_tells : (P : Type 0) (test : Bool) → P ↔ (test ≡ true) → (P → ⊥) ↔ (not test ≡ true)
not_tells P true is = (λ f. absurd (f (is.1 refl)), λ e p. let g : false ≡ true = e in cc)
not_tells P false is = (λ f. refl, λ e p. let g = is.0 p in cc)

asked_tells : (P : Type 0) (equality : Equality) (test : Bool) → P ↔ (test ≡ true) → AsAsked equality P ↔ (as_asked equality test ≡ true)
asked_tells P equalities.Equal test is = is
asked_tells P equalities.Different test is = not_tells P test is

and_tells : (P Q : Type 0) (b c : Bool) → P ↔ (b ≡ true) → Q ↔ (c ≡ true) → (P × Q) ↔ ((b && c) ≡ true)
and_tells P Q true c p q = (λ h. q.0 h.1, λ e. (p.1 refl, q.1 e))
and_tells P Q false c p q = (λ h. p.0 h.0, λ e. absurd (let g : false ≡ true = e in cc))

or_tells : (P Q : Type 0) (b c : Bool) → P ↔ (b ≡ true) → Q ↔ (c ≡ true) → (P ⊎ Q) ↔ ((b || c) ≡ true)
or_tells P Q true c p q = (λ h. refl, λ e. inl (p.1 refl))
or_tells P Q false c p q = (λ h. elim h [ inl x ↦ absurd (let g = p.0 x in cc) | inr y ↦ q.0 y ], λ e. inr (q.1 e))

-- in the sections of users, of roles and of types each symbol has one number, and each number is that of one declared symbol
pub record TellApart (xs : List Item) (s : OptSet) (names : Kind → List (List ℕ)) : Type 0 where
  pub number : (part : Part) (t : Symbol) (n m : ℕ) → IsNumbered (names (kind_of part)) t n → IsNumbered (names (kind_of part)) t m → n ≡ m
  pub symbol : (part : Part) (t u : Symbol) (n : ℕ) → Declared xs s (kind_of part) t → Declared xs s (kind_of part) u → IsNumbered (names (kind_of part)) t n → IsNumbered (names (kind_of part)) u n → t ≡ u

module _ (xs : List Item) (s : OptSet) (names : Kind → List (List ℕ)) (apart : TellApart xs s names) where
  numbered : (part : Part) (c : Context) (n : Numbers) → IsContextOf xs s names c n → IsNumbered (names (kind_of part)) (part_of part c) (number_of part n)
  numbered parts.User c n is = is.user
  numbered parts.Role c n is = is.role
  numbered parts.Kind c n is = is.kind

  declared : (part : Part) (c : Context) (n : Numbers) → IsContextOf xs s names c n → Declared xs s (kind_of part) (part_of part c)
  declared parts.User c n is = is.a_user
  declared parts.Role c n is = is.a_role
  declared parts.Kind c n is = is.a_type

  module _ (a b : Context) (n m : Numbers) (sa : IsContextOf xs s names a n) (sb : IsContextOf xs s names b m) where
    -- ---- comparisons

    compared_tells : (part : Part) → (part_of part a ≡ part_of part b) ↔ ((number_of part n == number_of part m) ≡ true)
    compared_tells part = (
      λ e. number_tells _ _ (apart.number part (part_of part b) (number_of part n) (number_of part m)
          (subst (λ t. IsNumbered (names (kind_of part)) t (number_of part n)) e (numbered part a n sa)) (numbered part b m sb)),
      λ e. apart.symbol part (part_of part a) (part_of part b) (number_of part n) (declared part a n sa) (declared part b m sb) (numbered part a n sa)
          (subst (IsNumbered (names (kind_of part)) (part_of part b)) (sym (same_number (number_of part n) (number_of part m) e)) (numbered part b m sb)),
    )

    among_tells : (part : Part) (words : List ScopedWord) (set : List ℕ) → Lists nat_cmp (HasNumberAmong xs s names part words) set → (c : Context) (j : Numbers)
        → IsContextOf xs s names c j → IsAmong xs s part words (part_of part c) ↔ (among set (number_of part j) ≡ true)
    among_tells part words set listed c j same = (
      λ has. has_back set (number_of part j) ((listed.members (number_of part j)).1 (record { symbol = part_of part c; among = has; numbered = numbered part c j same })),
      λ e. let has = (listed.members (number_of part j)).0 (has_there set (number_of part j) e) in
          subst (IsAmong xs s part words)
          (apart.symbol part has.symbol (part_of part c) (number_of part j) has.among.stands.declared (declared part c j same) has.numbered (numbered part c j same)) has.among,
    )

    side_tells : (part : Part) (side : Side) (words : List ScopedWord) (set : List ℕ) → Lists nat_cmp (HasNumberAmong xs s names part words) set
        → IsAmong xs s part words (part_of part (side_of side a b)) ↔ (among set (number_of part (side_of side n m)) ≡ true)
    side_tells part sides.Source words set listed = among_tells part words set listed a n sa
    side_tells part sides.Target words set listed = among_tells part words set listed b m sb

    -- ---- expressions

    pub truth_tells : (d : Expression (List ScopedWord)) (e : Expression (List ℕ)) → IsExpressionOf xs s names d e → IsTrueOf xs s a b d ↔ (truth n m e ≡ true)
    truth_tells (Negated d) e (f, is, of) = rw is (not_tells (IsTrueOf xs s a b d) (truth n m f) (truth_tells d f of))
    truth_tells (Both c d) e (f, g, is, of, og) =
        rw is (and_tells (IsTrueOf xs s a b c) (IsTrueOf xs s a b d) (truth n m f) (truth n m g) (truth_tells c f of) (truth_tells d g og))
    truth_tells (Either c d) e (f, g, is, of, og) =
        rw is (or_tells (IsTrueOf xs s a b c) (IsTrueOf xs s a b d) (truth n m f) (truth n m g) (truth_tells c f of) (truth_tells d g og))
    truth_tells (Compared part equality) e is =
        rw is (asked_tells (part_of part a ≡ part_of part b) equality (number_of part n == number_of part m) (compared_tells part))
    truth_tells (Ranked pair relation) e is = rw is (rw sa.low (rw sa.high (rw sb.low (rw sb.high (λ h. h, λ h. h)))))
    truth_tells (Inside part side equality words) e (set, is, listed) =
        rw is (asked_tells (IsAmong xs s part words (part_of part (side_of side a b))) equality (among set (number_of part (side_of side n m))) (side_tells part side words set listed))

-- where words mean what is known of a policy, its sections tell symbols apart
module _ (k : Known) (xs : List Item) (names : Kind → List (List ℕ)) (known : IsKnown k xs names) (apart : AreApart k.lookup.names.now (enabled_in k) k.numbers.now) where
  section_of : (part : Part) → has_section (kind_of part) ≡ true
  section_of parts.User = refl
  section_of parts.Role = refl
  section_of parts.Kind = refl

  -- declared symbols of one kind and one name are one
  one_symbol : (kind : Kind) → has_section kind ≡ true → (t u : Symbol) → Declared xs (enabled_in k) kind t → Declared xs (enabled_in k) kind u → (n : ℕ) → IsNumbered (names kind) t n
      → IsNumbered (names kind) u n → t ≡ u
  one_symbol kind section t u d e n at bt =
      let (i, f) = known.entries.each (enabled_in k) d.declaration d.declares in
      let (j, g) = known.entries.each (enabled_in k) e.declaration e.declares in
      let f_kind = f.of_kind ∙ d.of_kind in
      let g_kind = g.of_kind ∙ e.of_kind in
      let here = symbol_by (symbol_of k.lookup.namespaces.now f.entry) t (f.in_space ∙ d.in_space) (f.of_name ∙ d.of_name) in
      let there = symbol_by (symbol_of k.lookup.namespaces.now g.entry) u (g.in_space ∙ e.in_space) (g.of_name ∙ e.of_name) in
      let first = of_entry kind section i f.entry f.at f_kind f.live in
      let second = of_entry kind section j g.entry g.at g_kind g.live in
      let i_is = one_number k xs names known kind section t (get_or k.numbers.now i 0) n (subst (λ v. IsNumbered (names kind) v (get_or k.numbers.now i 0)) here first) at in
      let j_is = one_number k xs names known kind section u (get_or k.numbers.now j 0) n (subst (λ v. IsNumbered (names kind) v (get_or k.numbers.now j 0)) there second) bt in
      let place : i ≡ j = apart i j f.entry g.entry f.at g.at (f_kind ∙ sym g_kind) (ap has_section f_kind ∙ section) f.live g.live (i_is ∙ sym j_is) in
      let one : f.entry ≡ g.entry = same_Some f.entry g.entry (sym f.at ∙ ap (slice_get k.lookup.names.now) place ∙ g.at) in
      sym here ∙ ap (symbol_of k.lookup.namespaces.now) one ∙ there
    where
      of_entry : (kind : Kind) → has_section kind ≡ true → (i : ℕ) (x : Entry) → slice_get k.lookup.names.now i ≡ Some x → x.kind ≡ kind → is_declared_in (enabled_in k) x ≡ true
          → IsNumbered (names kind) (symbol_of k.lookup.namespaces.now x) (get_or k.numbers.now i 0)
      of_entry kind section i x at is live =
          subst (λ j. IsNumbered (names j) (symbol_of k.lookup.namespaces.now x) (get_or k.numbers.now i 0)) is (known.numbered.at i x at (ap has_section is ∙ section) live)

  pub known_apart : TellApart xs (enabled_in k) names
  known_apart = record {
    number = λ part t n m at bt. one_number k xs names known (kind_of part) (section_of part) t n m at bt;
    symbol = λ part t u n d e at bt. one_symbol (kind_of part) (section_of part) t u d e n at bt;
  }
