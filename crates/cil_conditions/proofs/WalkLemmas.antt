-- The tokens of a condition, made by a walk over its terms.
use Rattle.std.specs.Global.{Vec}
use Rattle.std.specs.Prelude.{IfOk, MatchOption, None, Ok, Option, Result, Some}
use Rattle.std.proofs.Common.{◌≡◌, ℕ, Bool, true, false, List, [], ◌∷◌, ◌++◌, drop, get_or, length, map, refl, sym, ◌∙◌, ap, subst, arith}
use Rattle.std.proofs.Math.Seq.{drop-append_seam}
use Rattle.std.proofs.lemmas.List.{append-nil, append_assoc, drop-drop, length-append, length-map, map-append}
use Rattle.cil_base.specs.Places.{none_some}
use Rattle.cil_syntax.specs.declared.kind.Kind.{Kind}
use Rattle.cil_syntax.specs.declared.kind.Kind.TheVariants as kinds
use Rattle.cil_syntax.specs.declared.term.LookedUp.{LookedUp}
use Rattle.cil_syntax.specs.declared.term.Op.{Op}
use Rattle.cil_syntax.specs.declared.term.Op.TheVariants as ops
use Rattle.cil_syntax.specs.declared.term.Term as rust
use Rattle.cil_syntax.specs.declared.term.Word.{Word}
use Rattle.cil_syntax.specs.Forms.{is_class_list}
use Rattle.cil_syntax.specs.Said.{said_of, word_in}
use Rattle.cil_syntax.specs.Scopes.{ScopedWord}
use Rattle.cil_syntax.specs.Terms.{Form, Terms, cons, nil}
use Rattle.cil_faults.specs.Spots.{spot_at}
use Rattle.cil_known.specs.macros.Item.{Item, OptSet, all_replaced}
use Rattle.cil_known.specs.declared.known.Known.{Known}
use Rattle.cil_known.specs.Known.{BeginWith, IsKnown, IsNumberFor, IsNumbered, StandsForNothing, enabled_in, meant_in, value_in}
use Rattle.cil_known.specs.names.Resolves.{Word as AWord}
use Rattle.cil_known.specs.names.Unresolved.{term_with, terms_with}
use Rattle.cil_known.proofs.names_lemmas.AskedLemmas.{all_asked_in, asked_in, form_asked, leaf_asked, more_asked, none_asked}
use Rattle.cil_known.proofs.BehindLemmas.{behind_form, behind_leaf}
use Rattle.cil_known.proofs.names_lemmas.UnresolvedLemmas.{scoped_form, scoped_leaf, scoped_name}
use Rattle.cil_conditions.specs.declared.token.Token.{Token}
use Rattle.cil_conditions.specs.declared.token.Token.TheVariants as tokens
use Rattle.cil_conditions.specs.Conditions.{FormNamesBooleans, NamesBooleans, op_of, turns}
use Rattle.cil_conditions.specs.Spelled.{Spells, with_turn}
use Rattle.cil_conditions.specs.Truth.{IsExpression}
use Rattle.cil_conditions.specs.Walk.{AllBeginWith, IsAdded, IsFormAdded, IsFormUnsaid, IsUnsaid, IsSpelledBy, IsWordAdded, IsWordUnsaid, all_meant}
use Rattle.cil_conditions.proofs.ConditionLemmas.{boolean_is_one, one_is_expression, turn_is_one, two_are_one}

-- ---- what a call answers, said of something else

pub both_ways : {X E : Type 0} {A B : Type 0} {P Q : X → Type 0} → (r : Result (Option X) E) → (A → B) → ((x : X) → P x → Q x) → IfOk r (λ o. MatchOption o A P) → IfOk r (λ o. MatchOption o B Q)
both_ways (Ok None) f g h = f h
both_ways (Ok (Some x)) f g h = g x h
both_ways r f g h = h

-- ---- operators that are none of class lists

turn_plain : (op : Op) (turn : Bool) → turns op ≡ Some turn → is_class_list op ≡ false
turn_plain ops.ClassPermissions turn e = absurd (none_some turn e)
turn_plain op turn e = refl

token_plain : (op : Op) (t : Token) → op_of t ≡ Some op → is_class_list op ≡ false
token_plain ops.ClassPermissions tokens.And e = absurd (let f : Some ops.And ≡ Some ops.ClassPermissions = e in cc)
token_plain ops.ClassPermissions tokens.Or e = absurd (let f : Some ops.Or ≡ Some ops.ClassPermissions = e in cc)
token_plain ops.ClassPermissions tokens.Xor e = absurd (let f : Some ops.Xor ≡ Some ops.ClassPermissions = e in cc)
token_plain ops.ClassPermissions tokens.Equal e = absurd (let f : Some ops.Equal ≡ Some ops.ClassPermissions = e in cc)
token_plain ops.ClassPermissions tokens.Unequal e = absurd (let f : Some ops.Unequal ≡ Some ops.ClassPermissions = e in cc)
token_plain ops.ClassPermissions tokens.Not e = absurd (none_some ops.ClassPermissions e)
token_plain ops.ClassPermissions (tokens.Boolean n) e = absurd (none_some ops.ClassPermissions e)
token_plain op t e = refl

-- so no form that names booleans is a class list
named_plain : (xs : List Item) (s : OptSet) (op : Op) (ts : Terms ScopedWord) → FormNamesBooleans xs s op ts → is_class_list op ≡ false
named_plain xs s op nil named = absurd named
named_plain xs s op (cons a nil) named = turn_plain op named.0 named.1
named_plain xs s op (cons a (cons b nil)) named = token_plain op named.0 named.1
named_plain xs s op (cons a (cons b (cons c more))) named = absurd named

-- ---- words

module _ (k : Known) (words rest : List (Option ℕ)) (old new : List Token) where
  pub word_added : (r : Option ℕ) (n : ℕ) → r ≡ get_or words 0 None → ((xs : List Item) (names : Kind → List (List ℕ)) (w : ScopedWord) → IsKnown k xs names → r ≡ meant_in k w
      → IsNumberFor xs (enabled_in k) kinds.Boolean (names kinds.Boolean) w n) → (m : ℕ) → m ≡ n → new ≡ old ++ tokens.Boolean m ∷ [] → rest ≡ drop 1 words → IsWordAdded k words rest old new
  word_added r n first numbered m same push left = record {
    number = m;
    behind = push;
    spells = λ xs names w known means.
        let f = numbered xs names w known (first ∙ means) in
        (m, f.symbol, f.stands, subst (IsNumbered (names kinds.Boolean) f.symbol) (sym same) f.numbered, refl);
    left = left;
  }

pub word_unsaid : (k : Known) (words : List (Option ℕ)) (r : Option ℕ) → r ≡ get_or words 0 None → ((xs : List Item) (names : Kind → List (List ℕ)) (w : ScopedWord) → IsKnown k xs names → r ≡ meant_in k w
    → StandsForNothing xs (enabled_in k) kinds.Boolean w) → IsWordUnsaid k words
word_unsaid k words r first nothing = λ xs names w known means is. nothing xs names w known (first ∙ means) is.0 is.1

-- ---- terms

module _ (k : Known) (m : ℕ) (t : rust.Term) (words : List (Option ℕ)) where
  module _ (w : LookedUp) (is : t ≡ rust.Leaf w) where
    word_means : (f : Word → ScopedWord) → BeginWith k f (said_of m t) words → get_or words 0 None ≡ meant_in k (f (word_in m w))
    word_means f begin =
        ap (λ ws. get_or ws 0 None) begin.are
        ∙ ap (λ ls. get_or (map (value_in k) ls ++ begin.more) 0 None) (sym (leaf_asked f m t [] (AWord (f (word_in m w)) ∷ []) w is refl))

    pub leaf_unsaid : IsWordUnsaid k words → IsUnsaid k m t words
    leaf_unsaid unsaid = λ xs names f known begin named.
        unsaid xs names (f (word_in m w)) known (word_means f begin) (subst (NamesBooleans xs (enabled_in k)) (scoped_leaf f [] m t w is) named)

    pub leaf_added : (rest : List (Option ℕ)) (old new : List Token) → IsWordAdded k words rest old new → IsAdded k m t words rest old new
    leaf_added rest old new a = record {
      added = tokens.Boolean a.number ∷ [];
      behind = a.behind;
      is_one = boolean_is_one a.number;
      spells = λ xs names f known begin.
          subst (λ u. Spells xs (enabled_in k) (names kinds.Boolean) u (tokens.Boolean a.number ∷ [])) (sym (scoped_leaf f [] m t w is)) (a.spells xs names (f (word_in m w)) known (word_means f begin));
      left = λ f. behind_leaf f m words t w rest is a.left;
    }

  pub name_unsaid : (at : ℕ) (bytes : List ℕ) → t ≡ rust.Name at bytes → IsUnsaid k m t words
  name_unsaid at bytes is = λ xs names f known begin named. subst (NamesBooleans xs (enabled_in k)) (scoped_name f [] m t at bytes is) named

  module _ (at : ℕ) (op : Op) (parts : Vec rust.Term) (is : t ≡ rust.Form op at parts) (items : List rust.Term) (same : items ≡ parts.items) where
    parts_begin : is_class_list op ≡ false → (f : Word → ScopedWord) → BeginWith k f (said_of m t) words → AllBeginWith k f m items words
    parts_begin plain f begin = record {
      more = begin.more;
      are = begin.are ∙ ap (λ ls. map (value_in k) ls ++ begin.more) (sym (form_asked f m t [] (all_asked_in f m items) at op parts is items same plain refl));
    }

    form_there : (f : Word → ScopedWord) → term_with f m t ≡ Form (spot_at m at) op (terms_with f m items)
    form_there f = scoped_form f [] m t at op parts is ∙ ap (λ us. Form (spot_at m at) op (terms_with f m us)) (sym same)

    pub form_unsaid : IsFormUnsaid k m op items words → IsUnsaid k m t words
    form_unsaid unsaid = λ xs names f known begin named.
        let parts_named = subst (NamesBooleans xs (enabled_in k)) (form_there f) named in
        unsaid xs names f known (parts_begin (named_plain xs (enabled_in k) op (terms_with f m items) parts_named) f begin) parts_named

    pub form_added : (rest : List (Option ℕ)) (old new : List Token) → IsFormAdded k m op items words rest old new → IsAdded k m t words rest old new
    form_added rest old new a = record {
      added = a.added;
      behind = a.behind;
      is_one = a.is_one;
      spells = λ xs names f known begin.
          subst (λ u. Spells xs (enabled_in k) (names kinds.Boolean) u a.added) (sym (form_there f)) (a.spells xs names f known (parts_begin a.plain f begin));
      left = λ f. behind_form f m words t at op parts rest is items same a.plain (a.left f);
    }

-- ---- operands

module _ (k : Known) (f : Word → ScopedWord) (m : ℕ) (t : rust.Term) (ts : List rust.Term) where
  all_there : all_meant k f m (t ∷ ts) ≡ map (value_in k) (asked_in f m t) ++ all_meant k f m ts
  all_there = ap (map (value_in k)) (more_asked f m t ts) ∙ map-append (value_in k) (asked_in f m t) (all_asked_in f m ts)

  module _ (words : List (Option ℕ)) (begin : AllBeginWith k f m (t ∷ ts) words) where
    there : words ≡ map (value_in k) (asked_in f m t) ++ (all_meant k f m ts ++ begin.more)
    there = begin.are ∙ ap (λ l. l ++ begin.more) all_there ∙ append_assoc (map (value_in k) (asked_in f m t)) (all_meant k f m ts) begin.more

    -- they begin with those of the first operand
    first_begins : BeginWith k f (said_of m t) words
    first_begins = record { more = all_meant k f m ts ++ begin.more; are = there }

    -- and behind these with those of the others
    rest_begin : (rest : List (Option ℕ)) → rest ≡ drop (length (asked_in f m t)) words → AllBeginWith k f m ts rest
    rest_begin rest left = record {
      more = begin.more;
      are =
          left ∙ ap (drop (length (asked_in f m t))) there
          ∙ ap (λ n. drop n (map (value_in k) (asked_in f m t) ++ (all_meant k f m ts ++ begin.more))) (sym (length-map (asked_in f m t) (value_in k)))
          ∙ drop-append_seam (map (value_in k) (asked_in f m t)) (all_meant k f m ts ++ begin.more);
    }

turned_behind : (old added : List Token) (turn : Bool) → (old ++ with_turn turn []) ++ added ≡ old ++ with_turn turn added
turned_behind old added true = append_assoc old (tokens.Not ∷ []) added
turned_behind old added false = ap (λ l. l ++ added) (append-nil old)

module _ (k : Known) (m : ℕ) (op : Op) (t : rust.Term) (words : List (Option ℕ)) where
  turn_unsaid : turns op ≡ None → IsFormUnsaid k m op (t ∷ []) words
  unfolding all_replaced
  turn_unsaid none = λ xs names f known begin named. none_some named.0 (sym none ∙ named.1)

  one_unsaid : IsUnsaid k m t words → IsFormUnsaid k m op (t ∷ []) words
  unfolding all_replaced
  one_unsaid unsaid = λ xs names f known begin named. unsaid xs names f known (first_begins k f m t [] words begin) named.2

  one_added : (turn : Bool) (rest : List (Option ℕ)) (old mid new : List Token) → turns op ≡ Some turn → mid ≡ old ++ with_turn turn [] → IsAdded k m t words rest mid new
      → IsFormAdded k m op (t ∷ []) words rest old new
  unfolding all_replaced
  one_added turn rest old mid new turned push a = record {
    added = with_turn turn a.added;
    behind = a.behind ∙ ap (λ l. l ++ a.added) push ∙ turned_behind old a.added turn;
    is_one = turn_is_one turn a.added a.is_one;
    plain = turn_plain op turn turned;
    spells = λ xs names f known begin. (turn, a.added, turned, a.spells xs names f known (first_begins k f m t [] words begin), refl);
    left = λ f. a.left f ∙ ap (λ l. drop (length l) words) (sym (more_asked f m t [] ∙ ap (λ l. asked_in f m t ++ l) (none_asked f m) ∙ append-nil (asked_in f m t)));
  }

module _ (k : Known) (m : ℕ) (op : Op) (a b : rust.Term) (words : List (Option ℕ)) where
  token_unsaid : ((t : Token) → op_of t ≡ Some op → ⊥) → IsFormUnsaid k m op (a ∷ b ∷ []) words
  unfolding all_replaced
  token_unsaid none = λ xs names f known begin named. none named.0 named.1

  first_unsaid : IsUnsaid k m a words → IsFormUnsaid k m op (a ∷ b ∷ []) words
  unfolding all_replaced
  first_unsaid unsaid = λ xs names f known begin named. unsaid xs names f known (first_begins k f m a (b ∷ []) words begin) named.2

  module _ (mid : List (Option ℕ)) (old pushed half : List Token) (first : IsAdded k m a words mid pushed half) where
    second_unsaid : IsUnsaid k m b mid → IsFormUnsaid k m op (a ∷ b ∷ []) words
    unfolding all_replaced
    second_unsaid unsaid = λ xs names f known begin named.
        unsaid xs names f known (first_begins k f m b [] mid (rest_begin k f m a (b ∷ []) words begin mid (first.left f))) named.3

    two_added : (t : Token) (rest : List (Option ℕ)) (new : List Token) → op_of t ≡ Some op → pushed ≡ old ++ t ∷ [] → IsAdded k m b mid rest half new
        → IsFormAdded k m op (a ∷ b ∷ []) words rest old new
    unfolding all_replaced
    two_added t rest new token push second = record {
      added = t ∷ (first.added ++ second.added);
      behind =
          second.behind ∙ ap (λ l. l ++ second.added) (first.behind ∙ ap (λ l. l ++ first.added) push ∙ append_assoc old (t ∷ []) first.added)
          ∙ append_assoc old (t ∷ first.added) second.added;
      is_one = two_are_one op t first.added second.added token first.is_one second.is_one;
      plain = token_plain op t token;
      spells = λ xs names f known begin. (
        t,
        first.added,
        second.added,
        token,
        first.spells xs names f known (first_begins k f m a (b ∷ []) words begin),
        second.spells xs names f known (first_begins k f m b [] mid (rest_begin k f m a (b ∷ []) words begin mid (first.left f))),
        refl,
      );
      left = λ f.
          second.left f ∙ ap (drop (length (asked_in f m b))) (first.left f)
          ∙ drop-drop (length (asked_in f m b)) (length (asked_in f m a)) words
          ∙ ap (λ n. drop n words) (sym (length-append (asked_in f m a) (asked_in f m b)))
          ∙ ap (λ l. drop (length l) words) (sym (more_asked f m a (b ∷ []) ∙ ap (λ l. asked_in f m a ++ l) (more_asked f m b [] ∙ ap (λ l. asked_in f m b ++ l) (none_asked f m) ∙ append-nil (asked_in f m b))));
    }

-- ---- by the number of operands

pub other_number : (k : Known) (m : ℕ) (op : Op) (ts : List rust.Term) (words : List (Option ℕ)) → (length ts ≡ 1 → ⊥) → (length ts ≡ 2 → ⊥) → IsFormUnsaid k m op ts words
unfolding all_replaced
other_number k m op [] words no_one no_two = λ xs names f known begin named. named
other_number k m op (a ∷ []) words no_one no_two = absurd (no_one refl)
other_number k m op (a ∷ b ∷ []) words no_one no_two = absurd (no_two refl)
other_number k m op (a ∷ b ∷ c ∷ ts) words no_one no_two = λ xs names f known begin named. named

just_one : (ts : List rust.Term) (a d : rust.Term) → length ts ≡ 1 → a ≡ get_or ts 0 d → ts ≡ a ∷ []
just_one [] a d e is = absurd (omega (arith, e))
just_one (x ∷ []) a d e is = ap (λ z. z ∷ []) (sym is)
just_one (x ∷ y ∷ ts) a d e is = absurd (omega (arith, e))

just_two : (ts : List rust.Term) (a b d e : rust.Term) → length ts ≡ 2 → a ≡ get_or ts 0 d → b ≡ get_or ts 1 e → ts ≡ a ∷ b ∷ []
just_two [] a b d e len is so = absurd (omega (arith, len))
just_two (x ∷ []) a b d e len is so = absurd (omega (arith, len))
just_two (x ∷ y ∷ []) a b d e len is so = λ i. sym is i ∷ sym so i ∷ []
just_two (x ∷ y ∷ z ∷ ts) a b d e len is so = absurd (omega (arith, len))

module _ (k : Known) (m : ℕ) (op : Op) (words : List (Option ℕ)) where
  pub turn_unsaid_in : (ts : List rust.Term) → length ts ≡ 1 → turns op ≡ None → IsFormUnsaid k m op ts words
  turn_unsaid_in [] len none = absurd (omega (arith, len))
  turn_unsaid_in (t ∷ []) len none = turn_unsaid k m op t words none
  turn_unsaid_in (t ∷ u ∷ ts) len none = absurd (omega (arith, len))

  pub token_unsaid_in : (ts : List rust.Term) → length ts ≡ 2 → ((t : Token) → op_of t ≡ Some op → ⊥) → IsFormUnsaid k m op ts words
  token_unsaid_in [] len none = absurd (omega (arith, len))
  token_unsaid_in (a ∷ []) len none = absurd (omega (arith, len))
  token_unsaid_in (a ∷ b ∷ []) len none = token_unsaid k m op a b words none
  token_unsaid_in (a ∷ b ∷ c ∷ ts) len none = absurd (omega (arith, len))

  pub first_unsaid_in : (ts : List rust.Term) (a d : rust.Term) → length ts ≡ 2 → a ≡ get_or ts 0 d → IsUnsaid k m a words → IsFormUnsaid k m op ts words
  first_unsaid_in [] a d len is unsaid = absurd (omega (arith, len))
  first_unsaid_in (x ∷ []) a d len is unsaid = absurd (omega (arith, len))
  first_unsaid_in (x ∷ y ∷ []) a d len is unsaid = first_unsaid k m op x y words (subst (λ t. IsUnsaid k m t words) is unsaid)
  first_unsaid_in (x ∷ y ∷ z ∷ ts) a d len is unsaid = absurd (omega (arith, len))

  module _ (ts : List rust.Term) (t d : rust.Term) (len : length ts ≡ 1) (is : t ≡ get_or ts 0 d) where
    pub one_unsaid_in : IsUnsaid k m t words → IsFormUnsaid k m op ts words
    one_unsaid_in unsaid = subst (λ us. IsFormUnsaid k m op us words) (sym (just_one ts t d len is)) (one_unsaid k m op t words unsaid)

    pub one_added_in : (turn : Bool) (rest : List (Option ℕ)) (old mid new : List Token) → turns op ≡ Some turn → mid ≡ old ++ with_turn turn [] → IsAdded k m t words rest mid new
        → IsFormAdded k m op ts words rest old new
    one_added_in turn rest old mid new turned push a =
        subst (λ us. IsFormAdded k m op us words rest old new) (sym (just_one ts t d len is)) (one_added k m op t words turn rest old mid new turned push a)

  module _ (ts : List rust.Term) (a b d e : rust.Term) (len : length ts ≡ 2) (is : a ≡ get_or ts 0 d) (so : b ≡ get_or ts 1 e) (mid : List (Option ℕ)) (old pushed half : List Token)
      (first : IsAdded k m a words mid pushed half) where
    pub second_unsaid_in : IsUnsaid k m b mid → IsFormUnsaid k m op ts words
    second_unsaid_in unsaid =
        subst (λ us. IsFormUnsaid k m op us words) (sym (just_two ts a b d e len is so)) (second_unsaid k m op a b words mid old pushed half first unsaid)

    pub two_added_in : (t : Token) (rest : List (Option ℕ)) (new : List Token) → op_of t ≡ Some op → pushed ≡ old ++ t ∷ [] → IsAdded k m b mid rest half new
        → IsFormAdded k m op ts words rest old new
    two_added_in t rest new token push second =
        subst (λ us. IsFormAdded k m op us words rest old new) (sym (just_two ts a b d e len is so)) (two_added k m op a b words mid old pushed half first t rest new token push second)

-- ---- a whole condition

module _ (k : Known) (m : ℕ) (t : rust.Term) (words rest : List (Option ℕ)) (old new : List Token) (none : old ≡ []) (a : IsAdded k m t words rest old new) where
  all_added : new ≡ a.added
  all_added = a.behind ∙ ap (λ l. l ++ a.added) none

  pub all_expression : IsExpression new
  all_expression = subst IsExpression (sym all_added) (one_is_expression a.added a.is_one)

  pub all_spelled : IsSpelledBy k m t words new
  all_spelled = subst (IsSpelledBy k m t words) (sym all_added) a.spells
