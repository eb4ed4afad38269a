-- Steps are put for what a term asks for.
use Rattle.std.specs.Global.{Vec}
use Rattle.std.specs.Prelude.{IfOk, MatchOption, None, Ok, OnOk, Option, Result, Some, if◌then◌else◌}
use Rattle.std.specs.Option.{is_some, option_map}
use Rattle.std.proofs.Common.{◌≡◌, ℕ, zero, suc, ◌≤◌, max, Bool, true, false, List, [], ◌∷◌, ◌++◌, drop, get_or, length, refl, sym, ◌∙◌, ap, subst, arith}
use Rattle.std.proofs.lemmas.List.{append-nil, append_assoc, drop-drop, length-append}
use Rattle.std.proofs.lemmas.Option.{none-some}
use Rattle.cil_syntax.specs.declared.kind.Kind.{Kind}
use Rattle.cil_syntax.specs.declared.term.LookedUp.{LookedUp}
use Rattle.cil_syntax.specs.declared.term.Op.{Op}
use Rattle.cil_syntax.specs.declared.term.Op.TheVariants as ops
use Rattle.cil_syntax.specs.declared.term.Term as rust
use Rattle.cil_syntax.specs.declared.term.Word.{Word}
use Rattle.cil_syntax.specs.Depths.{AllNest, Nests, below}
use Rattle.cil_syntax.specs.Forms.{is_class_list}
use Rattle.cil_syntax.specs.Said.{all_said, said_of}
use Rattle.cil_syntax.specs.Scopes.{ScopedWord}
use Rattle.cil_syntax.specs.Terms.{Term}
use Rattle.cil_syntax.proofs.SaidLemmas.{form_said}
use Rattle.cil_macros.specs.Item.{Item, all_replaced}
use Rattle.cil_classes.specs.names.Unresolved.{term_with, terms_with}
use Rattle.cil_classes.proofs.names_lemmas.AskedLemmas.{all_asked_in, asked_in, more_asked, none_asked}
use Rattle.cil_classes.proofs.names_lemmas.UnresolvedLemmas.{scoped_form, scoped_leaf, scoped_name}
use Rattle.cil_classes.specs.known.DeclaredKnown.{Known}
use Rattle.cil_classes.specs.known.Known.{BeginWith, IsKnown, enabled_in}
use Rattle.cil_classes.proofs.known_lemmas.BehindLemmas.{behind_form}
use Rattle.cil_constraints.specs.declared.joins.Joins.{Joins}
use Rattle.cil_constraints.specs.declared.joins.Joins.TheVariants as joins
use Rattle.cil_constraints.specs.declared.push.Standing.{Standing}
use Rattle.cil_constraints.specs.declared.step.Part.{Part}
use Rattle.cil_constraints.specs.declared.step.Side.{Side}
use Rattle.cil_constraints.specs.declared.step.Equality.{Equality}
use Rattle.cil_constraints.specs.declared.step.LevelPair.{LevelPair}
use Rattle.cil_constraints.specs.declared.step.Relation.{Relation}
use Rattle.cil_constraints.specs.declared.step.Step.{Step}
use Rattle.cil_constraints.specs.declared.variable.Variable.{Variable}
use Rattle.cil_constraints.specs.declared.variable.Variable.TheVariants.{PartOf, LowOf, HighOf}
use Rattle.cil_constraints.specs.Expressions.{Expression, Negated, Both, Either, Compared, Ranked, Inside, levels_of, steps_of}
use Rattle.cil_constraints.specs.Joins.{both_say, heads, joined_or, joins_of, takes_one}
use Rattle.cil_constraints.specs.Numbered.{IsExpressionOf}
use Rattle.cil_constraints.specs.Saying.{all_said as all_asked, both_there, compared, equality_of, is_union, leaves, levels_compared, listed, pair_of, relation_of, said, variable_in, variable_of, variables_compared, with_operand, words_compared}
use Rattle.cil_constraints.specs.Pushed.{AreSets, IsAdded, IsNothing, IsPut, IsUnsaid, sets_in}
use Rattle.cil_constraints.specs.Walk.{AllBeginWith, IsFormAdded, IsFormUnsaid, IsInsidePut, IsJoinedAdded, IsJoinedUnsaid, IsPutIf, IsTestAdded, IsTestUnsaid, NestUnder, form_asked, joined_asked, operand_asked, test_asked, words_there}
use Rattle.cil_constraints.proofs.WordLemmas.{first_begins, parts_begin, rest_begin}

abbrev Asks : Type 0
Asks = (Word → ScopedWord) → Option (Expression (List ScopedWord))

-- ---- what a call answers, said of something else

pub both_ways : {X E : Type 0} {A B : Type 0} {P Q : X → Type 0} → (r : Result (Option X) E) → (A → B) → ((x : X) → P x → Q x) → IfOk r (λ o. MatchOption o A P) → IfOk r (λ o. MatchOption o B Q)
both_ways (Ok None) f g h = f h
both_ways (Ok (Some x)) f g h = g x h
both_ways r f g h = h

pub done : {X E : Type 0} {A B : Type 0} → (r : Result X E) → (A → B) → OnOk r A → OnOk r B
done (Ok x) g h = g h
done r g h = h

pub one_way : {X E : Type 0} {P Q : X → Type 0} → (r : Result X E) → ((x : X) → P x → Q x) → IfOk r P → IfOk r Q
one_way (Ok x) g h = g x h
one_way r g h = h

module _ (sets : Standing) (Begin Other : Known → (Word → ScopedWord) → Type 0) (asks same : Asks) (old new : List Step) (is : (f : Word → ScopedWord) → same f ≡ asks f)
    (begins : (k : Known) (f : Word → ScopedWord) → Other k f → Begin k f) where
  pub put_as : (NestsSo Deeper : ℕ → Type 0) → ((most : ℕ) → Deeper most → NestsSo most) → IsPut sets Begin NestsSo asks old new → IsPut sets Other Deeper same old new
  put_as NestsSo Deeper nests p = record {
    tree = p.tree;
    behind = p.behind;
    shallow = λ most h. p.shallow most (nests most h);
    says = λ k xs names f known standing begin. let s = p.says k xs names f known standing (begins k f begin) in (s.0, is f ∙ s.1, s.2);
  }

  pub put_if_as : (b : Bool) → IsPutIf b sets Begin asks old new → IsPutIf b sets Other same old new
  put_if_as true p = put_as (λ most. 1 ≤ most) (λ most. 1 ≤ most) (λ most h. h) p
  put_if_as false p = λ f. is f ∙ p f

module _ (b : Bool) (sets : Standing) (Begin : Known → (Word → ScopedWord) → Type 0) (asks : Asks) (old new : List Step) where
  pub refused : b ≡ false → IsPutIf b sets Begin asks old new → IsNothing asks
  refused is p = subst (λ c. IsPutIf c sets Begin asks old new) is p

  pub taken : b ≡ true → IsPutIf b sets Begin asks old new → IsPut sets Begin (λ most. 1 ≤ most) asks old new
  taken is p = subst (λ c. IsPutIf c sets Begin asks old new) is p

-- ---- operators that are none of class lists, and whose parts nest one less deep

joins_plain : (op : Op) (j : Joins) → joins_of op ≡ Some j → is_class_list op ≡ false
joins_plain ops.ClassPermissions j e = absurd (none-some j e)
joins_plain op j e = refl

relation_plain : (op : Op) (r : Relation) → relation_of op ≡ Some r → is_class_list op ≡ false
relation_plain ops.ClassPermissions r e = absurd (none-some r e)
relation_plain op r e = refl

joins_below : (op : Op) (j : Joins) (k : ℕ) → joins_of op ≡ Some j → below op k ≡ below ops.Not k
joins_below ops.UnreadText j k e = absurd (none-some j e)
joins_below op j zero e = refl
joins_below op j (suc k) e = refl

relation_below : (op : Op) (r : Relation) (k : ℕ) → relation_of op ≡ Some r → below op k ≡ below ops.Not k
relation_below ops.UnreadText r k e = absurd (none-some r e)
relation_below op r zero e = refl
relation_below op r (suc k) e = refl

-- ---- terms

module _ (m : ℕ) (t : rust.Term) where
  pub leaf_unsaid : (w : LookedUp) → t ≡ rust.Leaf w → IsUnsaid m t
  unfolding said
  leaf_unsaid w is = λ f. ap said (scoped_leaf f [] m t w is)

  pub name_unsaid : (at : ℕ) (bytes : List ℕ) → t ≡ rust.Name at bytes → IsUnsaid m t
  unfolding said
  name_unsaid at bytes is = λ f. ap said (scoped_name f [] m t at bytes is)

  module _ (at : ℕ) (op : Op) (parts : Vec rust.Term) (is : t ≡ rust.Form op at parts) (items : List rust.Term) (same : items ≡ parts.items) where
    asked_there : (f : Word → ScopedWord) → said (term_with f m t) ≡ form_asked op m items f
    unfolding said
    asked_there f = ap said (scoped_form f [] m t at op parts is) ∙ ap (λ us. form_asked op m us f) (sym same)

    nests_there : (most : ℕ) → Nests most (said_of m t) → AllNest (below op most) (all_said m items)
    nests_there most h = subst (λ us. AllNest (below op most) (all_said m us)) (sym same) (subst (Nests most) (ap (said_of m) is ∙ form_said m at op parts) h)

    pub form_unsaid : IsFormUnsaid m op items → IsUnsaid m t
    form_unsaid unsaid = λ f. asked_there f ∙ unsaid f

    pub form_added : (sets : Standing) (words rest : List (Option ℕ)) (old new : List Step) → IsFormAdded sets m op items words rest old new → IsAdded sets m t words rest old new
    form_added sets words rest old new a = record {
      put =
          put_as sets (λ k f. AllBeginWith k f m items words) (λ k f. BeginWith k f (said_of m t) words) (form_asked op m items) (λ f. said (term_with f m t)) old new asked_there
          (λ k f begin. parts_begin k f m t at op parts is items same a.plain words begin) (λ most. AllNest (below op most) (all_said m items)) (λ most. Nests most (said_of m t)) nests_there
          a.put;
      left = λ f. behind_form f m words t at op parts rest is items same a.plain (a.left f);
    }

-- ---- forms

module _ (m : ℕ) (op : Op) (ts : List rust.Term) where
  module _ (j : Joins) (is : joins_of op ≡ Some j) where
    joined_there : (f : Word → ScopedWord) → form_asked op m ts f ≡ joined_asked j m ts f
    joined_there f = ap (λ o. joined_or o (all_asked (terms_with f m ts)) (compared op (terms_with f m ts))) is

    pub joined_unsaid : IsJoinedUnsaid m j ts → IsFormUnsaid m op ts
    joined_unsaid unsaid = λ f. joined_there f ∙ unsaid f

    pub joined_added : (sets : Standing) (words rest : List (Option ℕ)) (old new : List Step) → IsJoinedAdded sets m j ts words rest old new → IsFormAdded sets m op ts words rest old new
    joined_added sets words rest old new a = record {
      plain = joins_plain op j is;
      put =
          put_as sets (λ k f. AllBeginWith k f m ts words) (λ k f. AllBeginWith k f m ts words) (joined_asked j m ts) (form_asked op m ts) old new joined_there (λ k f begin. begin)
          (NestUnder m ts) (λ most. AllNest (below op most) (all_said m ts)) (λ most h. subst (λ o. AllNest o (all_said m ts)) (joins_below op j most is) h) a.put;
      left = a.left;
    }

  module _ (none : joins_of op ≡ None) where
    test_there : (f : Word → ScopedWord) → form_asked op m ts f ≡ test_asked op m ts f
    test_there f = ap (λ o. joined_or o (all_asked (terms_with f m ts)) (compared op (terms_with f m ts))) none

    pub test_unsaid : IsTestUnsaid m op ts → IsFormUnsaid m op ts
    test_unsaid unsaid = λ f. test_there f ∙ unsaid f

    pub test_added : (sets : Standing) (words rest : List (Option ℕ)) (old new : List Step) → IsTestAdded sets m op ts words rest old new → IsFormAdded sets m op ts words rest old new
    test_added sets words rest old new a = record {
      plain = a.plain;
      put =
          put_as sets (λ k f. AllBeginWith k f m ts words) (λ k f. AllBeginWith k f m ts words) (test_asked op m ts) (form_asked op m ts) old new test_there (λ k f begin. begin)
          (λ most. AllNest (below op most) (all_said m ts)) (λ most. AllNest (below op most) (all_said m ts)) (λ most h. h) a.put;
      left = a.left;
    }

-- ---- lists of one and of two

just_one : (ts : List rust.Term) (a d : rust.Term) → length ts ≡ 1 → a ≡ get_or ts 0 d → ts ≡ a ∷ []
just_one [] a d e is = absurd (omega (arith, e))
just_one (x ∷ []) a d e is = ap (λ z. z ∷ []) (sym is)
just_one (x ∷ y ∷ ts) a d e is = absurd (omega (arith, e))

pub just_two : (ts : List rust.Term) (a b d e : rust.Term) → length ts ≡ 2 → a ≡ get_or ts 0 d → b ≡ get_or ts 1 e → ts ≡ a ∷ b ∷ []
just_two [] a b d e len is so = absurd (omega (arith, len))
just_two (x ∷ []) a b d e len is so = absurd (omega (arith, len))
just_two (x ∷ y ∷ []) a b d e len is so = λ i. sym is i ∷ sym so i ∷ []
just_two (x ∷ y ∷ z ∷ ts) a b d e len is so = absurd (omega (arith, len))

module _ (f : Word → ScopedWord) (m : ℕ) where
  left_one : (t : rust.Term) (words rest : List (Option ℕ)) → rest ≡ drop (length (asked_in f m t)) words → rest ≡ drop (length (all_asked_in f m (t ∷ []))) words
  left_one t words rest left =
      left ∙ ap (λ l. drop (length l) words) (sym (more_asked f m t [] ∙ ap (λ l. asked_in f m t ++ l) (none_asked f m) ∙ append-nil (asked_in f m t)))

  left_two : (a b : rust.Term) (words mid rest : List (Option ℕ)) → mid ≡ drop (length (asked_in f m a)) words → rest ≡ drop (length (asked_in f m b)) mid
      → rest ≡ drop (length (all_asked_in f m (a ∷ b ∷ []))) words
  left_two a b words mid rest first second =
      second ∙ ap (drop (length (asked_in f m b))) first
      ∙ drop-drop (length (asked_in f m b)) (length (asked_in f m a)) words
      ∙ ap (λ n. drop n words) (sym (length-append (asked_in f m a) (asked_in f m b)))
      ∙ ap (λ l. drop (length l) words) (sym (more_asked f m a (b ∷ []) ∙ ap (λ l. asked_in f m a ++ l) (more_asked f m b [] ∙ ap (λ l. asked_in f m b ++ l) (none_asked f m) ∙ append-nil (asked_in f m b))))

-- ---- one operand

module _ (m : ℕ) where
  pub not_one : (j : Joins) (ts : List rust.Term) → takes_one j ≡ true → (length ts ≡ 1 → ⊥) → IsJoinedUnsaid m j ts
  unfolding all_asked all_replaced
  not_one joins.Both ts takes other = absurd (let f : false ≡ true = takes in cc)
  not_one joins.Either ts takes other = absurd (let f : false ≡ true = takes in cc)
  not_one joins.Negates [] takes other = λ f. refl
  not_one joins.Negates (t ∷ []) takes other = absurd (other refl)
  not_one joins.Negates (t ∷ u ∷ ts) takes other = λ f. refl
  not_one joins.Groups [] takes other = λ f. refl
  not_one joins.Groups (t ∷ []) takes other = absurd (other refl)
  not_one joins.Groups (t ∷ u ∷ ts) takes other = λ f. refl

  pub not_two : (j : Joins) (ts : List rust.Term) → takes_one j ≡ false → (length ts ≡ 2 → ⊥) → IsJoinedUnsaid m j ts
  unfolding all_asked all_replaced
  not_two joins.Negates ts takes other = absurd (let f : true ≡ false = takes in cc)
  not_two joins.Groups ts takes other = absurd (let f : true ≡ false = takes in cc)
  not_two joins.Both [] takes other = λ f. refl
  not_two joins.Both (t ∷ []) takes other = λ f. refl
  not_two joins.Both (t ∷ u ∷ []) takes other = absurd (other refl)
  not_two joins.Both (t ∷ u ∷ v ∷ ts) takes other = λ f. refl
  not_two joins.Either [] takes other = λ f. refl
  not_two joins.Either (t ∷ []) takes other = λ f. refl
  not_two joins.Either (t ∷ u ∷ []) takes other = absurd (other refl)
  not_two joins.Either (t ∷ u ∷ v ∷ ts) takes other = λ f. refl

  one_unsaid : (j : Joins) (t : rust.Term) → takes_one j ≡ true → IsUnsaid m t → IsJoinedUnsaid m j (t ∷ [])
  unfolding all_asked all_replaced
  one_unsaid joins.Both t takes unsaid = absurd (let f : false ≡ true = takes in cc)
  one_unsaid joins.Either t takes unsaid = absurd (let f : false ≡ true = takes in cc)
  one_unsaid joins.Negates t takes unsaid = λ f. ap (option_map Negated) (unsaid f)
  one_unsaid joins.Groups t takes unsaid = λ f. ap (option_map (λ e. e)) (unsaid f)

  one_deeper : (t : rust.Term) (levels most : ℕ) → ((k : ℕ) → Nests k (said_of m t) → levels ≤ k) → NestUnder m (t ∷ []) most → suc levels ≤ most
  one_deeper t levels zero shallow h = absurd h
  one_deeper t levels (suc k) shallow h = let s = shallow k h.0 in omega (arith, s)

  one_added : (sets : Standing) (j : Joins) (t : rust.Term) (words rest : List (Option ℕ)) (old mid new : List Step) → takes_one j ≡ true → mid ≡ old ++ heads j
      → IsAdded sets m t words rest mid new → IsJoinedAdded sets m j (t ∷ []) words rest old new
  unfolding all_asked all_replaced
  one_added sets joins.Both t words rest old mid new takes push a = absurd (let f : false ≡ true = takes in cc)
  one_added sets joins.Either t words rest old mid new takes push a = absurd (let f : false ≡ true = takes in cc)
  one_added sets joins.Negates t words rest old mid new takes push a = record {
    put = record {
      tree = Negated a.put.tree;
      behind = a.put.behind ∙ ap (λ l. l ++ steps_of a.put.tree) push ∙ append_assoc old (heads joins.Negates) (steps_of a.put.tree);
      shallow = λ most h. one_deeper t (levels_of a.put.tree) most a.put.shallow h;
      says = λ k xs names f known standing begin.
          let s = a.put.says k xs names f known standing (first_begins k f m t [] words begin) in (Negated s.0, ap (option_map Negated) s.1, (a.put.tree, refl, s.2));
    };
    left = λ f. left_one f m t words rest (a.left f);
  }
  one_added sets joins.Groups t words rest old mid new takes push a = record {
    put = record {
      tree = a.put.tree;
      behind = a.put.behind ∙ ap (λ l. l ++ steps_of a.put.tree) (push ∙ append-nil old);
      shallow = λ most h. let s = one_deeper t (levels_of a.put.tree) most a.put.shallow h in omega (arith, s);
      says = λ k xs names f known standing begin.
          let s = a.put.says k xs names f known standing (first_begins k f m t [] words begin) in (s.0, ap (option_map (λ e. e)) s.1, s.2);
    };
    left = λ f. left_one f m t words rest (a.left f);
  }

  module _ (j : Joins) (ts : List rust.Term) (t d : rust.Term) (len : length ts ≡ 1) (is : t ≡ get_or ts 0 d) (takes : takes_one j ≡ true) where
    pub one_unsaid_in : IsUnsaid m t → IsJoinedUnsaid m j ts
    one_unsaid_in unsaid = subst (IsJoinedUnsaid m j) (sym (just_one ts t d len is)) (one_unsaid j t takes unsaid)

    pub one_added_in : (sets : Standing) (words rest : List (Option ℕ)) (old mid new : List Step) → mid ≡ old ++ heads j → IsAdded sets m t words rest mid new
        → IsJoinedAdded sets m j ts words rest old new
    one_added_in sets words rest old mid new push a =
        subst (λ us. IsJoinedAdded sets m j us words rest old new) (sym (just_one ts t d len is)) (one_added sets j t words rest old mid new takes push a)

  -- ---- two operands

  first_unsaid : (j : Joins) (a b : rust.Term) → takes_one j ≡ false → IsUnsaid m a → IsJoinedUnsaid m j (a ∷ b ∷ [])
  unfolding all_asked all_replaced
  first_unsaid joins.Negates a b takes unsaid = absurd (let f : true ≡ false = takes in cc)
  first_unsaid joins.Groups a b takes unsaid = absurd (let f : true ≡ false = takes in cc)
  first_unsaid joins.Both a b takes unsaid = λ f. ap (λ o. both_say Both o (said (term_with f m b))) (unsaid f)
  first_unsaid joins.Either a b takes unsaid = λ f. ap (λ o. both_say Either o (said (term_with f m b))) (unsaid f)

  none_second : (g : Expression (List ScopedWord) → Expression (List ScopedWord) → Expression (List ScopedWord)) (o : Option (Expression (List ScopedWord))) → both_say g o None ≡ None
  none_second g None = refl
  none_second g (Some d) = refl

  second_unsaid : (j : Joins) (a b : rust.Term) → takes_one j ≡ false → IsUnsaid m b → IsJoinedUnsaid m j (a ∷ b ∷ [])
  unfolding all_asked all_replaced
  second_unsaid joins.Negates a b takes unsaid = absurd (let f : true ≡ false = takes in cc)
  second_unsaid joins.Groups a b takes unsaid = absurd (let f : true ≡ false = takes in cc)
  second_unsaid joins.Both a b takes unsaid = λ f. ap (both_say Both (said (term_with f m a))) (unsaid f) ∙ none_second Both (said (term_with f m a))
  second_unsaid joins.Either a b takes unsaid = λ f. ap (both_say Either (said (term_with f m a))) (unsaid f) ∙ none_second Either (said (term_with f m a))

  most_of : (a b k : ℕ) → a ≤ k → b ≤ k → max a b ≤ k
  most_of a b k p q = grind arith

  two_deeper : (s t : rust.Term) (a b most : ℕ) → ((k : ℕ) → Nests k (said_of m s) → a ≤ k) → ((k : ℕ) → Nests k (said_of m t) → b ≤ k) → NestUnder m (s ∷ t ∷ []) most → suc (max a b) ≤ most
  two_deeper s t a b zero p q h = absurd h
  two_deeper s t a b (suc k) p q h = let l = most_of a b k (p k h.0) (q k h.1.0) in omega (arith, l)

  whole : (old head mid half new a b : List Step) → mid ≡ old ++ head → half ≡ mid ++ a → new ≡ half ++ b → new ≡ old ++ (head ++ (a ++ b))
  whole old head mid half new a b e f g =
      g ∙ ap (λ w. w ++ b) (f ∙ ap (λ w. w ++ a) e) ∙ append_assoc (old ++ head) a b ∙ append_assoc old head (a ++ b)

  two_added : (sets : Standing) (j : Joins) (s t : rust.Term) (words next rest : List (Option ℕ)) (old mid half new : List Step) → takes_one j ≡ false → mid ≡ old ++ heads j
      → IsAdded sets m s words next mid half → IsAdded sets m t next rest half new → IsJoinedAdded sets m j (s ∷ t ∷ []) words rest old new
  unfolding all_asked all_replaced
  two_added sets joins.Negates s t words next rest old mid half new takes push a b = absurd (let f : true ≡ false = takes in cc)
  two_added sets joins.Groups s t words next rest old mid half new takes push a b = absurd (let f : true ≡ false = takes in cc)
  two_added sets joins.Both s t words next rest old mid half new takes push a b = record {
    put = record {
      tree = Both a.put.tree b.put.tree;
      behind = whole old (heads joins.Both) mid half new (steps_of a.put.tree) (steps_of b.put.tree) push a.put.behind b.put.behind;
      shallow = λ most h. two_deeper s t (levels_of a.put.tree) (levels_of b.put.tree) most a.put.shallow b.put.shallow h;
      says = λ k xs names f known standing begin.
          let p = a.put.says k xs names f known standing (first_begins k f m s (t ∷ []) words begin) in
          let q = b.put.says k xs names f known standing (first_begins k f m t [] next (rest_begin k f m s (t ∷ []) words begin next (a.left f))) in
          (Both p.0 q.0, (λ i. both_say Both (p.1 i) (q.1 i)), (a.put.tree, b.put.tree, refl, p.2, q.2));
    };
    left = λ f. left_two f m s t words next rest (a.left f) (b.left f);
  }
  two_added sets joins.Either s t words next rest old mid half new takes push a b = record {
    put = record {
      tree = Either a.put.tree b.put.tree;
      behind = whole old (heads joins.Either) mid half new (steps_of a.put.tree) (steps_of b.put.tree) push a.put.behind b.put.behind;
      shallow = λ most h. two_deeper s t (levels_of a.put.tree) (levels_of b.put.tree) most a.put.shallow b.put.shallow h;
      says = λ k xs names f known standing begin.
          let p = a.put.says k xs names f known standing (first_begins k f m s (t ∷ []) words begin) in
          let q = b.put.says k xs names f known standing (first_begins k f m t [] next (rest_begin k f m s (t ∷ []) words begin next (a.left f))) in
          (Either p.0 q.0, (λ i. both_say Either (p.1 i) (q.1 i)), (a.put.tree, b.put.tree, refl, p.2, q.2));
    };
    left = λ f. left_two f m s t words next rest (a.left f) (b.left f);
  }

  module _ (j : Joins) (ts : List rust.Term) (a b d e : rust.Term) (len : length ts ≡ 2) (is : a ≡ get_or ts 0 d) (so : b ≡ get_or ts 1 e) (takes : takes_one j ≡ false) where
    pub second_unsaid_in : IsUnsaid m b → IsJoinedUnsaid m j ts
    second_unsaid_in unsaid = subst (IsJoinedUnsaid m j) (sym (just_two ts a b d e len is so)) (second_unsaid j a b takes unsaid)

    pub two_added_in : (sets : Standing) (words next rest : List (Option ℕ)) (old mid half new : List Step) → mid ≡ old ++ heads j → IsAdded sets m a words next mid half
        → IsAdded sets m b next rest half new → IsJoinedAdded sets m j ts words rest old new
    two_added_in sets words next rest old mid half new push p q =
        subst (λ us. IsJoinedAdded sets m j us words rest old new) (sym (just_two ts a b d e len is so)) (two_added sets j a b words next rest old mid half new takes push p q)

  pub first_unsaid_in : (j : Joins) (ts : List rust.Term) (a d : rust.Term) → length ts ≡ 2 → a ≡ get_or ts 0 d → takes_one j ≡ false → IsUnsaid m a → IsJoinedUnsaid m j ts
  first_unsaid_in j [] a d len is takes unsaid = absurd (omega (arith, len))
  first_unsaid_in j (x ∷ []) a d len is takes unsaid = absurd (omega (arith, len))
  first_unsaid_in j (x ∷ y ∷ []) a d len is takes unsaid = first_unsaid j x y takes (subst (IsUnsaid m) is unsaid)
  first_unsaid_in j (x ∷ y ∷ z ∷ ts) a d len is takes unsaid = absurd (omega (arith, len))

-- ---- comparisons

neither : (r : Option Relation) (t : Term ScopedWord) → both_there r None t ≡ None
neither None t = refl
neither (Some r) t = refl

module _ (m : ℕ) (op : Op) where
  pub not_a_pair : (ts : List rust.Term) → (length ts ≡ 2 → ⊥) → IsTestUnsaid m op ts
  unfolding all_replaced
  not_a_pair [] other = λ f. refl
  not_a_pair (t ∷ []) other = λ f. refl
  not_a_pair (t ∷ u ∷ []) other = absurd (other refl)
  not_a_pair (t ∷ u ∷ v ∷ ts) other = λ f. refl

  pub no_relation : (ts : List rust.Term) → length ts ≡ 2 → relation_of op ≡ None → IsTestUnsaid m op ts
  unfolding all_replaced
  no_relation [] len none = absurd (omega (arith, len))
  no_relation (x ∷ []) len none = absurd (omega (arith, len))
  no_relation (x ∷ y ∷ []) len none = λ f. ap (λ r. both_there r (variable_in (term_with f m x)) (term_with f m y)) none
  no_relation (x ∷ y ∷ z ∷ ts) len none = absurd (omega (arith, len))

  pub no_variable : (ts : List rust.Term) (a d : rust.Term) → length ts ≡ 2 → a ≡ get_or ts 0 d → ((f : Word → ScopedWord) → variable_in (term_with f m a) ≡ None) → IsTestUnsaid m op ts
  unfolding all_replaced
  no_variable [] a d len is none = absurd (omega (arith, len))
  no_variable (x ∷ []) a d len is none = absurd (omega (arith, len))
  no_variable (x ∷ y ∷ []) a d len is none = λ f.
      ap (λ v. both_there (relation_of op) v (term_with f m y)) (ap (λ u. variable_in (term_with f m u)) (sym is) ∙ none f) ∙ neither (relation_of op) (term_with f m y)
  no_variable (x ∷ y ∷ z ∷ ts) a d len is none = absurd (omega (arith, len))

  module _ (a b : rust.Term) (relation : Relation) (v : Variable) (has : relation_of op ≡ Some relation) (first : (f : Word → ScopedWord) → variable_in (term_with f m a) ≡ Some v) where
    operand_there : (f : Word → ScopedWord) → test_asked op m (a ∷ b ∷ []) f ≡ operand_asked relation v m b f
    unfolding all_replaced
    operand_there f = λ i. both_there (has i) (first f i) (term_with f m b)

    pair_added : (sets : Standing) (words next rest : List (Option ℕ)) (old new : List Step) → ((f : Word → ScopedWord) → next ≡ drop (length (asked_in f m a)) words)
        → ((f : Word → ScopedWord) → rest ≡ drop (length (asked_in f m b)) next) → IsPut sets (λ k f. BeginWith k f (said_of m b) next) (λ most. 1 ≤ most) (operand_asked relation v m b) old new
        → IsTestAdded sets m op (a ∷ b ∷ []) words rest old new
    pair_added sets words next rest old new left more p = record {
      plain = relation_plain op relation has;
      put =
          put_as sets (λ k f. BeginWith k f (said_of m b) next) (λ k f. AllBeginWith k f m (a ∷ b ∷ []) words) (operand_asked relation v m b) (test_asked op m (a ∷ b ∷ [])) old new operand_there
          (λ k f begin. first_begins k f m b [] next (rest_begin k f m a (b ∷ []) words begin next (left f))) (λ most. 1 ≤ most)
          (λ most. AllNest (below op most) (all_said m (a ∷ b ∷ []))) (λ most h. some most (subst (λ o. AllNest o (all_said m (a ∷ b ∷ []))) (relation_below op relation most has) h)) p;
      left = λ f. left_two f m a b words next rest (left f) (more f);
    }
      where
        some : (most : ℕ) → AllNest (below ops.Not most) (all_said m (a ∷ b ∷ [])) → 1 ≤ most
        some zero h = absurd h
        some (suc k) h = omega arith

    module _ (ts : List rust.Term) (d e : rust.Term) (len : length ts ≡ 2) (is : a ≡ get_or ts 0 d) (so : b ≡ get_or ts 1 e) where
      pub pair_unsaid_in : IsNothing (operand_asked relation v m b) → IsTestUnsaid m op ts
      pair_unsaid_in unsaid = subst (IsTestUnsaid m op) (sym (just_two ts a b d e len is so)) (λ f. operand_there f ∙ unsaid f)

      pub pair_added_in : (sets : Standing) (words next rest : List (Option ℕ)) (old new : List Step) → ((f : Word → ScopedWord) → next ≡ drop (length (asked_in f m a)) words)
          → ((f : Word → ScopedWord) → rest ≡ drop (length (asked_in f m b)) next)
          → IsPut sets (λ k f. BeginWith k f (said_of m b) next) (λ most. 1 ≤ most) (operand_asked relation v m b) old new → IsTestAdded sets m op ts words rest old new
      pair_added_in sets words next rest old new left more p =
          subst (λ us. IsTestAdded sets m op us words rest old new) (sym (just_two ts a b d e len is so)) (pair_added sets words next rest old new left more p)

-- ---- operands

module _ (relation : Relation) (v : Variable) (m : ℕ) (t : rust.Term) where
  words_asked : (l : Option (List ScopedWord)) (w : Option Variable) → is_some l ≡ true → with_operand relation v l w ≡ words_there relation v l
  words_asked None w e = absurd (let f : false ≡ true = e in cc)
  words_asked (Some ws) w e = refl

  variable_asked : (l : Option (List ScopedWord)) (w : Option Variable) → is_some l ≡ false → with_operand relation v l w ≡ variables_compared relation v w
  variable_asked None w e = refl
  variable_asked (Some ws) w e = absurd (let f : true ≡ false = e in cc)

  pub of_words : (b : Bool) (sets : Standing) (Begin : Known → (Word → ScopedWord) → Type 0) (old new : List Step) → ((f : Word → ScopedWord) → is_some (listed (term_with f m t)) ≡ true)
      → IsPutIf b sets Begin (λ f. words_there relation v (listed (term_with f m t))) old new → IsPutIf b sets Begin (operand_asked relation v m t) old new
  of_words b sets Begin old new is p =
      put_if_as sets Begin Begin (λ f. words_there relation v (listed (term_with f m t))) (operand_asked relation v m t) old new
      (λ f. words_asked (listed (term_with f m t)) (variable_in (term_with f m t)) (is f)) (λ k f h. h) b p

  pub of_variable : (b : Bool) (sets : Standing) (Begin : Known → (Word → ScopedWord) → Type 0) (old new : List Step) (other : Option Variable)
      → ((f : Word → ScopedWord) → is_some (listed (term_with f m t)) ≡ false) → ((f : Word → ScopedWord) → other ≡ variable_in (term_with f m t))
      → IsPutIf b sets (λ k f. Unit {0}) (λ f. variables_compared relation v other) old new → IsPutIf b sets Begin (operand_asked relation v m t) old new
  of_variable b sets Begin old new other is same p =
      put_if_as sets (λ k f. Unit {0}) Begin (λ f. variables_compared relation v other) (operand_asked relation v m t) old new
      (λ f. variable_asked (listed (term_with f m t)) (variable_in (term_with f m t)) (is f) ∙ ap (variables_compared relation v) (sym (same f))) (λ k f h. tt) b p

-- ---- words

low_none : (relation : Relation) (v : Variable) (side : Side) → v ≡ LowOf side → (l : Option (List ScopedWord)) → words_there relation v l ≡ None
low_none relation v side is None = refl
low_none relation v side is (Some ws) = ap (λ z. words_compared relation z ws) is

high_none : (relation : Relation) (v : Variable) (side : Side) → v ≡ HighOf side → (l : Option (List ScopedWord)) → words_there relation v l ≡ None
high_none relation v side is None = refl
high_none relation v side is (Some ws) = ap (λ z. words_compared relation z ws) is

module _ (relation : Relation) (v : Variable) (m : ℕ) (t : rust.Term) where
  pub low_unsaid : (side : Side) → v ≡ LowOf side → IsNothing (λ f. words_there relation v (listed (term_with f m t)))
  low_unsaid side is = λ f. low_none relation v side is (listed (term_with f m t))

  pub high_unsaid : (side : Side) → v ≡ HighOf side → IsNothing (λ f. words_there relation v (listed (term_with f m t)))
  high_unsaid side is = λ f. high_none relation v side is (listed (term_with f m t))

  module _ (part : Part) (side : Side) (is : v ≡ PartOf part side) where
    inside_is : (l : Option (List ScopedWord)) → words_there relation v l ≡ words_there relation (PartOf part side) l
    inside_is l = ap (λ z. words_there relation z l) is

    pub equality_unsaid : equality_of relation ≡ None → IsNothing (λ f. words_there relation v (listed (term_with f m t)))
    equality_unsaid none = λ f. inside_is (listed (term_with f m t)) ∙ go (listed (term_with f m t)) where
      go : (l : Option (List ScopedWord)) → words_there relation (PartOf part side) l ≡ None
      go None = refl
      go (Some ws) = ap (option_map (λ equality. Inside part side equality ws)) none

    pub inside_put : (sets : Standing) (equality : Equality) (words : List (Option ℕ)) (old new : List Step) → equality_of relation ≡ Some equality
        → ((f : Word → ScopedWord) → is_some (listed (term_with f m t)) ≡ true) → IsInsidePut (sets_in sets part) part side equality m t words old new
        → IsPut sets (λ k f. BeginWith k f (said_of m t) words) (λ most. 1 ≤ most) (λ f. words_there relation v (listed (term_with f m t))) old new
    inside_put sets equality words old new equal some p = record {
      tree = Inside part side equality p.set;
      behind = p.behind;
      shallow = λ most h. h;
      says = λ k xs names f known standing begin. go k xs names f known standing begin (listed (term_with f m t)) refl (some f);
    }
      where
        go : (k : Known) (xs : List Item) (names : Kind → List (List ℕ)) (f : Word → ScopedWord) → IsKnown k xs names → AreSets k xs names sets → BeginWith k f (said_of m t) words
            → (l : Option (List ScopedWord)) → listed (term_with f m t) ≡ l → is_some l ≡ true
            → (d : Expression (List ScopedWord)) × (words_there relation v (listed (term_with f m t)) ≡ Some d) × IsExpressionOf xs (enabled_in k) names d (Inside part side equality p.set)
        go k xs names f known standing begin None says e = absurd (let g : false ≡ true = e in cc)
        go k xs names f known standing begin (Some ws) says e = (
          Inside part side equality ws,
          ap (words_there relation v) says ∙ inside_is (Some ws) ∙ ap (option_map (λ equality. Inside part side equality ws)) equal,
          (p.set, refl, p.is_set ws f says k xs names part known (standing part) begin),
        )

-- ---- two variables

module _ (relation : Relation) (v : Variable) (sets : Standing) (old new : List Step) (b : Bool) where
  pub parts_put : (part : Part) (side : Side) (w : Variable) (other : Option Variable) → v ≡ PartOf part side → other ≡ Some w
      → IsPutIf b sets (λ k f. Unit {0}) (λ f. option_map (Compared part) (equality_of relation)) old new → IsPutIf b sets (λ k f. Unit {0}) (λ f. variables_compared relation v other) old new
  parts_put part side w other is there p =
      put_if_as sets (λ k f. Unit {0}) (λ k f. Unit {0}) (λ f. option_map (Compared part) (equality_of relation)) (λ f. variables_compared relation v other) old new
      (λ f. (λ i. variables_compared relation (is i) (there i))) (λ k f h. h) b p

  pub lows_put : (side : Side) (w : Variable) (other : Option Variable) → v ≡ LowOf side → other ≡ Some w → IsPutIf b sets (λ k f. Unit {0}) (λ f. levels_compared relation v w) old new
      → IsPutIf b sets (λ k f. Unit {0}) (λ f. variables_compared relation v other) old new
  lows_put side w other is there p =
      put_if_as sets (λ k f. Unit {0}) (λ k f. Unit {0}) (λ f. levels_compared relation v w) (λ f. variables_compared relation v other) old new
      (λ f. (λ i. variables_compared relation (is i) (there i)) ∙ ap (λ z. levels_compared relation z w) (sym is)) (λ k f h. h) b p

  pub highs_put : (side : Side) (w : Variable) (other : Option Variable) → v ≡ HighOf side → other ≡ Some w → IsPutIf b sets (λ k f. Unit {0}) (λ f. levels_compared relation v w) old new
      → IsPutIf b sets (λ k f. Unit {0}) (λ f. variables_compared relation v other) old new
  highs_put side w other is there p =
      put_if_as sets (λ k f. Unit {0}) (λ k f. Unit {0}) (λ f. levels_compared relation v w) (λ f. variables_compared relation v other) old new
      (λ f. (λ i. variables_compared relation (is i) (there i)) ∙ ap (λ z. levels_compared relation z w) (sym is)) (λ k f h. h) b p

-- a step that is an expression by itself
pub compared_put : (sets : Standing) (relation : Relation) (part : Part) (equality : Equality) (old new : List Step) → equality_of relation ≡ Some equality
    → new ≡ old ++ steps_of (Compared part equality) → IsPut sets (λ k f. Unit {0}) (λ most. 1 ≤ most) (λ f. option_map (Compared part) (equality_of relation)) old new
compared_put sets relation part equality old new equal push = record {
  tree = Compared part equality;
  behind = push;
  shallow = λ most h. h;
  says = λ k xs names f known standing begin. (Compared part equality, ap (option_map (Compared part)) equal, refl);
}

pub ranked_put : (sets : Standing) (relation : Relation) (v w : Variable) (pair : LevelPair) (old new : List Step) → pair_of v w ≡ Some pair
    → new ≡ old ++ steps_of (Ranked pair relation) → IsPut sets (λ k f. Unit {0}) (λ most. 1 ≤ most) (λ f. levels_compared relation v w) old new
ranked_put sets relation v w pair old new is push = record {
  tree = Ranked pair relation;
  behind = push;
  shallow = λ most h. h;
  says = λ k xs names f known standing begin. (Ranked pair relation, ap (option_map (λ p. Ranked p relation)) is, refl);
}

-- ---- what a term is

module _ (f : Word → ScopedWord) (m : ℕ) (t : rust.Term) where
  pub leaf_variable : (w : LookedUp) → t ≡ rust.Leaf w → None ≡ variable_in (term_with f m t)
  leaf_variable w is = sym (ap variable_in (scoped_leaf f [] m t w is))

  pub name_variable : (at : ℕ) (bytes : List ℕ) → t ≡ rust.Name at bytes → None ≡ variable_in (term_with f m t)
  name_variable at bytes is = sym (ap variable_in (scoped_name f [] m t at bytes is))

  pub form_variable : (at : ℕ) (op : Op) (parts : Vec rust.Term) → t ≡ rust.Form op at parts → variable_of op ≡ variable_in (term_with f m t)
  form_variable at op parts is = sym (ap variable_in (scoped_form f [] m t at op parts is))

  pub leaf_is_listed : (w : LookedUp) → t ≡ rust.Leaf w → true ≡ is_some (listed (term_with f m t))
  leaf_is_listed w is = sym (ap (λ u. is_some (listed u)) (scoped_leaf f [] m t w is))

  pub name_is_listed : (at : ℕ) (bytes : List ℕ) → t ≡ rust.Name at bytes → false ≡ is_some (listed (term_with f m t))
  name_is_listed at bytes is = sym (ap (λ u. is_some (listed u)) (scoped_name f [] m t at bytes is))

  pub form_is_listed : (at : ℕ) (op : Op) (parts : Vec rust.Term) → t ≡ rust.Form op at parts → is_union op ≡ is_some (listed (term_with f m t))
  form_is_listed at op parts is = there (is_union op) (leaves (terms_with f m parts.items)) ∙ sym (ap (λ u. is_some (listed u)) (scoped_form f [] m t at op parts is)) where
    there : (b : Bool) (ws : List ScopedWord) → b ≡ is_some (if b then Some ws else None)
    there true ws = refl
    there false ws = refl
