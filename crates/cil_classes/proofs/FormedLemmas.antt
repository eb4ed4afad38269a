-- Class permissions by their forms: words, names and lists; and the meanings of their words.
use Rattle.std.specs.Prelude.{Option, Some, None, slice_get}
use Rattle.std.specs.Global.{Vec}
use Rattle.std.specs.List.Sorted.{IsStrictlySortedBy}
use Rattle.std.proofs.Common.{◌≡◌, ℕ, ◌<◌, ◌≤◌, List, [], ◌∷◌, ◌++◌, drop, get_or, length, map, refl, sym, ◌∙◌, ap, subst, inl, inr, arith}
use Rattle.std.proofs.lemmas.List.{get_or_default}
use Rattle.cil_base.specs.Lists.{text_cmp}
use Rattle.cil_base.specs.Places.{get_contains, some_at}
use Rattle.cil_faults.specs.Spots.{spot_at}
use Rattle.cil_faults.specs.declared.spot.Spot.{Spot}
use Rattle.cil_syntax.specs.Forms.{IsClassForm, class_form, leaf_of, rule_form, word_and_term}
use Rattle.cil_syntax.specs.Kinds.{is_wanted}
use Rattle.cil_syntax.specs.declared.kind.Kind.{Kind}
use Rattle.cil_syntax.specs.declared.kind.Kind.TheVariants as kinds
use Rattle.cil_syntax.specs.declared.kind.Sign.TheVariants as signs
use Rattle.cil_syntax.specs.declared.term.LookedUp.{LookedUp}
use Rattle.cil_syntax.specs.declared.term.Op.{Op}
use Rattle.cil_syntax.specs.declared.term.Op.TheVariants as ops
use Rattle.cil_syntax.specs.declared.term.Term as rust
use Rattle.cil_syntax.specs.declared.term.Word.{Word}
use Rattle.cil_syntax.specs.Said.{all_said, said_of, word_in}
use Rattle.cil_syntax.specs.Scopes.{ScopedWord}
use Rattle.cil_syntax.specs.Terms.{Term, Leaf, Name, Form, Terms, nil, cons}
use Rattle.cil_syntax.proofs.SaidLemmas.{form_said, leaf_said, name_said}
use Rattle.cil_macros.specs.Item.{Item, all_replaced, replaced, words_in}
use Rattle.cil_macros.proofs.FormLemmas.{across, all_across, class_across, form_across, leaf_across, name_across}
use Rattle.cil_known.specs.declared.known.Known.{Known}
use Rattle.cil_known.specs.Known.{BeginWith, IsKnown, meant_in, value_in}
use Rattle.cil_names.specs.PermissionWords.{listed_for}
use Rattle.cil_names.specs.Resolves.{wanted_in}
use Rattle.cil_names.specs.Unresolved.{listed_at, term_with}
use Rattle.cil_classes.specs.declared.nodes.Node.{Node}
use Rattle.cil_classes.specs.declared.nodes.Run.{Run}
use Rattle.cil_classes.specs.Given.{Holder, mapped, named}
use Rattle.cil_classes.specs.Givings.{IsMapping, IsNoMapping, IsSet}
use Rattle.cil_classes.specs.Masks.{IsLeaf}
use Rattle.cil_classes.specs.Nodes.{IsRunOf, StandsAs}
use Rattle.cil_classes.specs.Numbers.{AreNumbered}
use Rattle.cil_classes.specs.Parts.{AreAmong, AreNodes, IsEntryFor, IsForm}
use Rattle.cil_classes.proofs.EntryForLemmas.{its_permissions, list_for}
use Rattle.cil_classes.proofs.GivenLemmas.{numbers_behind}
use Rattle.std.proofs.lemmas.Option.{none-some, same_Some}
use Rattle.cil_names.specs.declared.entry.Entry.{Entry}

-- ---- forms

module _ (f : Word → ScopedWord) (m : ℕ) (t : rust.Term) where
  pub leaf_with : (w : LookedUp) → t ≡ rust.Leaf w → term_with f m t ≡ Leaf (f (word_in m w))
  leaf_with w is = ap (term_with f m) is ∙ ap (across f) (leaf_said m w) ∙ leaf_across f (word_in m w)

  name_with : (at : ℕ) (bytes : List ℕ) → t ≡ rust.Name at bytes → term_with f m t ≡ Name (spot_at m at) bytes
  name_with at bytes is = ap (term_with f m) is ∙ ap (across f) (name_said m at bytes) ∙ name_across f (spot_at m at) bytes

  form_with : (at : ℕ) (op : Op) (parts : Vec rust.Term) → t ≡ rust.Form op at parts → (r : Term ScopedWord) × (term_with f m t ≡ r) × (leaf_of r ≡ None)
  form_with at op parts is =
      (_, ap (term_with f m) is ∙ ap (across f) (form_said m at op parts) ∙ form_across f (spot_at m at) op (all_said m parts.items), refl)

  -- a form is no word
  pub no_form : IsForm t → leaf_of (term_with f m t) ≡ None
  no_form form = let r = form_with form.1 form.0 form.2 form.3 in ap leaf_of r.1 ∙ r.2

  -- a name is neither
  pub name_no_leaf : (at : ℕ) (bytes : List ℕ) → t ≡ rust.Name at bytes → leaf_of (term_with f m t) ≡ None
  name_no_leaf at bytes is = ap leaf_of (name_with at bytes is)

  pub name_no_list : (at : ℕ) (bytes : List ℕ) → t ≡ rust.Name at bytes → class_form (term_with f m t) ≡ None
  name_no_list at bytes is = ap class_form (name_with at bytes is)

-- a class list, with each word as it takes part in a policy
pub form_there : (f : Word → ScopedWord) (said : Term Word) (word : Word) (expression : Term Word) → IsClassForm said word expression
    → (at : Spot) × (across f said ≡ Form at ops.ClassPermissions (cons (Leaf (f word)) (cons (across f expression) nil)))
form_there f said word expression form = (form.0, ap (across f) form.1 ∙ class_across f form.0 word expression)

pub parts_there : (f : Word → ScopedWord) (said : Term Word) (word : Word) (expression : Term Word) → IsClassForm said word expression → class_form (across f said) ≡ Some (f word, across f expression)
parts_there f said word expression form = ap class_form (form_there f said word expression form).1

-- ---- meanings

-- the meaning of a word is the first
pub first_meant : (k : Known) (f : Word → ScopedWord) (m : ℕ) (t : rust.Term) (w : LookedUp) (words : List (Option ℕ)) → t ≡ rust.Leaf w → BeginWith k f (said_of m t) words
    → get_or words 0 None ≡ meant_in k (f (word_in m w))
unfolding wanted_in
first_meant k f m t w words is begin =
    ap (λ ws. get_or ws 0 None) (begin.are ∙ ap (λ e. map (value_in k) (wanted_in e) ++ begin.more) (leaf_with f m t w is))

-- ---- the permissions of the nodes of a class map

module _ (k : Known) (xs : List Item) (names : Kind → List (List ℕ)) (known : IsKnown k xs names) (nodes : List Node) (are : AreNodes k nodes) (w : ScopedWord) (d : ℕ)
    (for : IsEntryFor k xs kinds.ClassMap w d) (run : Run) (of_entry : IsRunOf nodes d run) where
  -- each is of a permission of the map
  permission_of : (h : Holder) (n : Node) → StandsAs k.lookup.namespaces.now k.lookup.names.now k.permissions.now n h → n.entry ≡ d
      → (p : List ℕ) × (slice_get (listed_at k.permissions.now d) n.number ≡ Some p)
  permission_of (mapped m r) n stands same = (r, subst (λ j. slice_get (listed_at k.permissions.now j) n.number ≡ Some r) same stands.1)
  permission_of (named c) n stands same =
      let one : for.entry ≡ stands.0.entry = same_Some for.entry stands.0.entry (sym for.at ∙ ap (slice_get k.lookup.names.now) (sym same) ∙ stands.0.at) in
      absurd (let kinds_differ : kinds.ClassMap ≡ kinds.ClassPermission = sym for.of_kind ∙ ap (λ (x : Entry). x.kind) one ∙ stands.0.of_kind in cc)

  pub are_among : AreAmong (listed_at k.permissions.now d) nodes run
  are_among v n low high at =
      let (h, stands) = are v n at in permission_of h n stands (of_entry.of_entry v n low high at)

  -- so the numbers of the words of an expression are those of the map's permissions
  pub numbered_there : (f : Word → ScopedWord) (said : Term Word) (word : Word) (expression : Term Word) (form : IsClassForm said word expression) (words rest : List (Option ℕ)) → w ≡ f word → BeginWith k f said words
      → rest ≡ drop 1 words → run.start < run.end → run.end ≤ length nodes → AreNumbered (listed_at k.permissions.now d) f (words_in expression) rest
  numbered_there f said word expression form words rest is begin behind some within =
      let (n, at) = some_at nodes run.start (omega (arith, some, within)) in
      let (p, here) = are_among run.start n (omega arith) some at in
      subst (λ ps. AreNumbered ps f (words_in expression) rest)
      (ap (λ v. listed_for k.lookup.namespaces.now k.lookup.names.now k.permissions.now v) (sym is)
      ∙ list_for k xs names known w d for.entry for.means for.at (ap (is_wanted signs.Classes) for.of_kind) p (get_contains (listed_at k.permissions.now d) n.number p here))
      (numbers_behind k f said word expression form words begin rest behind)

  pub rising_there : IsStrictlySortedBy text_cmp (listed_at k.permissions.now d)
  rising_there = (its_permissions k xs names known w d for.entry for.means for.at (ap (is_wanted signs.Classes) for.of_kind)).rising

-- ---- the terms of statements

one_term : (t : Term Word) → word_and_term (cons t nil) ≡ None
one_term (Leaf w) = refl
one_term (Name at bytes) = refl
one_term (Form at op parts) = refl

three_terms : (a b c : Term Word) (ts : Terms Word) → word_and_term (cons a (cons b (cons c ts))) ≡ None
three_terms (Leaf w) b c ts = refl
three_terms (Name at bytes) b c ts = refl
three_terms (Form at op parts) b c ts = refl

pub no_word_and_term : (m : ℕ) (ts : List rust.Term) → (length ts ≡ 2 → ⊥) → word_and_term (all_said m ts) ≡ None
no_word_and_term m [] other = refl
no_word_and_term m (a ∷ []) other = one_term (said_of m a)
no_word_and_term m (a ∷ b ∷ []) other = absurd (other refl)
no_word_and_term m (a ∷ b ∷ c ∷ ts) other = three_terms (said_of m a) (said_of m b) (said_of m c) (all_said m ts)

leaf_there : (m : ℕ) (t : rust.Term) (leaf : IsLeaf t) → said_of m t ≡ Leaf (word_in m leaf.0)
leaf_there m t leaf = ap (said_of m) leaf.1 ∙ leaf_said m leaf.0

no_word_first : (a : Term Word) (ts : Terms Word) → leaf_of a ≡ None → (word_and_term (cons a ts) ≡ None) × (rule_form (cons a ts) ≡ None)
no_word_first (Leaf w) ts e = absurd (none-some w (sym e))
no_word_first (Name at bytes) ts e = (refl, refl)
no_word_first (Form at op parts) ts e = (refl, refl)

first_no_word : (m : ℕ) (ts : List rust.Term) (a : rust.Term) → a ≡ get_or ts 0 a → leaf_of (said_of m a) ≡ None → (word_and_term (all_said m ts) ≡ None) × (rule_form (all_said m ts) ≡ None)
first_no_word m [] a ia never = (refl, refl)
first_no_word m (x ∷ xs) a ia never = no_word_first (said_of m x) (all_said m xs) (ap (λ t. leaf_of (said_of m t)) (sym ia) ∙ never)

pub no_set_form : (m : ℕ) (ts : List rust.Term) (a : rust.Term) → a ≡ get_or ts 0 a → leaf_of (said_of m a) ≡ None → word_and_term (all_said m ts) ≡ None
no_set_form m ts a ia never = (first_no_word m ts a ia never).0

pub no_first_word : (m : ℕ) (ts : List rust.Term) (a : rust.Term) → a ≡ get_or ts 0 a → leaf_of (said_of m a) ≡ None → IsNoMapping (all_said m ts)
no_first_word m ts a ia never = inl (first_no_word m ts a ia never).1

-- the terms one by one
two_there : (m : ℕ) (ts : List rust.Term) (a b : rust.Term) → length ts ≡ 2 → a ≡ get_or ts 0 a → b ≡ get_or ts 1 b → all_said m ts ≡ cons (said_of m a) (cons (said_of m b) nil)
two_there m [] a b two ia ib = absurd (omega (arith, two))
two_there m (x ∷ []) a b two ia ib = absurd (omega (arith, two))
two_there m (x ∷ y ∷ []) a b two ia ib = ap (λ t. cons (said_of m t) (cons (said_of m y) nil)) (sym ia) ∙ ap (λ t. cons (said_of m a) (cons (said_of m t) nil)) (sym ib)
two_there m (x ∷ y ∷ z ∷ zs) a b two ia ib = absurd (omega (arith, two))

three_there : (m : ℕ) (ts : List rust.Term) (a b : rust.Term) → length ts ≡ 3 → a ≡ get_or ts 0 a → b ≡ get_or ts 1 b
    → all_said m ts ≡ cons (said_of m a) (cons (said_of m b) (cons (said_of m (get_or ts 2 a)) nil))
three_there m [] a b three ia ib = absurd (omega (arith, three))
three_there m (x ∷ []) a b three ia ib = absurd (omega (arith, three))
three_there m (x ∷ y ∷ []) a b three ia ib = absurd (omega (arith, three))
three_there m (x ∷ y ∷ z ∷ []) a b three ia ib =
    ap (λ t. cons (said_of m t) (cons (said_of m y) (cons (said_of m z) nil))) (sym ia) ∙ ap (λ t. cons (said_of m a) (cons (said_of m t) (cons (said_of m z) nil))) (sym ib)
three_there m (x ∷ y ∷ z ∷ w ∷ ws) a b three ia ib = absurd (omega (arith, three))

pub set_form : (m : ℕ) (ts : List rust.Term) (a b : rust.Term) → length ts ≡ 2 → a ≡ get_or ts 0 a → IsLeaf a → b ≡ get_or ts 1 b → IsSet (all_said m ts) (said_of m b)
set_form m ts a b two ia leaf ib = (word_in m leaf.0, two_there m ts a b two ia ib ∙ ap (λ u. cons u (cons (said_of m b) nil)) (leaf_there m a leaf))

one_alone : (a : Term Word) → rule_form (cons a nil) ≡ None
one_alone (Leaf w) = refl
one_alone (Name at bytes) = refl
one_alone (Form at op parts) = refl

two_alone : (a b : Term Word) → rule_form (cons a (cons b nil)) ≡ None
two_alone (Leaf w) b = refl
two_alone (Name at bytes) b = refl
two_alone (Form at op parts) b = refl

four_there : (a b c d : Term Word) (ts : Terms Word) → rule_form (cons a (cons b (cons c (cons d ts)))) ≡ None
four_there (Leaf w) b c d ts = refl
four_there (Name at bytes) b c d ts = refl
four_there (Form at op parts) b c d ts = refl

pub no_three : (m : ℕ) (ts : List rust.Term) → (length ts ≡ 3 → ⊥) → IsNoMapping (all_said m ts)
no_three m [] other = inl refl
no_three m (a ∷ []) other = inl (one_alone (said_of m a))
no_three m (a ∷ b ∷ []) other = inl (two_alone (said_of m a) (said_of m b))
no_three m (a ∷ b ∷ c ∷ []) other = absurd (other refl)
no_three m (a ∷ b ∷ c ∷ d ∷ ts) other = inl (four_there (said_of m a) (said_of m b) (said_of m c) (said_of m d) (all_said m ts))

pub no_second_word : (m : ℕ) (ts : List rust.Term) (a b : rust.Term) → length ts ≡ 3 → a ≡ get_or ts 0 a → IsLeaf a → b ≡ get_or ts 1 b → leaf_of (said_of m b) ≡ None → IsNoMapping (all_said m ts)
no_second_word m ts a b three ia leaf ib never = inr (
  word_in m leaf.0,
  said_of m b,
  said_of m (get_or ts 2 a),
  three_there m ts a b three ia ib ∙ ap (λ u. cons u (cons (said_of m b) (cons (said_of m (get_or ts 2 a)) nil))) (leaf_there m a leaf),
  never,
)

third_is : (ts : List rust.Term) (a c : rust.Term) → length ts ≡ 3 → c ≡ get_or ts 2 c → get_or ts 2 a ≡ c
third_is ts a c three ic = get_or_default ts 2 a c (omega (arith, three)) ∙ sym ic

pub mapping_form : (m : ℕ) (ts : List rust.Term) (a b c : rust.Term) → length ts ≡ 3 → a ≡ get_or ts 0 a → IsLeaf a → b ≡ get_or ts 1 b → IsLeaf b → c ≡ get_or ts 2 c
    → IsMapping (all_said m ts) (said_of m c)
mapping_form m ts a b c three ia first ib second ic = (
  word_in m first.0,
  word_in m second.0,
  three_there m ts a b three ia ib ∙ ap (λ u. cons u (cons (said_of m b) (cons (said_of m (get_or ts 2 a)) nil))) (leaf_there m a first)
      ∙ ap (λ u. cons (Leaf (word_in m first.0)) (cons u (cons (said_of m (get_or ts 2 a)) nil))) (leaf_there m b second)
      ∙ ap (λ t. cons (Leaf (word_in m first.0)) (cons (Leaf (word_in m second.0)) (cons (said_of m t) nil))) (third_is ts a c three ic),
)

module _ (f : Word → ScopedWord) where
  pub set_across : (w : Word) (t : Term Word) → all_across f (cons (Leaf w) (cons t nil)) ≡ cons (Leaf (f w)) (cons (across f t) nil)
  unfolding all_replaced
  set_across w t = refl

  pub no_leaf_across : (t : Term Word) → leaf_of t ≡ None → leaf_of (across f t) ≡ None
  unfolding replaced
  no_leaf_across (Leaf w) e = absurd (none-some w (sym e))
  no_leaf_across (Name at bytes) e = refl
  no_leaf_across (Form at op parts) e = refl
