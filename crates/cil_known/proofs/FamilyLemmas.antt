-- Where ranks fall, one family alone solves the equations.
use Rattle.std.proofs.Common.{◌≡◌, ◌⊎◌, ◌↔◌, ℕ, zero, suc, ◌<◌, ◌≤◌, Bool, true, false, ◌&&◌, ◌||◌, List, [], ◌∷◌, refl, sym, ◌∙◌, ap, subst, inl, inr, arith}
use Rattle.std.specs.Prelude.{Contains, Option, Some, None}
use Rattle.std.specs.List.{list_any}
use Rattle.std.specs.Option.{option_map_or}
use Rattle.std.proofs.lemmas.List.Elements.{Contains-append_left, Contains-append_right}
use Rattle.cil_base.specs.Lists.{contains_cases, contains_here, contains_later, contains_none}
use Rattle.cil_syntax.specs.Kinds.{is_wanted}
use Rattle.cil_syntax.specs.Forms.{word_and_term}
use Rattle.cil_faults.specs.Namespaces.{Namespace}
use Rattle.cil_syntax.specs.Scopes.{ScopedWord}
use Rattle.cil_syntax.specs.Terms.{Term, Leaf, Name, Form, Terms, nil, cons}
use Rattle.cil_names.specs.macros.Item.{Item, OptSet, all_words_in, is_enabled, words_in}
use Rattle.cil_names.specs.Declarations.{Symbol}
use Rattle.cil_names.specs.Resolves.{found_in}
use Rattle.cil_syntax.specs.declared.kind.Kind.{Kind}
use Rattle.cil_names.specs.Declarations.{Declared}
use Rattle.cil_known.specs.Members.{StandsFor, space_of}
use Rattle.cil_known.specs.Family.{Family, IsRanked, Range, Solves, SolvesBelow, no_range, Uses, gives, holds, in_value, is_given, is_giving}
use Rattle.cil_syntax.specs.Expressions.{by_way, differ, is_in, is_in_each, is_in_odd, is_in_some, way_of}
use Rattle.cil_known.specs.Spaces.{SpaceOf, Sets, is_declared, is_set, names, names_set, is_same_symbol, symbol_in}

-- where both agree if a first test passes, both tests agree
guarded : (b x y : Bool) → (b ≡ true → x ≡ y) → (b && x) ≡ (b && y)
guarded true x y f = f refl
guarded false x y f = refl

-- ---- expressions

-- words that have the element alike make expressions that have it alike
module _ {L : Type 0} (p q : L → Bool) (among : Bool) (range : Terms L → Bool) where
  mutual
    unfolding is_in is_in_some is_in_each is_in_odd words_in all_words_in

    pub same_tests : (e : Term L) → ((w : L) → Contains (words_in e) w → p w ≡ q w) → is_in p among range e ≡ is_in q among range e
    same_tests (Leaf w) h = h w (contains_here w [])
    same_tests (Name at x) h = refl
    same_tests (Form at op ts) h =
        ap (λ b. by_way (way_of op) among b (is_in_each p among range ts) (is_in_odd p among range ts) (range ts)) (same_some ts h)
        ∙ ap (λ b. by_way (way_of op) among (is_in_some q among range ts) b (is_in_odd p among range ts) (range ts)) (same_each ts h)
        ∙ ap (λ b. by_way (way_of op) among (is_in_some q among range ts) (is_in_each q among range ts) b (range ts)) (same_odd ts h)

    same_some : (ts : Terms L) → ((w : L) → Contains (all_words_in ts) w → p w ≡ q w) → is_in_some p among range ts ≡ is_in_some q among range ts
    same_some nil h = refl
    same_some (cons a ts) h = ap (λ b. b || is_in_some p among range ts) (same_tests a (λ w c. h w (Contains-append_left (words_in a) (all_words_in ts) w c)))
        ∙ ap (λ b. is_in q among range a || b) (same_some ts (λ w c. h w (Contains-append_right (words_in a) (all_words_in ts) w c)))

    same_each : (ts : Terms L) → ((w : L) → Contains (all_words_in ts) w → p w ≡ q w) → is_in_each p among range ts ≡ is_in_each q among range ts
    same_each nil h = refl
    same_each (cons a ts) h = ap (λ b. b && is_in_each p among range ts) (same_tests a (λ w c. h w (Contains-append_left (words_in a) (all_words_in ts) w c)))
        ∙ ap (λ b. is_in q among range a && b) (same_each ts (λ w c. h w (Contains-append_right (words_in a) (all_words_in ts) w c)))

    same_odd : (ts : Terms L) → ((w : L) → Contains (all_words_in ts) w → p w ≡ q w) → is_in_odd p among range ts ≡ is_in_odd q among range ts
    same_odd nil h = refl
    same_odd (cons a ts) h = ap (λ b. differ b (is_in_odd p among range ts)) (same_tests a (λ w c. h w (Contains-append_left (words_in a) (all_words_in ts) w c)))
        ∙ ap (λ b. differ (is_in q among range a) b) (same_odd ts (λ w c. h w (Contains-append_right (words_in a) (all_words_in ts) w c)))

-- ---- families

module _ (xs : List Item) (s : OptSet) (space : SpaceOf) (range : Range) (m n : Family) where
  -- the families agree on each set that one of these words names
  abbrev Agree : List ScopedWord → Type 0
  Agree ws = (v : ScopedWord) (b : Symbol) → Contains ws v → names_set xs s space v b ≡ true → (t : Symbol) → m b t ≡ n b t

  same_holds : (w : ScopedWord) (t : Symbol) → Agree (w ∷ []) → holds xs s space range m w t ≡ holds xs s space range n w t
  unfolding holds
  same_holds w t h = ap (λ b. names xs s space.item w t || b) (go (found_in xs s w)) where
    go : (r : Option Namespace) → option_map_or (λ k. names_set xs s space w (symbol_in w k) && m (symbol_in w k) t) r false ≡ option_map_or (λ k. names_set xs s space w (symbol_in w k) && n (symbol_in w k) t) r false
    go None = refl
    go (Some k) = guarded (names_set xs s space w (symbol_in w k)) (m (symbol_in w k) t) (n (symbol_in w k) t) (λ e. h w (symbol_in w k) (contains_here w []) e t)

  same_value : (e : Term ScopedWord) (t : Symbol) → Agree (words_in e) → in_value xs s space range m e t ≡ in_value xs s space range n e t
  same_value e t h = same_tests (λ w. holds xs s space range m w t) (λ w. holds xs s space range n w t) (is_declared xs s space.item t) (λ ts. range ts t) e
      (λ w c. same_holds w t (λ v b d. h v b (only w v c d))) where
        only : (w v : ScopedWord) → Contains (words_in e) w → Contains (w ∷ []) v → Contains (words_in e) v
        only w v c d = elim (contains_cases v w [] d) [ inl f ↦ subst (Contains (words_in e)) f c | inr g ↦ absurd (contains_none v g) ]

  -- what one statement gives is the same where the families agree on what the set uses
  same_gives : (a t : Symbol) (x : Item) → Contains xs x → ((b u : Symbol) → Uses xs s space range a b → m b u ≡ n b u) → gives xs s space range m a t x ≡ gives xs s space range n a t x
  same_gives a t x c agree = guarded (is_enabled s x) _ _ (λ on. go on (word_and_term x.args) refl) where
    go : is_enabled s x ≡ true → (r : Option (ScopedWord × Term ScopedWord)) → word_and_term x.args ≡ r
        → option_map_or (λ p. is_giving xs s space range a x p.0 && in_value xs s space range m p.1 t) r false ≡ option_map_or (λ p. is_giving xs s space range a x p.0 && in_value xs s space range n p.1 t) r false
    go on None e = refl
    go on (Some p) e = guarded (is_giving xs s space range a x p.0) _ _ (λ g. same_value p.1 t (λ v b w named u.
        agree b u (record { item = x; word = p.0; expression = p.1; inner = v; is_item = c; enabled = on; says = e; giving = g; within = w; names_b = named })))

  same_any : {X : Type 0} (p q : X → Bool) (ys : List X) → ((y : X) → Contains ys y → p y ≡ q y) → list_any p ys ≡ list_any q ys
  same_any p q [] f = refl
  same_any p q (y ∷ ys) f = ap (λ b. b || list_any p ys) (f y (contains_here y ys)) ∙ ap (λ b. q y || b) (same_any p q ys (λ z c. f z (contains_later z y ys c)))

  same_given : (a t : Symbol) → ((b u : Symbol) → Uses xs s space range a b → m b u ≡ n b u) → is_given xs s space range m a t ≡ is_given xs s space range n a t
  unfolding is_given
  same_given a t agree = same_any (gives xs s space range m a t) (gives xs s space range n a t) xs (λ x c. same_gives a t x c agree)

  any_declared : (b : Symbol) (v : ScopedWord) → names_set xs s space v b ≡ true → is_set xs s space b ≡ true
  unfolding names
  any_declared b v e = go space.aliases space.attributes e where
    kept : (k : Sets) → names xs s k.kind v b ≡ true → is_declared xs s k.kind b ≡ true
    kept k h = both (is_wanted v.sign k.kind) (is_declared xs s k.kind b) (option_map_or (λ q. is_same_symbol (symbol_in v q) b) (found_in xs s v) false) h where
      both : (p q r : Bool) → ((p && q) && r) ≡ true → q ≡ true
      both true true r h = refl
      both true false r h = h
      both false true r h = refl
      both false false r h = h

    one : (o : Option Sets) → option_map_or (λ k. names xs s k.kind v b) o false ≡ true → option_map_or (λ k. is_declared xs s k.kind b) o false ≡ true
    one None h = h
    one (Some k) h = kept k h

    either : (p q a c : Bool) → (p ≡ true → a ≡ true) → (q ≡ true → c ≡ true) → (p || q) ≡ true → (a || c) ≡ true
    either true q true c f g h = refl
    either true q false c f g h = absurd (let e : false ≡ true = f refl in cc)
    either false q true c f g h = refl
    either false q false c f g h = g h

    go : (o p : Option Sets) → (option_map_or (λ k. names xs s k.kind v b) o false || option_map_or (λ k. names xs s k.kind v b) p false) ≡ true
        → (option_map_or (λ k. is_declared xs s k.kind b) o false || option_map_or (λ k. is_declared xs s k.kind b) p false) ≡ true
    go o p h = either _ _ _ _ (one o) (one p) h

  module _ (rank : Symbol → ℕ) (ranked : IsRanked xs s space range rank) (of_m : Solves xs s space range m) (of_n : Solves xs s space range n) where
    below : (k : ℕ) (a : Symbol) → rank a < k → is_set xs s space a ≡ true → (t : Symbol) → m a t ≡ n a t
    below zero a h d t = absurd (omega (arith, h))
    below (suc k) a h d t = of_m a t d ∙ same_given a t (λ b u used. below k b (let l = ranked a b used in omega (arith, l, h)) (any_declared b used.inner used.names_b) u) ∙ sym (of_n a t d)

    pub one_family : (a t : Symbol) → is_set xs s space a ≡ true → m a t ≡ n a t
    one_family a t d = below (suc (rank a)) a (omega arith) d t

    pub holds_the_same : (w : ScopedWord) (t : Symbol) → holds xs s space range m w t ≡ holds xs s space range n w t
    holds_the_same w t = same_holds w t (λ v b c named u. one_family b u (any_declared b v named))

-- ---- one set after another

module _ (xs : List Item) (s : OptSet) (space : SpaceOf) (range : Range) (rank : Symbol → ℕ) (ranked : IsRanked xs s space range rank) (m n : Family) where
  -- the step of the loop: the sets of the next rank get what their statements give them by those below
  pub solved_one_more : (k : ℕ) → SolvesBelow xs s space range rank k m → ((b t : Symbol) → is_set xs s space b ≡ true → rank b < k → m b t ≡ n b t)
      → ((a t : Symbol) → is_set xs s space a ≡ true → rank a ≡ k → n a t ≡ is_given xs s space range m a t) → SolvesBelow xs s space range rank (suc k) n
  solved_one_more k below agree new a t d l =
      let used : rank a ≤ k → (b u : Symbol) → Uses xs s space range a b → m b u ≡ n b u =
      λ h b u v. agree b u (any_declared xs s space range m n b v.inner v.names_b) (let r = ranked a b v in omega (arith, r, h)) in
      elim (below_or_at (rank a) k l) [
        | inl r ↦ sym (agree a t d r) ∙ below a t d r ∙ same_given xs s space range m n a t (used (omega (arith, r)))
        | inr e ↦ new a t d e ∙ same_given xs s space range m n a t (used (omega (arith, e)))
      ] where
        below_or_at : (i k : ℕ) → i < suc k → (i < k) ⊎ (i ≡ k)
        below_or_at i k l = grind arith

-- a word stands for what a family that solves the equations says, where ranks fall: the definition is the code's set
pub stands_is : (xs : List Item) (s : OptSet) (kind : Kind) (rank : Symbol → ℕ) → IsRanked xs s (space_of kind) no_range rank → (m : Family) → Solves xs s (space_of kind) no_range m
    → (w : ScopedWord) (t : Symbol) → StandsFor xs s kind w t ↔ ((holds xs s (space_of kind) no_range m w t ≡ true) × Declared xs s kind t)
stands_is xs s kind rank ranked m of_m w t = (
  λ st. (holds_the_same xs s (space_of kind) no_range m st.family rank ranked of_m st.solves w t ∙ st.held, st.declared),
  λ h. record { family = m; solves = of_m; held = h.0; declared = h.1 },
)
