-- What is wrong with a form itself.
use Rattle.std.specs.Prelude.{Option, None, Some, map, length, not, slice_get}
use Rattle.std.specs.Bool.{MatchBool}
use Rattle.std.proofs.Common.{◌≡◌, ◌⊎◌, ℕ, zero, suc, ◌<◌, ◌≤◌, Bool, true, false, ◌&&◌, ◌||◌, List, [], ◌∷◌, ◌++◌, get_or, refl, sym, ◌∙◌, ap, subst, inl, inr, arith}
use Rattle.std.proofs.lemmas.Bool.{cases_Bool, true≢false}
use Rattle.std.proofs.lemmas.Option.{same_Some}
use Rattle.cil_base.specs.Places.{in_range, some_at}
use Rattle.cil_syntax.specs.declared.term.Op.TheVariants as ops
use Rattle.cil_syntax.specs.declared.term.Term as rust
use Rattle.cil_syntax.specs.declared.term.Word.{Word}
use Rattle.cil_syntax.specs.Said.{all_said, said_of}
use Rattle.cil_syntax.specs.Scopes.{ScopedWord}
use Rattle.cil_syntax.specs.Terms.{Term, Leaf, Form, Terms, nil, cons}
use Rattle.cil_macros.specs.Item.{all_replaced, all_words_in, replaced, words_in}
use Rattle.cil_macros.specs.ListTerms.{AreAlike}
use Rattle.cil_known.specs.declared.known.Known.{Known}
use Rattle.cil_known.specs.Known.{enabled_in, meant_in}
use Rattle.cil_mls.specs.declared.expression.Held.TheVariants.{Category}
use Rattle.cil_mls.specs.declared.level.Level.{Level}
use Rattle.cil_mls.specs.declared.level.Range.{Range}
use Rattle.cil_mls.specs.Bits.{in_words}
use Rattle.cil_mls.specs.Dominance.{AreSame, Dominates, are_covered, has}
use Rattle.cil_mls.specs.Values.{meant_held}
use Rattle.cil_levels.specs.Places.{IsCategoryAt}
use Rattle.cil_ranges.specs.declared.own.Judge.{Judge}
use Rattle.cil_ranges.specs.declared.own.Span.{Span}
use Rattle.cil_ranges.specs.declared.scale.Scale.{Scale}
use Rattle.cil_ranges.specs.LevelFaults.{IsBackwards, IsTurned, IsUnpermitted}
use Rattle.cil_ranges.specs.Levels.{Ground, IsLevel, IsSensitivityAt, IsNamedLevel, IsWrittenLevel, SaysLevel, SaysRange, in_behind}
use Rattle.cil_ranges.specs.Reading.{HasLevels, IsSpan, Judges, LevelIsPermitted, Measures, SaysNoLevel}
use Rattle.cil_ranges.proofs.AlikeLemmas.{cons_alike}

-- ---- tests

pub from_not : {A B P Q : Type 0} → (b : Bool) → MatchBool b P Q → (Q → A) → (P → B) → MatchBool (not b) A B
from_not true m f g = g m
from_not false m f g = f m

pub match_test : {A B : Type 0} → (b : Bool) → (b ≡ true → A) → (b ≡ false → B) → MatchBool b A B
match_test true f g = f refl
match_test false f g = g refl

pub match_not : {A B : Type 0} → (b : Bool) → (b ≡ false → A) → (b ≡ true → B) → MatchBool (not b) A B
match_not true f g = g refl
match_not false f g = f refl

-- ---- sets that have all of others, or lack one

either : (a b : Bool) → (not a || b) ≡ false → (a ≡ true) × (b ≡ false)
either true b e = (refl, e)
either false b e = absurd (true≢false e)

both_false : (a b : Bool) → (a && b) ≡ false → (a ≡ false) ⊎ (b ≡ false)
both_false true b e = inr e
both_false false b e = inl refl

and_left : (a b : Bool) → (a && b) ≡ true → a ≡ true
and_left true b e = refl
and_left false b e = absurd (true≢false (sym e))

and_right : (a b : Bool) → (a && b) ≡ true → b ≡ true
and_right true b e = e
and_right false b e = absurd (true≢false (sym e))

one_of : (a b : Bool) → (not a || b) ≡ true → a ≡ true → b ≡ true
one_of true b e t = e
one_of false b e t = absurd (true≢false (sym t))

below_or_at : (c n : ℕ) → c < suc n → (c < n) ⊎ (c ≡ n)
below_or_at c n l = grind arith

module _ (outer inner : ℕ → Bool) where
  all_covered : (n : ℕ) → are_covered n outer inner ≡ true → (c : ℕ) → c < n → inner c ≡ true → outer c ≡ true
  unfolding are_covered
  all_covered zero e c l t = absurd (omega (arith, l))
  all_covered (suc n) e c l t = elim (below_or_at c n l) [
    | inl b ↦ all_covered n (and_right (not (inner n) || outer n) (are_covered n outer inner) e) c b t
    | inr s ↦ ap outer s ∙ one_of (inner n) (outer n) (and_left (not (inner n) || outer n) (are_covered n outer inner) e) (ap inner (sym s) ∙ t)
  ]

  not_covered : (n : ℕ) → are_covered n outer inner ≡ false → (c : ℕ) × (c < n) × (inner c ≡ true) × (outer c ≡ false)
  unfolding are_covered
  not_covered zero e = absurd (true≢false e)
  not_covered (suc n) e = elim (both_false (not (inner n) || outer n) (are_covered n outer inner) e) [
    | inl f ↦ (let p = either (inner n) (outer n) f in (n, omega arith, p.0, p.1))
    | inr f ↦ (let (c, l, t, o) = not_covered n f in (c, omega (arith, l), t, o))
  ]

-- ---- one sensitivity

module _ (k : Known) (by : Scale) (g : Ground) (measures : Measures k by g) where
  -- a word stands for one sensitivity, and for one category
  pub one_sensitivity : (w : ScopedWord) (n p : ℕ) → IsSensitivityAt (enabled_in k) g w n → IsSensitivityAt (enabled_in k) g w p → n ≡ p
  one_sensitivity w n p a b = same_Some n p (sym ((measures.sensitivities w n).0 a) ∙ (measures.sensitivities w p).0 b)

  pub one_category : (w : ScopedWord) (c d : ℕ) → IsCategoryAt g.items (enabled_in k) g.categories w c → IsCategoryAt g.items (enabled_in k) g.categories w d → c ≡ d
  one_category w c d a b = let e : Category c ≡ Category d = sym ((measures.categories w c).0 a) ∙ (measures.categories w d).0 b in cc

  -- terms say one level
  says_one : (us : Terms ScopedWord) (l p : Level) → SaysLevel (enabled_in k) g us l → SaysLevel (enabled_in k) g us p → AreSame l p
  says_one us l p a b =
      let e : cons (Leaf a.word) a.rest ≡ cons (Leaf b.word) b.rest = sym a.says ∙ b.says in
      let word : a.word ≡ b.word = cc in
      let rest : a.rest ≡ b.rest = cc in
      let bits : (c : ℕ) → c < 1024 → has l c ≡ has p c = λ c s. a.categories c s ∙ ap (λ ts. in_behind (enabled_in k) g ts c) rest ∙ sym (b.categories c s) in
      record {
        sensitivity = one_sensitivity b.word l.sensitivity p.sensitivity (subst (λ w. IsSensitivityAt (enabled_in k) g w l.sensitivity) word a.sensitivity) b.sensitivity;
        categories = λ c s. (λ t. sym (bits c s) ∙ t, λ t. bits c s ∙ t);
      }

  written_one : (t : Term ScopedWord) (l p : Level) → IsWrittenLevel (enabled_in k) g t l → IsWrittenLevel (enabled_in k) g t p → AreSame l p
  written_one t l p a b =
      let e : Form a.at ops.Level a.parts ≡ Form b.at ops.Level b.parts = sym a.is_form ∙ b.is_form in
      let same : a.parts ≡ b.parts = cc in
      says_one a.parts l p a.says (subst (λ ts. SaysLevel (enabled_in k) g ts p) (sym same) b.says)

  -- and so do a term
  pub one_level : (levels : List (Option Level)) → HasLevels k levels g → (t : Term ScopedWord) (l p : Level) → IsLevel (enabled_in k) g t l → IsLevel (enabled_in k) g t p → AreSame l p
  one_level levels there t l p a b = elim a [
    | inl x ↦ elim b [
      | inl y ↦ written_one t l p x y
      | inr y ↦ (let e : Form x.at ops.Level x.parts ≡ Leaf y.is_declared.word = sym x.is_form ∙ y.is_declared.is_word in absurd cc)
    ]
    | inr x ↦ elim b [
      | inl y ↦ (let e : Form y.at ops.Level y.parts ≡ Leaf x.is_declared.word = sym y.is_form ∙ x.is_declared.is_word in absurd cc)
      | inr y ↦
          let leaf = x.is_declared.is_word in
          there.one x.is_declared.word l p (subst (λ z. IsNamedLevel (enabled_in k) g z l) leaf x) (subst (λ z. IsNamedLevel (enabled_in k) g z p) leaf y)
    ]
  ]

-- dominance sees isnt more than is the same
dominates_too : (a b c d : Level) → AreSame a c → AreSame b d → Dominates a b → Dominates c d
dominates_too a b c d s t h = record {
  sensitivity = let x = s.sensitivity in let y = t.sensitivity in let z = h.sensitivity in omega (arith, x, y, z);
  categories = λ n l i. (s.categories n l).0 (h.categories n l ((t.categories n l).1 i));
}

-- ---- ranges of levels

module _ (k : Known) (by : Scale) (g : Ground) (measures : Measures k by g) (levels : List (Option Level)) (there : HasLevels k levels g) (us : Terms ScopedWord) where
  pub not_turned : (r : Range) → SaysRange (enabled_in k) g us r → Dominates r.high r.low → IsTurned (enabled_in k) g us → ⊥
  not_turned r s d h =
      let e : cons s.low (cons s.high nil) ≡ cons h.says.low (cons h.says.high nil) = sym s.says ∙ h.says.says in
      let low : s.low ≡ h.says.low = cc in
      let high : s.high ≡ h.says.high = cc in
      let lows = one_level k by g measures levels there s.low r.low h.range.low s.of_low (subst (λ t. IsLevel (enabled_in k) g t h.range.low) (sym low) h.says.of_low) in
      let highs = one_level k by g measures levels there s.high r.high h.range.high s.of_high (subst (λ t. IsLevel (enabled_in k) g t h.range.high) (sym high) h.says.of_high) in
      h.falls (dominates_too r.high r.low h.range.high h.range.low highs lows d)

-- ---- levels that are not permitted

module _ (k : Known) (by : Judge) (g : Ground) (judges : Judges k by g) (us : Terms ScopedWord) where
  pub none_unpermitted : SaysNoLevel (enabled_in k) g us → (w : ScopedWord) → IsUnpermitted (enabled_in k) g us w → ⊥
  none_unpermitted none w h = none w h.rest h.sensitivity h.says h.is_sensitivity

  module _ (l : Level) (says : SaysLevel (enabled_in k) g us l) where
    pub is_within : l.sensitivity < length by.permitted.now
    is_within = let b = in_range g.sensitivities l.sensitivity says.sensitivity.symbol says.sensitivity.at in let len = judges.permitted.len in omega (arith, b, len)

    pub is_unpermitted : (LevelIsPermitted by.permitted.now l → ⊥) → (w : ScopedWord) × IsUnpermitted (enabled_in k) g us w
    is_unpermitted isnt =
        let (set, at) = some_at by.permitted.now l.sensitivity is_within in
        elim (cases_Bool (are_covered 1024 (in_words set.words) (has l))) [
          | inl t ↦ absurd (isnt (record { set = set; there = at; within = λ c b i. all_covered (in_words set.words) (has l) 1024 t c b i }))
          | inr f ↦
              let (c, b, i, o) = not_covered (in_words set.words) (has l) 1024 f in (
                says.word,
                record {
                  rest = says.rest;
                  says = says.says;
                  sensitivity = l.sensitivity;
                  is_sensitivity = says.sensitivity;
                  category = c;
                  below = b;
                  has = sym (says.categories c b) ∙ i;
                  not_permitted = λ p. true≢false (sym ((judges.permitted.each l.sensitivity set at c b).1 p) ∙ o);
                },
              )
        ]

    pub not_unpermitted : LevelIsPermitted by.permitted.now l → (w : ScopedWord) → IsUnpermitted (enabled_in k) g us w → ⊥
    not_unpermitted is_so w h =
        let e : cons (Leaf w) h.rest ≡ cons (Leaf says.word) says.rest = sym h.says ∙ says.says in
        let word : says.word ≡ w = cc in
        let rest : says.rest ≡ h.rest = cc in
        let sensitivity = one_sensitivity k by.named.scale g judges.measures w l.sensitivity h.sensitivity (subst (λ v. IsSensitivityAt (enabled_in k) g v l.sensitivity) word says.sensitivity) h.is_sensitivity in
        let has_it : has l h.category ≡ true = says.categories h.category h.below ∙ ap (λ ts. in_behind (enabled_in k) g ts h.category) rest ∙ h.has in
        let there : slice_get by.permitted.now h.sensitivity ≡ Some is_so.set = ap (slice_get by.permitted.now) (sym sensitivity) ∙ is_so.there in
        h.not_permitted ((judges.permitted.each h.sensitivity is_so.set there h.category h.below).0 (is_so.within h.category h.below has_it))

-- ---- ranges of categories

module _ (k : Known) (by : Scale) (g : Ground) (measures : Measures k by g) (us : Terms ScopedWord) where
  pub no_span : ((p : Span) → IsSpan k g us p → ⊥) → IsBackwards (enabled_in k) g us → ⊥
  no_span none h = none (record { first = h.first; last = h.last }) (record { from = h.from; to = h.to; says = h.says; is_first = h.is_first; is_last = h.is_last })

  pub backwards : (p : Span) → IsSpan k g us p → p.last < p.first → IsBackwards (enabled_in k) g us
  backwards p s l = record { from = s.from; to = s.to; says = s.says; first = p.first; last = p.last; is_first = s.is_first; is_last = s.is_last; falls = l }

  pub forwards : (p : Span) → IsSpan k g us p → p.first ≤ p.last → IsBackwards (enabled_in k) g us → ⊥
  forwards p s l h =
      let e : cons (Leaf s.from) (cons (Leaf s.to) nil) ≡ cons (Leaf h.from) (cons (Leaf h.to) nil) = sym s.says ∙ h.says in
      let from : s.from ≡ h.from = cc in
      let to : s.to ≡ h.to = cc in
      let a = one_category k by g measures h.from p.first h.first (subst (λ w. IsCategoryAt g.items (enabled_in k) g.categories w p.first) from s.is_first) h.is_first in
      let b = one_category k by g measures h.to p.last h.last (subst (λ w. IsCategoryAt g.items (enabled_in k) g.categories w p.last) to s.is_last) h.is_last in
      let f = h.falls in omega (arith, a, b, l, f)

-- ---- two words

second_means : (k : Known) (w x : ScopedWord) (rest : Terms ScopedWord) (words more : List (Option ℕ)) → words ≡ map (meant_in k) (all_words_in (cons (Leaf w) (cons (Leaf x) rest))) ++ more
    → (get_or words 0 None ≡ meant_in k w) × (get_or words 1 None ≡ meant_in k x)
unfolding words_in all_words_in
second_means k w x rest words more e = (ap (λ r. get_or r 0 None) e, ap (λ r. get_or r 1 None) e)

some_read : (f : Word → ScopedWord) (m : ℕ) (terms : List rust.Term) → 0 < length terms → AreAlike (all_replaced (λ at. at) f (all_said m terms)) nil → ⊥
unfolding all_replaced
some_read f m [] l same = omega (arith, l)
some_read f m (t ∷ ts) l same =
    let (u, vs, says, one, rest) = cons_alike (replaced (λ at. at) f (said_of m t)) (all_replaced (λ at. at) f (all_said m ts)) nil same in
    let e : nil ≡ cons u vs = says in cc

module _ (k : Known) (by : Scale) (g : Ground) (measures : Measures k by g) (us : Terms ScopedWord) where
  pub no_front : ((w : ScopedWord) (rest : Terms ScopedWord) → us ≡ cons (Leaf w) rest → ⊥) → (p : Span) → IsSpan k g us p → ⊥
  no_front none p h = none h.from (cons (Leaf h.to) nil) h.says

  pub no_second : (w : ScopedWord) (vs : Terms ScopedWord) → us ≡ cons (Leaf w) vs → ((x : ScopedWord) (rest : Terms ScopedWord) → vs ≡ cons (Leaf x) rest → ⊥) → (p : Span) → IsSpan k g us p → ⊥
  no_second w vs says none p h = let e : cons (Leaf w) vs ≡ cons (Leaf h.from) (cons (Leaf h.to) nil) = sym says ∙ h.says in none h.to nil cc

  module _ (w x : ScopedWord) (vs : Terms ScopedWord) (says : us ≡ cons (Leaf w) (cons (Leaf x) vs)) where
    same_words : (p : Span) (h : IsSpan k g us p) → (h.from ≡ w) × (h.to ≡ x) × (vs ≡ nil)
    same_words p h = let e : cons (Leaf w) (cons (Leaf x) vs) ≡ cons (Leaf h.from) (cons (Leaf h.to) nil) = sym says ∙ h.says in (cc, cc, cc)

    pub more_than_two : (f : Word → ScopedWord) (m : ℕ) (rest : List rust.Term) → AreAlike (all_replaced (λ at. at) f (all_said m rest)) vs → 0 < length rest → (p : Span) → IsSpan k g us p → ⊥
    more_than_two f m rest same some p h = some_read f m rest some (subst (λ z. AreAlike (all_replaced (λ at. at) f (all_said m rest)) z) (same_words p h).2 same)

    module _ (words more : List (Option ℕ)) (row : words ≡ map (meant_in k) (all_words_in us) ++ more) where
      means : (get_or words 0 None ≡ meant_in k w) × (get_or words 1 None ≡ meant_in k x)
      means = second_means k w x vs words more (row ∙ ap (λ ts. map (meant_in k) (all_words_in ts) ++ more) says)

      pub no_first : ((c : ℕ) → meant_held by.categories.held.now (get_or words 0 None) ≡ Category c → ⊥) → (p : Span) → IsSpan k g us p → ⊥
      no_first none p h =
          none p.first (ap (meant_held by.categories.held.now) (means.0 ∙ ap (meant_in k) (sym (same_words p h).0)) ∙ (measures.categories h.from p.first).0 h.is_first)

      pub no_last : ((c : ℕ) → meant_held by.categories.held.now (get_or words 1 None) ≡ Category c → ⊥) → (p : Span) → IsSpan k g us p → ⊥
      no_last none p h =
          none p.last (ap (meant_held by.categories.held.now) (means.1 ∙ ap (meant_in k) (sym (same_words p h).1)) ∙ (measures.categories h.to p.last).0 h.is_last)

      pub is_span : (p : Span) → vs ≡ nil → meant_held by.categories.held.now (get_or words 0 None) ≡ Category p.first → meant_held by.categories.held.now (get_or words 1 None) ≡ Category p.last → IsSpan k g us p
      is_span p none first last = record {
        from = w;
        to = x;
        says = says ∙ ap (λ z. cons (Leaf w) (cons (Leaf x) z)) none;
        is_first = (measures.categories w p.first).1 (ap (meant_held by.categories.held.now) (sym means.0) ∙ first);
        is_last = (measures.categories x p.last).1 (ap (meant_held by.categories.held.now) (sym means.1) ∙ last);
      }
