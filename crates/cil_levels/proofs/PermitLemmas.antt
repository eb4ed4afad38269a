-- What statements permit, one after another.
use Rattle.std.proofs.Common.{◌≡◌, ◌↔◌, ◌⊎◌, ◌==◌, ℕ, ◌+◌, ◌<◌, ◌≤◌, Bool, true, false, ◌||◌, List, [], ◌∷◌, ◌++◌, get_or, length, map, take, refl, sym, ◌∙◌, ap, subst, inl, inr, arith}
use Rattle.std.specs.Prelude.{Contains, None, Option, Some, set, slice_get}
use Rattle.std.specs.Option.{option_map_or}
use Rattle.std.proofs.lemmas.Bool.{cases_Bool, true≢false}
use Rattle.std.proofs.lemmas.Bool.Decides.{nat_tests}
use Rattle.std.proofs.lemmas.List.{length-set, take_all}
use Rattle.cil_base.specs.Lists.{contains_none}
use Rattle.cil_base.specs.Places.{at_or_last, get_set_other, get_set_same, in_range, longer}
use Rattle.cil_syntax.specs.declared.kind.Keyword.TheVariants as keywords
use Rattle.cil_syntax.specs.declared.term.Term as rust
use Rattle.cil_syntax.specs.declared.term.Word.{Word}
use Rattle.cil_syntax.specs.Said.{all_said, said_of}
use Rattle.cil_syntax.specs.Scopes.{ScopedWord}
use Rattle.cil_syntax.specs.Terms.{Term, Leaf, Name, Form, Terms, nil, cons}
use Rattle.cil_macros.specs.Item.{Item, all_replaced, all_words_in, is_enabled, replaced, words_in}
use Rattle.cil_known.specs.declared.known.Known.{Known}
use Rattle.cil_known.specs.Known.{enabled_in, meant_in, set_meant}
use Rattle.cil_mls.specs.declared.categories.Categories.{Categories}
use Rattle.cil_mls.specs.declared.expression.Held.{Held}
use Rattle.cil_mls.specs.Bits.{in_words}
use Rattle.cil_mls.specs.Pairs.{is_word}
use Rattle.cil_mls.specs.Values.{in_term}
use Rattle.cil_mls.proofs.PairLemmas.{taken_more}
use Rattle.cil_syntax.specs.declared.kind.Kind.{Kind}
use Rattle.cil_syntax.specs.declared.kind.Kind.TheVariants as kinds
use Rattle.cil_names.specs.Declarations.{Symbol}
use Rattle.cil_known.specs.Numbers.{AreApart}
use Rattle.cil_mls.specs.Ordering.{AreNumbered, IsNumberedOrder}
use Rattle.cil_levels.specs.Begun.{AreInverse}
use Rattle.cil_levels.specs.Held.{AreHeld}
use Rattle.cil_levels.specs.Made.{in_second}
use Rattle.cil_levels.specs.Permitted.{ArePermitted, IsPermitted}
use Rattle.cil_levels.specs.Values.{Values}
use Rattle.cil_levels.proofs.HoldingLemmas.{evaluated}
use Rattle.cil_levels.proofs.PlaceLemmas.{by_number, its_number}
use Rattle.cil_levels.specs.Permits.{AreEmpty, HaveMore, PermitsAmong, PermitsBy, begins_with_word, has_in}

same_number : (a b : ℕ) → (a == b) ≡ true → a ≡ b
same_number a b e = grind (arith, nat_tests)

other_number : (a b : ℕ) → (a == b) ≡ false → a ≡ b → ⊥
other_number a b e f = grind (arith, nat_tests)

-- ---- sets that have more

pub none_more : (sets : List Categories) (P : ℕ → ℕ → Type 0) → ((n c : ℕ) → n < length sets → P n c → ⊥) → HaveMore sets sets P
none_more sets P none = record { len = refl; each = λ n c l b. (λ h. inl h, λ s. elim s [ inl h ↦ h | inr p ↦ absurd (none n c l p) ]) }

pub more_as : (old new : List Categories) (P Q : ℕ → ℕ → Type 0) → ((n c : ℕ) → c < 1024 → P n c ↔ Q n c) → HaveMore old new P → HaveMore old new Q
more_as old new P Q same more = record {
  len = more.len;
  each = λ n c l b. (
    λ h. elim ((more.each n c l b).0 h) [ inl o ↦ inl o | inr p ↦ inr ((same n c b).0 p) ],
    λ s. (more.each n c l b).1 (elim s [ inl o ↦ inl o | inr q ↦ inr ((same n c b).1 q) ]),
  );
}

pub then_more : (old mid new : List Categories) (P Q R : ℕ → ℕ → Type 0) → HaveMore old mid P → HaveMore mid new Q → ((n c : ℕ) → R n c ↔ (P n c ⊎ Q n c)) → HaveMore old new R
then_more old mid new P Q R first second both = record {
  len = second.len ∙ first.len;
  each = λ n c l b.
      let len = first.len in
      let m : n < length mid = omega (arith, l, len) in (
        λ h. elim ((second.each n c m b).0 h) [
          | inl o ↦ elim ((first.each n c l b).0 o) [ inl u ↦ inl u | inr p ↦ inr ((both n c).1 (inl p)) ]
          | inr q ↦ inr ((both n c).1 (inr q))
        ],
        λ s. elim s [
          | inl o ↦ (second.each n c m b).1 (inl ((first.each n c l b).1 (inl o)))
          | inr r ↦ elim ((both n c).0 r) [ inl p ↦ (second.each n c m b).1 (inl ((first.each n c l b).1 (inr p))) | inr q ↦ (second.each n c m b).1 (inr q) ]
        ],
      );
}

either : (a b : Bool) → (a || b) ≡ true → (a ≡ true) ⊎ (b ≡ true)
either true b e = inl refl
either false b e = inr e

or_left : (a b : Bool) → a ≡ true → (a || b) ≡ true
or_left true b e = refl
or_left false b e = absurd (true≢false (sym e))

or_right : (a b : Bool) → b ≡ true → (a || b) ≡ true
or_right true b e = refl
or_right false b e = e

-- ---- empty sets

-- so far
pub record AreEmptyUpTo (count : ℕ) (sets : List Categories) : Type 0 where
  pub few : length sets ≤ count
  pub none : (n c : ℕ) → has_in sets n c ≡ false

pub no_sets : (count : ℕ) (sets : List Categories) → sets ≡ [] → AreEmptyUpTo count sets
no_sets count sets e = subst (AreEmptyUpTo count) (sym e) (record { few = omega arith; none = λ n c. refl })

pub one_empty : (count : ℕ) (sets : List Categories) (set : Categories) → ((c : ℕ) → in_words set.words c ≡ false) → length sets < count → AreEmptyUpTo count sets → AreEmptyUpTo count (sets ++ set ∷ [])
one_empty count sets set none less are = record { few = let n = longer sets set in omega (arith, less, n); none = λ n c. by n c (slice_get (sets ++ set ∷ []) n) refl } where
  by : (n c : ℕ) (r : Option Categories) → slice_get (sets ++ set ∷ []) n ≡ r → has_in (sets ++ set ∷ []) n c ≡ false
  by n c None e = ap (λ o. option_map_or (λ (s : Categories). in_words s.words c) o false) e
  by n c (Some s) e =
      ap (λ o. option_map_or (λ (t : Categories). in_words t.words c) o false) e
      ∙ elim (at_or_last sets set s n e) [
        | inl old ↦ sym (ap (λ o. option_map_or (λ (t : Categories). in_words t.words c) o false) old) ∙ are.none n c
        | inr last ↦ ap (λ (t : Categories). in_words t.words c) (sym last.1) ∙ none c
      ]

pub all_empty : (count : ℕ) (sets : List Categories) → count ≤ length sets → AreEmptyUpTo count sets → AreEmpty count sets
all_empty count sets enough are = record { len = let few = are.few in omega (arith, few, enough); none = are.none }

-- ---- one set

module _ (old : List Categories) (place : ℕ) (before after more : Categories) (at : slice_get old place ≡ Some before) (within : place < length old)
    (union : (c : ℕ) → c < 1024 → in_words after.words c ≡ (in_words before.words c || in_words more.words c)) where
  pub one_set : HaveMore old (set old place after) (λ n c. (place ≡ n) × (in_words more.words c ≡ true))
  one_set = record {
    len = length-set old place after;
    each = λ n c l b. elim (cases_Bool (place == n)) [
      | inl t ↦ subst (λ m. (has_in (set old place after) m c ≡ true) ↔ ((has_in old m c ≡ true) ⊎ ((place ≡ m) × (in_words more.words c ≡ true)))) (same_number place n t) (here c b)
      | inr f ↦
          let same : slice_get (set old place after) n ≡ slice_get old n = get_set_other old place n after (λ e. other_number place n f (sym e)) in (
            λ h. inl (sym (ap (λ o. option_map_or (λ (s : Categories). in_words s.words c) o false) same) ∙ h),
            λ s. elim s [
              | inl o ↦ ap (λ o. option_map_or (λ (s : Categories). in_words s.words c) o false) same ∙ o
              | inr p ↦ absurd (other_number place n f p.0)
            ],
          )
    ];
  } where
    here : (c : ℕ) → c < 1024 → (has_in (set old place after) place c ≡ true) ↔ ((has_in old place c ≡ true) ⊎ ((place ≡ place) × (in_words more.words c ≡ true)))
    here c b =
        let now : has_in (set old place after) place c ≡ in_words after.words c = ap (λ o. option_map_or (λ (s : Categories). in_words s.words c) o false) (get_set_same old place after within) in
        let was : has_in old place c ≡ in_words before.words c = ap (λ o. option_map_or (λ (s : Categories). in_words s.words c) o false) at in (
          λ h. elim (either (in_words before.words c) (in_words more.words c) (sym (union c b) ∙ sym now ∙ h)) [ inl u ↦ inl (was ∙ u) | inr m ↦ inr (refl, m) ],
          λ s. now ∙ union c b ∙ elim s [
            | inl o ↦ or_left (in_words before.words c) (in_words more.words c) (sym was ∙ o)
            | inr p ↦ or_right (in_words before.words c) (in_words more.words c) p.1
          ],
        )

-- ---- the sets at the places of some numbers

module _ (places : List ℕ) (more : Categories) where
  abbrev pub AtSome : List ℕ → ℕ → ℕ → Type 0
  AtSome numbers n c = (m : ℕ) × Contains numbers m × (get_or places m 0 ≡ n) × (in_words more.words c ≡ true)

  pub none_at : (numbers : List ℕ) (sets : List Categories) → HaveMore sets sets (AtSome (take 0 numbers))
  none_at [] sets = none_more sets (AtSome []) (λ n c l h. contains_none h.0 h.1)
  none_at (m ∷ ms) sets = none_more sets (AtSome []) (λ n c l h. contains_none h.0 h.1)

  pub more_at : (numbers : List ℕ) (i m : ℕ) → take (i + 1) numbers ≡ take i numbers ++ m ∷ [] → (old mid new : List Categories) → HaveMore old mid (AtSome (take i numbers))
      → HaveMore mid new (λ n c. (get_or places m 0 ≡ n) × (in_words more.words c ≡ true)) → HaveMore old new (AtSome (take (i + 1) numbers))
  more_at numbers i m taken old mid new first second =
      then_more old mid new (AtSome (take i numbers)) (λ n c. (get_or places m 0 ≡ n) × (in_words more.words c ≡ true)) (AtSome (take (i + 1) numbers)) first second (λ n c. (
        λ h. elim ((taken_more numbers i m taken h.0).0 h.1) [ inl o ↦ inl (h.0, o, h.2, h.3) | inr e ↦ inr (ap (λ z. get_or places z 0) e ∙ h.2, h.3) ],
        λ s. elim s [
          | inl o ↦ (o.0, (taken_more numbers i m taken o.0).1 (inl o.1), o.2, o.3)
          | inr q ↦ (m, (taken_more numbers i m taken m).1 (inr refl), q.0, q.1)
        ],
      ))

  pub all_at : (numbers : List ℕ) (i : ℕ) → length numbers ≤ i → (old new : List Categories) → HaveMore old new (AtSome (take i numbers)) → HaveMore old new (AtSome numbers)
  all_at numbers i over old new have = subst (λ ms. HaveMore old new (AtSome ms)) (take_all i numbers over) have

-- ---- one statement

module _ (k : Known) (standing : List (List ℕ)) (places : List ℕ) (helds : List Held) (count : ℕ) where
  module _ (x : Item) where
    first_word : (args : Terms ScopedWord) → begins_with_word args ≡ true → (c : ℕ) → in_second helds count (meant_in k) c args ≡ true
        → (w : ScopedWord) × (e : Term ScopedWord) × (args ≡ cons (Leaf w) (cons e nil)) × (in_term helds count (meant_in k) c e ≡ true)
    first_word nil b c t = absurd (true≢false (sym b))
    first_word (cons (Leaf w) nil) b c t = absurd (true≢false (sym t))
    first_word (cons (Leaf w) (cons e nil)) b c t = (w, e, refl, t)
    first_word (cons (Leaf w) (cons e (cons d rest))) b c t = absurd (true≢false (sym t))
    first_word (cons (Name at y) ts) b c t = absurd (true≢false (sym b))
    first_word (cons (Form at op us) ts) b c t = absurd (true≢false (sym b))

    front_meant : (w : ScopedWord) (rest : Terms ScopedWord) → x.args ≡ cons (Leaf w) rest → (row : List (Option ℕ)) → row ≡ map (meant_in k) (all_words_in x.args) → get_or row 0 None ≡ meant_in k w
    unfolding all_words_in words_in
    front_meant w rest says row is = ap (λ r. get_or r 0 None) (is ∙ ap (λ ts. map (meant_in k) (all_words_in ts)) says)

    pub permits_as : is_enabled (enabled_in k) x ≡ true → x.keyword ≡ keywords.SensitivityCategory → begins_with_word x.args ≡ true → (row : List (Option ℕ)) → row ≡ map (meant_in k) (all_words_in x.args)
        → (numbers : List ℕ) → numbers ≡ set_meant standing (get_or row 0 None) → (more : Categories) → ((c : ℕ) → c < 1024 → in_words more.words c ≡ in_second helds count (meant_in k) c x.args)
        → (n c : ℕ) → c < 1024 → AtSome places more numbers n c ↔ PermitsBy k standing places helds count x n c
    permits_as on is begins row is_row numbers are more has n c l = (
      λ h.
          let (w, e, says, value) = first_word x.args begins c (sym (has c l) ∙ h.3) in
          record {
            enabled = on;
            permits = is;
            word = w;
            expression = e;
            says = says;
            number = h.0;
            stands = subst (λ o. Contains (set_meant standing o) h.0) (front_meant w (cons e nil) says row is_row) (subst (λ ms. Contains ms h.0) are h.1);
            place = h.2;
            value = value;
          },
      λ p. (
        p.number,
        subst (λ ms. Contains ms p.number) (sym are) (subst (λ o. Contains (set_meant standing o) p.number) (sym (front_meant p.word (cons p.expression nil) p.says row is_row)) p.stands),
        p.place,
        has c l ∙ ap (in_second helds count (meant_in k) c) p.says ∙ p.value,
      ),
    )

    pub permits_none : (sets : List Categories) → begins_with_word x.args ≡ false → HaveMore sets sets (PermitsBy k standing places helds count x)
    permits_none sets none = none_more sets (PermitsBy k standing places helds count x) (λ n c l p. true≢false (sym (ap begins_with_word p.says) ∙ none))

  -- ---- all statements

  pub none_among : (xs : List Item) (sets : List Categories) → HaveMore sets sets (PermitsAmong k standing places helds count (take 0 xs))
  none_among [] sets = none_more sets (PermitsAmong k standing places helds count []) (λ n c l h. contains_none h.0 h.1)
  none_among (x ∷ xs) sets = none_more sets (PermitsAmong k standing places helds count []) (λ n c l h. contains_none h.0 h.1)

  pub more_among : (xs : List Item) (i : ℕ) (x : Item) → take (i + 1) xs ≡ take i xs ++ x ∷ [] → (old mid new : List Categories) → HaveMore old mid (PermitsAmong k standing places helds count (take i xs))
      → HaveMore mid new (PermitsBy k standing places helds count x) → HaveMore old new (PermitsAmong k standing places helds count (take (i + 1) xs))
  more_among xs i x taken old mid new first second =
      then_more old mid new (PermitsAmong k standing places helds count (take i xs)) (PermitsBy k standing places helds count x) (PermitsAmong k standing places helds count (take (i + 1) xs)) first second (λ n c. (
        λ h. elim ((taken_more xs i x taken h.0).0 h.1) [ inl o ↦ inl (h.0, o, h.2) | inr e ↦ inr (subst (λ y. PermitsBy k standing places helds count y n c) (sym e) h.2) ],
        λ s. elim s [ inl o ↦ (o.0, (taken_more xs i x taken o.0).1 (inl o.1), o.2) | inr q ↦ (x, (taken_more xs i x taken x).1 (inr refl), q) ],
      ))

  pub all_among : (xs : List Item) (i : ℕ) → length xs ≤ i → (old new : List Categories) → HaveMore old new (PermitsAmong k standing places helds count (take i xs)) → HaveMore old new (PermitsAmong k standing places helds count xs)
  all_among xs i over old new have = subst (λ ys. HaveMore old new (PermitsAmong k standing places helds count ys)) (take_all i xs over) have

-- ---- the first term

word_front : (t : Term Word) (ts : Terms Word) → is_word t ≡ begins_with_word (cons t ts)
word_front (Leaf w) ts = refl
word_front (Name at x) ts = refl
word_front (Form at op us) ts = refl

pub begins_said : (terms : List rust.Term) (first : rust.Term) → 1 ≤ length terms → first ≡ get_or terms 0 first → (m : ℕ) → is_word (said_of m first) ≡ begins_with_word (all_said m terms)
begins_said [] first l is m = absurd (omega (arith, l))
begins_said (t ∷ ts) first l is m = ap (λ z. is_word (said_of m z)) is ∙ word_front (said_of m t) (all_said m ts)

pub begins_replaced : (f : Word → ScopedWord) (ts : Terms Word) → begins_with_word (all_replaced (λ at. at) f ts) ≡ begins_with_word ts
unfolding replaced all_replaced
begins_replaced f nil = refl
begins_replaced f (cons (Leaf w) ts) = refl
begins_replaced f (cons (Name at x) ts) = refl
begins_replaced f (cons (Form at op us) ts) = refl

-- ---- by symbols

module _ (k : Known) (xs : List Item) (sections : Kind → List (List ℕ)) (names : List (List ℕ)) (standing : List (List ℕ)) (are : AreNumbered k xs sections kinds.Sensitivity names standing)
    (apart : AreApart k.lookup.names.now (enabled_in k) k.numbers.now) (numbers : List ℕ) (order : IsNumberedOrder xs (enabled_in k) kinds.Sensitivity keywords.SensitivityOrder names numbers) (places : List ℕ) (inverse : AreInverse numbers places)
    (row : List Symbol) (helds : List Held) (v : Values) (held : AreHeld k xs row helds v) where
  -- the statements permit by numbers what they permit by symbols
  permits_is : (n c : ℕ) → c < 1024 → PermitsAmong k standing places helds (length row) xs n c ↔ IsPermitted xs (enabled_in k) order.row row v n c
  permits_is n c l = (
    (λ (x, is_x, p). record {
      word = p.word;
      expression = p.expression;
      says = record { item = x; is_item = is_x; enabled = p.enabled; is_keyword = p.permits; says = p.says };
      stands = by_number k xs sections kinds.Sensitivity names standing are refl apart keywords.SensitivityOrder numbers order places inverse p.word p.number n p.stands p.place;
      value = sym (evaluated k xs row helds v held p.expression c l) ∙ p.value;
    }),
    (λ h.
        let (m, is_m, at, place) = its_number k xs sections kinds.Sensitivity names standing are refl apart keywords.SensitivityOrder numbers order places inverse h.word n h.stands in (
          h.says.item,
          h.says.is_item,
          record {
            enabled = h.says.enabled;
            permits = h.says.is_keyword;
            word = h.word;
            expression = h.expression;
            says = h.says.says;
            number = m;
            stands = is_m;
            place = place;
            value = evaluated k xs row helds v held h.expression c l ∙ h.value;
          },
        )),
  )

  pub are_permitted : (old new : List Categories) → length old ≡ length numbers → ((n c : ℕ) → c < 1024 → has_in old n c ≡ false) → HaveMore old new (PermitsAmong k standing places helds (length row) xs)
      → ArePermitted xs (enabled_in k) order.row row v new
  are_permitted old new len none more = record {
    len = more.len ∙ len ∙ order.len;
    each = λ n set at c l.
        let within = in_range new n set at in
        let same = more.len in
        let has : has_in new n c ≡ in_words set.words c = ap (λ o. option_map_or (λ (s : Categories). in_words s.words c) o false) at in
        let each = more.each n c (omega (arith, within, same)) l in (
          λ t. elim (each.0 (has ∙ t)) [ inl o ↦ absurd (true≢false (sym o ∙ none n c l)) | inr p ↦ (permits_is n c l).0 p ],
          λ h. sym has ∙ each.1 (inr ((permits_is n c l).1 h)),
        );
  }
