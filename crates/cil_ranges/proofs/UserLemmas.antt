-- What statements give users.
use Rattle.std.specs.Prelude.{Contains, Option, None, Some, drop, map, length, replicate, slice_get, take}
use Rattle.std.proofs.Common.{◌≡◌, ◌⊎◌, ℕ, zero, suc, ◌+◌, ◌<◌, ◌≤◌, true, false, List, [], ◌∷◌, ◌++◌, get_or, refl, sym, ◌∙◌, ap, subst, inl, inr, arith}
use Rattle.std.proofs.lemmas.Bool.{cases_eq, true≢false}
use Rattle.std.proofs.lemmas.List.{take_all}
use Rattle.std.proofs.lemmas.List.Elements.{Contains-append_cases, Contains-append_left, Contains-append_right}
use Rattle.std.proofs.lemmas.Option.{none-some, same_Some}
use Rattle.cil_base.specs.Lists.{contains_cases, contains_here, contains_none}
use Rattle.cil_base.specs.Places.{longer}
use Rattle.cil_syntax.specs.declared.kind.Keyword.TheVariants as keywords
use Rattle.cil_syntax.specs.declared.kind.Kind.{Kind}
use Rattle.cil_syntax.specs.declared.kind.Kind.TheVariants as kinds
use Rattle.cil_syntax.specs.declared.kind.Sign.TheVariants as signs
use Rattle.cil_syntax.specs.declared.term.Term as rust
use Rattle.cil_syntax.specs.declared.term.Word.{Word}
use Rattle.cil_syntax.specs.Said.{all_said, said_of}
use Rattle.cil_syntax.specs.Scopes.{ScopedWord}
use Rattle.cil_syntax.specs.Terms.{Term, Leaf, Terms, nil, cons}
use Rattle.cil_macros.specs.Item.{Item, all_replaced, all_words_in, is_enabled, words_in}
use Rattle.cil_macros.specs.ListTerms.{AreAlike}
use Rattle.cil_names.specs.Declarations.{Symbol}
use Rattle.cil_names.specs.Laws.{MeansWhatItNames}
use Rattle.cil_names.specs.Symbols.{symbol_of}
use Rattle.cil_names.specs.declared.entry.Entry.{Entry}
use Rattle.cil_known.specs.declared.known.Known.{Known}
use Rattle.cil_known.specs.Known.{IsKnown, enabled_in, meant_in}
use Rattle.cil_known.specs.Spaces.{names}
use Rattle.cil_mls.specs.attrs.Targets.{IsEntryAt}
use Rattle.cil_mls.specs.declared.level.Level.{Level}
use Rattle.cil_mls.specs.declared.level.Range.{Range}
use Rattle.cil_mls.specs.Dominance.{AreSame, Dominates}
use Rattle.cil_ranges.specs.declared.giving.Giving.{Giving}
use Rattle.cil_ranges.specs.declared.scale.Ranged.{Ranged}
use Rattle.cil_ranges.specs.declared.users.UserRanges.{UserRanges}
use Rattle.cil_ranges.specs.Given.{AreGiven, GivesTo, IsGiving, HasRoom, IsGivenBy, IsGivenOne, IsSaidGiving, IsUserEntry, ReadsRanges, SaysGiving}
use Rattle.cil_ranges.specs.Levels.{Ground, IsRange}
use Rattle.cil_ranges.specs.Reading.{AreRead, IsRead, is_word}
use Rattle.cil_ranges.specs.Users.{IsSameRange}
use Rattle.cil_ranges.proofs.DeclaredLemmas.{means_names, names_means, one_place}
use Rattle.cil_ranges.proofs.RangeLemmas.{AreTwo, two_read, two_terms}
use Rattle.cil_ranges.proofs.ReadLemmas.{first_means, is_leaf_read, match_as, no_word_in_front, the_word}

-- ---- two terms

module _ (k : Known) (g : Ground) (f : Word → ScopedWord) (m : ℕ) (terms : List rust.Term) (us : Terms ScopedWord) (words more : List (Option ℕ)) (read : AreRead k f m terms us words more) where
  pub no_two_given : (length terms ≡ 2 → ⊥) → (d : ℕ) (r : Range) → SaysGiving k g us d r → ⊥
  no_two_given isnt d r h = isnt (two_terms f m terms (Leaf h.word) h.term (subst (AreAlike (all_replaced (λ at. at) f (all_said m terms))) h.says read.alike))

  pub no_word_given : (a : rust.Term) → 1 ≤ length terms → a ≡ get_or terms 0 a → is_word (said_of m a) ≡ false → (d : ℕ) (r : Range) → SaysGiving k g us d r → ⊥
  no_word_given a some is_a isnt d r h = no_word_in_front f m terms us read.alike a some is_a isnt h.word (cons h.term nil) h.says

  word_means : (w : ScopedWord) (t : Term ScopedWord) → us ≡ cons (Leaf w) (cons t nil) → get_or words 0 None ≡ meant_in k w
  word_means w t says = (first_means k w (cons t nil) words more (read.row ∙ ap (λ ts. map (meant_in k) (all_words_in ts) ++ more) says)).0

  pub no_user_given : ((d : ℕ) → IsUserEntry k (get_or words 0 None) d → ⊥) → (d : ℕ) (r : Range) → SaysGiving k g us d r → ⊥
  no_user_given none d r h = none d (subst (λ o. IsUserEntry k o d) (sym (word_means h.word h.term h.says)) h.user)

  module _ (a b : rust.Term) (len : length terms ≡ 2) (is_a : a ≡ get_or terms 0 a) (is_b : b ≡ get_or terms 1 b) (word : is_word (said_of m a) ≡ true) where
    abbrev two : AreTwo k g f m terms us words more read a b len is_a is_b
    two = two_read k g f m terms us words more read a b len is_a is_b

    front : (w : ScopedWord) × (two.low ≡ Leaf w)
    front = the_word two.low (sym (is_leaf_read f (said_of m a) two.low two.first.alike) ∙ word)

    says : us ≡ cons (Leaf front.0) (cons two.high nil)
    says = two.says ∙ ap (λ t. cons t (cons two.high nil)) front.1

    -- the second term, and what its words mean
    abbrev pub high : Term ScopedWord
    high = two.high

    pub high_read : (rest : List (Option ℕ)) → rest ≡ drop 1 words → IsRead k f m b high rest more
    unfolding words_in
    high_read rest cut = two.second rest (cut ∙ ap (drop 1) (two.first.row ∙ ap (λ t. map (meant_in k) (words_in t) ++ (map (meant_in k) (words_in two.high) ++ more)) front.1))

    pub no_range_given : ((r : Range) → IsRange (enabled_in k) g high r → ⊥) → (d : ℕ) (r : Range) → SaysGiving k g us d r → ⊥
    no_range_given none d r h =
        let e : cons (Leaf front.0) (cons two.high nil) ≡ cons (Leaf h.word) (cons h.term nil) = sym says ∙ h.says in
        let same : h.term ≡ two.high = cc in
        none r (subst (λ t. IsRange (enabled_in k) g t r) same h.range)

    pub is_given : (d : ℕ) (r : Range) → IsUserEntry k (get_or words 0 None) d → IsRange (enabled_in k) g high r → SaysGiving k g us d r
    is_given d r user range = record {
      word = front.0;
      term = two.high;
      says = says;
      user = subst (λ o. IsUserEntry k o d) (word_means front.0 two.high says) user;
      range = range;
    }

-- ---- one statement

module _ (k : Known) (xs : List Item) (sections : Kind → List (List ℕ)) (known : IsKnown k xs sections) (law : MeansWhatItNames) (g : Ground) (items : g.items ≡ xs) where
  -- the user that a word names has one entry, which the word means
  user_there : (w : ScopedWord) (u : Symbol) (d : ℕ) → names g.items (enabled_in k) kinds.User w u ≡ true → IsEntryAt k.lookup.namespaces.now k.lookup.names.now kinds.User d u → meant_in k w ≡ Some d
  user_there w u d named e =
      let (c, means, there) = names_means k xs kinds.User signs.PlainUser refl sections known law w u (ap (λ l. names l (enabled_in k) kinds.User w u) (sym items) ∙ named) in
      means ∙ ap Some (one_place k xs kinds.User signs.PlainUser refl sections known law c d u there e)

  module _ (x : Item) where
    pub gives_nothing : (x.keyword ≡ keywords.UserRange → ⊥) → (d : ℕ) (r : Range) → GivesTo k g x d r → ⊥
    gives_nothing isnt d r h = isnt h.gives.gives

    pub gives_disabled : is_enabled (enabled_in k) x ≡ false → (d : ℕ) (r : Range) → GivesTo k g x d r → ⊥
    gives_disabled isnt d r h = true≢false (sym h.gives.enabled ∙ isnt)

    pub gives_said : Contains xs x → is_enabled (enabled_in k) x ≡ true → x.keyword ≡ keywords.UserRange → (o : Option Giving) → IsSaidGiving k g x.args o → IsGiving k g x o
    gives_said is_item on is o said =
        match_as o
        (λ (none : (d : ℕ) (r : Range) → SaysGiving k g x.args d r → ⊥) d r h. none d r (record {
          word = h.word;
          term = h.gives.term;
          says = h.gives.says;
          user = record { means = user_there h.word h.user d h.gives.names_user h.entry; user = h.user; entry = h.entry };
          range = h.gives.range;
        }))
        (λ (v : Giving) (h : SaysGiving k g x.args v.user v.range). record {
          user = h.user.user;
          entry = h.user.entry;
          word = h.word;
          gives = record {
            is_item = subst (λ l. Contains l x) (sym items) is_item;
            enabled = on;
            gives = is;
            term = h.term;
            says = h.says;
            names_user = ap (λ l. names l (enabled_in k) kinds.User h.word h.user.user) items ∙ means_names k xs kinds.User signs.PlainUser refl sections known law h.word v.user h.user.user h.user.means h.user.entry;
            range = h.range;
          };
        })
        said

    -- a statement gives one user one range
    pub gives_one : (by : Ranged) → ReadsRanges k by g → (d e : ℕ) (r p : Range) → GivesTo k g x d r → GivesTo k g x e p → (d ≡ e) × IsSameRange r p
    gives_one by reads d e r p a b =
        let same : cons (Leaf a.word) (cons a.gives.term nil) ≡ cons (Leaf b.word) (cons b.gives.term nil) = sym a.gives.says ∙ b.gives.says in
        let word : a.word ≡ b.word = cc in
        let term : b.gives.term ≡ a.gives.term = cc in (
          same_Some d e (sym (user_there a.word a.user d a.gives.names_user a.entry) ∙ ap (meant_in k) word ∙ user_there b.word b.user e b.gives.names_user b.entry),
          reads.one a.gives.term r p a.gives.range (subst (λ t. IsRange (enabled_in k) g t p) term b.gives.range),
        )

-- ---- the same ranges

same_back : (a b : Level) → AreSame a b → AreSame b a
same_back a b s = record { sensitivity = sym s.sensitivity; categories = λ c l. let h = s.categories c l in (h.1, h.0) }

same_then : (a b c : Level) → AreSame a b → AreSame b c → AreSame a c
same_then a b c s t = record { sensitivity = s.sensitivity ∙ t.sensitivity; categories = λ n l. (λ i. (t.categories n l).0 ((s.categories n l).0 i), λ i. (s.categories n l).1 ((t.categories n l).1 i)) }

pub range_back : (a b : Range) → IsSameRange a b → IsSameRange b a
range_back a b s = record { low = same_back a.low b.low s.low; high = same_back a.high b.high s.high }

pub range_then : (a b c : Range) → IsSameRange a b → IsSameRange b c → IsSameRange a c
range_then a b c s t = record { low = same_then a.low b.low c.low s.low t.low; high = same_then a.high b.high c.high s.high t.high }

pub both_dominate : (a b : Level) → Dominates a b → Dominates b a → AreSame a b
both_dominate a b s t = record { sensitivity = let x = s.sensitivity in let y = t.sensitivity in omega (arith, x, y); categories = λ c l. (t.categories c l, s.categories c l) }

pub same_dominates : (a b : Level) → AreSame a b → Dominates a b
same_dominates a b s = record { sensitivity = let x = s.sensitivity in omega (arith, x); categories = λ c l. (s.categories c l).1 }

-- ---- all statements

pub none_given : (k : Known) (g : Ground) (all : UserRanges) → ((d : ℕ) → get_or all.ranges.items d None ≡ None) → ((d : ℕ) → get_or all.differing.items d false ≡ false) → AreGiven k g [] all
none_given k g all none false_all = record {
  each = λ d r e. absurd (none-some r (sym (none d) ∙ e));
  every = λ x d r c. absurd (contains_none x c);
  two = λ d e. absurd (true≢false (sym e ∙ false_all d));
}

module _ (k : Known) (g : Ground) (x : Item) where
  pub nothing_more : ((d : ℕ) (r : Range) → GivesTo k g x d r → ⊥) → (all : UserRanges) → IsGivenBy k g x all all
  nothing_more none all xs are = record {
    each = λ d r e. let h = are.each d r e in (h.0, Contains-append_left xs (x ∷ []) h.0 h.1, h.2);
    every = λ y d r c h. elim (Contains-append_cases xs (x ∷ []) y c) [
      | inl old ↦ are.every y d r old h
      | inr e ↦ elim (contains_cases y x [] e) [ inl s ↦ absurd (none d r (subst (λ z. GivesTo k g z d r) (sym s) h)) | inr o ↦ absurd (contains_none y o) ]
    ];
    two = λ d e. let (y, z, r, p, in_y, in_z, a, b, differ) = are.two d e in (y, z, r, p, Contains-append_left xs (x ∷ []) y in_y, Contains-append_left xs (x ∷ []) z in_z, a, b, differ);
  }

  here : (xs : List Item) → Contains (xs ++ x ∷ []) x
  here xs = Contains-append_right xs (x ∷ []) x (contains_here x [])

  module _ (v : Giving) (gives : GivesTo k g x v.user v.range) (one : (d : ℕ) (r : Range) → GivesTo k g x d r → (d ≡ v.user) × IsSameRange v.range r) (old new : UserRanges) (put : IsGivenOne v old new) (xs : List Item) (are : AreGiven k g xs old) where
    left : (y : Item) → Contains xs y → Contains (xs ++ x ∷ []) y
    left y c = Contains-append_left xs (x ∷ []) y c

    -- what is said of the entry of the user, where nothing was there, and where something was
    at_user : (o : Option Range) → get_or old.ranges.items v.user None ≡ o
        → (p : Range) × (get_or new.ranges.items v.user None ≡ Some p) × (GivesTo k g x v.user p ⊎ (get_or old.ranges.items v.user None ≡ Some p)) × (IsSameRange p v.range ⊎ (get_or new.differing.items v.user false ≡ true))
    at_user None e = let (range, differing) = put.first e in (v.range, range, inl gives, inl (record { low = same_self v.range.low; high = same_self v.range.high })) where
      same_self : (l : Level) → AreSame l l
      same_self l = record { sensitivity = refl; categories = λ c b. (λ i. i, λ i. i) }
    at_user (Some p) e =
        let (range, differing) = put.further p e in
        (p, range, inr e, elim differing [ inl s ↦ inl s.0 | inr d ↦ inr d.1 ])

    -- at another entry all is as it was, at this one what is added
    old_two : (d : ℕ) → get_or old.differing.items d false ≡ true
        → (y : Item) × (z : Item) × (r : Range) × (p : Range) × Contains (xs ++ x ∷ []) y × Contains (xs ++ x ∷ []) z × GivesTo k g y d r × GivesTo k g z d p × (IsSameRange r p → ⊥)
    old_two d e = let (y, z, r, p, in_y, in_z, a, b, differ) = are.two d e in (y, z, r, p, left y in_y, left z in_z, a, b, differ)

    each_user : (r : Range) → get_or new.ranges.items v.user None ≡ Some r → (y : Item) × Contains (xs ++ x ∷ []) y × GivesTo k g y v.user r
    each_user r e =
        let (p, there, from, same) = at_user (get_or old.ranges.items v.user None) refl in
        let is : p ≡ r = same_Some p r (sym there ∙ e) in
        elim from [
          | inl h ↦ (x, here xs, subst (GivesTo k g x v.user) is h)
          | inr o ↦ (let h = are.each v.user p o in (h.0, left h.0 h.1, subst (GivesTo k g h.0 v.user) is h.2))
        ]

    old_user : (r : Range) → get_or old.ranges.items v.user None ≡ Some r → get_or new.ranges.items v.user None ≡ Some r
    old_user r e = (put.further r e).0

    still_user : get_or old.differing.items v.user false ≡ true → get_or new.differing.items v.user false ≡ true
    still_user t = by (get_or old.ranges.items v.user None) refl where
      by : (o : Option Range) → get_or old.ranges.items v.user None ≡ o → get_or new.differing.items v.user false ≡ true
      by None o = (put.first o).1 ∙ t
      by (Some p) o = elim (put.further p o).1 [ inl s ↦ s.1 ∙ t | inr s ↦ s.1 ]

    two_user : get_or new.differing.items v.user false ≡ true
        → (y : Item) × (z : Item) × (r : Range) × (p : Range) × Contains (xs ++ x ∷ []) y × Contains (xs ++ x ∷ []) z × GivesTo k g y v.user r × GivesTo k g z v.user p × (IsSameRange r p → ⊥)
    two_user e = by (get_or old.ranges.items v.user None) refl where
      by : (o : Option Range) → get_or old.ranges.items v.user None ≡ o
          → (y : Item) × (z : Item) × (r : Range) × (p : Range) × Contains (xs ++ x ∷ []) y × Contains (xs ++ x ∷ []) z × GivesTo k g y v.user r × GivesTo k g z v.user p × (IsSameRange r p → ⊥)
      by None o = old_two v.user (sym (put.first o).1 ∙ e)
      by (Some p) o = elim (put.further p o).1 [
        | inl s ↦ old_two v.user (sym s.1 ∙ e)
        | inr s ↦ (let h = are.each v.user p o in (h.0, x, p, v.range, left h.0 h.1, here xs, h.2, gives, s.0))
      ]

    every_old : (y : Item) (d : ℕ) (r : Range) → Contains xs y → GivesTo k g y d r
        → (p : Range) × (get_or new.ranges.items d None ≡ Some p) × (IsSameRange p r ⊎ (get_or new.differing.items d false ≡ true))
    every_old y d r c h =
        let (p, there, same) = are.every y d r c h in
        elim (cases_eq d v.user) [
          | inl e ↦ (
            p,
            subst (λ z. get_or new.ranges.items z None ≡ Some p) (sym e) (old_user p (subst (λ z. get_or old.ranges.items z None ≡ Some p) e there)),
            elim same [
              | inl s ↦ inl s
              | inr t ↦ inr (subst (λ z. get_or new.differing.items z false ≡ true) (sym e) (still_user (subst (λ z. get_or old.differing.items z false ≡ true) e t)))
            ],
          )
          | inr n ↦ (let (ranges, differing) = put.others d n in (p, ranges ∙ there, elim same [ inl s ↦ inl s | inr t ↦ inr (differing ∙ t) ]))
        ]

    every_new : (d : ℕ) (r : Range) → GivesTo k g x d r → (p : Range) × (get_or new.ranges.items d None ≡ Some p) × (IsSameRange p r ⊎ (get_or new.differing.items d false ≡ true))
    every_new d r h =
        let (e, same) = one d r h in
        let (p, there, from, with) = at_user (get_or old.ranges.items v.user None) refl in (
          p,
          subst (λ z. get_or new.ranges.items z None ≡ Some p) (sym e) there,
          elim with [ inl s ↦ inl (range_then p v.range r s same) | inr t ↦ inr (subst (λ z. get_or new.differing.items z false ≡ true) (sym e) t) ],
        )

    pub one_given : AreGiven k g (xs ++ x ∷ []) new
    one_given = record {
      each = λ d r e. elim (cases_eq d v.user) [
        | inl s ↦ (let (y, c, h) = each_user r (subst (λ z. get_or new.ranges.items z None ≡ Some r) s e) in (y, c, subst (λ z. GivesTo k g y z r) (sym s) h))
        | inr n ↦ (let h = are.each d r (sym (put.others d n).0 ∙ e) in (h.0, left h.0 h.1, h.2))
      ];
      every = λ y d r c h. elim (Contains-append_cases xs (x ∷ []) y c) [
        | inl o ↦ every_old y d r o h
        | inr e ↦ elim (contains_cases y x [] e) [ inl s ↦ every_new d r (subst (λ z. GivesTo k g z d r) (sym s) h) | inr o ↦ absurd (contains_none y o) ]
      ];
      two = λ d e. elim (cases_eq d v.user) [
        | inl s ↦ (let (y, z, r, p, in_y, in_z, a, b, differ) = two_user (subst (λ q. get_or new.differing.items q false ≡ true) s e) in
            (y, z, r, p, in_y, in_z, subst (λ q. GivesTo k g y q r) (sym s) a, subst (λ q. GivesTo k g z q p) (sym s) b, differ))
        | inr n ↦ old_two d (sym (put.others d n).1 ∙ e)
      ];
    }

-- ---- one after another

-- so many times nothing
pub record AreNoneUpTo {X : Type 0} (count : ℕ) (xs : List (Option X)) : Type 0 where
  pub few : length xs ≤ count
  pub none : (d : ℕ) → get_or xs d None ≡ None

pub no_ones : {X : Type 0} (count : ℕ) (xs : List (Option X)) → xs ≡ [] → AreNoneUpTo count xs
no_ones count xs e = subst (AreNoneUpTo count) (sym e) (record { few = omega arith; none = λ d. refl })

none_more_at : {X : Type 0} (xs : List (Option X)) → ((d : ℕ) → get_or xs d None ≡ None) → (d : ℕ) → get_or (xs ++ None ∷ []) d None ≡ None
none_more_at [] none zero = refl
none_more_at [] none (suc d) = refl
none_more_at (x ∷ xs) none zero = none zero
none_more_at (x ∷ xs) none (suc d) = none_more_at xs (λ e. none (suc e)) d

pub one_none : {X : Type 0} (count : ℕ) (xs new : List (Option X)) → new ≡ xs ++ None ∷ [] → length xs < count → AreNoneUpTo count xs → AreNoneUpTo count new
one_none count xs new e less are = subst (AreNoneUpTo count) (sym e) (record { few = let n = longer xs None in omega (arith, less, n); none = none_more_at xs are.none })

-- what is the same everywhere
pub all_same : {X : Type 0} (n : ℕ) (x : X) (xs : List X) → xs ≡ replicate n x → (d : ℕ) → get_or xs d x ≡ x
all_same n x xs e d = ap (λ l. get_or l d x) e ∙ by n d where
  by : (n d : ℕ) → get_or (replicate n x) d x ≡ x
  by zero d = refl
  by (suc n) zero = refl
  by (suc n) (suc d) = by n d

pub same_length : {X : Type 0} (n : ℕ) (x : X) (xs : List X) → xs ≡ replicate n x → length xs ≡ n
same_length n x xs e = ap length e ∙ by n where
  by : (n : ℕ) → length (replicate n x) ≡ n
  by zero = refl
  by (suc n) = ap suc (by n)

-- an entry that is there
pub is_user_entry : (k : Known) (es : List Entry) (d : ℕ) (e : Entry) (meaning : Option ℕ) → es ≡ k.lookup.names.now → slice_get es d ≡ Some e → e.kind ≡ kinds.User → meaning ≡ Some d → IsUserEntry k meaning d
is_user_entry k es d e meaning same at kind means = record {
  means = means;
  user = symbol_of k.lookup.namespaces.now e;
  entry = record { entry = e; at = ap (λ l. slice_get l d) (sym same) ∙ at; of_kind = kind; symbol = refl };
}

pub record AreGivenUpTo (k : Known) (by : Ranged) (xs : List Item) (n : ℕ) (all : UserRanges) : Type 0 where
  pub room : HasRoom k all
  pub given : (g : Ground) → g.items ≡ xs → ReadsRanges k by g → AreGiven k g (take n xs) all

module _ (k : Known) (by : Ranged) (xs : List Item) where
  pub none_up_to : (all : UserRanges) → HasRoom k all → ((d : ℕ) → get_or all.ranges.items d None ≡ None) → ((d : ℕ) → get_or all.differing.items d false ≡ false) → AreGivenUpTo k by xs 0 all
  none_up_to all room none false_all = record { room = room; given = λ g items reads. subst (λ l. AreGiven k g l all) (sym (take_none xs)) (none_given k g all none false_all) } where
    take_none : (l : List Item) → take 0 l ≡ []
    take_none [] = refl
    take_none (y ∷ ys) = refl

  pub more_up_to : (n : ℕ) (x : Item) → take (n + 1) xs ≡ take n xs ++ x ∷ [] → (old new : UserRanges) → HasRoom k new → ((g : Ground) → g.items ≡ xs → ReadsRanges k by g → IsGivenBy k g x old new)
      → AreGivenUpTo k by xs n old → AreGivenUpTo k by xs (n + 1) new
  more_up_to n x taken old new room more are = record {
    room = room;
    given = λ g items reads. subst (λ l. AreGiven k g l new) (sym taken) (more g items reads (take n xs) (are.given g items reads));
  }

  pub all_given : (n : ℕ) → length xs ≤ n → (all : UserRanges) → AreGivenUpTo k by xs n all → (g : Ground) → g.items ≡ xs → ReadsRanges k by g → AreGiven k g xs all
  all_given n over all are g items reads = subst (λ l. AreGiven k g l all) (take_all n xs over) (are.given g items reads)
