-- What is wrong with the ranges of users.
use Rattle.std.specs.Prelude.{Contains, Option, None, Some, length, not, take}
use Rattle.std.specs.Option.{is_none, is_some}
use Rattle.std.proofs.Common.{◌≡◌, ◌↔◌, ◌⊎◌, ℕ, ◌+◌, ◌<◌, ◌≤◌, Bool, true, false, List, [], ◌∷◌, ◌++◌, get_or, refl, sym, ◌∙◌, ap, subst, inl, inr, arith}
use Rattle.std.proofs.lemmas.Bool.{true≢false}
use Rattle.std.proofs.lemmas.List.{take_all}
use Rattle.std.proofs.lemmas.Option.{none-some, same_Some}
use Rattle.cil_base.specs.Lists.{contains_none}
use Rattle.cil_base.specs.Places.{get_in_front, get_last, get_so, in_range, is_there, longer}
use Rattle.cil_faults.specs.Reported.{fault_at}
use Rattle.cil_faults.specs.declared.code.FaultCode.TheVariants as causes
use Rattle.cil_faults.specs.declared.fault.Fault.{Fault}
use Rattle.cil_syntax.specs.declared.kind.Kind.{Kind}
use Rattle.cil_syntax.specs.declared.kind.Kind.TheVariants as kinds
use Rattle.cil_syntax.specs.declared.kind.Sign.TheVariants as signs
use Rattle.cil_syntax.specs.Scopes.{ScopedWord}
use Rattle.cil_syntax.specs.Terms.{Leaf, Terms, nil, cons}
use Rattle.cil_macros.specs.Item.{Item, OptSet}
use Rattle.cil_names.specs.Declarations.{Symbol}
use Rattle.cil_names.specs.Laws.{MeansWhatItNames}
use Rattle.cil_known.specs.declared.known.Known.{Known}
use Rattle.cil_known.specs.Known.{IsKnown, enabled_in}
use Rattle.cil_known.specs.Spaces.{names}
use Rattle.cil_mls.specs.attrs.SetFaults.{DeclaresAt, symbol_under}
use Rattle.cil_mls.specs.attrs.Targets.{IsEntryAt, IsToldIn}
use Rattle.cil_mls.proofs.attrs_lemmas.FaultLemmas.{its_entry}
use Rattle.cil_mls.specs.declared.level.Range.{Range}
use Rattle.cil_mls.specs.OrderFaults.{Switches}
use Rattle.cil_mls.proofs.PairLemmas.{taken_more}
use Rattle.cil_ranges.specs.declared.giving.Giving.{Giving}
use Rattle.cil_ranges.specs.declared.scale.Ranged.{Ranged}
use Rattle.cil_ranges.specs.declared.users.UserRanges.{UserRanges}
use Rattle.cil_ranges.specs.Given.{AreGiven, AreWithout, GivesTo, HasRoom, IsToldTwice, ReadsRanges}
use Rattle.cil_ranges.specs.Levels.{Ground}
use Rattle.cil_ranges.specs.Reading.{HaveMore}
use Rattle.cil_ranges.specs.Users.{GivesRange, HasNoRange, HasTwoRanges, IsSameRange}
use Rattle.cil_ranges.proofs.DeclaredLemmas.{names_means, one_symbol}
use Rattle.cil_ranges.proofs.UserLemmas.{range_back, range_then}
use Rattle.cil_ranges.proofs.WalkLemmas.{none_more, one_more, then_more}

-- ---- one statement

module _ (k : Known) (g : Ground) (differing : List Bool) (x : Item) (old new : List Fault) where
  pub nothing_twice : ((d : ℕ) (r : Range) → GivesTo k g x d r → ⊥) → HaveMore old old (IsToldTwice k g differing x)
  nothing_twice none = none_more old (IsToldTwice k g differing x) (λ f h. none h.entry h.range h.gives)

  module _ (v : Giving) (gives : GivesTo k g x v.user v.range) (one : (d : ℕ) (r : Range) → GivesTo k g x d r → d ≡ v.user) where
    pub not_twice : get_or differing v.user false ≡ false → HaveMore old old (IsToldTwice k g differing x)
    not_twice unflagged =
        none_more old (IsToldTwice k g differing x) (λ f h. true≢false (sym h.flagged ∙ ap (λ d. get_or differing d false) (one h.entry h.range h.gives) ∙ unflagged))

    pub told_twice : get_or differing v.user false ≡ true
        → ((w : ScopedWord) (rest : Terms ScopedWord) → x.args ≡ cons (Leaf w) rest → new ≡ old ++ fault_at causes.UserRangeTwice w.at x.space w.bytes ∷ []) → HaveMore old new (IsToldTwice k g differing x)
    told_twice flagged push =
        one_more old new (fault_at causes.UserRangeTwice gives.word.at x.space gives.word.bytes) (IsToldTwice k g differing x) (push gives.word (cons gives.gives.term nil) gives.gives.says)
        (λ f h.
        let e : cons (Leaf h.gives.word) (cons h.gives.gives.term nil) ≡ cons (Leaf gives.word) (cons gives.gives.term nil) = sym h.gives.gives.says ∙ gives.gives.says in
        let word : h.gives.word ≡ gives.word = cc in
        h.told ∙ ap (λ (w : ScopedWord). fault_at causes.UserRangeTwice w.at x.space w.bytes) word)
        (record { entry = v.user; range = v.range; gives = gives; flagged = flagged; told = refl })

-- ---- all statements

abbrev pub AmongTold : Known → Ground → List Bool → List Item → Fault → Type 0
AmongTold k g differing xs f = (x : Item) × Contains xs x × IsToldTwice k g differing x f

abbrev pub AddsTold : Known → Ranged → List Bool → List Item → List Item → List Fault → List Fault → Type 0
AddsTold k by differing all xs old new = (g : Ground) → g.items ≡ all → ReadsRanges k by g → HaveMore old new (AmongTold k g differing xs)

module _ (k : Known) (by : Ranged) (differing : List Bool) (all : List Item) where
  pub none_told : (xs : List Item) (old : List Fault) → AddsTold k by differing all (take 0 xs) old old
  none_told [] old g items reads = none_more old (AmongTold k g differing []) (λ f h. contains_none h.0 h.1)
  none_told (x ∷ xs) old g items reads = none_more old (AmongTold k g differing []) (λ f h. contains_none h.0 h.1)

  pub more_told : (xs : List Item) (i : ℕ) (x : Item) → take (i + 1) xs ≡ take i xs ++ x ∷ [] → (old mid new : List Fault) → AddsTold k by differing all (take i xs) old mid
      → ((g : Ground) → g.items ≡ all → ReadsRanges k by g → HaveMore mid new (IsToldTwice k g differing x)) → AddsTold k by differing all (take (i + 1) xs) old new
  more_told xs i x taken old mid new first second g items reads =
      then_more old mid new (AmongTold k g differing (take i xs)) (IsToldTwice k g differing x) (AmongTold k g differing (take (i + 1) xs)) (first g items reads) (second g items reads) (λ f. (
        λ h. elim ((taken_more xs i x taken h.0).0 h.1) [ inl c ↦ inl (h.0, c, h.2) | inr e ↦ inr (subst (λ y. IsToldTwice k g differing y f) (sym e) h.2) ],
        λ s. elim s [ inl p ↦ (p.0, (taken_more xs i x taken p.0).1 (inl p.1), p.2) | inr q ↦ (x, (taken_more xs i x taken x).1 (inr refl), q) ],
      ))

  pub all_told : (xs : List Item) (i : ℕ) → length xs ≤ i → (old new : List Fault) → AddsTold k by differing all (take i xs) old new → AddsTold k by differing all xs old new
  all_told xs i over old new adds = subst (λ ys. AddsTold k by differing all ys old new) (take_all i xs over) adds

-- ---- flags

pub record AreWithoutUpTo (ranges : List (Option Range)) (n : ℕ) (flags : List Bool) : Type 0 where
  pub len : length flags ≡ n
  pub each : (d : ℕ) → d < n → (get_or flags d false ≡ true) ↔ (get_or ranges d None ≡ None)

pub none_flagged : (ranges : List (Option Range)) (flags : List Bool) → flags ≡ [] → AreWithoutUpTo ranges 0 flags
none_flagged ranges flags e = record { len = ap length e; each = λ d l. absurd (omega (arith, l)) }

before_or_at : (j at : ℕ) → j < at + 1 → (j < at) ⊎ (j ≡ at)
before_or_at j at l = grind arith

tells_none : {X : Type 0} (o : Option X) → (is_none o ≡ true) ↔ (o ≡ None)
tells_none None = (λ e. refl, λ e. refl)
tells_none (Some x) = (λ e. absurd (true≢false (sym e)), λ e. absurd (none-some x (sym e)))

pub is_none_by : {X : Type 0} (o : Option X) (b : Bool) → is_some o ≡ not b → b ≡ is_none o
is_none_by None true e = refl
is_none_by None false e = absurd (true≢false (sym e))
is_none_by (Some x) true e = absurd (true≢false e)
is_none_by (Some x) false e = refl

pub one_flagged : (ranges : List (Option Range)) (n : ℕ) (flags : List Bool) (d o : Option Range) → n < length ranges → o ≡ get_or ranges n d → AreWithoutUpTo ranges n flags → AreWithoutUpTo ranges (n + 1) (flags ++ is_none o ∷ [])
one_flagged ranges n flags d o l is are =
    let len = are.len in
    record {
      len = let m = longer flags (is_none o) in omega (arith, m, len);
      each = λ j b. elim (before_or_at j n b) [
        | inl before ↦
            let same : get_or (flags ++ is_none o ∷ []) j false ≡ get_or flags j false = get_so (flags ++ is_none o ∷ []) j (get_or flags j false) false (get_in_front flags (is_none o ∷ []) j (omega (arith, before, len)) ∙ is_there flags j false (omega (arith, before, len))) in
            let h = are.each j before in (λ t. h.0 (sym same ∙ t), λ e. same ∙ h.1 e)
        | inr here ↦
            let at : j ≡ length flags = omega (arith, here, len) in
            let last : get_or (flags ++ is_none o ∷ []) j false ≡ is_none o = ap (λ z. get_or (flags ++ is_none o ∷ []) z false) at ∙ get_so (flags ++ is_none o ∷ []) (length flags) (is_none o) false (get_last flags (is_none o)) in
            let there : get_or ranges j None ≡ o = ap (λ z. get_or ranges z None) here ∙ same_Some (get_or ranges n None) (get_or ranges n d) (sym (is_there ranges n None l) ∙ is_there ranges n d l) ∙ sym is in
            let h = tells_none o in (λ t. there ∙ h.0 (sym last ∙ t), λ e. last ∙ h.1 (sym there ∙ e))
      ];
    }

pub all_flagged : (ranges : List (Option Range)) (n : ℕ) (flags : List Bool) → length ranges ≤ n → AreWithoutUpTo ranges n flags → AreWithout ranges flags
all_flagged ranges n flags over are d l = are.each d (omega (arith, l, over))

-- ---- by symbols

module _ (k : Known) (xs : List Item) (sections : Kind → List (List ℕ)) (known : IsKnown k xs sections) (law : MeansWhatItNames) (g : Ground) (items : g.items ≡ xs) (all : UserRanges) (are : AreGiven k g xs all) where
  -- the entry of a user to whom a statement gives a range
  to_entry : (u : Symbol) (x : Item) (w : ScopedWord) (r : Range) → GivesRange (enabled_in k) g u x w r → (d : ℕ) × IsEntryAt k.lookup.namespaces.now k.lookup.names.now kinds.User d u
  to_entry u x w r h = let (c, means, there) = names_means k xs kinds.User signs.PlainUser refl sections known law w u (ap (λ l. names l (enabled_in k) kinds.User w u) (sym items) ∙ h.names_user) in (c, there)

  there : (u : Symbol) (x : Item) (w : ScopedWord) (r : Range) → GivesRange (enabled_in k) g u x w r → Contains xs x
  there u x w r h = subst (λ l. Contains l x) items h.is_item

  pub twice_is : (f : Fault) → AmongTold k g all.differing.items xs f ↔ HasTwoRanges (enabled_in k) g f
  twice_is f = (
    λ (x, is_x, h).
        let (y, z, r, p, in_y, in_z, a, b, differ) = are.two h.entry h.flagged in
        let same_a : a.user ≡ h.gives.user = one_symbol k xs kinds.User signs.PlainUser refl sections known law h.entry a.user h.gives.user a.entry h.gives.entry in
        let same_b : b.user ≡ h.gives.user = one_symbol k xs kinds.User signs.PlainUser refl sections known law h.entry b.user h.gives.user b.entry h.gives.entry in
        record {
          user = h.gives.user;
          item = x;
          word = h.gives.word;
          range = h.range;
          gives = h.gives.gives;
          one = y;
          one_word = a.word;
          one_range = r;
          one_gives = subst (λ u. GivesRange (enabled_in k) g u y a.word r) same_a a.gives;
          other = z;
          other_word = b.word;
          other_range = p;
          other_gives = subst (λ u. GivesRange (enabled_in k) g u z b.word p) same_b b.gives;
          differ = differ;
          told = h.told;
        },
    λ h.
        let (d, e) = to_entry h.user h.item h.word h.range h.gives in
        let (p, at_p, one) = are.every h.one d h.one_range (there h.user h.one h.one_word h.one_range h.one_gives) (record { user = h.user; entry = e; word = h.one_word; gives = h.one_gives }) in
        let (q, at_q, other) = are.every h.other d h.other_range (there h.user h.other h.other_word h.other_range h.other_gives) (record { user = h.user; entry = e; word = h.other_word; gives = h.other_gives }) in
        let same : p ≡ q = same_Some p q (sym at_p ∙ at_q) in (
          h.item,
          there h.user h.item h.word h.range h.gives,
          record {
            entry = d;
            range = h.range;
            gives = record { user = h.user; entry = e; word = h.word; gives = h.gives };
            flagged = elim one [
              | inl s ↦ elim other [
                | inl t ↦ absurd (h.differ (range_then h.one_range p h.other_range (range_back p h.one_range s) (subst (λ z. IsSameRange z h.other_range) (sym same) t)))
                | inr t ↦ t
              ]
              | inr s ↦ s
            ];
            told = h.told;
          },
        ),
  )

  module _ (room : HasRoom k all) (flags : List Bool) (without : AreWithout all.ranges.items flags) (on : Switches g.items (enabled_in k) true) where
    within : (d : ℕ) (a : Symbol) → IsEntryAt k.lookup.namespaces.now k.lookup.names.now kinds.User d a → d < length all.ranges.items
    within d a e = let l = in_range k.lookup.names.now d e.entry e.at in let len = room.of_ranges in omega (arith, l, len)

    pub without_is : (f : Fault) → IsToldIn k.lookup.namespaces.now k.lookup.names.now xs (enabled_in k) kinds.User causes.UserNoRange flags f ↔ HasNoRange (enabled_in k) g f
    without_is f = (
      λ (x, is_x, t). record {
        on = on;
        item = x;
        at = t.at;
        name = t.name;
        declares = subst (λ l. DeclaresAt l (enabled_in k) kinds.User x t.at t.name) (sym items) t.declares;
        none = λ y w r h.
            let (p, at_p, same) = are.every y t.place r (there (symbol_under x t.name) y w r h) (record { user = symbol_under x t.name; entry = t.entry; word = w; gives = h }) in
            none-some p (sym ((without t.place (within t.place (symbol_under x t.name) t.entry)).0 t.flagged) ∙ at_p);
        told = t.told;
      },
      λ h.
          let declares = subst (λ l. DeclaresAt l (enabled_in k) kinds.User h.item h.at h.name) items h.declares in
          let (d, e) = its_entry xs (enabled_in k) kinds.User h.item h.at h.name declares k.lookup.namespaces.now k.lookup.names.now known.entries in (
            h.item,
            declares.is_item,
            record {
              at = h.at;
              name = h.name;
              place = d;
              declares = declares;
              entry = e;
              flagged = (without d (within d (symbol_under h.item h.name) e)).1 (nothing d e h.none (get_or all.ranges.items d None) refl);
              told = h.told;
            },
          ),
    ) where
      nothing : (d : ℕ) {a : Symbol} (e : IsEntryAt k.lookup.namespaces.now k.lookup.names.now kinds.User d a) → ((y : Item) (w : ScopedWord) (r : Range) → GivesRange (enabled_in k) g a y w r → ⊥) → (o : Option Range)
          → get_or all.ranges.items d None ≡ o → get_or all.ranges.items d None ≡ None
      nothing d {a = a} e none None is = is
      nothing d {a = a} e none (Some r) is =
          let (y, in_y, h) = are.each d r is in
          let same : h.user ≡ a = one_symbol k xs kinds.User signs.PlainUser refl sections known law d h.user a h.entry e in
          absurd (none y h.word r (subst (λ u. GivesRange (enabled_in k) g u y h.word r) same h.gives))

-- ---- both

pub both_told : (s : OptSet) (g : Ground) (old mid new : List Fault) (P Q : Fault → Type 0) → HaveMore old mid P → HaveMore mid new Q → ((f : Fault) → P f ↔ HasTwoRanges s g f) → ((f : Fault) → Q f ↔ HasNoRange s g f)
    → HaveMore old new (λ f. HasTwoRanges s g f ⊎ HasNoRange s g f)
both_told s g old mid new P Q first second two none =
    then_more old mid new P Q (λ f. HasTwoRanges s g f ⊎ HasNoRange s g f) first second (λ f. (
      λ h. elim h [ inl a ↦ inl ((two f).1 a) | inr b ↦ inr ((none f).1 b) ],
      λ h. elim h [ inl a ↦ inl ((two f).0 a) | inr b ↦ inr ((none f).0 b) ],
    ))

pub two_told : (s : OptSet) (g : Ground) (old new : List Fault) (P : Fault → Type 0) → HaveMore old new P → ((f : Fault) → P f ↔ HasTwoRanges s g f) → (Switches g.items s true → ⊥)
    → HaveMore old new (λ f. HasTwoRanges s g f ⊎ HasNoRange s g f)
two_told s g old new P first two off f = (
  λ c. elim ((first f).0 c) [ inl o ↦ inl o | inr p ↦ inr (inl ((two f).0 p)) ],
  λ h. (first f).1 (elim h [ inl o ↦ inl o | inr b ↦ elim b [ inl t ↦ inr ((two f).1 t) | inr n ↦ absurd (off n.on) ] ]),
)
