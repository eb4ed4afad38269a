-- Classes that statements join to two different commons, by the numbers of their entries.
use Rattle.std.specs.Prelude.{◌⊎◌, ◌↔◌, Contains, MatchOption, None, Option, Some, set, slice_get}
use Rattle.std.specs.List.Sorted.{IsStrictlySortedBy}
use Rattle.std.specs.Ordering.{nat_cmp, ordering_then}
use Rattle.std.specs.declared.cmp.Ordering.{Ordering}
use Rattle.std.specs.declared.cmp.Ordering.TheVariants.{Less, Equal, Greater}
use Rattle.std.proofs.Common.{◌≡◌, ℕ, suc, ◌+◌, ◌<◌, ◌≤◌, Bool, true, false, List, length, get_or, refl, sym, ◌∙◌, ap, subst, inl, inr, arith}
use Rattle.std.proofs.lemmas.Bool.{cases_eq, true≢false}
use Rattle.cil_syntax.specs.declared.kind.Keyword.{Keyword}
use Rattle.cil_syntax.specs.declared.kind.Keyword.TheVariants as keywords
use Rattle.cil_macros.specs.Items.{Kept, item_at, items_in, may_say_lists}
use Rattle.std.proofs.lemmas.List.{get_or-replicate, get_or-set_other, get_or-set_same, length-replicate}
use Rattle.std.proofs.Math.ListN.{get_or-eq_default, replicate}
use Rattle.std.proofs.lemmas.Option.{none-some, same_Some}
use Rattle.cil_base.specs.Lists.{not_below_itself}
use Rattle.cil_base.specs.Paths.{below_by, same_by}
use Rattle.cil_base.specs.Places.{get_at, get_contains, in_range, some_at}
use Rattle.cil_base.specs.Rising.{rises_between}
use Rattle.cil_macros.specs.blocks.Namespaces.{AreNamespaces}
use Rattle.cil_macros.specs.blocks.Space.{Space}
use Rattle.cil_faults.specs.Reported.{fault_at}
use Rattle.cil_faults.specs.declared.code.FaultCode.TheVariants as causes
use Rattle.cil_faults.specs.declared.fault.Fault.{Fault}
use Rattle.cil_macros.specs.Item.{Item, OptSet, all_replaced}
use Rattle.cil_macros.proofs.FormLemmas.{pair_across}
use Rattle.cil_names.specs.Declarations.{Symbol}
use Rattle.cil_names.specs.Entries.{AreOrdered}
use Rattle.cil_names.specs.Symbols.{symbol_of}
use Rattle.cil_names.specs.Resolves.{is_class_common, names_outside}
use Rattle.cil_names.specs.Shared.{AreShared, IsEntryOf, IsPairOf, IsSharing, Pair, Shares}
use Rattle.cil_names.specs.SharedOrder.{same_pair, shared_cmp, shared_total}
use Rattle.cil_names.specs.declared.entry.Entry.{Entry}
use Rattle.cil_names.specs.declared.shared.Shared.{Shared}
use Rattle.cil_names.proofs.AnswerLemmas.{one_entry}
use Rattle.cil_names.proofs.CandidateLemmas.{they_are}
use Rattle.cil_names.proofs.SharedLemmas.{named_one}
use Rattle.cil_syntax.specs.Forms.{two_words}
use Rattle.cil_syntax.specs.Scopes.{ScopedWord}
use Rattle.cil_syntax.specs.Terms.{Leaf, Terms, cons, nil}
use Rattle.cil_syntax.specs.declared.term.Word.{Word}
use Rattle.cil_syntax.specs.declared.kind.Sign.{Sign}
use Rattle.cil_syntax.specs.declared.kind.Sign.TheVariants as signs
use Rattle.cil_classes.specs.declared.commons.Wrong.{Wrong}
use Rattle.cil_classes.specs.Commons.{HasTwoCommons, IsBeside, IsFirst, IsFlagged, IsTwice, cause_of}
use Rattle.cil_classes.specs.Widths.{IsWhatIsWrong, IsWide, IsWideAt, IsWrongAt}

-- ---- neighbours

-- pairs rise by their classes
class_rises : (a b : Shared) → shared_cmp a b ≡ Less → a.class ≤ b.class
class_rises a b less = step (nat_cmp a.class b.class) refl less
  where
    step : (o : Ordering) → nat_cmp a.class b.class ≡ o → ordering_then o (nat_cmp a.common b.common) ≡ Less → a.class ≤ b.class
    step Less e l = let h = below_by a.class b.class e in omega (arith, h)
    step Equal e l = let h = same_by a.class b.class e in omega (arith, h)
    step Greater e l = absurd (let f : Greater ≡ Less = l in cc)

module _ (shared : List Shared) (rising : IsStrictlySortedBy shared_cmp shared) where
  pub twice_beside : (at d : ℕ) → IsBeside shared at d → IsTwice shared d
  twice_beside at d b = record {
    first = b.first;
    second = b.second;
    is_first = get_contains shared at b.first b.here;
    is_second = get_contains shared (suc at) b.second b.next;
    of_first = b.of_first;
    of_second = b.of_second;
    differ = λ e.
        let same : b.first ≡ b.second = same_pair b.first b.second (b.of_first ∙ sym b.of_second) e in
        not_below_itself shared_cmp shared_total b.first
        (subst (λ z. shared_cmp b.first z ≡ Less) (sym same) (rises_between shared_cmp shared at (suc at) b.first b.second rising b.here b.next (omega arith)));
  }

  within_class : (i j d : ℕ) (a n b : Shared) → i < j → slice_get shared i ≡ Some a → slice_get shared (suc i) ≡ Some n → slice_get shared j ≡ Some b → a.class ≡ d → b.class ≡ d → n.class ≡ d
  within_class i j d a n b l here next there first last =
      let low = class_rises a n (rises_between shared_cmp shared i (suc i) a n rising here next (omega arith)) in
      elim (cases_eq (suc i) j) [
        | inl same ↦ ap (λ (h : Shared). h.class) (same_Some n b (sym next ∙ ap (slice_get shared) same ∙ there)) ∙ last
        | inr apart ↦
            let high = class_rises n b (rises_between shared_cmp shared (suc i) j n b rising next there (omega (arith, l, apart))) in
            omega (arith, low, high, first, last)
      ]

  beside_between : (i j d : ℕ) (a b : Shared) → i < j → slice_get shared i ≡ Some a → slice_get shared j ≡ Some b → a.class ≡ d → b.class ≡ d → IsBeside shared i d
  beside_between i j d a b l here there first last =
      let within = in_range shared j b there in
      let (n, next) = some_at shared (suc i) (omega (arith, l, within)) in
      record { first = a; second = n; here = here; next = next; of_first = first; of_second = within_class i j d a n b l here next there first last }

  three : (i j : ℕ) → (i < j) ⊎ ((i ≡ j) ⊎ (j < i))
  three i j = grind arith

  pub beside_twice : (d : ℕ) → IsTwice shared d → (at : ℕ) × (at < length shared) × IsBeside shared at d
  beside_twice d t =
      let (i, li, first) = get_at shared t.first t.is_first in
      let (j, lj, second) = get_at shared t.second t.is_second in
      elim (three i j) [
        | inl less ↦ (i, li, beside_between i j d t.first t.second less first second t.of_first t.of_second)
        | inr rest ↦ elim rest [
          | inl same ↦ absurd (t.differ (ap (λ (h : Shared). h.common) (same_Some t.first t.second (sym first ∙ ap (slice_get shared) same ∙ second))))
          | inr more ↦ (j, lj, beside_between j i d t.second t.first more second first t.of_second t.of_first)
        ]
      ]

-- ---- flags

-- as many flags, none set
no_flag : (n : ℕ) (flags : List Bool) → flags ≡ replicate n false → (d : ℕ) → get_or flags d false ≡ false
no_flag n flags is d =
    ap (λ (fs : List Bool). get_or fs d false) is
    ∙ elim (which d n) [
      | inl l ↦ get_or-replicate n d false false l
      | inr over ↦ get_or-eq_default (replicate n false) false (let e = length-replicate {A = Bool} n false in omega (arith, e, over))
    ]
  where
    which : (d n : ℕ) → (d < n) ⊎ (n ≤ d)
    which d n = grind arith

module _ (shared : List Shared) where
  -- a flag is set for each class of two neighbours before this place
  abbrev pub AreFlagged : ℕ → List Bool → Type 0
  AreFlagged n flags = (d : ℕ) → IsFlagged flags d ↔ ((at : ℕ) × (at < n) × IsBeside shared at d)

  none_flagged : (flags : List Bool) → ((d : ℕ) → get_or flags d false ≡ false) → AreFlagged 0 flags
  none_flagged flags none d = (λ s. absurd (true≢false (sym s ∙ none d)), λ b. absurd (omega (arith, b.1)))

  pub begun_flagged : (n : ℕ) (flags : List Bool) → flags ≡ replicate n false → (length flags ≡ n) × AreFlagged 0 flags
  begun_flagged n flags is = (ap length is ∙ length-replicate {A = Bool} n false, none_flagged flags (no_flag n flags is))

  pub more_flagged : (n : ℕ) (old new : List Bool) → AreFlagged n old → ((d : ℕ) → IsFlagged new d ↔ (IsFlagged old d ⊎ IsBeside shared n d)) → AreFlagged (n + 1) new
  more_flagged n old new so_far one d = (
    λ s. elim ((one d).0 s) [
      | inl t ↦ let (at, l, b) = (so_far d).0 t in (at, omega (arith, l), b)
      | inr b ↦ (n, omega arith, b)
    ],
    λ (at, l, b). (one d).1 (elim (last at n l) [
      | inl less ↦ inl ((so_far d).1 (at, less, b))
      | inr same ↦ inr (subst (λ k. IsBeside shared k d) same b)
    ]),
  )
    where
      last : (k n : ℕ) → k < n + 1 → (k < n) ⊎ (k ≡ n)
      last k n l = grind arith

  pub all_flagged : IsStrictlySortedBy shared_cmp shared → (n : ℕ) (flags : List Bool) → length shared ≤ n → AreFlagged n flags → (d : ℕ) → IsFlagged flags d ↔ IsTwice shared d
  all_flagged rising n flags over are d = (
    λ s. let (at, l, b) = (are d).0 s in twice_beside shared rising at d b,
    λ t. let (at, l, b) = beside_twice shared rising d t in (are d).1 (at, omega (arith, l, over), b),
  )

  pub next_at : (at : ℕ) (h : Shared) → slice_get shared (at + 1) ≡ Some h → slice_get shared (suc at) ≡ Some h
  next_at at h e = let same : at + 1 ≡ suc at = omega arith in subst (λ k. slice_get shared k ≡ Some h) same e

  pub nothing_next : (at : ℕ) → slice_get shared (at + 1) ≡ None → slice_get shared (suc at) ≡ None
  nothing_next at e = let same : at + 1 ≡ suc at = omega arith in subst (λ k. slice_get shared k ≡ None) same e

  module _ (flags : List Bool) (at : ℕ) where
    abbrev IsNoted : List Bool → Type 0
    IsNoted new = (d : ℕ) → IsFlagged new d ↔ (IsFlagged flags d ⊎ IsBeside shared at d)

    nothing_noted : ((d : ℕ) → IsBeside shared at d → ⊥) → IsNoted flags
    nothing_noted none d = (λ s. inl s, λ e. elim e [ inl s ↦ s | inr b ↦ absurd (none d b) ])

    pub last_noted : slice_get shared (suc at) ≡ None → IsNoted flags
    last_noted none = nothing_noted (λ d b. none-some b.second (sym none ∙ b.next))

    module _ (one next : Shared) (here : slice_get shared at ≡ Some one) (there : slice_get shared (suc at) ≡ Some next) where
      pub other_noted : (next.class ≡ one.class → ⊥) → IsNoted flags
      other_noted differ = nothing_noted (λ d b.
          differ (ap (λ (h : Shared). h.class) (same_Some next b.second (sym there ∙ b.next)) ∙ b.of_second ∙ sym b.of_first ∙ ap (λ (h : Shared). h.class) (same_Some b.first one (sym b.here ∙ here))))

      pub same_noted : next.class ≡ one.class → one.class < length flags → IsNoted (set flags one.class true)
      same_noted same within d = elim (cases_eq d one.class) [
        | inl is ↦ (
          λ s. inr (record { first = one; second = next; here = here; next = there; of_first = sym is; of_second = same ∙ sym is }),
          λ e. ap (λ k. get_or (set flags one.class true) k false) is ∙ get_or-set_same flags one.class true false within,
        )
        | inr apart ↦ (
          λ s. inl (sym (get_or-set_other flags one.class d true false apart) ∙ s),
          λ e. elim e [
            | inl s ↦ get_or-set_other flags one.class d true false apart ∙ s
            | inr b ↦ absurd (apart (sym b.of_first ∙ ap (λ (h : Shared). h.class) (same_Some b.first one (sym b.here ∙ here))))
          ],
        )
      ]

-- what is shared is among the entries
pub class_within : (ss : List Space) (es : List Entry) (xs : List Item) (shared : List Shared) → AreShared ss es xs shared → (h : Shared) → Contains shared h → h.class < length es
class_within ss es xs shared given h ch = let (j, sharing, pair) = given.only h ch in in_range es h.class pair.is_class.entry pair.is_class.at

-- ---- what is told

module _ (ss : List Space) (are : AreNamespaces ss) (es : List Entry) (ordered : AreOrdered ss es) where
  -- a symbol of a kind has one number
  one_number : (sign : Sign) (d e : ℕ) (c : Symbol) → IsEntryOf ss es sign d c → IsEntryOf ss es sign e c → d ≡ e
  one_number sign d e c a b =
      one_entry ss are es ordered c.name sign c.space d e a.entry b.entry a.at b.at
      (they_are ss c.name sign c.space a.entry (ap (λ (s : Symbol). s.space) a.symbol) (ap (λ (s : Symbol). s.name) a.symbol) a.wanted)
      (they_are ss c.name sign c.space b.entry (ap (λ (s : Symbol). s.space) b.symbol) (ap (λ (s : Symbol). s.name) b.symbol) b.wanted)

  -- a number is that of one symbol
  one_symbol : (sign : Sign) (d e : ℕ) (b c : Symbol) → d ≡ e → IsEntryOf ss es sign d b → IsEntryOf ss es sign e c → b ≡ c
  one_symbol sign d e b c same x y =
      sym x.symbol ∙ ap (symbol_of ss) (same_Some x.entry y.entry (sym x.at ∙ ap (slice_get es) same ∙ y.at)) ∙ y.symbol

  module _ (xs : List Item) (shared : List Shared) (given : AreShared ss es xs shared) (x : Item) (k : Pair) (shares : Shares xs x k) (one : Shared) (is : IsPairOf ss es k one) where
    -- the words of an item are its own
    same_words : (j : Pair) (other : Shares xs x j) → (other.class_word ≡ shares.class_word) × (j.class_ ≡ k.class_)
    same_words j other =
        let words = same_Some (other.class_word, other.common_word) (shares.class_word, shares.common_word) (sym other.says ∙ shares.says) in
        let same : other.class_word ≡ shares.class_word = ap (λ p. p.0) words in
        (same, named_one xs signs.PlainClass shares.class_word j.class_ k.class_ (subst (λ w. names_outside xs signs.PlainClass w j.class_ ≡ true) same other.names_class) shares.names_class)

    -- a pair of its class is among those that are shared
    pair_there : (c common : Symbol) → c ≡ k.class_ → IsSharing xs (record { class_ = c; common = common }) → (h : Shared) × Contains shared h × (h.class ≡ one.class) × IsEntryOf ss es signs.Commons h.common common
    pair_there c common same sharing =
        let (h, pair, ch) = given.each (record { class_ = c; common = common }) sharing in
        (h, ch, one_number signs.PlainClass h.class one.class k.class_ (subst (IsEntryOf ss es signs.PlainClass h.class) same pair.is_class) is.is_class, pair.is_common)

    pub two_there : (f : Fault) → HasTwoCommons xs x f → IsTwice shared one.class
    two_there f t =
        let (word, class_) = same_words t.pair t.shares in
        let (h, ch, of_h, common_h) = pair_there t.pair.class_ t.first class_ t.has_first in
        let (g, cg, of_g, common_g) = pair_there t.pair.class_ t.second class_ t.has_second in
        record {
          first = h;
          second = g;
          is_first = ch;
          is_second = cg;
          of_first = of_h;
          of_second = of_g;
          differ = λ e. t.differ (one_symbol signs.Commons h.common g.common t.first t.second e common_h common_g);
        }

    -- a pair of its class is that of a common which an item joins to it
    sharing_of : (h : Shared) → Contains shared h → h.class ≡ one.class → (common : Symbol) × IsSharing xs (record { class_ = k.class_; common = common }) × IsEntryOf ss es signs.Commons h.common common
    sharing_of h ch same =
        let (j, sharing, pair) = given.only h ch in
        let class_ : j.class_ ≡ k.class_ = one_symbol signs.PlainClass h.class one.class j.class_ k.class_ same pair.is_class is.is_class in
        (j.common, subst (λ c. IsSharing xs (record { class_ = c; common = j.common })) class_ sharing, pair.is_common)

    abbrev its_fault : Fault
    its_fault = fault_at causes.CommonTwice shares.class_word.at x.space shares.class_word.bytes

    pub told_twice : IsTwice shared one.class → (f : Fault) → (HasTwoCommons xs x f → f ≡ its_fault) × (f ≡ its_fault → HasTwoCommons xs x f)
    told_twice t f = (
      λ h. h.told ∙ ap (λ (w : ScopedWord). fault_at causes.CommonTwice w.at x.space w.bytes) (same_words h.pair h.shares).0,
      λ told.
          let (first, has_first, common_first) = sharing_of t.first t.is_first t.of_first in
          let (second, has_second, common_second) = sharing_of t.second t.is_second t.of_second in
          record {
            pair = k;
            shares = shares;
            first = first;
            second = second;
            has_first = has_first;
            has_second = has_second;
            differ = λ e. t.differ (one_number signs.Commons t.first.common t.second.common second (subst (IsEntryOf ss es signs.Commons t.first.common) e common_first) common_second);
            told = told;
          },
    )

    -- the class word that an item says
    pub class_word_is : (w v : ScopedWord) → two_words x.args ≡ Some (w, v) → shares.class_word ≡ w
    class_word_is w v says = ap (λ (p : ScopedWord × ScopedWord). p.0) (same_Some (shares.class_word, shares.common_word) (w, v) (sym shares.says ∙ says))

    pub not_twice : (IsTwice shared one.class → ⊥) → (f : Fault) → HasTwoCommons xs x f → ⊥
    not_twice none f t = none (two_there f t)

-- the words that an item says
pub says_words : (xs : List Item) (x : Item) (f : Word → ScopedWord) (args : Terms Word) → x.args ≡ all_replaced (λ at. at) f args → (first second : Word) → args ≡ cons (Leaf first) (cons (Leaf second) nil)
    → two_words x.args ≡ Some (f first, f second)
says_words xs x f args says first second said = ap two_words (says ∙ ap (all_replaced (λ at. at) f) said ∙ pair_across f first second)

-- an item that shares nothing
pub shares_nothing : (xs : List Item) (x : Item) → ((k : Pair) → Shares xs x k → ⊥) → (f : Fault) → HasTwoCommons xs x f → ⊥
shares_nothing xs x none f t = none t.pair t.shares

-- what joins a common to a class has no place for a list
pub joins_no_lists : (k : Keyword) → is_class_common k ≡ true → may_say_lists k ≡ false
joins_no_lists keywords.ClassCommon e = refl
joins_no_lists k e = absurd (true≢false (sym e))

-- ---- what is wrong with the class of a statement

module _ (ss : List Space) (are : AreNamespaces ss) (es : List Entry) (ordered : AreOrdered ss es) (xs : List Item) (shared : List Shared) (given : AreShared ss es xs shared) (x : Item) (k : Pair) (shares : Shares xs x k)
    (one : Shared) (is : IsPairOf ss es k one) where
  -- a class that has two commons
  pub twice_told : IsTwice shared one.class → (r : Option Wrong) → MatchOption r (two_words x.args ≡ None) (λ w. IsFirst (two_words x.args) (cause_of w.wide) w.at w.bytes.now)
      → IsWhatIsWrong (HasTwoCommons xs x) x.space r
  twice_told twice None nothing = absurd (none-some (shares.class_word, shares.common_word) (sym nothing ∙ shares.says))
  twice_told twice (Some w) first = λ f. (
    λ t. (told_twice ss are es ordered xs shared given x k shares one is twice f).0 t ∙ same,
    λ told. (told_twice ss are es ordered xs shared given x k shares one is twice f).1 (told ∙ sym same),
  )
    where
      word : shares.class_word ≡ first.first
      word = class_word_is ss are es ordered xs shared given x k shares one is first.first first.second first.are

      same : fault_at causes.CommonTwice shares.class_word.at x.space shares.class_word.bytes ≡ fault_at (cause_of w.wide) w.at x.space w.bytes.now
      same = λ i.
          fault_at (sym first.cause i) ((ap (λ (v : ScopedWord). v.at) word ∙ sym first.written) i) x.space ((ap (λ (v : ScopedWord). v.bytes) word ∙ sym first.spelled) i)

module _ (i : Kept) (s : OptSet) (at : ℕ) where
  -- a class that has too many permissions
  pub wide_wrong : (r : Option Wrong) (w : Wrong) → r ≡ Some w → IsWideAt s i at r → IsWrongAt s i at (Some w)
  wide_wrong r w same wide = record {
    is = λ f. (
      λ e. elim e [
        | inl v ↦ (is f).0 v
        | inr t ↦
            let v = (is (fault_at (cause_of w.wide) w.at (item_at i at).space w.bytes.now)).1 refl in
            absurd (true≢false (sym t.shares.keyword ∙ ap is_class_common v.keyword))
      ],
      λ told. inl ((is f).1 told),
    );
  }
    where
      is : (f : Fault) → IsWide s (items_in i) (item_at i at) f ↔ (f ≡ fault_at (cause_of w.wide) w.at (item_at i at).space w.bytes.now)
      is = subst (IsWhatIsWrong (IsWide s (items_in i) (item_at i at)) (item_at i at).space) same wide.is

  -- one that has not: it has two commons, or nothing is wrong with it
  pub twice_wrong : (r : Option Wrong) → r ≡ None → IsWideAt s i at r → (twice : Option Wrong) → IsWhatIsWrong (HasTwoCommons (items_in i) (item_at i at)) (item_at i at).space twice → IsWrongAt s i at twice
  twice_wrong r same wide None t = record { is = λ f e. elim e [ inl v ↦ none f v | inr w ↦ t f w ] }
    where
      none : (f : Fault) → IsWide s (items_in i) (item_at i at) f → ⊥
      none = subst (IsWhatIsWrong (IsWide s (items_in i) (item_at i at)) (item_at i at).space) same wide.is
  twice_wrong r same wide (Some w) t = record {
    is = λ f. (λ e. elim e [ inl v ↦ absurd (none f v) | inr h ↦ (t f).0 h ], λ told. inr ((t f).1 told));
  }
    where
      none : (f : Fault) → IsWide s (items_in i) (item_at i at) f → ⊥
      none = subst (IsWhatIsWrong (IsWide s (items_in i) (item_at i at)) (item_at i at).space) same wide.is
