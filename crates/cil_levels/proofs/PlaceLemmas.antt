-- What names hold at first is the category for which words stand.
use Rattle.std.proofs.Common.{◌≡◌, ◌==◌, ℕ, ◌<◌, ◌≤◌, true, List, [], ◌∷◌, get_or, length, refl, sym, ◌∙◌, ap, subst, inl, inr, arith}
use Rattle.std.specs.Prelude.{Contains, Option, None, Some, slice_get}
use Rattle.std.proofs.lemmas.Bool.Decides.{Decides-eqb, nat_tests}
use Rattle.std.proofs.lemmas.Map.Made.{IsDistinct-from_AllPairs}
use Rattle.std.proofs.lemmas.Map.Steps.{length-le_from_distinct_below}
use Rattle.cil_base.specs.Lists.{contains_cases, contains_here, contains_none}
use Rattle.cil_base.specs.Places.{get_at, get_contains, in_range, is_there, some_at}
use Rattle.cil_base.specs.Searches.{any_true}
use Rattle.cil_syntax.specs.declared.kind.Keyword.{Keyword}
use Rattle.cil_syntax.specs.declared.kind.Kind.{Kind}
use Rattle.cil_syntax.specs.Scopes.{ScopedWord}
use Rattle.cil_macros.specs.Item.{Item}
use Rattle.cil_names.specs.Declarations.{Declared, Symbol}
use Rattle.cil_names.specs.Entries.{IsAnswer, IsNamed}
use Rattle.cil_names.specs.Laws.{MeansWhatItNames}
use Rattle.cil_known.specs.declared.known.Known.{Known}
use Rattle.cil_known.specs.Known.{HasNumberFor, IsKnown, IsNumbered, enabled_in, meant_in, set_meant}
use Rattle.cil_known.specs.Numbers.{AreApart, has_section}
use Rattle.cil_mls.specs.declared.expression.Held.{Held}
use Rattle.cil_mls.specs.declared.expression.Held.TheVariants.{Nothing, Category, Set}
use Rattle.cil_mls.specs.Ordering.{AreNumbered, IsNumberedOrder}
use Rattle.cil_mls.specs.Values.{meant_held}
use Rattle.cil_mls.proofs.OrderingLemmas.{has, one_number, one_symbol}
use Rattle.cil_levels.specs.Begun.{AreBegun, AreInverse, AreOnce, IsBegun}
use Rattle.cil_levels.specs.Places.{IsItemAt}

same_number : (a b : ℕ) → (a == b) ≡ true → a ≡ b
same_number a b e = grind (arith, nat_tests)

-- numbers below a count, of which none is there twice, are no more than the count
pub no_more_than : (numbers : List ℕ) (n : ℕ) → AreOnce numbers → ((i m : ℕ) → slice_get numbers i ≡ Some m → m < n) → length numbers ≤ n
no_more_than numbers n once below =
    length-le_from_distinct_below numbers n
    (IsDistinct-from_AllPairs Decides-eqb numbers
    (λ i j d l m e. let k : i ≡ j = once i j (get_or numbers j d) (is_there numbers i d (omega (arith, l, m)) ∙ ap Some e) (is_there numbers j d m) in omega (arith, l, k)))
    (λ q h.
    let (x, c, t) = any_true (λ z. q == z) numbers h in
    let (p, within, at) = get_at numbers x c in
    subst (λ z. z < n) (sym (same_number q x t)) (below p x at))

-- the one number of a row of one
pub only_one : (m n : ℕ) → Contains (m ∷ []) n → m ≡ n
only_one m n c = elim (contains_cases n m [] c) [ inl e ↦ e | inr none ↦ absurd (contains_none n none) ]

pub same_category : (a b : ℕ) → Category a ≡ Category b → a ≡ b
same_category a b e = cc

module _ (k : Known) (xs : List Item) (sections : Kind → List (List ℕ)) (kind : Kind) (names : List (List ℕ)) (sets : List (List ℕ)) (are : AreNumbered k xs sections kind names sets)
    (section : has_section kind ≡ true) (apart : AreApart k.lookup.names.now (enabled_in k) k.numbers.now) (keyword : Keyword) (numbers : List ℕ) (order : IsNumberedOrder xs (enabled_in k) kind keyword names numbers) where
  -- what is at the same place of both rows
  symbol_at : (i n : ℕ) → slice_get numbers i ≡ Some n → (t : Symbol) × (slice_get order.row i ≡ Some t) × IsNumbered names t n × Declared xs (enabled_in k) kind t
  symbol_at i n e =
      let l = in_range numbers i n e in
      let len = order.len in
      let (t, at) = some_at order.row i (omega (arith, l, len)) in
      (t, at, order.each i n t e at, (order.is_order.is_order.items t).0 (get_contains order.row i t at))

  number_at : (i : ℕ) (t : Symbol) → slice_get order.row i ≡ Some t → (n : ℕ) × (slice_get numbers i ≡ Some n) × IsNumbered names t n
  number_at i t e =
      let l = in_range order.row i t e in
      let len = order.len in
      let (n, at) = some_at numbers i (omega (arith, l, len)) in
      (n, at, order.each i n t at e)

  -- the order has no number twice
  pub are_once : AreOnce numbers
  are_once i j n a b =
      let (t, at_t, is_t, dt) = symbol_at i n a in
      let (u, at_u, is_u, du) = symbol_at j n b in
      order.is_order.is_order.once i j u (at_t ∙ ap Some (one_symbol k xs sections kind names sets are section apart keyword t u n dt du is_t is_u)) at_u

  -- and no other numbers than there are
  pub number_within : (i n : ℕ) → slice_get numbers i ≡ Some n → n < length names
  number_within i n e = let (t, at_t, is_t, dt) = symbol_at i n e in in_range names n _ is_t

  -- so it is no longer than there are names
  pub are_few : length numbers ≤ length names
  are_few = no_more_than numbers (length names) are_once number_within

  -- a word stands for what is at the place of a number for which it does, and back
  pub by_number : (places : List ℕ) → AreInverse numbers places → (w : ScopedWord) (n c : ℕ) → Contains (set_meant sets (meant_in k w)) n → get_or places n 0 ≡ c → IsItemAt xs (enabled_in k) kind order.row w c
  by_number places inverse w n c is_n place =
      let it : HasNumberFor xs (enabled_in k) kind (sections kind) w n = (has k xs sections kind names sets are section apart keyword w n).0 is_n in
      let numbered : IsNumbered names it.symbol n = subst (λ l. IsNumbered l it.symbol n) are.named it.numbered in
      let (p, within, at) = get_at order.row it.symbol ((order.is_order.is_order.items it.symbol).1 it.stands.declared) in
      let (m, at_m, is_m) = number_at p it.symbol at in
      let same : m ≡ n = one_number k xs sections kind names sets are section apart keyword it.symbol m n is_m numbered in
      let here : p ≡ c = sym (inverse p n (at_m ∙ ap Some same)) ∙ place in
      record { symbol = it.symbol; stands = it.stands; at = subst (λ z. slice_get order.row z ≡ Some it.symbol) here at }

  pub its_number : (places : List ℕ) → AreInverse numbers places → (w : ScopedWord) (c : ℕ) → IsItemAt xs (enabled_in k) kind order.row w c → (n : ℕ) × Contains (set_meant sets (meant_in k w)) n × (slice_get numbers c ≡ Some n) × (get_or places n 0 ≡ c)
  its_number places inverse w c it =
      let (n, at, is_n) = number_at c it.symbol it.at in (
        n,
        (has k xs sections kind names sets are section apart keyword w n).1 (record { symbol = it.symbol; stands = it.stands; numbered = subst (λ l. IsNumbered l it.symbol n) (sym are.named) is_n }),
        at,
        inverse c n at,
      )

  module _ (places : List ℕ) (inverse : AreInverse numbers places) (helds : List Held) (begun : AreBegun k.lookup.names.now sets places helds) (known : IsKnown k xs sections) (law : MeansWhatItNames) where
    entry_there : (w : ScopedWord) (d : ℕ) → meant_in k w ≡ Some d → d < length k.lookup.names.now
    entry_there w d means =
        let named : IsNamed k.lookup.namespaces.now xs k.lookup.names.now (enabled_in k) w d =
        subst (IsAnswer k.lookup.namespaces.now xs k.lookup.names.now (enabled_in k) w) means (law k.lookup.namespaces.now xs k.lookup.names.now (enabled_in k) w known.namespaces known.entries) in
        in_range k.lookup.names.now d named.entry named.at

    there_holds : (c n : ℕ) → slice_get numbers c ≡ Some n → (d : ℕ) (h : Held) → Contains (get_or sets d []) n → IsBegun k.lookup.names.now sets places d h → h ≡ Category c
    there_holds c n at d Nothing h is = absurd (contains_none n (subst (λ l. Contains l n) is.1 h))
    there_holds c n at d (Category p) h is =
        let same : is.1 ≡ n = only_one is.1 n (subst (λ l. Contains l n) is.2 h) in
        ap Category (sym is.3 ∙ ap (λ z. get_or places z 0) same ∙ inverse c n at)
    there_holds c n at d (Set set) h is = absurd (contains_none n (subst (λ l. Contains l n) is.1 h))

    pub stands_holds : (w : ScopedWord) (c : ℕ) → IsItemAt xs (enabled_in k) kind order.row w c → meant_held helds (meant_in k w) ≡ Category c
    stands_holds w c it =
        let (n, there, at, place) = its_number places inverse w c it in by n at (meant_in k w) refl there
      where
        by : (n : ℕ) → slice_get numbers c ≡ Some n → (r : Option ℕ) → meant_in k w ≡ r → Contains (set_meant sets r) n → meant_held helds r ≡ Category c
        by n at None e h = absurd (contains_none n h)
        by n at (Some d) e h = there_holds c n at d (get_or helds d Nothing) h (begun.each d (entry_there w d e))

    -- and back
    held_number : (d c : ℕ) (h : Held) → h ≡ Category c → IsBegun k.lookup.names.now sets places d h → (n : ℕ) × Contains (get_or sets d []) n × (get_or places n 0 ≡ c)
    held_number d c Nothing e is = absurd cc
    held_number d c (Category p) e is = (is.1, subst (λ l. Contains l is.1) (sym is.2) (contains_here is.1 []), is.3 ∙ same_category p c e)
    held_number d c (Set set) e is = absurd cc

    pub holds_stands : (w : ScopedWord) (c : ℕ) → meant_held helds (meant_in k w) ≡ Category c → IsItemAt xs (enabled_in k) kind order.row w c
    holds_stands w c e = by (meant_in k w) refl e where
      by : (r : Option ℕ) → meant_in k w ≡ r → meant_held helds r ≡ Category c → IsItemAt xs (enabled_in k) kind order.row w c
      by None means h = absurd (let f : Nothing ≡ Category c = h in cc)
      by (Some d) means h =
          let (n, is_n, place) = held_number d c (get_or helds d Nothing) h (begun.each d (entry_there w d means)) in
          by_number places inverse w n c (subst (λ o. Contains (set_meant sets o) n) (sym means) is_n) place
