-- The order of items by the numbers that they have.
use Rattle.std.specs.Prelude.{Contains, IfOk, MatchOption, None, Option, Some, slice_get}
use Rattle.std.proofs.Common.{Result, Ok, Err, ◌≡◌, ◌↔◌, ◌⊎◌, ℕ, zero, suc, ◌<◌, true, List, [], ◌∷◌, get_or, length, map, refl, sym, ◌∙◌, ap, subst, inl, inr, arith}
use Rattle.std.proofs.lemmas.List.{length-map}
use Rattle.std.proofs.lemmas.Option.{none-some, same_Some}
use Rattle.cil_base.specs.Places.{get_contains}
use Rattle.cil_attrs.specs.macros.blocks.Namespaces.{space_at}
use Rattle.cil_settle.specs.declared.edge.Edge.{Edge}
use Rattle.cil_settle.specs.Cycles.{IsWithin, Leads}
use Rattle.cil_syntax.specs.declared.kind.Keyword.{Keyword}
use Rattle.cil_syntax.specs.declared.kind.Kind.{Kind}
use Rattle.cil_syntax.specs.Scopes.{ScopedWord}
use Rattle.cil_attrs.specs.macros.Item.{Item, OptSet}
use Rattle.cil_attrs.proofs.names_lemmas.DeclareDecided.{symbol_by}
use Rattle.cil_attrs.proofs.known_lemmas.StandingLemmas as standings
use Rattle.cil_attrs.specs.names.Entry.{Entry}
use Rattle.cil_attrs.specs.known.DeclaredKnown.{Known}
use Rattle.cil_attrs.specs.names.Declarations.{Declared, Symbol, name_of}
use Rattle.cil_attrs.specs.names.Entries.{IsEntryFor}
use Rattle.cil_attrs.specs.known.Known.{HasNumberFor, IsNumbered, enabled_in, meant_in, set_meant}
use Rattle.cil_attrs.specs.known.Members.{StandsFor}
use Rattle.cil_attrs.specs.known.Numbers.{AreApart, has_section, spelled_of}
use Rattle.cil_attrs.specs.names.Symbols.{symbol_of}
use Rattle.cil_mls.specs.Edges.{IsFixed, IsNotFixed}
use Rattle.cil_mls.specs.Ordering.{AreNumbered, HasNoOrder, IsBelow, IsNumberedOrder}
use Rattle.cil_mls.specs.Pairs.{IsPairIn}
use Rattle.cil_mls.proofs.SymbolLemmas.{Stand, fixed_of_items, get_unmap, not_fixed_of_items}

below_or_not : (n count : ℕ) → (n < count) ⊎ (n < count → ⊥)
below_or_not n zero = inr (λ l. omega (arith, l))
below_or_not zero (suc c) = inl (omega arith)
below_or_not (suc n) (suc c) = elim (below_or_not n c) [ inl l ↦ inl (omega (arith, l)) | inr f ↦ inr (λ l. f (omega (arith, l))) ]

within : {X : Type 0} (xs : List X) (i : ℕ) (x : X) → slice_get xs i ≡ Some x → i < length xs
within [] i x e = absurd (none-some x e)
within (y ∷ ys) zero x e = omega arith
within (y ∷ ys) (suc i) x e = let l = within ys i x e in omega (arith, l)

module _ (k : Known) (xs : List Item) (sections : Kind → List (List ℕ)) (kind : Kind) (names : List (List ℕ)) (sets : List (List ℕ)) (are : AreNumbered k xs sections kind names sets)
    (section : has_section kind ≡ true) (apart : AreApart k.lookup.names.now (enabled_in k) k.numbers.now) (order : Keyword) where
  abbrev s : OptSet
  s = enabled_in k

  numbered_in : (t : Symbol) (n : ℕ) → IsNumbered (sections kind) t n → IsNumbered names t n
  numbered_in t n e = subst (λ l. IsNumbered l t n) are.named e

  numbered_out : (t : Symbol) (n : ℕ) → IsNumbered names t n → IsNumbered (sections kind) t n
  numbered_out t n e = subst (λ l. IsNumbered l t n) (sym are.named) e

  -- a declared symbol has a number
  pub its_number : (t : Symbol) → Declared xs s kind t → (n : ℕ) × (n < length names) × IsNumbered names t n
  its_number t d =
      let (n, at) = standings.its_number k xs sections are.known kind section t d in
      let here = numbered_in t n at in (n, within names n (name_of t) here, here)

  -- a number is that of a declared symbol
  its_symbol : (n : ℕ) → n < length names → (t : Symbol) × Declared xs s kind t × IsNumbered names t n
  its_symbol n l =
      let (t, d, at) = standings.its_symbol k xs sections are.known kind section n (let e = ap length are.named in omega (arith, l, e)) in (t, d, numbered_in t n at)

  pub one_number : (t : Symbol) (n m : ℕ) → IsNumbered names t n → IsNumbered names t m → n ≡ m
  one_number t n m a b = standings.one_number k xs sections are.known kind section t n m (numbered_out t n a) (numbered_out t m b)

  -- the entry of a declared symbol
  its_entry : (c : Symbol) → Declared xs s kind c → (d : ℕ) × IsEntryFor k.lookup.namespaces.now k.lookup.names.now s kind c.space c.name d
  its_entry c declared =
      let (i, f) = are.known.entries.each s declared.declaration declared.declares in (
        i,
        record {
          entry = f.entry;
          at = f.at;
          of_kind = f.of_kind ∙ declared.of_kind;
          in_space = f.in_space ∙ declared.in_space;
          of_name = f.of_name ∙ declared.of_name;
          live = f.live;
        },
      )

  entry_number : (i : ℕ) (c : Symbol) (f : IsEntryFor k.lookup.namespaces.now k.lookup.names.now s kind c.space c.name i) → IsNumbered names c (get_or k.numbers.now i 0)
  entry_number i c f =
      let at = are.known.numbered.at i f.entry f.at (ap has_section f.of_kind ∙ section) f.live in
      let spelled : spelled_of k.lookup.namespaces.now f.entry ≡ name_of c = ap name_of (symbol_by (symbol_of k.lookup.namespaces.now f.entry) c f.in_space f.of_name) in
      numbered_in c (get_or k.numbers.now i 0) (subst (λ j. slice_get (sections j) (get_or k.numbers.now i 0) ≡ Some (spelled_of k.lookup.namespaces.now f.entry)) f.of_kind at ∙ ap Some spelled)

  -- declared symbols of one number are one
  pub one_symbol : (c d : Symbol) (n : ℕ) → Declared xs s kind c → Declared xs s kind d → IsNumbered names c n → IsNumbered names d n → c ≡ d
  one_symbol c d n first second at_c at_d =
      let (i, f) = its_entry c first in
      let (j, g) = its_entry d second in
      let number : get_or k.numbers.now i 0 ≡ get_or k.numbers.now j 0 =
      one_number c (get_or k.numbers.now i 0) n (entry_number i c f) at_c ∙ one_number d n (get_or k.numbers.now j 0) at_d (entry_number j d g) in
      let place : i ≡ j = apart i j f.entry g.entry f.at g.at (f.of_kind ∙ sym g.of_kind) (ap has_section f.of_kind ∙ section) f.live g.live number in
      let one : f.entry ≡ g.entry = same_Some f.entry g.entry (sym f.at ∙ ap (slice_get k.lookup.names.now) place ∙ g.at) in
      symbol_by c d (sym f.in_space ∙ ap (λ (x : Entry). space_at k.lookup.namespaces.now x.space) one ∙ g.in_space) (sym f.of_name ∙ ap (λ (x : Entry). x.name) one ∙ g.of_name)

  -- ---- pairs

  pub has : (w : ScopedWord) (n : ℕ) → Contains (set_meant sets (meant_in k w)) n ↔ HasNumberFor xs s kind (sections kind) w n
  has w n = (are.standing w).members n

  pair_below : (a b : ℕ) (t u : Symbol) → Declared xs s kind t → Declared xs s kind u → IsNumbered names t a → IsNumbered names u b → IsPairIn k sets order xs a b ↔ IsBelow xs s kind order t u
  pair_below a b t u dt du at_t at_u = (
    (λ (x, c, p).
        let low = (has p.low a).0 p.low_has in
        let high = (has p.high b).0 p.high_has in
        record {
          item = x;
          is_item = c;
          enabled = p.enabled;
          orders = p.orders;
          words = p.words;
          says = p.says;
          place = p.place;
          low = p.low;
          high = p.high;
          is_low = p.is_low;
          is_high = p.is_high;
          names_low = subst (StandsFor xs s kind p.low) (one_symbol low.symbol t a low.stands.declared dt (numbered_in low.symbol a low.numbered) at_t) low.stands;
          names_high = subst (StandsFor xs s kind p.high) (one_symbol high.symbol u b high.stands.declared du (numbered_in high.symbol b high.numbered) at_u) high.stands;
        }),
    (λ p. (
      p.item,
      p.is_item,
      record {
        enabled = p.enabled;
        orders = p.orders;
        words = p.words;
        says = p.says;
        place = p.place;
        low = p.low;
        high = p.high;
        is_low = p.is_low;
        is_high = p.is_high;
        low_has = (has p.low a).1 (record { symbol = t; stands = p.names_low; numbered = numbered_out t a at_t });
        high_has = (has p.high b).1 (record { symbol = u; stands = p.names_high; numbered = numbered_out u b at_u });
      },
    )),
  )

  -- edges lead from numbers of items to such numbers
  pub edges_within : (edges : List Edge) → ((a b : ℕ) → Leads edges a b ↔ IsPairIn k sets order xs a b) → (e : Edge) → Contains edges e → IsWithin (length names) e
  edges_within edges lead e c =
      let (x, d, p) = (lead e.from e.to).0 (record { edge = e; is_edge = c; from_a = refl; to_b = refl }) in
      let low = (has p.low e.from).0 p.low_has in
      let high = (has p.high e.to).0 p.high_has in
      record {
        from_node = within names e.from (name_of low.symbol) (numbered_in low.symbol e.from low.numbered);
        to_node = within names e.to (name_of high.symbol) (numbered_in high.symbol e.to high.numbered);
      }

  -- ---- the order

  symbol_there : (n : ℕ) → (n < length names) ⊎ (n < length names → ⊥) → Symbol
  symbol_there n (inl l) = (its_symbol n l).0
  symbol_there n (inr f) = record { space = []; name = [] }

  symbol_at : ℕ → Symbol
  symbol_at n = symbol_there n (below_or_not n (length names))

  there_is : (n : ℕ) → n < length names → (o : (n < length names) ⊎ (n < length names → ⊥)) → Declared xs s kind (symbol_there n o) × IsNumbered names (symbol_there n o) n
  unfolding symbol_there
  there_is n l (inl m) = ((its_symbol n m).1, (its_symbol n m).2)
  there_is n l (inr f) = absurd (f l)

  symbol_is : (n : ℕ) → n < length names → Declared xs s kind (symbol_at n) × IsNumbered names (symbol_at n) n
  unfolding symbol_at
  symbol_is n l = there_is n l (below_or_not n (length names))

  module _ (edges : List Edge) (lead : (a b : ℕ) → Leads edges a b ↔ IsPairIn k sets order xs a b) where
    stand : Stand (Declared xs s kind) (IsBelow xs s kind order) symbol_at (length names) edges
    stand = record {
      items = λ i l. (symbol_is i l).0;
      number = λ t d.
          let (n, l, at) = its_number t d in
          let (e, bt) = symbol_is n l in (n, l, one_symbol (symbol_at n) t n e d bt at);
      one = λ i j l m same. one_number (symbol_at j) i j (subst (λ u. IsNumbered names u i) same (symbol_is i l).1) (symbol_is j m).1;
      below = λ i j l m.
          let (d, at) = symbol_is i l in
          let (e, bt) = symbol_is j m in
          let pair = pair_below i j (symbol_at i) (symbol_at j) d e at bt in (
            (λ q. pair.0 ((lead i j).0 q)),
            (λ b. (lead i j).1 (pair.1 b)),
          );
    }

    pub no_order : IsNotFixed (length names) edges → HasNoOrder xs s kind order
    no_order none = not_fixed_of_items (Declared xs s kind) (IsBelow xs s kind order) symbol_at (length names) edges stand none

    pub the_order : (numbers : List ℕ) → IsFixed (length names) edges numbers → IsNumberedOrder xs s kind order names numbers
    the_order numbers fixed = record {
      row = map symbol_at numbers;
      is_order = fixed_of_items (Declared xs s kind) (IsBelow xs s kind order) symbol_at (length names) edges stand numbers fixed;
      len = sym (length-map numbers symbol_at);
      each = λ i n t at bt.
          let (m, cm, same) = get_unmap symbol_at numbers i t bt in
          let one : m ≡ n = same_Some m n (sym cm ∙ at) in
          let low = (fixed.is_order.items n).0 (get_contains numbers i n at) in
          subst (λ u. IsNumbered names u n) (ap symbol_at (sym one) ∙ same) (symbol_is n low).1;
    }

    module _ {V E : Type 0} (items : V → List ℕ) where
      pub answers_so : (r : Result (Option V) E) → IfOk r (λ o. MatchOption o (IsNotFixed (length names) edges) (λ row. IsFixed (length names) edges (items row)))
          → IfOk r (λ o. MatchOption o (HasNoOrder xs s kind order) (λ row. IsNumberedOrder xs s kind order names (items row)))
      answers_so (Err e) h = tt
      answers_so (Ok None) h = no_order h
      answers_so (Ok (Some v)) h = the_order (items v) h
