-- The numbers of declared symbols, and of those for which words stand.
use Rattle.std.specs.Prelude.{Contains, Some}
use Rattle.std.specs.Ordering.{nat_cmp}
use Rattle.std.proofs.Common.{◌≡◌, ℕ, ◌<◌, true, List, [], length, get_or, sym, ◌∙◌, ap, subst}
use Rattle.cil_base.specs.Lists.{Lists, contains_none}
use Rattle.cil_base.specs.Places.{get_at, get_contains, some_at}
use Rattle.cil_base.proofs.NameSearches.{number_is}
use Rattle.cil_syntax.specs.declared.kind.Kind.{Kind}
use Rattle.cil_syntax.specs.Scopes.{ScopedWord}
use Rattle.cil_names.specs.macros.Item.{Item}
use Rattle.cil_known.specs.declared.known.Known.{Known}
use Rattle.cil_names.specs.Declarations.{Declared, Symbol, name_of}
use Rattle.cil_known.specs.Known.{HasNumberFor, IsKnown, IsNumbered, StandsForNothing, enabled_in}
use Rattle.cil_known.specs.Members.{StandsFor}
use Rattle.cil_known.specs.Numbers.{has_section}
use Rattle.cil_names.specs.Symbols.{symbol_of}
use Rattle.cil_names.proofs.DeclareDecided.{symbol_by}

module _ (k : Known) (xs : List Item) (names : Kind → List (List ℕ)) (known : IsKnown k xs names) (kind : Kind) (section : has_section kind ≡ true) where
  -- a declared symbol has a number, that of its entry
  pub its_number : (t : Symbol) → Declared xs (enabled_in k) kind t → (n : ℕ) × IsNumbered (names kind) t n
  its_number t d =
      let (i, f) = known.entries.each (enabled_in k) d.declaration d.declares in
      let of_kind = f.of_kind ∙ d.of_kind in
      let number = get_or k.numbers.now i 0 in
      let symbol = symbol_by (symbol_of k.lookup.namespaces.now f.entry) t (f.in_space ∙ d.in_space) (f.of_name ∙ d.of_name) in (
        number,
        subst (λ u. IsNumbered (names kind) u number) symbol
            (subst (λ j. IsNumbered (names j) (symbol_of k.lookup.namespaces.now f.entry) number) of_kind (known.numbered.at i f.entry f.at (ap has_section of_kind ∙ section) f.live)),
      )

  -- a number below the count of the names is that of a declared symbol
  pub its_symbol : (n : ℕ) → n < length (names kind) → (t : Symbol) × Declared xs (enabled_in k) kind t × IsNumbered (names kind) t n
  its_symbol n below =
      let (name, at) = some_at (names kind) n below in
      let among = ((known.numbered.lists kind section).members name).0 (get_contains (names kind) n name at) in
      let (i, within, there) = get_at k.lookup.names.now among.entry among.among in
      let (x, is_x, has_kind, in_space, of_name) = known.entries.only (enabled_in k) i among.entry there among.live in (
        symbol_of k.lookup.namespaces.now among.entry,
        record { declaration = x; declares = is_x; of_kind = has_kind ∙ among.of_kind; in_space = in_space; of_name = of_name },
        at ∙ ap Some (sym among.spelled),
      )

  -- and it has one number
  pub one_number : (t : Symbol) (n m : ℕ) → IsNumbered (names kind) t n → IsNumbered (names kind) t m → n ≡ m
  one_number t n m at bt = (number_is (names kind) (name_of t) m bt (known.numbered.lists kind section).rising).only n at

  module _ (w : ScopedWord) (numbers : List ℕ) (are : Lists nat_cmp (HasNumberFor xs (enabled_in k) kind (names kind) w) numbers) where
    -- a word stands for nothing if it stands for no number
    pub nothing_stands : numbers ≡ [] → StandsForNothing xs (enabled_in k) kind w
    nothing_stands empty t stands =
        let (n, at) = its_number t stands.declared in
        contains_none n (subst (λ ns. Contains ns n) empty ((are.members n).1 (record { symbol = t; stands = stands; numbered = at })))

    -- and for something if it stands for one
    pub something_stands : (n : ℕ) → Contains numbers n → (t : Symbol) × StandsFor xs (enabled_in k) kind w t
    something_stands n c = let h = (are.members n).0 c in (h.symbol, h.stands)
