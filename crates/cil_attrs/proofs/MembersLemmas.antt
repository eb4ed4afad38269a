-- The members of all sets of a name space.
use Rattle.std.proofs.Common.{◌≡◌, ℕ, Bool, true, false, ◌&&◌, ◌||◌, if◌then◌else◌, List, [], get_or, map, refl, sym, ◌∙◌, ap}
use Rattle.std.specs.Prelude.{IsPermutation, Option, Some, None}
use Rattle.std.specs.List.{list_any}
use Rattle.std.specs.Option.{option_map_or}
use Rattle.std.proofs.lemmas.Bool.{true≢false}
use Rattle.std.proofs.lemmas.List.Sorted.{Contains-permutation, IsPermutation-sym, list_any-IsPermutation}
use Rattle.std.proofs.lemmas.List.{append-nil}
use Rattle.std.proofs.lemmas.Simd.{map-map}
use Rattle.std.specs.Cmp.Lexicographic.{bytes_decides}
use Rattle.cil_syntax.specs.declared.kind.Kind.{Kind}
use Rattle.cil_syntax.specs.declared.term.Word.{Word}
use Rattle.cil_syntax.specs.Scopes.{ScopedWord}
use Rattle.cil_syntax.specs.Scopes.{same_space}
use Rattle.cil_syntax.specs.Spelling.{same_bytes}
use Rattle.cil_syntax.specs.Terms.{Term, cons, nil}
use Rattle.cil_syntax.proofs.DecidedEquality.{spaces_decide}
use Rattle.cil_syntax.proofs.KindLemmas.{one_kind}
use Rattle.cil_known.specs.macros.Item.{all_replaced, all_words_in, replaced, words_in}
use Rattle.cil_known.specs.macros.Items.{Kept, items_in, word_at}
use Rattle.cil_known.specs.names.Entry.{Entry}
use Rattle.cil_known.specs.declared.known.Known.{Known}
use Rattle.cil_known.specs.names.Declarations.{Symbol}
use Rattle.cil_known.specs.names.Entries.{is_declared_in}
use Rattle.cil_known.proofs.names_lemmas.ReadingLemmas.{words_of_terms}
use Rattle.cil_known.specs.Known.{enabled_in, value_in}
use Rattle.cil_known.specs.names.Resolves.{Word as AWord}
use Rattle.cil_known.specs.Spaces.{Sets, SpaceOf, any_sets, is_same_symbol}
use Rattle.cil_attrs.specs.declared.evaluator.Held.{Held}
use Rattle.cil_attrs.specs.declared.evaluator.Held.TheVariants.{Nothing, Set}
use Rattle.cil_attrs.specs.declared.evaluator.Held.TheVariants as holds
use Rattle.cil_attrs.specs.declared.giver.SetKind.{SetKind}
use Rattle.cil_attrs.specs.declared.giver.SpaceKinds.{SpaceKinds}
use Rattle.cil_attrs.specs.declared.making.Given.{Given}
use Rattle.cil_attrs.specs.Begun.{begun_as, has_kind, is_sets_kind}
use Rattle.cil_attrs.specs.Givers.{AreGifts, AreSets, HasKinds}
use Rattle.cil_attrs.specs.Holding.{is_kind}
use Rattle.cil_attrs.specs.Made.{AreSetsAt, HaveMeanings, is_made_by, said}
use Rattle.cil_attrs.proofs.HoldingLemmas.{pair}
use Rattle.cil_attrs.specs.Members.{AreBegun, meaning_there}
use Rattle.cil_attrs.specs.Plain.{ArePlain}
use Rattle.cil_attrs.proofs.PlainLemmas.{plain_wanted}

-- ---- words and symbols

pub words_across : (f : Word → ScopedWord) (t : Term Word) → words_in (replaced (λ at. at) f t) ≡ map f (words_in t)
unfolding all_replaced all_words_in
words_across f t = sym (append-nil (words_in (replaced (λ at. at) f t))) ∙ words_of_terms f (cons t nil) ∙ ap (map f) (append-nil (words_in t))

pub same_self : (a : Symbol) → is_same_symbol a a ≡ true
same_self a = pair (same_space a.space a.space) (same_bytes a.name a.name) ((spaces_decide a.space a.space).1 refl) ((bytes_decides a.name a.name).1 refl)

-- ---- kinds

pub kinds_of : (r : SpaceKinds) (which : SpaceOf) → HasKinds r which → (kind : Kind) → any_sets which (λ j. is_kind kind j.kind) ≡ is_sets_kind r kind
kinds_of r which is kind =
    ap (λ b. b || option_map_or (λ (j : Sets). is_kind kind j.kind) which.attributes false) (one r.aliases which.aliases is.aliases)
    ∙ ap (λ b. has_kind r.aliases kind || b) (one r.attributes which.attributes is.attributes)
  where
    one : (o : Option SetKind) (u : Option Sets) → AreSets o u → option_map_or (λ (j : Sets). is_kind kind j.kind) u false ≡ has_kind o kind
    one None None are = refl
    one None (Some j) are = absurd are
    one (Some q) None are = absurd are
    one (Some q) (Some j) are = ap (is_kind kind) are.kind

-- a declared set holds a set at first
pub begun_set : (r : SpaceKinds) (s : ℕ → Bool) (numbers : List ℕ) (d : ℕ) (e : Entry) → is_sets_kind r r.item ≡ false → is_sets_kind r e.kind ≡ true → begun_as r s numbers d e ≡ Set []
begun_set r s numbers d e apart sets = by (is_kind e.kind r.item) refl
  where
    by : (b : Bool) → is_kind e.kind r.item ≡ b
        → (if is_kind e.kind r.item && is_declared_in s e then holds.Item (get_or numbers d 0) else (if is_sets_kind r e.kind then Set [] else Nothing)) ≡ Set []
    by true t = absurd (true≢false (sym sets ∙ ap (is_sets_kind r) (one_kind e.kind r.item t) ∙ apart))
    by false f =
        ap (λ b. if b && is_declared_in s e then holds.Item (get_or numbers d 0) else (if is_sets_kind r e.kind then Set [] else Nothing)) f
        ∙ ap (λ b. if b then Set [] else Nothing) sets

module _ (k : Known) (i : Kept) (r : SpaceKinds) (which : SpaceOf) (is : HasKinds r which) (apart : is_sets_kind r r.item ≡ false) (first : List Held) (are : AreBegun k i r first) (givens : List Given)
    (gifts : AreGifts k (items_in i) which i (items_in i) givens) where
  pub gifts_sets : AreSetsAt first givens
  gifts_sets g c =
      let gift = (gifts.there g c).1 in
      let e = gift.set.entry in
      let sets = sym (kinds_of r which is e.kind) ∙ gift.set.of_kind in
      ([], are g.set e gift.set.at ∙ ap Some (begun_set r (enabled_in k) k.numbers.now g.set e apart sets))

  pub gifts_mean : ArePlain givens → HaveMeanings (meaning_there k i) givens
  gifts_mean plain g c =
      let gift = (gifts.there g c).1 in
      let f = word_at i g.at in
      gift.words
      ∙ ap (map (value_in k)) (plain_wanted f (said g) (plain g c) ∙ ap (map AWord) (words_across f (said g)))
      ∙ ap (map (value_in k)) (map-map AWord f (words_in (said g)))
      ∙ map-map (value_in k) (λ w. AWord (f w)) (words_in (said g))

-- the same statements in another order
pub made_in_order : (g : Given → Word → Option ℕ) (held : List Held) (all : List ℕ) (d v : ℕ) (givens ordered : List Given) → IsPermutation givens ordered
    → list_any (is_made_by g held all d v) ordered ≡ list_any (is_made_by g held all d v) givens
made_in_order g held all d v givens ordered p = sym (list_any-IsPermutation (is_made_by g held all d v) givens ordered p)

pub meanings_in_order : (g : Given → Word → Option ℕ) (givens ordered : List Given) → IsPermutation givens ordered → HaveMeanings g givens → HaveMeanings g ordered
meanings_in_order g givens ordered p have x c = have x (Contains-permutation ordered givens x (IsPermutation-sym givens ordered p) c)
