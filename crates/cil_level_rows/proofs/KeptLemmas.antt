-- The ranges of users by their numbers, and that the user of a number has the range that is kept for it.
use Rattle.std.specs.Prelude.{All, None, Option, Some, map, set, slice_get}
use Rattle.std.proofs.Common.{◌≡◌, ◌↔◌, ◌==◌, ℕ, zero, suc, ◌+◌, ◌<◌, Bool, true, false, List, [], ◌∷◌, ◌++◌, get_or, length, take, refl, sym, ◌∙◌, ap, subst, inl, inr, arith}
use Rattle.std.proofs.lemmas.Bool.{and_parts, cases_Bool, true≢false}
use Rattle.std.proofs.lemmas.Bool.Decides.{nat_tests}
use Rattle.std.proofs.lemmas.List.{get_or-set_other, get_or-set_same, take_more}
use Rattle.std.proofs.lemmas.Option.{same_Some}
use Rattle.cil_base.specs.Places.{in_range, get_so, none_some, some_same}
use Rattle.cil_syntax.specs.declared.kind.Kind.{Kind}
use Rattle.cil_syntax.specs.declared.kind.Kind.TheVariants as kinds
use Rattle.cil_syntax.proofs.KindLemmas.{one_kind}
use Rattle.cil_macros.specs.Item.{Item}
use Rattle.cil_names.specs.declared.entry.Entry.{Entry}
use Rattle.cil_names.specs.Declarations.{Declared, Symbol}
use Rattle.cil_names.specs.Entries.{is_declared_in}
use Rattle.cil_names.specs.Symbols.{is_of, symbol_of}
use Rattle.cil_names.proofs.DeclareDecided.{symbol_by}
use Rattle.cil_known.specs.declared.known.Known.{Known}
use Rattle.cil_known.specs.Known.{IsKnown, IsNumbered, enabled_in}
use Rattle.cil_known.specs.Numbers.{AreApart, has_section}
use Rattle.cil_known.proofs.StandingLemmas as standings
use Rattle.cil_ranges.specs.attrs.Targets.{IsEntryAt}
use Rattle.cil_mls.specs.declared.level.Range.{Range}
use Rattle.cil_mls.specs.OrderFaults.{Switches}
use Rattle.cil_ranges.proofs.levels_crate_lemmas.BegunLemmas.{all_more}
use Rattle.cil_ranges.specs.Levels.{Ground}
use Rattle.cil_ranges.specs.Steps.{AreUserRanges}
use Rattle.cil_ranges.specs.Users.{GivesRange, IsSameRange}
use Rattle.cil_level_rows.specs.KeptRanges.{AreAllKept, AreKept, AreKeptWhere, AreRangeWords, IsKeptRange}
use Rattle.cil_level_rows.specs.Rows.{AreRangeRows, HasRange}

-- one more of which something is true
pub all_upto : {X : Type 0} (P : X → Type 0) (xs : List X) (k : ℕ) (x d : X) → k < length xs → x ≡ get_or xs k d → P x → All P (take k xs) → All P (take (k + 1) xs)
all_upto P xs k x d within is p all = subst (All P) (sym (take_more xs k d within ∙ ap (λ y. take k xs ++ y ∷ []) (sym is))) (all_more P (take k xs) x all p)

-- ---- by numbers

same_number : (a b : ℕ) → (a == b) ≡ true → a ≡ b
same_number a b e = grind (arith, nat_tests)

other_number : (a b : ℕ) → (a == b) ≡ false → a ≡ b → ⊥
other_number a b e f = grind (arith, nat_tests)

module _ (k : Known) (ranges : List (Option Range)) where
  pub none_kept : (kept : List (Option Range)) → ((n : ℕ) → get_or kept n None ≡ None) → AreKept k ranges kept
  none_kept kept none n r e = absurd (none_some r (sym (none n) ∙ e))

  -- the range of one user
  pub one_kept : (d : ℕ) (e : Entry) → slice_get k.lookup.names.now d ≡ Some e → is_of (enabled_in k) kinds.User e ≡ true → (number : ℕ) → get_or k.numbers.now d 0 ≡ number
      → (kept : List (Option Range)) → number < length kept → (range : Option Range) → range ≡ get_or ranges d None → AreKept k ranges kept → AreKept k ranges (set kept number range)
  one_kept d e at is_user number numbered kept within range is are n r h = elim (cases_Bool (n == number)) [
    | inl t ↦
        let same = same_number n number t in
        let here : range ≡ Some r = sym (get_or-set_same kept number range None within) ∙ sym (ap (λ m. get_or (set kept number range) m None) same) ∙ h in
        record { place = d; entry = e; at = at; is_user = is_user; number = numbered ∙ sym same; range = sym is ∙ here }
    | inr f ↦ are n r (sym (get_or-set_other kept number n range None (other_number n number f)) ∙ h)
  ]

  -- each of which one is kept, one after another
  pub all_kept : (count : ℕ) (kept : List (Option Range)) (rows : List Range) → length kept ≡ count → AreKept k ranges kept → map Some rows ≡ kept → All AreRangeWords rows → AreAllKept k ranges count rows
  all_kept count kept rows len are same fit = record {
    len = sym (mapped_length rows) ∙ ap length same ∙ len;
    each = λ n r at. are n r (ap (λ l. get_or l n None) (sym same) ∙ mapped_at rows n r at);
    fit = fit;
  }
    where
      mapped_length : (rs : List Range) → length (map Some rs) ≡ length rs
      mapped_length [] = refl
      mapped_length (r ∷ rs) = ap suc (mapped_length rs)

      mapped_at : (rs : List Range) (n : ℕ) (r : Range) → slice_get rs n ≡ Some r → get_or (map Some rs) n None ≡ Some r
      mapped_at [] n r e = absurd (none_some r e)
      mapped_at (x ∷ rs) zero r e = e
      mapped_at (x ∷ rs) (suc n) r e = mapped_at rs n r e

-- ---- what users have

module _ (k : Known) (xs : List Item) (sections : Kind → List (List ℕ)) (known : IsKnown k xs sections) (apart : AreApart k.lookup.names.now (enabled_in k) k.numbers.now) where
  -- the entry of a number is that of each user that has the number
  users_entry : (user : Symbol) (n place : ℕ) (e : Entry) → Declared xs (enabled_in k) kinds.User user → IsNumbered (sections kinds.User) user n
      → slice_get k.lookup.names.now place ≡ Some e → is_of (enabled_in k) kinds.User e ≡ true → get_or k.numbers.now place 0 ≡ n → symbol_of k.lookup.namespaces.now e ≡ user
  users_entry user n place e declared numbered at is_user number =
      let parts = and_parts _ (is_declared_in (enabled_in k) e) is_user in
      let kind : e.kind ≡ kinds.User = one_kind e.kind kinds.User parts.0 in
      let (i, f) = known.entries.each (enabled_in k) declared.declaration declared.declares in
      let of_kind : f.entry.kind ≡ kinds.User = f.of_kind ∙ declared.of_kind in
      let symbol : symbol_of k.lookup.namespaces.now f.entry ≡ user = symbol_by (symbol_of k.lookup.namespaces.now f.entry) user (f.in_space ∙ declared.in_space) (f.of_name ∙ declared.of_name) in
      let section : has_section f.entry.kind ≡ true = ap has_section of_kind in
      let own : IsNumbered (sections kinds.User) user (get_or k.numbers.now i 0) =
      subst (λ u. IsNumbered (sections kinds.User) u (get_or k.numbers.now i 0)) symbol
      (subst (λ j. IsNumbered (sections j) (symbol_of k.lookup.namespaces.now f.entry) (get_or k.numbers.now i 0)) of_kind (known.numbered.at i f.entry f.at section f.live)) in
      let same_number : get_or k.numbers.now i 0 ≡ get_or k.numbers.now place 0 = standings.one_number k xs sections known kinds.User refl user (get_or k.numbers.now i 0) n own numbered ∙ sym number in
      let here : i ≡ place = apart i place f.entry e f.at at (of_kind ∙ sym kind) section f.live parts.1 same_number in
      let one : e ≡ f.entry = same_Some e f.entry (sym at ∙ ap (slice_get k.lookup.names.now) (sym here) ∙ f.at) in
      ap (symbol_of k.lookup.namespaces.now) one ∙ symbol

  module _ (g : Ground) (ranges : List (Option Range)) (are : AreUserRanges k g ranges) where
    pub has_range : (user : Symbol) (n : ℕ) (r : Range) → Declared xs (enabled_in k) kinds.User user → IsNumbered (sections kinds.User) user n → IsKeptRange k ranges n r → HasRange xs (enabled_in k) g user r
    has_range user n r declared numbered kept =
        let symbol = users_entry user n kept.place kept.entry declared numbered kept.at kept.is_user kept.number in
        let parts = and_parts _ (is_declared_in (enabled_in k) kept.entry) kept.is_user in
        let entry : IsEntryAt k.lookup.namespaces.now k.lookup.names.now kinds.User kept.place user = record { entry = kept.entry; at = kept.at; of_kind = one_kind kept.entry.kind kinds.User parts.0; symbol = symbol } in
        let (x, to) = are.each kept.place r kept.range in
        let same_entry = same_Some to.entry.entry kept.entry (sym to.entry.at ∙ kept.at) in
        let same_user : to.user ≡ user = sym to.entry.symbol ∙ ap (symbol_of k.lookup.namespaces.now) same_entry ∙ symbol in
        record {
          item = x;
          word = to.word;
          gives = subst (λ u. GivesRange (enabled_in k) g u x to.word r) same_user to.gives;
          only = λ y w p gives.
              let (q, is_q, same) = are.every y kept.place p (record { user = user; entry = entry; word = w; gives = gives }) in
              subst (λ o. IsSameRange o p) (some_same q r (sym is_q ∙ kept.range)) same;
        }

    pub range_rows : (users : List (List ℕ)) (are_on : Bool) (rows : List Range) → sections kinds.User ≡ users → ((are_on ≡ true) ↔ Switches xs (enabled_in k) true) → AreKeptWhere k ranges are_on (length users) rows
        → AreRangeRows xs (enabled_in k) g users rows
    range_rows users are_on rows named on kept = by are_on refl where
      by : (b : Bool) → are_on ≡ b → AreRangeRows xs (enabled_in k) g users rows
      by false e =
          let none = kept.off e in record {
            off = λ off. none;
            on = λ sw. absurd (true≢false (sym (on.1 sw) ∙ e));
            each = λ n r at. absurd (none_some r (ap (λ l. slice_get l n) (sym none) ∙ at));
          }
      by true e =
          let all = kept.on e in record {
            off = λ off. absurd (off (on.0 e));
            on = λ sw. all.len;
            each = λ n r at.
                let words = all.fit n r (in_range rows n r at) in
                let own = get_so rows n r r at in record {
                  has = λ user declared numbered. has_range user n r declared (subst (λ l. IsNumbered l user n) (sym named) numbered) (all.each n r at);
                  low = (subst AreRangeWords own words).low;
                  high = (subst AreRangeWords own words).high;
                };
          }
