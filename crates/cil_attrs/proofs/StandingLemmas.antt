-- What words stand for, by what declared names hold.
use Rattle.std.proofs.Common.{◌≡◌, ◌⊎◌, ◌↔◌, ℕ, zero, suc, ◌+◌, ◌<◌, ◌≤◌, Bool, true, false, ◌&&◌, ◌||◌, ◌==◌, List, [], ◌∷◌, ◌++◌, get_or, length, refl, sym, ◌∙◌, ap, subst, inl, inr, arith}
use Rattle.std.specs.Prelude.{Contains, Option, Some, None, slice_get}
use Rattle.std.specs.List.Sorted.{IsStrictlySortedBy}
use Rattle.std.specs.Option.{option_map_or}
use Rattle.std.specs.Ordering.{nat_cmp}
use Rattle.std.proofs.Math.Seq.{get_or-append_seam}
use Rattle.std.proofs.lemmas.List.{get_or_append_left}
use Rattle.std.proofs.lemmas.Bool.Decides.{nat_tests}
use Rattle.std.proofs.lemmas.Option.{none-some}
use Rattle.cil_base.specs.Among.{equal_number}
use Rattle.cil_base.specs.Lists.{Lists, contains_none}
use Rattle.cil_base.specs.Places.{in_range}
use Rattle.cil_syntax.specs.declared.kind.Kind.{Kind}
use Rattle.cil_syntax.specs.Scopes.{ScopedWord}
use Rattle.cil_known.specs.macros.Item.{Item}
use Rattle.cil_known.specs.declared.known.Known.{Known}
use Rattle.cil_syntax.specs.declared.kind.Kind.TheVariants as kinds
use Rattle.cil_syntax.proofs.KindLemmas.{one_kind}
use Rattle.cil_known.specs.names.Entry.{Entry}
use Rattle.cil_known.specs.names.Declarations.{Declared, Symbol, name_of}
use Rattle.cil_known.specs.names.Entries.{is_declared_in}
use Rattle.cil_known.specs.Spaces.{Sets, any_sets, is_declared, is_same_symbol, is_set}
use Rattle.cil_known.specs.Family.{holds, no_range}
use Rattle.cil_known.specs.Known.{AreStanding, HaveMembers, IsKnown, IsMemberNumber, IsNumbered, enabled_in, meant_in, set_meant}
use Rattle.cil_known.specs.names.Laws.{MeansWhatItNames}
use Rattle.cil_known.specs.Members.{space_of}
use Rattle.cil_known.specs.Numbers.{has_section}
use Rattle.cil_known.specs.names.Symbols.{symbol_of}
use Rattle.cil_known.proofs.FamilyLemmas.{one_family, stands_is}
use Rattle.cil_known.proofs.MemberLemmas.{declared_is, item_of}
use Rattle.cil_known.proofs.StandingLemmas.{its_symbol}
use Rattle.cil_attrs.specs.declared.evaluator.Held.{Held}
use Rattle.cil_attrs.specs.declared.evaluator.Held.TheVariants.{Nothing, Item as HeldItem, Set}
use Rattle.cil_attrs.specs.Evaluated.{has_meant, is_held}
use Rattle.cil_attrs.specs.Holding.{IsItem, is_kind, stands}
use Rattle.cil_attrs.specs.Members.{AreMembers}
use Rattle.cil_attrs.specs.Standing.{AreAllBelow, AreBelow}
use Rattle.cil_attrs.proofs.EvaluatedLemmas.{among_is}
use Rattle.cil_attrs.proofs.HoldingLemmas.{word_holds}

either_so : (a b c d : Bool) → (a ≡ true → c ≡ true) → (b ≡ true → d ≡ true) → (a || b) ≡ true → (c || d) ≡ true
either_so true b true d f g h = refl
either_so true b false d f g h = absurd (let e : false ≡ true = f refl in cc)
either_so false b true d f g h = refl
either_so false b false d f g h = g h

-- ---- what is held below a number

none_rise : IsStrictlySortedBy nat_cmp []
unfolding IsStrictlySortedBy
none_rise = tt

pub number_equal : (a b : ℕ) → a ≡ b → (a == b) ≡ true
number_equal a b e = grind (arith, nat_tests)

module _ (items : ℕ) (all : List ℕ) (below : Lists nat_cmp (λ v. v < items) all) where
  pub nothing_below : AreBelow items Nothing []
  nothing_below = record { rising = none_rise; members = λ v. (λ c. absurd (contains_none v c), λ h. let e : false ≡ true = h.0 in cc) }

  pub other_below : (n : ℕ) → (Contains all n → ⊥) → AreBelow items (HeldItem n) []
  other_below n out = record {
    rising = none_rise;
    members = λ v. (λ c. absurd (contains_none v c), λ h. absurd (out ((below.members n).1 (subst (λ k. k < items) (sym (equal_number n v h.0)) h.1))));
  }

  pub number_below : (n : ℕ) (set : List ℕ) → Contains all n → Lists nat_cmp (λ v. Contains [] v ⊎ (v ≡ n)) set → AreBelow items (HeldItem n) set
  number_below n set within one = record {
    rising = one.rising;
    members = λ v. (
      λ c. elim ((one.members v).0 c) [
        | inl d ↦ absurd (contains_none v d)
        | inr e ↦ (number_equal n v (sym e), subst (λ k. k < items) (sym e) ((below.members n).0 within))
      ],
      λ h. (one.members v).1 (inr (sym (equal_number n v h.0))),
    );
  }

  pub set_below : (numbers set : List ℕ) → Lists nat_cmp (λ v. Contains numbers v × Contains all v) set → AreBelow items (Set numbers) set
  set_below numbers set both = record {
    rising = both.rising;
    members = λ v. (
      λ c. let p = (both.members v).0 c in ((among_is numbers v).1 p.0, (below.members v).0 p.1),
      λ h. (both.members v).1 ((among_is numbers v).0 h.0, (below.members v).1 h.1),
    );
  }

-- one more
module _ (items : ℕ) (held : List Held) (at : ℕ) (old new : List (List ℕ)) (set : List ℕ) (len : length old ≡ at) (push : new ≡ old ++ set ∷ []) where
  pub one_below : ((d : ℕ) (h : Held) → d < at → slice_get held d ≡ Some h → AreBelow items h (get_or old d [])) → ((h : Held) → slice_get held at ≡ Some h → AreBelow items h set)
      → (d : ℕ) (h : Held) → d < at + 1 → slice_get held d ≡ Some h → AreBelow items h (get_or new d [])
  one_below so here d h l is = elim (below_or_at d at l) [
    | inl less ↦ subst (AreBelow items h) (sym (ap (λ ls. get_or ls d []) push ∙ get_or_append_left old (set ∷ []) [] d (omega (arith, less, len)))) (so d h less is)
    | inr e ↦ subst (AreBelow items h) (sym (ap (λ ls. get_or ls d []) push ∙ ap (λ n. get_or (old ++ set ∷ []) n []) (e ∙ sym len) ∙ get_or-append_seam old set [] []))
        (here h (ap (slice_get held) (sym e) ∙ is))
  ]
    where
      below_or_at : (i n : ℕ) → i < n + 1 → (i < n) ⊎ (i ≡ n)
      below_or_at i n m = grind arith

-- ---- what words stand for

beyond : (sets : List (List ℕ)) (d : ℕ) → length sets ≤ d → get_or sets d [] ≡ []
beyond [] d l = refl
beyond (s ∷ sets) zero l = absurd (omega (arith, l))
beyond (s ∷ sets) (suc d) l = beyond sets d (omega (arith, l))

module _ (items : ℕ) (held : List Held) (sets : List (List ℕ)) (below : AreAllBelow items held sets) where
  -- where no name stands nothing is held
  none_held : (d : ℕ) → slice_get held d ≡ None → get_or sets d [] ≡ []
  none_held d none = beyond sets d (let n = below.len in let over = past held d none in omega (arith, n, over))
    where
      past : {X : Type 0} (xs : List X) (i : ℕ) → slice_get xs i ≡ None → length xs ≤ i
      past [] i e = omega arith
      past (x ∷ xs) zero e = absurd (none-some x (sym e))
      past (x ∷ xs) (suc i) e = let l = past xs i e in omega (arith, l)

  held_below : (d : ℕ) (o : Option Held) → slice_get held d ≡ o → Lists nat_cmp (λ v. (option_map_or (is_held v) o false ≡ true) × (v < items)) (get_or sets d [])
  held_below d None e = subst (Lists nat_cmp (λ v. (false ≡ true) × (v < items))) (sym (none_held d e))
      (record { rising = none_rise; members = λ v. (λ c. absurd (contains_none v c), λ h. let f : false ≡ true = h.0 in cc) })
  held_below d (Some h) e = below.each d h e

  meant_below : (meaning : Option ℕ) → Lists nat_cmp (λ v. (has_meant held v meaning ≡ true) × (v < items)) (set_meant sets meaning)
  meant_below None = record { rising = none_rise; members = λ v. (λ c. absurd (contains_none v c), λ h. let f : false ≡ true = h.0 in cc) }
  meant_below (Some d) = held_below d (slice_get held d) refl

-- a kind of sets is not the kind of the items
set_is_no_item : (kind e : Kind) → any_sets (space_of kind) (λ j. is_kind e j.kind) ≡ true → is_kind e (space_of kind).item ≡ false
set_is_no_item kinds.Type_ kinds.Type_ h = absurd (let f : false ≡ true = h in cc)
set_is_no_item kinds.Type_ e h = refl
set_is_no_item kinds.Role kinds.Role h = absurd (let f : false ≡ true = h in cc)
set_is_no_item kinds.Role e h = refl
set_is_no_item kinds.User kinds.User h = absurd (let f : false ≡ true = h in cc)
set_is_no_item kinds.User e h = refl
set_is_no_item kinds.Sensitivity kinds.Sensitivity h = absurd (let f : false ≡ true = h in cc)
set_is_no_item kinds.Sensitivity e h = refl
set_is_no_item kinds.Category kinds.Category h = absurd (let f : false ≡ true = h in cc)
set_is_no_item kinds.Category e h = refl
set_is_no_item kind e h = absurd (let f : false ≡ true = h in cc)

module _ (k : Known) (xs : List Item) (names : Kind → List (List ℕ)) (kind : Kind) (known : IsKnown k xs names) (section : has_section kind ≡ true) (law : MeansWhatItNames) (held : List Held)
    (are : AreMembers k xs names (space_of kind) held) (items : ℕ) (counted : items ≡ length (names kind)) (sets_of : List (List ℕ)) (below : AreAllBelow items held sets_of) where
  as_item : (t : Symbol) (n : ℕ) → Declared xs (enabled_in k) kind t → IsNumbered (names kind) t n → IsItem k xs names (space_of kind) t n
  as_item t n d at = record {
    declared = subst (λ j. Declared xs (enabled_in k) j t) (sym (item_of kind)) d;
    numbered = subst (λ j. IsNumbered (names j) t n) (sym (item_of kind)) at;
  }

  module _ (w : ScopedWord) (t : Symbol) (n : ℕ) (d : Declared xs (enabled_in k) kind t) (at : IsNumbered (names kind) t n) where
    is_meant : has_meant held n (meant_in k w) ≡ holds xs (enabled_in k) (space_of kind) no_range are.family w t
    is_meant = word_holds k xs names known w law (space_of kind) are.family held t n (as_item t n d at) (λ e means. are.holds e)

  pub are_standing : AreStanding k xs names kind sets_of
  are_standing w = record {
    rising = (meant_below items held sets_of below (meant_in k w)).rising;
    members = λ n. (
      λ c.
          let has = ((meant_below items held sets_of below (meant_in k w)).members n).0 c in
          let (t, d, at) = its_symbol k xs names known kind section n (subst (λ j. n < j) counted has.1) in
          record {
            symbol = t;
            stands = (stands_is xs (enabled_in k) kind are.rank are.ranked are.family are.solves w t).1 (sym (is_meant w t n d at) ∙ has.0, d);
            numbered = at;
          },
      λ h.
          let st = (stands_is xs (enabled_in k) kind are.rank are.ranked are.family are.solves w h.symbol).0 h.stands in
          ((meant_below items held sets_of below (meant_in k w)).members n).1
          (is_meant w h.symbol n st.1 h.numbered ∙ st.0, subst (λ j. n < j) (sym counted) (in_range (names kind) n (name_of h.symbol) h.numbered)),
    );
  }

  -- ---- the members of sets

  module _ (d : ℕ) (e : Entry) (at : slice_get k.lookup.names.now d ≡ Some e) (live : is_declared_in (enabled_in k) e ≡ true) (sets : any_sets (space_of kind) (λ j. is_kind e.kind j.kind) ≡ true) where
    abbrev its : Symbol
    its = symbol_of k.lookup.namespaces.now e

    its_kind : Declared xs (enabled_in k) e.kind its
    its_kind =
        let (x, is_x, has_kind, in_space, of_name) = known.entries.only (enabled_in k) d e at live in
        record { declaration = x; declares = is_x; of_kind = has_kind; in_space = in_space; of_name = of_name }

    its_set : is_set xs (enabled_in k) (space_of kind) its ≡ true
    its_set = either_so _ _ _ _ (one (space_of kind).aliases) (one (space_of kind).attributes) sets
      where
        one : (o : Option Sets) → option_map_or (λ (j : Sets). is_kind e.kind j.kind) o false ≡ true → option_map_or (λ (j : Sets). is_declared xs (enabled_in k) j.kind its) o false ≡ true
        one None h = h
        one (Some j) h = (declared_is xs (enabled_in k) j.kind its).1 (subst (λ i. Declared xs (enabled_in k) i its) (one_kind e.kind j.kind h) its_kind)

    as_member : (t : Symbol) → stands k xs names (space_of kind) are.family e t ≡ are.family its t
    as_member t =
        ap (λ b. (b && is_same_symbol its t) || (any_sets (space_of kind) (λ j. is_kind e.kind j.kind) && are.family its t)) (set_is_no_item kind e.kind sets)
        ∙ ap (λ b. b && are.family its t) sets

    held_there : (n : ℕ) → Contains (get_or sets_of d []) n ↔ ((option_map_or (is_held n) (slice_get held d) false ≡ true) × (n < items))
    held_there n = (held_below items held sets_of below d (slice_get held d) refl).members n

    pub its_members : Lists nat_cmp (IsMemberNumber xs (enabled_in k) kind (names kind) its) (get_or sets_of d [])
    its_members = record {
      rising = (held_below items held sets_of below d (slice_get held d) refl).rising;
      members = λ n. (
        λ c.
            let has = (held_there n).0 c in
            let (t, declared, number) = its_symbol k xs names known kind section n (subst (λ j. n < j) counted has.1) in
            record {
              symbol = t;
              member = record { family = are.family; solves = are.solves; has = sym (as_member t) ∙ sym (are.holds d e at live t n (as_item t n declared number)) ∙ has.0; declared = declared };
              numbered = number;
            },
        λ h.
            let one = one_family xs (enabled_in k) (space_of kind) no_range are.family h.member.family are.rank are.ranked are.solves h.member.solves its h.symbol its_set in
            (held_there n).1 (
              are.holds d e at live h.symbol n (as_item h.symbol n h.member.declared h.numbered) ∙ as_member h.symbol ∙ one ∙ h.member.has,
              subst (λ j. n < j) (sym counted) (in_range (names kind) n (name_of h.symbol) h.numbered),
            ),
      );
    }

  pub have_members : HaveMembers k xs names kind sets_of
  have_members d e at live sets = its_members d e at live sets
