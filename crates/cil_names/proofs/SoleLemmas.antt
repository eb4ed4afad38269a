-- Entries that rise by their names: those of one name stand beside one another.
use Rattle.std.proofs.Common.{◌≡◌, ℕ, suc, zero, ◌+◌, ◌<◌, ◌≤◌, List, length, get_or, refl, sym, ◌∙◌, ap, subst, inl, inr, arith, Bool, true, false, ◌⊎◌}
use Rattle.std.specs.Prelude.{◌↔◌, IfSome, IsTrue, Option, Some, None, slice_get}
use Rattle.std.specs.Cmp.Lexicographic.{bytes_decides}
use Rattle.std.specs.declared.cmp.Ordering.{Ordering}
use Rattle.std.specs.declared.cmp.Ordering.TheVariants.{Less, Equal, Greater}
use Rattle.std.specs.Ordering.{on, ordering_reverse, ordering_then, nat_cmp}
use Rattle.std.specs.List.Sorted.{IsStrictlySortedBy}
use Rattle.std.proofs.lemmas.Bool.{cases_lt, true≢false}
use Rattle.std.proofs.lemmas.Option.{none-some, same_Some, slice_get-get_or, slice_get_within, get_or_from_slice_get}
use Rattle.cil_syntax.specs.declared.kind.Kind.{Kind}
use Rattle.cil_syntax.specs.declared.kind.Sign.{Sign}
use Rattle.cil_syntax.specs.Kinds.{is_wanted}
use Rattle.cil_syntax.specs.Spelling.{same_bytes}
use Rattle.cil_base.proofs.AtPlace.{past_end}
use Rattle.cil_names.specs.declared.entry.Entry.{Entry}
use Rattle.cil_names.specs.Entries.{HasNoEntry, IsEntryAt, by_name_cmp, is_entry, key_of}
use Rattle.cil_names.specs.declared.namesakes.Namesakes.{Namesakes}
use Rattle.cil_syntax.specs.NameSpaces.{rank}
use Rattle.cil_names.proofs.EntryLemmas.{parts_fit, they_fit}
use Rattle.cil_base.proofs.SearchLemmas.{one_number, rising_at}
use Rattle.cil_names.specs.Soles.{AreNamesakes, AreRanked, IsEnd, IsNamedAt, IsOfRank, IsSole, IsWantedIn, RankedName, ranked_cmp, ranked_name}
use Rattle.cil_names.proofs.OrderLemmas.{key_total, one_key, one_ranked, ranked_total}

pub named_is : (e : Entry) (name : List ℕ) (r : ℕ) → e.name ≡ name → rank e.kind ≡ r → ranked_name e ≡ record { name = name; rank = r }
named_is e name r p q = λ i. record { name = p i; rank = q i }

before_then : (o p : Ordering) → ordering_then o p ≡ Less → o ≡ Greater → ⊥
before_then Less p e f = absurd (let g : Less ≡ Greater = f in cc)
before_then Equal p e f = absurd (let g : Equal ≡ Greater = f in cc)
before_then Greater p e f = absurd (let g : Greater ≡ Less = e in cc)

three : (o : Ordering) → (o ≡ Less) ⊎ ((o ≡ Equal) ⊎ (o ≡ Greater))
three Less = inl refl
three Equal = inr (inl refl)
three Greater = inr (inr refl)

module _ (es : List Entry) (up : IsStrictlySortedBy (on key_of by_name_cmp) es) where
  rise : (i j : ℕ) (a b : Entry) → slice_get es i ≡ Some a → slice_get es j ≡ Some b → i < j → by_name_cmp (key_of a) (key_of b) ≡ Less
  rise i j a b at_i at_j less =
      ap (λ x. by_name_cmp (key_of x) (key_of b)) (sym (get_or_from_slice_get es i a a at_i))
      ∙ ap (λ y. by_name_cmp (key_of (get_or es i a)) (key_of y)) (sym (get_or_from_slice_get es j b a at_j))
      ∙ rising_at (on key_of by_name_cmp) es i j a up less (slice_get_within es j b at_j)

  not_after : (i j : ℕ) (a b : Entry) → slice_get es i ≡ Some a → slice_get es j ≡ Some b → i < j → ranked_cmp (ranked_name a) (ranked_name b) ≡ Greater → ⊥
  not_after i j a b at_i at_j less e =
      before_then (ranked_cmp (ranked_name a) (ranked_name b)) (nat_cmp a.space b.space) (rise i j a b at_i at_j less) e

  between : (i j k : ℕ) (a b c : Entry) → slice_get es i ≡ Some a → slice_get es j ≡ Some b → slice_get es k ≡ Some c → i < j → j < k
      → (n : RankedName) → ranked_name a ≡ n → ranked_name c ≡ n → ranked_name b ≡ n
  between i j k a b c at_i at_j at_k below above n p q =
      elim (three (ranked_cmp (ranked_name a) (ranked_name b))) [
        | inl less ↦ absurd (not_after j k b c at_j at_k above (ap (λ m. ranked_cmp (ranked_name b) m) (q ∙ sym p) ∙ ranked_total.antisymm (ranked_name b) (ranked_name a) ∙ ap ordering_reverse less))
        | inr rest ↦ elim rest [
          | inl same ↦ sym (one_ranked (ranked_name a) (ranked_name b) same) ∙ p
          | inr greater ↦ absurd (not_after i j a b at_i at_j below greater)
        ]
      ]

  there : (i : ℕ) (d : Entry) → i < length es → slice_get es i ≡ Some (get_or es i d)
  there i d within = slice_get-get_or es i d within

  -- ---- the entries of a name from the first on

  module _ (n : RankedName) (first : ℕ) (x : Entry) (at : slice_get es first ≡ Some x) (named : ranked_name x ≡ n) where
    not_in_front : ((b : ℕ) → b + 1 ≡ first → IsNamedAt es n b → ⊥) → (m : ℕ) → IsNamedAt es n m → first ≤ m
    not_in_front before m (y, at_m, is) =
        elim (cases_lt m first) [
          | inl less ↦ absurd (at_last first refl less)
          | inr ge ↦ omega arith
        ]
      where
        at_before : (b : ℕ) → b + 1 ≡ first → m < b → ⊥
        at_before b e further =
            let within : b < length es = let w = slice_get_within es first x at in omega (arith, w, e) in
            before b e (get_or es b x, there b x within, between m b first y (get_or es b x) x at_m (there b x within) at further (omega (arith, e)) n is named)

        at_last : (k : ℕ) → k ≡ first → m < first → ⊥
        at_last zero e less = omega (arith, e, less)
        at_last (suc b) e less =
            let f : b + 1 ≡ first = omega (arith, e) in
            elim (cases_lt m b) [
              | inl further ↦ at_before b f further
              | inr ge ↦ before b f (let same : m ≡ b = omega (arith, ge, less, f) in (y, ap (slice_get es) (sym same) ∙ at_m, is))
            ]

    not_behind : (end : ℕ) → IsEnd es n first end → (m : ℕ) → IsNamedAt es n m → m < end
    not_behind end ends m (y, at_m, is) =
        elim (cases_lt m end) [
          | inl less ↦ less
          | inr ge ↦ elim (cases_lt end m) [
            | inl further ↦
                let within : end < length es = let w = slice_get_within es m y at_m in omega (arith, w, further) in
                absurd (ends.other (get_or es end x, there end x within, between first end m x (get_or es end x) y at (there end x within) at_m ends.later further n named is))
            | inr le ↦ absurd (ends.other (let same : m ≡ end = omega (arith, ge, le) in (y, ap (slice_get es) (sym same) ∙ at_m, is)))
          ]
        ]

    pub are_ranked : (end : ℕ) → IsEnd es n first end → ((b : ℕ) → b + 1 ≡ first → IsNamedAt es n b → ⊥) → AreRanked es n (record { first = first; end = end })
    are_ranked end ends before = record {
      some = ends.later;
      inside = ends.inside;
      all = λ m there. (not_in_front before m there, not_behind end ends m there);
    }

pub named_there : (es : List Entry) (name : List ℕ) (r d : ℕ) (e : Entry) → slice_get es d ≡ Some e → rank e.kind ≡ r → e.name ≡ name → IsNamedAt es (record { name = name; rank = r }) d
named_there es name r d e at of_rank named = (e, at, named_is e name r named of_rank)

pub name_there : (es : List Entry) (k : RankedName) (d : ℕ) (e : Entry) → slice_get es d ≡ Some e → IsNamedAt es k d → ranked_name e ≡ k
name_there es k d e at (x, is, named) = ap ranked_name (same_Some e x (sym at ∙ is)) ∙ named

pub at_got : (es : List Entry) (d : ℕ) (e : Entry) → d < length es → e ≡ get_or es d e → slice_get es d ≡ Some e
at_got es d e within is = slice_get-get_or es d e within ∙ ap Some (sym is)

pub its_name : (es : List Entry) (name : List ℕ) (r d : ℕ) (e : Entry) → slice_get es d ≡ Some e → IsNamedAt es (record { name = name; rank = r }) d → e.name ≡ name
its_name es name r d e at there = ap (λ (k : RankedName). k.name) (name_there es (record { name = name; rank = r }) d e at there)

pub its_rank : (es : List Entry) (name : List ℕ) (r d : ℕ) (e : Entry) → slice_get es d ≡ Some e → IsNamedAt es (record { name = name; rank = r }) d → rank e.kind ≡ r
its_rank es name r d e at there = ap (λ (k : RankedName). k.rank) (name_there es (record { name = name; rank = r }) d e at there)

-- what is known of all is known of what there is
pub if_some : {X : Type 0} (P : Type 0) → P → (o : Option X) → IfSome o (λ _. P)
if_some P p None = tt
if_some P p (Some x) = p

-- ---- what the entry at a place tells

pub wanted_there : (es : List Entry) (k : ℕ) (sign : Sign) (d : ℕ) (e : Entry) → slice_get es d ≡ Some e → IsWantedIn es k sign d → (e.space ≡ k) × (is_wanted sign e.kind ≡ true)
wanted_there es k sign d e at (x, is, space, wanted) =
    let same : x ≡ e = same_Some x e (sym is ∙ at) in
    (ap (λ (e : Entry). e.space) (sym same) ∙ space, ap (λ (e : Entry). is_wanted sign e.kind) (sym same) ∙ wanted)

module _ (es : List Entry) (d : ℕ) where
  nothing_there : length es ≤ d → (e : Entry) → slice_get es d ≡ Some e → ⊥
  nothing_there past e at = none-some e (sym (past_end es es d refl past) ∙ at)

  pub none_named : (k : RankedName) → length es ≤ d → IsTrue false ↔ IsNamedAt es k d
  none_named k past = ((λ t. absurd (true≢false (sym t))), (λ there. absurd (nothing_there past there.0 there.1)))

  pub none_wanted : (k : ℕ) (sign : Sign) → length es ≤ d → IsTrue false ↔ IsWantedIn es k sign d
  none_wanted k sign past = ((λ t. absurd (true≢false (sym t))), (λ there. absurd (nothing_there past there.0 there.1)))

  module _ (e : Entry) (at : slice_get es d ≡ Some e) where
    pub other_rank : (name : List ℕ) (r : ℕ) → (rank e.kind ≡ r → ⊥) → IsTrue false ↔ IsNamedAt es (record { name = name; rank = r }) d
    other_rank name r other = ((λ t. absurd (true≢false (sym t))), (λ there. absurd (other (its_rank es name r d e at there))))

    pub decides_named : (name : List ℕ) (r : ℕ) → rank e.kind ≡ r → (b : Bool) → b ≡ same_bytes e.name name → IsTrue b ↔ IsNamedAt es (record { name = name; rank = r }) d
    decides_named name r of_rank b is = (
      (λ t. named_there es name r d e at of_rank ((bytes_decides e.name name).0 (sym is ∙ t))),
      (λ there. is ∙ (bytes_decides e.name name).1 (its_name es name r d e at there)),
    )

    pub other_space : (k : ℕ) (sign : Sign) → (e.space ≡ k → ⊥) → IsTrue false ↔ IsWantedIn es k sign d
    other_space k sign other = ((λ t. absurd (true≢false (sym t))), (λ there. absurd (other (wanted_there es k sign d e at there).0)))

    pub decides_wanted : (k : ℕ) (sign : Sign) → e.space ≡ k → (b : Bool) → b ≡ is_wanted sign e.kind → IsTrue b ↔ IsWantedIn es k sign d
    decides_wanted k sign space b is = ((λ t. (e, at, space, sym is ∙ t)), (λ there. is ∙ (wanted_there es k sign d e at there).1))

-- ---- the few entries of a name

module _ (es : List Entry) (k : RankedName) (first : ℕ) where
  pub one_named : (end : ℕ) → first + 1 ≡ end → IsNamedAt es k first → (m : ℕ) → first ≤ m → m < end → IsNamedAt es k m
  one_named end e there m from within = subst (IsNamedAt es k) (let same : first ≡ m = omega arith in same) there

  pub one_more_named : (at : ℕ) → IsNamedAt es k at → ((m : ℕ) → first ≤ m → m < at → IsNamedAt es k m) → (m : ℕ) → first ≤ m → m < at + 1 → IsNamedAt es k m
  one_more_named at there inside m from within =
      elim (cases_lt m at) [
        | inl less ↦ inside m from less
        | inr ge ↦ subst (IsNamedAt es k) (let same : at ≡ m = omega arith in same) there
      ]

module _ (es : List Entry) (name : List ℕ) (sign : Sign) (r : ℕ) (of_rank : IsOfRank sign r) (n : Namesakes) (are : AreRanked es (record { name = name; rank = r }) n) where
  pub namesakes : AreNamesakes es name sign n
  namesakes = record {
    named = λ m e at first last. its_name es name r m e at (are.inside m first last);
    all = λ m e at named wanted. are.all m (named_there es name r m e at (of_rank e.kind wanted) named);
    one_rank = λ a b p q. of_rank a p ∙ sym (of_rank b q);
  }

  -- where there is one alone, it is the only one in all namespaces
  pub one_alone : n.end ≡ n.first + 1 → IsSole es name sign n.first
  one_alone end =
      let there = are.inside n.first (omega arith) are.some in
      record {
        entry = there.0;
        at = there.1;
        named = ap (λ (k : RankedName). k.name) there.2;
        only = λ m e at named wanted.
            let within = are.all m (named_there es name r m e at (of_rank e.kind wanted) named) in
            let from = within.0 in
            let to = within.1 in
            omega (arith, end, from, to);
      }

module _ (es : List Entry) (name : List ℕ) (sign : Sign) (k : ℕ) where
  same_key : ((a b : Kind) → is_wanted sign a ≡ true → is_wanted sign b ≡ true → rank a ≡ rank b) → (x e : Entry) → is_entry name sign k x ≡ true → is_entry name sign k e ≡ true
      → key_of x ≡ key_of e
  same_key one_rank x e p q =
      let (space, named, wanted) = parts_fit name sign k x p in
      let (space_e, named_e, wanted_e) = parts_fit name sign k e q in
      λ i. record { space = (space ∙ sym space_e) i; name = (named ∙ sym named_e) i; rank = one_rank x.kind e.kind wanted wanted_e i }

  -- an entry that fits is not this one, so it is a later one
  pub later_one : (d : ℕ) → (IsWantedIn es k sign d → ⊥) → ((m : ℕ) (e : Entry) → slice_get es m ≡ Some e → is_entry name sign k e ≡ true → d ≤ m)
      → (m : ℕ) (e : Entry) → slice_get es m ≡ Some e → is_entry name sign k e ≡ true → d + 1 ≤ m
  later_one d other all m e at fits =
      elim (cases_lt d m) [
        | inl less ↦ omega arith
        | inr ge ↦
            let from : d ≤ m = all m e at fits in
            let same : m ≡ d = omega (arith, from) in
            let (space, named, wanted) = parts_fit name sign k e fits in
            absurd (other (e, ap (slice_get es) (sym same) ∙ at, space, wanted))
      ]

  module _ (n : Namesakes) (are : AreNamesakes es name sign n) (d : ℕ) where
    pub none_among : n.end ≤ d → ((m : ℕ) (e : Entry) → slice_get es m ≡ Some e → is_entry name sign k e ≡ true → d ≤ m) → HasNoEntry es name sign k
    none_among over all m e at fits =
        let (space, named, wanted) = parts_fit name sign k e fits in
        let within : m < n.end = (are.all m e at named wanted).1 in
        let from : d ≤ m = all m e at fits in
        omega (arith, within, from)

    pub one_among : IsStrictlySortedBy (on key_of by_name_cmp) es → n.first ≤ d → d < n.end → IsWantedIn es k sign d → IsEntryAt es name sign k d
    one_among up from within there =
        let fits = they_fit name sign k there.0 there.2 (are.named d there.0 there.1 from within) there.3 in
        record {
          entry = there.0;
          at = there.1;
          fits = fits;
          only = λ m x at f. one_number key_of by_name_cmp key_total one_key es m d x there.0 up at there.1 (same_key are.one_rank x there.0 f fits);
        }
