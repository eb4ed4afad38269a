-- Where the entries of each part begin.
use Rattle.std.specs.List.Sorted.{IsNonDecreasingBy, IsSorted}
use Rattle.std.specs.Ordering.{is_lt, ordering_then}
use Rattle.std.specs.Prelude.{Contains, None, Some, slice_get}
use Rattle.std.proofs.Common.{◌≡◌, ℕ, ◌+◌, ◌-◌, ◌<◌, ◌≤◌, true, List, [], ◌∷◌, ◌++◌, length, get_or, sym, ◌∙◌, ap, subst, inl, inr, arith}
use Rattle.std.proofs.lemmas.Bool.{cases_lt}
use Rattle.std.proofs.lemmas.List.{get_or_append_left, get_or_default, length-append}
use Rattle.std.proofs.Math.Seq.{get_or-append_seam}
use Rattle.std.proofs.lemmas.List.Sorted.{sorted_far}
use Rattle.std.proofs.lemmas.List.MinMax.{ranks_by}
use Rattle.cil_base.specs.Lists.{text_cmp}
use Rattle.cil_base.specs.Paths.{less_from}
use Rattle.cil_base.specs.Places.{get_so, is_there, none_some}
use Rattle.cil_index.specs.declared.key.Entry.{Entry}
use Rattle.cil_index.specs.Entries.{AreAllStarts, AreBefore, AreStarts, BeginAt, entry_cmp, entry_total}

below_is : (a b : Entry) → a.part < b.part → is_lt (entry_cmp a b) ≡ true
below_is a b less = ap (λ o. is_lt (ordering_then o (text_cmp (a.aim ∷ []) (b.aim ∷ [])))) (less_from a.part b.part less)

pub parts_rise : (entries : List Entry) → IsSorted entry_cmp entries → IsNonDecreasingBy (λ (e : Entry). e.part) entries
parts_rise entries up i j d le lj =
    let far = sorted_far (λ x y. is_lt (entry_cmp x y)) (ranks_by entry_total (λ (e : Entry). e)) entries up i j d le lj in
    elim (cases_lt (get_or entries j d).part (get_or entries i d).part) [
      | inl less ↦ let yes_ = below_is (get_or entries j d) (get_or entries i d) less in absurd cc
      | inr ge ↦ ge
    ]

-- no part is behind the last one
pub last_room : (entries : List Entry) (last : Entry) → IsSorted entry_cmp entries → slice_get entries (length entries - 1) ≡ Some last → (e : Entry) → Contains entries e → e.part + 1 < last.part + 2
last_room entries last up is e (k, within, there) =
    let rise = parts_rise entries up k (length entries - 1) last (omega (arith, within)) (omega (arith, within)) in
    let one : (get_or entries k last).part ≡ e.part = ap (λ (z : Entry). z.part) (get_or_default entries k last e within ∙ there) in
    let two : (get_or entries (length entries - 1) last).part ≡ last.part = ap (λ (z : Entry). z.part) (get_so entries (length entries - 1) last last is) in
    omega (arith, rise, one, two)

pub no_entry : (entries : List Entry) → slice_get entries (length entries - 1) ≡ None → (e : Entry) → Contains entries e → ⊥
no_entry entries none e (k, within, there) =
    let within_last : length entries - 1 < length entries = omega (arith, within) in
    none_some (get_or entries (length entries - 1) e) (sym none ∙ is_there entries (length entries - 1) e within_last)

-- ---- the place where a part begins, from that of the part before on

pub before_more : (entries : List Entry) (part at : ℕ) (e : Entry) → at < length entries → (get_or entries at e).part < part → AreBefore entries part at → AreBefore entries part (at + 1)
before_more entries part at e within less so_far k d below inside = elim (cases_lt k at) [
  | inl under ↦ so_far k d under inside
  | inr ge ↦ let same : at ≡ k = omega (arith, ge, below) in
      subst (λ (z : Entry). z.part < part) (get_or_default entries at e d within ∙ ap (λ j. get_or entries j d) same) less
]

-- the entry at the place is of the part, or a later one
pub begins_here : (entries : List Entry) (part at : ℕ) (e : Entry) → IsSorted entry_cmp entries → at < length entries → part ≤ (get_or entries at e).part → AreBefore entries part at → BeginAt entries part at
begins_here entries part at e up within ge so_far = record {
  bound = omega (arith, within);
  parts = (
    λ k d zero_ below. so_far k d below (omega (arith, below, within)),
    λ k d from inside. let rise = parts_rise entries up at k d from inside in
        let here : (get_or entries at e).part ≡ (get_or entries at d).part = ap (λ (z : Entry). z.part) (get_or_default entries at e d within) in omega (arith, rise, here, ge),
  );
}

-- there is no entry at the place
pub begins_behind : (entries : List Entry) (part at : ℕ) → at ≤ length entries → length entries ≤ at → AreBefore entries part at → BeginAt entries part at
begins_behind entries part at bound over so_far = record {
  bound = bound;
  parts = (λ k d zero_ below. so_far k d below (omega (arith, below, bound)), λ k d from inside. absurd (omega (arith, from, inside, over)));
}

-- what is before a part is before the next one
pub before_next : (entries : List Entry) (part at : ℕ) → BeginAt entries part at → AreBefore entries (part + 1) at
before_next entries part at here k d below inside = let less = here.parts.0 k d (omega arith) below in omega (arith, less)

-- one part more
pub starts_more : (entries : List Entry) (old new : List ℕ) (n place : ℕ) → length old ≡ n → AreStarts entries old
    → BeginAt entries n place → new ≡ old ++ place ∷ [] → (length new ≡ n + 1) × AreStarts entries new
starts_more entries old new n place size are here push =
    let long : length new ≡ n + 1 = ap (λ (z : List ℕ). length z) push ∙ length-append old (place ∷ []) ∙ ap (λ k. k + 1) size in (
      long,
      λ c within. elim (cases_lt c n) [
        | inl less ↦ let at : get_or new c 0 ≡ get_or old c 0 = ap (λ z. get_or z c 0) push ∙ get_or_append_left old (place ∷ []) 0 c (omega (arith, less, size)) in
            subst (BeginAt entries c) (sym at) (are c (omega (arith, less, size)))
        | inr ge ↦ let same : n ≡ c = omega (arith, ge, within, long) in
            let at : get_or new n 0 ≡ place = ap (λ z. get_or z n 0) push ∙ ap (λ k. get_or (old ++ place ∷ []) k 0) (sym size) ∙ get_or-append_seam old place [] 0 in
            subst (λ k. BeginAt entries k (get_or new k 0)) same (subst (BeginAt entries n) (sym at) here)
      ],
    )

pub no_starts : (entries : List Entry) (starts : List ℕ) → starts ≡ [] → (length starts ≡ 0) × AreStarts entries starts
no_starts entries starts e =
    let size : length starts ≡ 0 = ap (λ (z : List ℕ). length z) e in (size, λ c within. absurd (omega (arith, within, size)))

pub all_starts : (entries : List Entry) (starts : List ℕ) (n parts : ℕ) → parts ≤ n → ((e : Entry) → Contains entries e → e.part + 1 < parts)
    → (length starts ≡ n) × AreStarts entries starts → AreAllStarts entries starts
all_starts entries starts n parts over room (size, are) = record { begin = are; each = λ e has. let less = room e has in omega (arith, less, over, size) }
