-- One step of the walk.
use Rattle.std.specs.Prelude.{◌⊎◌, take, ◌==◌}
use Rattle.std.proofs.Common.{◌≡◌, ◌≢◌, ℕ, ◌+◌, ◌<◌, ◌≤◌, Bool, true, false, cond, List, ◌++◌, length, get_or, sym, ap, subst, ◌∙◌, inl, inr, arith}
use Rattle.std.specs.List.{count_by}
use Rattle.std.proofs.lemmas.List.{append_assoc, take_all}
use Rattle.std.proofs.lemmas.List.Sums.{count_by_more_yes, count_by_more_no}
use Rattle.std.proofs.lemmas.Bool.Decides.{nat_tests}
use Rattle.cil_settle.specs.declared.edge.Edge.{Edge}
use Rattle.cil_base.specs.Among.{among}
use Rattle.cil_settle.specs.Settled.{is_counted}
use Rattle.cil_settle.specs.Walk.{IsAt, IsAtNode, into, one_more, plus}

-- two numbers are one, or they are not
same_or_not : (a b : ℕ) → ((a ≡ b) × ((a == b) ≡ true)) ⊎ ((a ≢ b) × ((a == b) ≡ false))
same_or_not a b = grind (arith, nat_tests)

-- nothing but the tally changes where the thing is out already
node_again : (need h left add : ℕ) (out : Bool) → left ≡ 0 → IsAtNode need h left out → IsAtNode need (h + add) left out
node_again need h left add out e (inl a) = inl (a.0, omega (arith, a.1), a.2)
node_again need h left add out e (inr b) = absurd (omega (arith, b.0, e))

-- a thing that is not hit stays as it is
node_kept : (need h left : ℕ) (out : Bool) → IsAtNode need h left out → IsAtNode need (h + 0) left out
node_kept need h left out (inl a) = inl (a.0, omega (arith, a.1), a.2)
node_kept need h left out (inr b) = inr (b.0, omega (arith, b.1), b.2)

pub at_out : (need h : ℕ → ℕ) (left order : List ℕ) (to : ℕ) → get_or left to 0 ≡ 0 → IsAt need h left order → IsAt need (one_more h to) left order
at_out need h left order to e at = record {
  each = λ u l. elim (same_or_not to u) [
    | inl same ↦ rw same.1 (node_again (need u) (h u) (get_or left u 0) 1 (among order u) (subst (λ k. get_or left k 0 ≡ 0) same.0 e) (at.each u l))
    | inr other ↦ rw other.1 (node_kept (need u) (h u) (get_or left u 0) (among order u) (at.each u l))
  ];
  within = at.within;
  fresh = at.fresh;
  room = at.room;
}

-- what is known of one tally is known of an equal one
pub same_tally : (need h k : ℕ → ℕ) (left order : List ℕ) → ((u : ℕ) → h u ≡ k u) → IsAt need h left order → IsAt need k left order
same_tally need h k left order e at = subst (λ z. IsAt need z left order) (λ i u. e u i) at

into_more : (u : ℕ) (edges : List Edge) (i : ℕ) (d : Edge) → i < length edges → into u (take i edges) + cond ((get_or edges i d).to == u) 1 0 ≡ into u (take (i + 1) edges)
into_more u edges i d l =
    elim (same_or_not (get_or edges i d).to u) [
      | inl same ↦ rw same.1 (sym (count_by_more_yes (λ e. e.to == u) edges i d l same.1))
      | inr other ↦ rw other.1 (let e = count_by_more_no (λ e. e.to == u) edges i d l other.1 in omega (arith, e))
    ]

pub plus_more : (need h : ℕ → ℕ) (left order : List ℕ) (edges : List Edge) (i : ℕ) (d : Edge) → i < length edges
    → IsAt need (one_more (plus h (take i edges)) (get_or edges i d).to) left order → IsAt need (plus h (take (i + 1) edges)) left order
plus_more need h left order edges i d l at =
    same_tally need (one_more (plus h (take i edges)) (get_or edges i d).to) (plus h (take (i + 1) edges)) left order
    (λ u. let e = into_more u edges i d l in omega (arith, e)) at

pub take_whole : (need h : ℕ → ℕ) (left order : List ℕ) (edges : List Edge) (i : ℕ) → length edges ≤ i → IsAt need (plus h (take i edges)) left order → IsAt need (plus h edges) left order
take_whole need h left order edges i l at = subst (λ es. IsAt need (plus h es) left order) (take_all i edges l) at

-- what is behind some things stays behind them
pub grew : (x y z : List ℕ) → ((more : List ℕ) × (y ≡ x ++ more)) → ((more : List ℕ) × (z ≡ y ++ more)) → (more : List ℕ) × (z ≡ x ++ more)
grew x y z a b = (a.0 ++ b.0, b.1 ∙ ap (λ w. w ++ b.0) a.1 ∙ append_assoc x a.0 b.0)

pub counted_yes : (edges : List Edge) (i n m : ℕ) (d : Edge) → i < length edges → (get_or edges i d).counted ≡ true → m ≡ n + 1 → n ≡ count_by is_counted (take i edges) → m ≡ count_by is_counted (take (i + 1) edges)
counted_yes edges i n m d l t e f = let c = count_by_more_yes is_counted edges i d l t in omega (arith, c, e, f)

pub counted_no : (edges : List Edge) (i n m : ℕ) (d : Edge) → i < length edges → (get_or edges i d).counted ≡ false → m ≡ n → n ≡ count_by is_counted (take i edges) → m ≡ count_by is_counted (take (i + 1) edges)
counted_no edges i n m d l t e f = let c = count_by_more_no is_counted edges i d l t in omega (arith, c, e, f)
