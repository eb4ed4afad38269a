use Rattle.std.proofs.Common.{sym, ◌||◌, ◌∙◌, ap, subst}
use Rattle.std.specs.List.{list_any}
use Rattle.std.proofs.lemmas.List.Sorted.{Contains-permutation, IsPermutation-sym}
use Rattle.cil_attrs.specs.Made.{AreInOrder, AreSetsAt, HaveMeanings, held_at, is_made_by}
use Rattle.cil_attrs.specs.Members.{meaning_there}
use Rattle.cil_attrs.proofs.MembersLemmas.{made_in_order, meanings_in_order}
use Rattle.cil_attrs.proofs.OrderLemmas.{ranks_order}
use Rattle.cil_attrs.proofs.checked.made_by_ranks.Goals as goal

pub made-requires-clause-sets : goal.made-requires-clause-sets
made-requires-clause-sets c =
    subst (AreSetsAt c.args.first.items) (sym c.as_slice.ensures.value)
    (λ x d. c.requires.sets x
    (Contains-permutation c.ranked-ordered.result.items c.args.givens.items x (IsPermutation-sym c.args.givens.items c.ranked-ordered.result.items c.ranked-ordered.ensures.same) d))

pub made-requires-clause-order : goal.made-requires-clause-order
made-requires-clause-order c =
    subst AreInOrder (sym c.as_slice.ensures.value)
    (ranks_order c.args.first.items c.args.givens.items c.requires.sets c.args.ranks.now c.ranked-ordered.result.items c.requires.fall c.ranked-ordered.ensures.sorted c.ranked-ordered.ensures.same)

pub returns : goal.returns
returns c = λ k i mean.
    let ordered = c.ranked-ordered.result.items in
    let givens = c.args.givens.items in
    let there = subst (HaveMeanings (meaning_there k i)) (sym c.as_slice.ensures.value) (meanings_in_order (meaning_there k i) givens ordered c.ranked-ordered.ensures.same mean) in
    record {
      all = c.in_ok-all.all;
      are_all = c.in_ok-all.ensures.numbers;
      made = λ d v.
          c.in_ok-held.ensures.given (meaning_there k i) there d v
          ∙ ap (λ b. held_at c.args.first.items d v || b)
          (ap (list_any (is_made_by (meaning_there k i) c.in_ok-held.held.items c.in_ok-all.all d v)) c.as_slice.ensures.value
          ∙ made_in_order (meaning_there k i) c.in_ok-held.held.items c.in_ok-all.all d v givens ordered c.ranked-ordered.ensures.same);
    }
