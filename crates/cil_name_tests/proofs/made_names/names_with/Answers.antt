use Rattle.std.proofs.Common.{◌≡◌, ◌∙◌, sym, subst, true, false}
use Rattle.std.specs.List.Sorted.{IsStrictlySortedBy}
use Rattle.std.specs.Ordering.{on}
use Rattle.cil_base.specs.Places.{get_at, get_contains}
use Rattle.cil_names.specs.Entries.{AreOrdered, by_name_cmp, key_of}
use Rattle.cil_name_tests.proofs.made_names.names_with.Goals as goal

pub returns-then-not-rise : goal.returns-then-not-rise
returns-then-not-rise c = λ ordered.
    let rises = c.rise.ensures.1 (subst (IsStrictlySortedBy (on key_of by_name_cmp)) (sym c.as_slice.ensures.value) ordered.rising) in
    let f : false ≡ true = sym c.if-not-rise.true ∙ rises in
    cc

pub returns-then-not-are_within : goal.returns-then-not-are_within
returns-then-not-are_within c = λ ordered.
    let within = c.are_within.ensures.1 (λ i e at. ordered.within e (get_contains _ i e (rw c.as_slice-2.ensures.value at at))) in
    let f : false ≡ true = sym c.if-not-are_within.true ∙ within in
    cc

pub returns : goal.returns
returns c = (
  c.in_ok-of.ensures,
  subst (AreOrdered c.args.namespaces.now) (sym c.in_ok-of.ensures) (record {
    rising = rw c.as_slice.ensures.value at (c.rise.ensures.0 c.if-not-rise.false);
    within = λ e member.
        let (i, below_i, at) = get_at _ e member in
        c.are_within.ensures.0 c.if-not-are_within.false i e (rw c.as_slice-2.ensures.value at);
  }),
)
