use Rattle.std.specs.Prelude.{List, length, ℕ}
use Rattle.std.proofs.Common.{subst}
use Rattle.std.proofs.lemmas.List.Sorted.{Contains-permutation, IsPermutation-sym}
use Rattle.cil_level_rows.specs.AliasEntries.{AreAliasesBelow}
use Rattle.cil_level_rows.proofs.AliasLemmas.{same_aliases}
use Rattle.cil_level_rows.proofs.aliases.aliases_of.Goals as goal

pub returns : goal.returns
returns c =
    let k = c.args.known.now in
    let raw = c.in_ok-unsorted.unsorted.items in
    let sorted = c.in_ok-aliases.aliases.items in
    let places = c.in_ok-places.places.items in
    let moved = c.in_ok-aliases.ensures.same in
    record {
      places = places;
      inverse = c.in_ok-places.ensures.inverse;
      are = same_aliases k c.args.kind c.args.standing.now places (length k.lookup.names.now) raw sorted (λ a. (Contains-permutation raw sorted a moved, Contains-permutation sorted raw a (IsPermutation-sym raw sorted moved)))
          (subst (λ (l : List ℕ). AreAliasesBelow k c.args.kind c.args.standing.now l (length k.lookup.names.now) raw) c.as_slice.ensures.value c.in_ok-unsorted.ensures);
      rising = c.in_ok-aliases.ensures.rising;
    }
