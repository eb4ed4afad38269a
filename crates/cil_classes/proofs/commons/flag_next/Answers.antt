use Rattle.std.proofs.Common.{◌+◌, ◌<◌, get_or, length, refl, subst, sym, ℕ}
use Rattle.cil_names.specs.declared.shared.Shared.{Shared}
use Rattle.std.proofs.lemmas.List.{length-set}
use Rattle.cil_base.proofs.AtPlace.{at_place, past_end}
use Rattle.cil_base.specs.Places.{get_contains, is_there}
use Rattle.cil_classes.proofs.CommonLemmas.{last_noted, next_at, nothing_next, other_noted, same_noted}
use Rattle.cil_classes.proofs.commons.flag_next.Goals as goal

pub returns-in_default : goal.returns-in_default
returns-in_default c = record {
  len = refl;
  flagged =
      last_noted c.args.shared.now c.args.flags.now.items c.args.at
      (nothing_next c.args.shared.now c.args.at (past_end c.args.shared.now c.args.shared.now (c.args.at + 1) refl c.in_default.ensures.lookup.3));
}

pub returns-then-next-class : goal.returns-then-next-class
returns-then-next-class c = record {
  len = refl;
  flagged =
      other_noted c.args.shared.now c.args.flags.now.items c.args.at _ c.in-Some.next.now (is_there c.args.shared.now c.args.at _ c.requires.here)
      (next_at c.args.shared.now c.args.at c.in-Some.next.now (at_place c.args.shared.now c.args.shared.now (c.args.at + 1) refl c.in-Some.next.now c.in-Some.ensures.lookup.3.0 c.in-Some.ensures.lookup.1))
      c.if-next-class.true;
}

pub index_mut-requires : goal.index_mut-requires
index_mut-requires c =
    let one : Shared = get_or c.args.shared.now c.args.at (record { class = 0; common = 0 }) in
    let h : one.class < length c.args.flags.now.items =
    c.requires.within one (get_contains c.args.shared.now c.args.at one (is_there c.args.shared.now c.args.at (record { class = 0; common = 0 }) c.requires.here)) in
    subst (λ (n : ℕ). one.class < n) (sym c.args.flags.now.ok.0) h

pub returns : goal.returns
returns c =
    let here = is_there c.args.shared.now c.args.at _ c.requires.here in
    record {
      len = length-set c.args.flags.now.items _ _;
      flagged =
          same_noted c.args.shared.now c.args.flags.now.items c.args.at _ c.in-Some.next.now here
          (next_at c.args.shared.now c.args.at c.in-Some.next.now (at_place c.args.shared.now c.args.shared.now (c.args.at + 1) refl c.in-Some.next.now c.in-Some.ensures.lookup.3.0 c.in-Some.ensures.lookup.1))
          c.if-next-class.false (c.requires.within _ (get_contains c.args.shared.now c.args.at _ here));
    }
