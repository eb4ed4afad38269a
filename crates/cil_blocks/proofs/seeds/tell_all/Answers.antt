use Rattle.std.proofs.Common.{◌<◌, List, arith, get_or, length, sym, ◌∙◌, ap}
use Rattle.std.specs.Prelude.{None, slice_get}
use Rattle.cil_syntax.specs.Program.{program_of}
use Rattle.cil_blocks.specs.Seeds.{IsDoubledBy, IsNext, Pair}
use Rattle.cil_base.specs.Places.{is_there}
use Rattle.cil_blocks.proofs.CoverLemmas.{doubled_of, more_covered, next_of, none_covered, still_covered}
use Rattle.cil_blocks.proofs.Reached.{all_told, at_first, none_told, one_opened, one_skipped, one_told, skip_told}
use Rattle.cil_blocks.proofs.seeds.tell_all.Goals as goal

pub loop-at-init : goal.loop-at-init
loop-at-init c =
    let ws = program_of c.args.statements.now in
    let ps = c.args.parts.now in
    let ts = c.args.targets.now in
    record {
      so = at_first (IsNext ws ps ts) (None, None) c.args.pairs.now.keys c.requires.first;
      told = none_told (IsNext ws ps ts) (None, None) (IsDoubledBy ws ps ts) c.args.pairs.now.keys c.args.found.now.items c.requires.none;
      covered = none_covered ps ts c.args.pairs.now.keys c.new-covered.result.keys c.new-covered.ensures.empty;
    }

pub loop-at-preserved-then-is_covered : goal.loop-at-preserved-then-is_covered
loop-at-preserved-then-is_covered c =
    let ws = program_of c.args.statements.now in
    let ps = c.args.parts.now in
    let ts = c.args.targets.now in
    let h = c.loop-at-test.true in
    let l = c.len.ensures.len in
    let same = ap length c.as_slice.ensures.keys in
    let inside : c.loop-at.at < length c.as_slice.result.now = omega (arith, h, l, same) in
    let pair : Pair = get_or c.as_slice.result.now c.loop-at.at (None, None) in
    let here =
    ap (λ (xs : List Pair). slice_get xs c.loop-at.at) (sym c.as_slice.ensures.keys) ∙ is_there c.as_slice.result.now c.loop-at.at (None, None) inside in
    let is = c.is_covered.ensures c.if-is_covered.true in
    let by = c.loop-at.invariant.covered pair.0 is.1 in
    record {
      so = one_skipped (IsNext ws ps ts) (None, None) c.loop-at.at by.place c.loop-at.pairs.keys pair (by.seed, by.seed) here by.before by.is_pair
          (λ y n. next_of ws ps ts by.seed pair y is.0 by.reached n) c.loop-at.invariant.so;
      told = skip_told (IsNext ws ps ts) (None, None) (IsDoubledBy ws ps ts) c.loop-at.at by.place c.loop-at.pairs.keys pair (by.seed, by.seed) c.loop-at.found.items here
          by.before by.is_pair (λ i d. doubled_of ws ps ts by.seed pair i is.0 by.reached d) c.loop-at.invariant.told;
      covered = still_covered ps ts c.loop-at.at c.loop-at.pairs.keys c.loop-at.covered.keys c.loop-at.invariant.covered;
    }

pub loop-at-preserved : goal.loop-at-preserved
loop-at-preserved c =
    let ws = program_of c.args.statements.now in
    let ps = c.args.parts.now in
    let ts = c.args.targets.now in
    let h = c.loop-at-test.true in
    let l = c.len.ensures.len in
    let same = ap length c.as_slice.ensures.keys in
    let inside : c.loop-at.at < length c.as_slice.result.now = omega (arith, h, l, same) in
    let pair : Pair = get_or c.as_slice.result.now c.loop-at.at (None, None) in
    let here =
    ap (λ (xs : List Pair). slice_get xs c.loop-at.at) (sym c.as_slice.ensures.keys) ∙ is_there c.as_slice.result.now c.loop-at.at (None, None) inside in
    let t = c.in_ok-tell.ensures in
    record {
      so = one_opened (IsNext ws ps ts) (None, None) c.loop-at.at c.loop-at.pairs.keys t.next c.tell.new.pairs.keys pair here t.are_next t.is_joined c.loop-at.invariant.so;
      told = one_told (IsNext ws ps ts) (None, None) (IsDoubledBy ws ps ts) c.loop-at.at c.loop-at.pairs.keys t.is_joined.behind c.tell.new.pairs.keys pair
          c.loop-at.found.items t.doubled c.tell.new.found.items here t.is_joined.is t.are_doubled c.loop-at.invariant.told t.is_found;
      covered = more_covered ps ts c.loop-at.at c.loop-at.pairs.keys t.is_joined.behind c.tell.new.pairs.keys pair c.loop-at.covered.keys _ here t.is_joined.is c.in_ok-cover.ensures
          c.loop-at.invariant.covered;
    }

pub returns : goal.returns
returns c =
    let ws = program_of c.args.statements.now in
    let ps = c.args.parts.now in
    let ts = c.args.targets.now in
    let h = c.loop-at-test.false in
    let l = c.len.ensures.len in
    all_told (IsNext ws ps ts) (None, None) (IsDoubledBy ws ps ts) c.loop-at.at c.loop-at.pairs.keys c.loop-at.found.items (omega (arith, h, l)) c.loop-at.invariant.so
    c.loop-at.invariant.told
