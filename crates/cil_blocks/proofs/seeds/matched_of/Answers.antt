use Rattle.std.proofs.Common.{List, ℕ, subst}
use Rattle.cil_syntax.specs.Program.{program_of}
use Rattle.cil_blocks.specs.Doubled.{AreThose, IsMatched}
use Rattle.cil_blocks.specs.Seeds.{IsPaired, own_name}
use Rattle.cil_blocks.proofs.seeds.matched_of.Goals as goal

pub returns : goal.returns
returns c =
    let key = own_name (program_of c.args.statements.now) in
    record {
      doubled = subst (λ (xs : List ℕ). AreThose (IsMatched key xs c.args.others.now.named.items) c.in_ok-doubled.doubled.items) c.as_slice.ensures.value
          (subst (λ (ys : List ℕ). AreThose (IsMatched key c.as_slice.result.now ys) c.in_ok-doubled.doubled.items) c.as_slice-2.ensures.value c.in_ok-doubled.ensures);
      next = subst (λ (xs : List ℕ). AreThose (IsPaired key xs c.args.others.now.open_blocks.items) c.in_ok-next.next.items) c.as_slice-3.ensures.value
          (subst (λ (ys : List ℕ). AreThose (IsPaired key c.as_slice-3.result.now ys) c.in_ok-next.next.items) c.as_slice-4.ensures.value c.in_ok-next.ensures);
    }
