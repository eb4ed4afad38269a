use Rattle.std.proofs.Common.{◌<◌, subst, arith}
use Rattle.std.specs.Prelude.{Contains}
use Rattle.std.proofs.lemmas.Bool.{ltb-true, lt-ltb}
use Rattle.cil_modset.proofs.RisingLemmas.{member_of_number}
use Rattle.cil_modset.proofs.WalkLemmas.{stopped_at, passed_on}
use Rattle.cil_modset.proofs.new_texts.NewTexts.knows.Goals as goal

pub returns-then-self-len-clause-known : goal.returns-then-self-len-clause-known
returns-then-self-len-clause-known c = λ seen passed above.
    let p = c.pass_below-self.ensures in (
      λ yes. let same = c.is_same.ensures.0 yes in
          subst (λ w. Contains c.args.ours.now w) same
          (rw c.get.ensures (member_of_number c.args.ours.now c.pass_below-self.result (omega arith))),
      λ known. let at = stopped_at _ seen _ _ _ c.len.ensures.rising passed above p.below (λ h. p.stops (omega arith)) known in
          c.is_same.ensures.1 (rw c.get.ensures at.1),
    )

pub returns-else-self-len-clause-known : goal.returns-else-self-len-clause-known
returns-else-self-len-clause-known c = λ seen passed above.
    let p = c.pass_below-self.ensures in
    let past = c.if-self-len.false in (
      λ yes. let lt : c.pass_below-self.result < c.len.result = ltb-true _ _ yes in absurd (omega arith),
      λ known. let at = stopped_at _ seen _ _ _ c.len.ensures.rising passed above p.below (λ h. p.stops (omega arith)) known in
          let lt : c.pass_below-self.result < c.len.result = omega (arith, at.0) in lt-ltb _ _ lt,
    )

pub returns-then-self-len-clause-passed : goal.returns-then-self-len-clause-passed
returns-then-self-len-clause-passed c = λ seen passed above.
    passed_on _ seen _ _ _ passed above c.pass_below-self.ensures.within c.pass_below-self.ensures.below

pub returns-else-self-len-clause-passed : goal.returns-else-self-len-clause-passed
returns-else-self-len-clause-passed c = λ seen passed above.
    passed_on _ seen _ _ _ passed above c.pass_below-self.ensures.within c.pass_below-self.ensures.below
