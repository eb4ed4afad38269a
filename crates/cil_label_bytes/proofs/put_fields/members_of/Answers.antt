use Rattle.std.proofs.Common.{◌∙◌, sym}
use Rattle.cil_mls.specs.Bits.{in_words}
use Rattle.cil_label_bytes.specs.Sets.{numbers_in}
use Rattle.cil_label_bytes.proofs.MemberLemmas.{member_in, member_out, members_all}
use Rattle.cil_label_bytes.proofs.put_fields.members_of.Goals as goal
use Rattle.cil_label_bytes.proofs.put_fields.members_of.Goals.{then-has+in_ok-push, else-has}

pub loop-category-preserved : goal.loop-category-preserved
loop-category-preserved c = elim c.if-has.branch [
  | then-has+in_ok-push w ↦
      rw (w.members-is, w.in_ok-push.ensures.items)
      (member_in (in_words c.args.set.now.words) c.loop-category.members.items 1024 c.loop-category.category (numbers_in c.args.set.now) c.loop-category-test.true
      (sym c.has.ensures ∙ w.if-has.true) c.loop-category.invariant)
  | else-has w ↦
      rw w.members-is
      (member_out (in_words c.args.set.now.words) c.loop-category.members.items 1024 c.loop-category.category (numbers_in c.args.set.now) c.loop-category-test.true
      (sym c.has.ensures ∙ w.if-has.false) c.loop-category.invariant)
]

pub returns : goal.returns
returns c =
    members_all (in_words c.args.set.now.words) c.loop-category.members.items 1024 c.loop-category.category (numbers_in c.args.set.now) c.loop-category-test.false c.loop-category.invariant
