use Rattle.std.proofs.Common.{◌≡◌, ◌-◌, ◌++◌}
use Rattle.cil_mls.specs.Bits.{in_words}
use Rattle.cil_label_bytes.specs.Sets.{numbers_in, passing}
use Rattle.cil_label_bytes.proofs.put_fields.members_of.Given as goal

abbrev pub invariant-loop-category : goal.invariant-loop-category
invariant-loop-category l =
    l.members.items ++ passing (in_words l.set.words) l.category (1024 - l.category) ≡ numbers_in l.set
