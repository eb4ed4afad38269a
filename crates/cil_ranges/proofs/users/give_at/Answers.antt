use Rattle.std.proofs.Common.{subst, arith}
use Rattle.cil_macros.specs.Items.{item_at, items_in}
use Rattle.cil_ranges.specs.Given.{IsGivenThere, IsGiving}
use Rattle.cil_ranges.proofs.UserLemmas.{gives_one, nothing_more, one_given, range_back}
use Rattle.cil_ranges.proofs.users.give_at.Goals as goal

pub returns-in_default-clause-given : goal.returns-in_default-clause-given
returns-in_default-clause-given c = λ g items reads.
    let x = item_at c.args.instances.now c.args.at in
    nothing_more c.args.known.now g x (subst (IsGiving c.args.known.now g x) c.in_default.is (c.in_ok-giving.ensures.gives g items reads)) c.args.all.now

pub give-requires-clause-ranges : goal.give-requires-clause-ranges
give-requires-clause-ranges c =
    let w = (subst (IsGivenThere c.args.known.now (item_at c.args.instances.now c.args.at)) c.in-Some.is c.in_ok-giving.ensures.there).within in
    let len = c.requires.room.of_ranges in
    omega (arith, w, len)

pub give-requires-clause-differing : goal.give-requires-clause-differing
give-requires-clause-differing c =
    let w = (subst (IsGivenThere c.args.known.now (item_at c.args.instances.now c.args.at)) c.in-Some.is c.in_ok-giving.ensures.there).within in
    let len = c.requires.room.of_differing in
    omega (arith, w, len)

pub returns-clause-given : goal.returns-clause-given
returns-clause-given c = λ g items reads xs are.
    let k = c.args.known.now in
    let i = c.args.instances.now in
    let x = item_at i c.args.at in
    let v = c.in-Some.giving in
    let gives = subst (IsGiving k g x) c.in-Some.is (c.in_ok-giving.ensures.gives g items reads) in
    one_given k g x v gives
    (λ d r h. let p = gives_one k (items_in i) c.requires.known.0 c.requires.known.1 c.means_what_it_names.ensures g items x c.args.by.now reads d v.user r v.range h gives in (p.0, range_back r v.range p.1))
    c.args.all.now c.give.new.all c.give.ensures xs are
