use Rattle.cil_attrs.proofs.GiverLemmas.{giving_kind, not_giving}
use Rattle.cil_attrs.proofs.giver.gives_one.Goals as goal

pub returns-then-not-same_keyword : goal.returns-then-not-same_keyword
returns-then-not-same_keyword c = λ j is. not_giving c.args.sets j c.args.keyword c.args.kind c.same_keyword.result is c.same_keyword.ensures c.if-not-same_keyword.true

pub returns : goal.returns
returns c = λ j is. giving_kind c.args.sets j c.args.keyword c.args.kind c.same_keyword.result c.is_same_kind.result is c.same_keyword.ensures c.if-not-same_keyword.false c.is_same_kind.ensures
