use Rattle.cil_conditions.proofs.WalkLemmas.{word_added, word_unsaid}
use Rattle.cil_conditions.proofs.walk.push_boolean.Goals as goal

pub returns-in_default : goal.returns-in_default
returns-in_default c = word_unsaid c.args.known.now c.args.words.now c.meaning_at.result c.meaning_at.ensures c.in_default.ensures

pub returns : goal.returns
returns c =
    word_added c.args.known.now c.args.words.now c.behind_first.result.now c.args.out.now.items c.push.new.self.items c.meaning_at.result c.in-Some.number c.meaning_at.ensures c.in-Some.ensures
    c.in_ok-number.number c.in_ok-number.ensures c.in_ok-push.ensures.items c.behind_first.ensures
