use Rattle.std.proofs.lemmas.Result.{on_ok_weaker}
use Rattle.cil_names.proofs.AskedPartLemmas.{class_pushed, no_class}
use Rattle.cil_names.proofs.asked_parts.ask_class.Goals as goal

pub returns-in_default : goal.returns-in_default
returns-in_default c = λ ps. no_class ps c.args.parts.now c.args.asked.now.items (c.in_default.ensures ps)

pub returns : goal.returns
returns c =
    on_ok_weaker c.push_asked.result
    (λ push ps.
    class_pushed ps c.args.parts.now c.in-Some.front.behind.now c.in-Some.front.word.now c.copied.result c.in_ok-permissions.permissions c.args.asked.now.items _ c.in-Some.ensures c.copied.ensures
    (c.in_ok-permissions.ensures ps) push)
    c.push_asked.ensures
