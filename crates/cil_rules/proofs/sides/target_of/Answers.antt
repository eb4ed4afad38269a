use Rattle.cil_rules.proofs.TargetLemmas.{form_reached, name_lost, word_lost, word_reached}
use Rattle.cil_rules.proofs.sides.target_of.Goals as goal

pub returns-in_ok-short-in-Some : goal.returns-in_ok-short-in-Some
returns-in_ok-short-in-Some c = λ k xs names f m known standing begin.
    word_reached k f m c.args.term.now xs names known c.args.types.now standing c.args.words.now begin c.meaning_at.result c.meaning_at.ensures c.in-Leaf.field-0 c.in-Leaf.is
    _ _ c.in-Some.ensures.0 c.in-Some.ensures.1 c.in_ok-short-in-Some.ensures

pub returns-in-None : goal.returns-in-None
returns-in-None c = λ k xs names f m known standing begin.
    word_lost k f m c.args.term.now xs names known c.args.types.now standing c.args.words.now begin c.meaning_at.result c.meaning_at.ensures c.in-Leaf.field-0 c.in-Leaf.is c.in-None.ensures

pub returns-in-Name : goal.returns-in-Name
returns-in-Name c = λ k xs names f m known standing begin.
    name_lost k f m c.args.term.now xs names _ _ c.in-Name.is

pub returns-in-Form : goal.returns-in-Form
returns-in-Form c = λ k xs names f m known standing begin.
    form_reached k f m c.args.term.now xs names c.args.types.now _ c.in-Form.op c.in-Form.field-2 c.itself.result c.in-Form.is c.itself.ensures
