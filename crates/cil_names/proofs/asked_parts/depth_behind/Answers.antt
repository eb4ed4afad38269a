use Rattle.cil_names.proofs.AskedPartLemmas.{closes_inside, opens_inside, text_inside, word_inside}
use Rattle.cil_names.proofs.asked_parts.depth_behind.Goals as goal

pub returns-in-Word-clause-inside : goal.returns-in-Word-clause-inside
returns-in-Word-clause-inside c = λ ps xs. word_inside ps c.args.part.now c.args.depth xs c.in-Word.field-0 c.in-Word.is

pub returns-in-Text-clause-inside : goal.returns-in-Text-clause-inside
returns-in-Text-clause-inside c = λ ps xs. text_inside ps c.args.part.now c.args.depth xs c.in-Text.field-0 c.in-Text.field-1 c.in-Text.is

pub returns-in-Opens-clause-inside : goal.returns-in-Opens-clause-inside
returns-in-Opens-clause-inside c = λ ps xs. opens_inside ps c.args.part.now c.args.depth xs c.in-Opens.field-0 c.in-Opens.field-1 c.in-Opens.is

pub returns-in-Closes-clause-inside : goal.returns-in-Closes-clause-inside
returns-in-Closes-clause-inside c = λ ps xs. closes_inside ps c.args.part.now c.args.depth xs c.in-Closes.is c.before-in-Closes.result c.before-in-Closes.ensures
