use Rattle.cil_ranges.proofs.ReadLemmas.{first_behind, nothing_behind}
use Rattle.cil_ranges.proofs.level.first_value.Goals as goal

pub returns-in-empty : goal.returns-in-empty
returns-in-empty c = λ k g m f us more measures read n l. nothing_behind k c.args.by.now g measures f m c.args.terms.now us c.args.words.now more read c.in-empty.len_below c.none.result.words c.none.ensures n

pub returns-in-len1-up : goal.returns-in-len1-up
returns-in-len1-up c = λ k g m f us more measures read n l.
    first_behind k c.args.by.now g measures f m c.args.terms.now us c.args.words.now more read c.first-item.result c.in-len1-up.len_at_least c.first-item.is c.value.result c.value.ensures n l
