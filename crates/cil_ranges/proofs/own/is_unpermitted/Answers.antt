use Rattle.cil_ranges.proofs.OwnLemmas.{from_not, none_unpermitted, is_unpermitted, is_within, not_unpermitted}
use Rattle.cil_ranges.proofs.own.is_unpermitted.Goals as goal

pub returns-in_default : goal.returns-in_default
returns-in_default c = λ k g m f us more judges read. none_unpermitted k c.args.by.now g judges us (c.in_default.ensures k g m f us more judges.measures read)

pub returns : goal.returns
returns c = λ k g m f us more judges read.
    let l = c.in-Some.level in
    let says = c.in-Some.ensures k g m f us more judges.measures read in
    from_not c.is_permitted.result (c.is_permitted.ensures (is_within k c.args.by.now g judges us l says)) (is_unpermitted k c.args.by.now g judges us l says) (not_unpermitted k c.args.by.now g judges us l says)
