use Rattle.std.proofs.Common.{◌≡◌, ◌∙◌, ap, sym, true}
use Rattle.cil_syntax.specs.Said.{all_said}
use Rattle.cil_macros.specs.Items.{item_at}
use Rattle.cil_macros.specs.Listed.{all_parts_of}
use Rattle.cil_macros.specs.ListTerms.{numbered}
use Rattle.cil_mls.specs.attrs.Plain.{are_plain}
use Rattle.cil_ranges.proofs.BehindLemmas.{declared_read}
use Rattle.cil_ranges.proofs.said.plain_terms.Goals as goal

pub returns : goal.returns
returns c =
    let x = item_at c.args.instances.now c.args.at in
    let ts = c.in_ok-terms.terms.items in
    let plain : are_plain (all_said 0 ts) ≡ true = ap (λ l. are_plain (all_said 0 l)) (sym c.as_slice.ensures.value) ∙ sym (c.are_plain.ensures 0) ∙ c.if-not-are_plain.false in
    declared_read c.args.known.now x (numbered (all_parts_of x.args)) 0 ts c.requires.plain (c.in_ok-terms.ensures 0) plain
