use Rattle.std.proofs.Common.{◌∙◌, ap}
use Rattle.std.specs.Prelude.{reverse}
use Rattle.std.specs.List.{join_with_byte}
use Rattle.cil_syntax.specs.Around.{names_of}
use Rattle.cil_blocks.proofs.ReportLemmas.{names_reversed}
use Rattle.cil_blocks.proofs.spelled.spelled.Goals as goal

pub returns : goal.returns
returns c =
    c.from_vec.ensures ∙ c.in_ok-joined.ensures
    ∙ ap (λ names. join_with_byte 46 (names_of names)) (c.as_slice.ensures.value ∙ c.reverse.ensures.items)
    ∙ ap (join_with_byte 46) (names_reversed c.in_ok-names.names.items)
    ∙ ap (λ names. join_with_byte 46 (reverse names)) c.in_ok-names.ensures
