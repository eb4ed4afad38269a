use Rattle.std.proofs.Common.{◌≡◌, true, false, ◌∙◌, sym}
use Rattle.cil_level_rows.proofs.users.range_rows.Goals as goal

pub returns : goal.returns
returns c = record { off = λ off. absurd (let e : true ≡ false = sym c.if-not-are_on.false ∙ off in cc); on = λ yes_. c.in_ok-rows.ensures }
