use Rattle.cil_labels.proofs.index.is_writable.Goals as goal

pub returns-then-is_without : goal.returns-then-is_without
returns-then-is_without c = (
  λ t. record { no_hyphen = c.is_without.ensures.0 c.if-is_without.true; no_dot = c.is_without-then-is_without.ensures.0 t },
  λ can. c.is_without-then-is_without.ensures.1 can.no_dot,
)
