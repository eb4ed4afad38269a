use Rattle.cil_locate.proofs.found.found_of.Goals as goal

pub returns-in-Ok : goal.returns-in-Ok
returns-in-Ok c = (
  c.in-Ok.ensures.compiled,
  record {
    origins = c.in_ok-origins.origins.items;
    are_origins = c.in_ok-origins.ensures;
    in_order = rw (c.as_slice.ensures.value, c.as_slice-in-Ok.ensures.value) at c.in_ok-order-in-Ok.ensures;
  },
)
