use Rattle.cil_level_tests.proofs.orders.show_placed.Goals as goal

pub show_named-requires-clause-entries : goal.show_named-requires-clause-entries
show_named-requires-clause-entries c = c.in-Ok.ensures.0

pub show_named-requires-clause-plain : goal.show_named-requires-clause-plain
show_named-requires-clause-plain c = c.requires c.in-Ok.names c.in-Ok.ensures.0

pub show_named-requires-clause-clashes : goal.show_named-requires-clause-clashes
show_named-requires-clause-clashes c = c.in-Ok.ensures.1
