use Rattle.cil_macros.specs.Items.{items_in, namespaces_in}
use Rattle.cil_level_tests.proofs.orders.show_by_names.Goals as goal

pub show_words-requires-clause-table : goal.show_words-requires-clause-table
show_words-requires-clause-table c =
    c.in-Ok-settled.ensures (namespaces_in c.args.instances.now) (items_in c.args.instances.now) c.args.permissions.now c.in-Ok.ensures.numbered c.requires.permissions
