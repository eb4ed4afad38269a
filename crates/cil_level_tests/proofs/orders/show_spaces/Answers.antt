use Rattle.cil_macros.specs.Items.{items_in, namespaces_in}
use Rattle.cil_tables.proofs.CompileLemmas.{its_names}
use Rattle.cil_tables.proofs.PlainLemmas.{plain_names}
use Rattle.cil_level_tests.proofs.orders.show_spaces.Goals as goal

pub show_placed-requires : goal.show_placed-requires
show_placed-requires c = λ es entries.
    let i = c.in-Ok.instances in
    plain_names (namespaces_in i) (items_in i) es (its_names c.args.stands.now c.requires.standings c.requires.nested i c.in-Ok.ensures.0 c.called.ensures.placed) entries
