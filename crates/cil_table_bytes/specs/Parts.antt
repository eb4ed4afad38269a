-- What was read of a table, by the parts in which it is kept. No other crate needs these words.
use Rattle.cil_tables.specs.Table.{Table}
use Rattle.cil_table_bytes.specs.declared.reading.Linked as kept_links
use Rattle.cil_table_bytes.specs.declared.reading.Named as kept_names
use Rattle.cil_table_bytes.specs.declared.reading.ReadTable.{ReadTable}
use Rattle.cil_table_bytes.specs.Layout.{Linked, Named, table_of}

abbrev pub named_by : kept_names.Named → Named
named_by n = record { roles = n.roles.items; types = n.types.items; type_aliases = n.type_aliases.items; classes = n.classes.items; booleans = n.booleans.items }

abbrev pub linked_by : kept_links.Linked → Linked
linked_by l = record { user_roles = l.user_roles; role_types = l.role_types; role_allows = l.role_allows }

abbrev pub read_by : ReadTable → Table
read_by t = table_of (record { levels = t.labels.labels; users = t.labels.users }, (named_by t.named, (linked_by t.linked, (t.ruled.rules, t.ruled.constraints.items))))
