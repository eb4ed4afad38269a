-- What a table says, by the groups of its sections, and the bytes of links. No other crate needs these words.
use Rattle.std.specs.Prelude.{ℕ, List}
use Rattle.std.specs.List.{flat_map}
use Rattle.cil_tables.specs.declared.tables.Link.{Link}
use Rattle.cil_tables.specs.Table.{Table}
use Rattle.cil_table_bytes.specs.Layout.{Linked, Named, link}

abbrev pub names_in : Table → Named
names_in t = record { roles = t.roles; types = t.types; type_aliases = t.type_aliases; classes = t.classes; booleans = t.booleans }

abbrev pub links_in : Table → Linked
links_in t = record { user_roles = t.user_roles; role_types = t.role_types; role_allows = t.role_allows }

-- links, one behind the other: how many there are of what they are between does not matter
abbrev pub links_bytes : List Link → List ℕ
links_bytes = flat_map (link 0 0).spell
