-- Which symbol an entry declares, and of which kind it is.
use Rattle.std.specs.Prelude.{Bool, ◌&&◌, nat_eq, List}
use Rattle.cil_syntax.specs.declared.kind.Kind.{Kind}
use Rattle.cil_syntax.specs.Kinds.{kind_number}
use Rattle.cil_macros.specs.blocks.Namespaces.{space_at}
use Rattle.cil_macros.specs.blocks.Space.{Space}
use Rattle.cil_macros.specs.Item.{OptSet}
use Rattle.cil_names.specs.Declarations.{Symbol}
use Rattle.cil_names.specs.Entries.{is_declared_in}
use Rattle.cil_names.specs.declared.entry.Entry.{Entry}

-- the symbol that an entry declares
abbrev pub symbol_of : List Space → Entry → Symbol
symbol_of ss e = record { space = space_at ss e.space; name = e.name }

-- the entry is of this kind, and is declared where these optionals are enabled
abbrev pub is_of : OptSet → Kind → Entry → Bool
is_of s kind e = nat_eq (kind_number e.kind) (kind_number kind) && is_declared_in s e
