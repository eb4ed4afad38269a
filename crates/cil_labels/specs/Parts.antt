-- What tables hold of levels, by the parts that they are put together from.
use Rattle.cil_labels.specs.declared.labels.LabelParts.{LabelParts}
use Rattle.cil_labels.specs.Index.{HasIndex}
use Rattle.cil_labels.specs.LevelTable.{LevelTable}

-- the table of the parts
abbrev pub table_of : LabelParts → LevelTable
table_of p = record {
  are_on = p.are_on;
  categories = p.categories.items;
  category_aliases = p.category_aliases.items;
  sensitivities = p.sensitivities.items;
  permitted = p.permitted.items;
  sensitivity_aliases = p.sensitivity_aliases.items;
  users = p.users.items;
}

-- each name that can be written stands for one place: of 256 sensitivities at most, and of 1,024 categories
abbrev pub AreApart : LevelTable → Type 0
AreApart t = HasIndex 256 t.sensitivities t.sensitivity_aliases × HasIndex 1024 t.categories t.category_aliases
