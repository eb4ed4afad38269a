use Rattle.std.proofs.Common.{ap, subst, ◌∙◌}
use Rattle.cil_blocks.specs.Namespaces.{AreNamespaces}
use Rattle.cil_macros.specs.Items.{items_in, namespaces_in}
use Rattle.cil_optionals.specs.Parts.{parts_with}
use Rattle.cil_optionals.proofs.RowParts.{all_with}
use Rattle.cil_words.specs.Table.{asks}
use Rattle.cil_optionals.proofs.parts.parts_of.Goals as goal

pub returns : goal.returns
returns c =
    let xs = items_in c.args.instances.now in record {
      namespaces = subst AreNamespaces c.namespaces.ensures.value c.namespaces.ensures.once;
      entries = c.requires.entries;
      nested = c.are_nested.ensures.nested;
      parts = ap (parts_with xs) c.requires.asks ∙ all_with (asks (namespaces_in c.args.instances.now) c.args.names.now xs) xs;
    }
