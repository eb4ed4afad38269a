use Rattle.std.proofs.Common.{ap, ◌++◌, ◌∙◌, ℕ, List}
use Rattle.cil_table_bytes.specs.Layout.{header}
use Rattle.cil_table_bytes.proofs.WriteLemmas.{front_put}
use Rattle.cil_table_bytes.proofs.writing.front_of.Goals as goal

pub returns : goal.returns
returns c =
    front_put c.args.tables.now c.levels.result.now c.levels-2.result.now c.are_on.result c.users.result.now c.put_header.new.out.items c.put_labels.new.out.items c.put_names.new.out.items
    c.levels.ensures.levels c.are_on.ensures c.levels-2.ensures.levels c.users.ensures.names
    (c.in_ok-put_header.ensures ∙ ap (λ (w : List ℕ). w ++ header.spell c.are_on.result) c.new-front.ensures.items) c.in_ok-put_labels.ensures c.in_ok-put_names.ensures
