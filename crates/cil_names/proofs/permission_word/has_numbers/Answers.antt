use Rattle.std.proofs.Common.{ap, false, sym, ◌∙◌}
use Rattle.std.specs.Option.{option_map_or}
use Rattle.std.proofs.lemmas.Option.{slice_get-get_or}
use Rattle.cil_syntax.specs.declared.kind.Sign.TheVariants as signs
use Rattle.cil_syntax.specs.Kinds.{is_wanted}
use Rattle.cil_names.specs.declared.entry.Entry.{Entry}
use Rattle.cil_names.proofs.permission_word.has_numbers.Goals as goal

pub returns : goal.returns
returns c =
    c.wants.ensures ∙ sym (ap (λ o. option_map_or (λ (e : Entry). is_wanted signs.Classes e.kind) o false) (slice_get-get_or c.args.entries.now c.args.d c.index-entries-d.result c.requires))
