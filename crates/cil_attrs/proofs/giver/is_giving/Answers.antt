use Rattle.std.proofs.Common.{◌∙◌, ◌||◌, ap, false}
use Rattle.std.specs.Option.{option_map_or}
use Rattle.cil_known.specs.Spaces.{Sets}
use Rattle.cil_attrs.proofs.giver.is_giving.Goals as goal

pub returns : goal.returns
returns c = λ which is.
    c.either.ensures
    ∙ ap (λ b. b || c.gives_any-of_attributes.result) (c.gives_any-of_aliases.ensures which.aliases is.aliases)
    ∙ ap (λ b. option_map_or (λ (i : Sets). i.giving c.args.keyword) which.aliases false || b) (c.gives_any-of_attributes.ensures which.attributes is.attributes)
