use Rattle.std.proofs.Common.{◌∙◌, ◌&&◌, ◌||◌, ap, false}
use Rattle.std.specs.Option.{option_map_or}
use Rattle.cil_known.specs.Spaces.{Sets}
use Rattle.cil_attrs.specs.Holding.{is_kind}
use Rattle.cil_attrs.proofs.giver.gives.Goals as goal

pub returns : goal.returns
returns c = λ which is.
    c.either.ensures
    ∙ ap (λ b. b || c.gives_kind-of_attributes.result) (c.gives_kind-of_aliases.ensures which.aliases is.aliases)
    ∙ ap (λ b. option_map_or (λ (i : Sets). i.giving c.args.keyword && is_kind c.args.kind i.kind) which.aliases false || b) (c.gives_kind-of_attributes.ensures which.attributes is.attributes)
