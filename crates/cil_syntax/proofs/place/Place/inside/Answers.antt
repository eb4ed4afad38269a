use Rattle.std.proofs.Common.{◌∙◌, map}
use Rattle.cil_syntax.specs.Program.{statement_of}
use Rattle.cil_syntax.specs.Said.{args_of}
use Rattle.cil_syntax.specs.Around.{names_of, names_shared}
use Rattle.cil_syntax.specs.Written.{is_macro, parameters_of}
use Rattle.cil_syntax.proofs.PlaceLemmas.{blocks_within, parameters_within}
use Rattle.cil_syntax.proofs.place.Place.inside.Goals as goal

pub returns-clause-round : goal.returns-clause-round
returns-clause-round c context around nested =
    let statement = c.args.statement.now in
    let here = c.args.self.now in
    record {
      nesting = nested;
      blocks = c.in_ok-blocks.ensures ∙ blocks_within statement.keyword (args_of statement) (names_of here.blocks.items) context.space around.blocks;
      parameters = λ word. c.in_ok-parameters.ensures word
          ∙ parameters_within (is_macro statement.keyword) (record { at = (statement_of statement).at; parameters = map (λ p. p.name) (parameters_of (args_of statement)) })
          (names_shared here.parameters) context.macro word (around.parameters word);
    }
