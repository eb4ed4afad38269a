use Rattle.std.proofs.Common.{refl}
use Rattle.std.proofs.lemmas.Option.{slice_get_read}
use Rattle.cil_commands.specs.Asked.{Replies}
use Rattle.cil_commands.proofs.AskedLemmas.{decides_by, declined, has_row}
use Rattle.cil_server.specs.host.QueryFault.TheVariants.{BadSource, BadTarget, NoClass}
use Rattle.cil_commands.proofs.asking.replied.Goals as goal

pub returns-in_default-clause-says : goal.returns-in_default-clause-says
returns-in_default-clause-says c = λ bytes is. declined _ _ _ _ BadSource bytes c.in_default.ensures.none is

pub returns-in_default-parse_context-clause-says : goal.returns-in_default-parse_context-clause-says
returns-in_default-parse_context-clause-says c = λ bytes is.
    declined _ _ _ _ BadTarget bytes ((c.in-Some.from, c.in-Some.ensures.found), c.in_default-parse_context.ensures.none) is

pub returns-in_default-class_named-clause-says : goal.returns-in_default-class_named-clause-says
returns-in_default-class_named-clause-says c = λ bytes is.
    declined _ _ _ _ NoClass bytes (
      (c.in-Some.from, c.in-Some.ensures.found),
      (c.in-Some-parse_context.onto, c.in-Some-parse_context.ensures.found),
      c.in_default-class_named.ensures.none,
    ) is

pub returns-in_default-get-clause-says : goal.returns-in_default-get-clause-says
returns-in_default-get-clause-says c = λ bytes is.
    absurd (has_row _ c.args.source.now c.args.target.now c.args.class.now _ c.classes.result.now c.in-Some-class_named.ensures.found c.classes.ensures.rows c.in_default-get.ensures.lookup.3)

pub returns-clause-says : goal.returns-clause-says
returns-clause-says c = λ bytes is.
    let found = c.in-Some-get.ensures.lookup in
    Replies.decides _ _ bytes
    (decides_by _ _ _ _ c.in-Some.from c.in-Some-parse_context.onto _ c.in-Some.ensures.found c.in-Some-parse_context.ensures.found c.in-Some-class_named.ensures.found
    _ c.classes.result.now c.in-Some-get.row.now _ _ c.classes.ensures.rows (slice_get_read _ _ _ _ refl found.3.0 found.1) c.as_slice.ensures c.defaults.ensures c.decide-decision.ensures) is
