use Rattle.cil_base.specs.Places.{contains_at}
use Rattle.cil_declare.proofs.RunLemmas.{next_parted, next_above, row_within, some_within}
use Rattle.cil_declare.proofs.run.run_at.Goals as goal

pub is_differing-requires-clause-first : goal.is_differing-requires-clause-first
is_differing-requires-clause-first c = c.requires.rows _ (contains_at c.args.rows.now c.args.start _ _ c.requires.within c.index-rows-start.is)

pub is_differing-requires-clause-rows : goal.is_differing-requires-clause-rows
is_differing-requires-clause-rows c = λ r d. c.requires.rows r (row_within c.args.rows.now c.args.start c.run_length.result _ c.from-rest.ensures r d)

pub returns : goal.returns
returns c =
    let rest = c.from-rest.ensures in
    let bound = c.run_length.ensures.within in
    record {
      parted = next_parted c.args.rows.now c.args.start c.run_length.result _ rest bound;
      some = some_within _ _ c.run_length.ensures.first;
      above = next_above c.args.rows.now c.args.start c.run_length.result _ rest c.index-rows-start.result bound c.run_length.ensures.above;
      is_run = record { first = c.run_length.ensures.first; same = c.run_length.ensures.same; tells = c.in_ok-differing.ensures };
    }
