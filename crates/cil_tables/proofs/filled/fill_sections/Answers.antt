use Rattle.std.proofs.Common.{sym, ◌∙◌}
use Rattle.cil_faults.proofs.RefusalLemmas.{refused}
use Rattle.cil_known.specs.Numbers.{names_of}
use Rattle.cil_tables.proofs.filled.fill_sections.Goals as goal

pub given_permissions-requires-clause-known : goal.given_permissions-requires-clause-known
given_permissions-requires-clause-known c = (names_of c.args.names.now, c.requires.known, c.requires.classes)

pub check_forbidden-requires-clause-nodes : goal.check_forbidden-requires-clause-nodes
check_forbidden-requires-clause-nodes c = c.in_ok-held.ensures.nodes_rise

pub given_of-requires-clause-nodes : goal.given_of-requires-clause-nodes
given_of-requires-clause-nodes c = c.in_ok-held.ensures.nodes_rise

pub returns-in_err-check_forbidden : goal.returns-in_err-check_forbidden
returns-in_err-check_forbidden c =
    refused _ _ _ _ c.from_residual-in_err-check_forbidden.ensures.1
    (c.in_err-check_forbidden.ensures (names_of c.args.names.now) (sym c.as_slice-types.ensures.value) c.requires.known c.requires.apart c.requires.stand c.requires.classes c.in_ok-held.ensures)

pub returns : goal.returns
returns c = (
  record {
    given = c.in_ok-given.ensures (names_of c.args.names.now) c.requires.known c.requires.apart c.requires.stand c.requires.classes c.in_ok-held.ensures;
    booleans = c.in_ok-booleans.ensures.names ∙ c.as_slice.ensures.value;
    defaults = c.in_ok-booleans.ensures.defaults;
  },
  (c.in_ok-check_forbidden.ensures (names_of c.args.names.now) (sym c.as_slice-types.ensures.value) c.requires.known c.requires.apart c.requires.stand c.requires.classes c.in_ok-held.ensures).1,
)
