use Rattle.cil_macros.specs.Items.{items_in, namespaces_in}
use Rattle.cil_names.specs.Entries.{is_in}
use Rattle.cil_tables.specs.CompileRefusal.{ItemsFail}
use Rattle.cil_tables.proofs.CompileLemmas.{handed_on, words_first}
use Rattle.cil_tables.proofs.compiler.named_policy.Goals as goal

pub asks_of-requires-clause-entries : goal.asks_of-requires-clause-entries
asks_of-requires-clause-entries c = c.requires.entries

pub asks_of-requires-clause-permissions : goal.asks_of-requires-clause-permissions
asks_of-requires-clause-permissions c = c.requires.permissions

pub greatest_of-requires-clause-entries : goal.greatest_of-requires-clause-entries
greatest_of-requires-clause-entries c = c.requires.entries

pub judged-requires-clause-entries : goal.judged-requires-clause-entries
judged-requires-clause-entries c = c.requires.entries

pub chosen_policy-requires-clause-named : goal.chosen_policy-requires-clause-named
chosen_policy-requires-clause-named c = c.requires

pub chosen_policy-requires-clause-chosen : goal.chosen_policy-requires-clause-chosen
chosen_policy-requires-clause-chosen c = record {
  greatest = c.in_ok-chosen.ensures.greatest;
  words = c.in_ok-judged.ensures.1;
  right = c.in_ok-chosen.ensures.right;
  first = c.in_ok-chosen.ensures.first;
}

pub chosen_policy-requires-clause-table : goal.chosen_policy-requires-clause-table
chosen_policy-requires-clause-table c =
    c.in_ok-words.ensures (namespaces_in c.args.instances.now) (items_in c.args.instances.now) c.args.permissions.now c.in_ok-asks.ensures.numbered c.requires.permissions

pub returns-in_err-judged-clause-faults : goal.returns-in_err-judged-clause-faults
returns-in_err-judged-clause-faults c =
    handed_on (ItemsFail (items_in c.args.instances.now)) _ _ c.from_residual-in_err-judged.ensures.1
    (words_first (items_in c.args.instances.now) c.requires.apart (is_in c.in_ok-chosen.chosen.enabled) c.in_ok-chosen.ensures.greatest _ c.in_err-judged.ensures)
