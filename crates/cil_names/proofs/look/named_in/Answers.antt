use Rattle.cil_macros.proofs.AskedLemmas.{at_once}
use Rattle.cil_names.proofs.CandidateLemmas.{nowhere, somewhere}
use Rattle.cil_names.proofs.ScopeLemmas.{asked_there}
use Rattle.cil_names.proofs.look.named_in.Goals as goal

pub returns-then-path : goal.returns-then-path
returns-then-path c =
    let s = c.args.sought.now in
    asked_there c.args.namespaces.now c.args.entries.now c.args.word.now s.path.global s.path.names.now c.requires.sought.taken c.args.from c.entry_of.result
    (somewhere c.args.namespaces.now c.are_namespaces.ensures c.args.entries.now c.requires.entries c.args.word.now.sign c.args.from s.path.names.now c.args.from s.path.names.now
    (at_once c.args.namespaces.now c.args.from s.path.names.now c.requires.within (c.requires.sought.dotless.0 c.if-path.true)) c.entry_of.result c.entry_of.ensures)

pub returns-in_default : goal.returns-in_default
returns-in_default c =
    let s = c.args.sought.now in
    asked_there c.args.namespaces.now c.args.entries.now c.args.word.now s.path.global s.path.names.now c.requires.sought.taken c.args.from _
    (nowhere c.args.namespaces.now c.are_namespaces.ensures c.args.entries.now c.requires.entries c.args.word.now.sign c.args.from s.path.names.now c.in_default.ensures)

pub returns : goal.returns
returns c =
    let s = c.args.sought.now in
    asked_there c.args.namespaces.now c.args.entries.now c.args.word.now s.path.global s.path.names.now c.requires.sought.taken c.args.from c.entry_in.result
    (somewhere c.args.namespaces.now c.are_namespaces.ensures c.args.entries.now c.requires.entries c.args.word.now.sign c.args.from s.path.names.now c.in-Some.place.space
    c.in-Some.place.name.now c.in-Some.ensures c.entry_in.result c.entry_in.ensures)
