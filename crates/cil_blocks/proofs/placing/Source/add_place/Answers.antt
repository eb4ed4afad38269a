use Rattle.std.proofs.Common.{get_or, refl, sym, ◌∙◌}
use Rattle.std.specs.Prelude.{None}
use Rattle.cil_syntax.specs.Program.{program_of}
use Rattle.cil_blocks.specs.declared.entry.Entry.{Entry}
use Rattle.cil_blocks.proofs.PlacingLemmas.{opener_reached, reached_again, reached_global, reached_inside, reached_kept, reached_space}
use Rattle.cil_blocks.proofs.placing.Source.add_place.Goals as goal

abbrev no_entry : Entry
no_entry = record { statement = 0; opener = None }

pub returns-in_default-clause-first : goal.returns-in_default-clause-first
returns-in_default-clause-first c =
    let es = c.args.self.now.entries.now in
    let low = c.in_default.ensures in
    reached_global (program_of c.args.self.now.statements.now) c.args.spaces.now.namespaces es (get_or es c.args.rank no_entry) no_entry c.args.rank c.args.places.now c.push_global.new.self
    c.requires.next refl (record { lower = low.lower; same = low.same; higher = low.higher }) c.requires.first c.in_ok-push_global.ensures

pub returns-in-Some-repeated-clause-first : goal.returns-in-Some-repeated-clause-first
returns-in-Some-repeated-clause-first c =
    let es = c.args.self.now.entries.now in
    let low = c.in-Some.ensures in
    reached_again (program_of c.args.self.now.statements.now) c.args.spaces.now.namespaces es (get_or es c.args.rank no_entry) no_entry c.args.rank c.in-Some.opener c.in-Some-repeated.before
    c.args.places.now c.push_again.new.self c.requires.next refl (record { lower = low.lower; same = low.same; higher = low.higher }) c.in-Some-repeated.ensures c.requires.first
    c.in_ok-push_again.ensures

pub returns-then-keeps_place_at-clause-first : goal.returns-then-keeps_place_at-clause-first
returns-then-keeps_place_at-clause-first c =
    let es = c.args.self.now.entries.now in
    let low = c.in-Some.ensures in
    reached_kept (program_of c.args.self.now.statements.now) c.args.spaces.now.namespaces es (get_or es c.args.rank no_entry) (get_or es c.in-Some.opener no_entry) no_entry c.args.rank
    c.in-Some.opener c.args.places.now c.push_again-then-keeps_place_at.new.self c.requires.next refl refl (record { lower = low.lower; same = low.same; higher = low.higher })
    (sym (c.keeps_place_at.ensures c.requires.nested) ∙ c.if-keeps_place_at.true) c.requires.first c.in_ok-push_again-2.ensures

pub returns-in_default-space : goal.returns-in_default-space
returns-in_default-space c =
    absurd (opener_reached (program_of c.args.self.now.statements.now) c.args.spaces.now.namespaces c.args.self.now.entries.now c.args.rank c.in-Some.opener c.args.places.now c.requires.next
    c.in-Some.ensures.lower c.requires.first c.in_default-space.ensures)

pub inside-requires-clause-space : goal.inside-requires-clause-space
inside-requires-clause-space c =
    let es = c.args.self.now.entries.now in
    reached_space (program_of c.args.self.now.statements.now) c.args.spaces.now.namespaces es c.args.rank c.in-Some.opener c.in-Some-space.outer (get_or es c.in-Some.opener no_entry) no_entry
    c.args.places.now c.requires.next c.in-Some.ensures.lower refl c.requires.first c.in-Some-space.ensures

pub returns-clause-first : goal.returns-clause-first
returns-clause-first c =
    let es = c.args.self.now.entries.now in
    let low = c.in-Some.ensures in
    let (r, at, same) = c.in-Some-space.ensures in
    let so = c.in_ok-inside.ensures in
    reached_inside (program_of c.args.self.now.statements.now) c.args.spaces.now.namespaces c.inside.new.spaces.namespaces es (get_or es c.args.rank no_entry) (get_or es c.in-Some.opener no_entry) no_entry
    c.args.rank c.in-Some.opener c.in-Some-space.outer c.args.places.now c.push_inside.new.self r c.in_ok-inside.inside.space c.in_ok-inside.inside.written c.requires.next refl refl
    (record { lower = low.lower; same = low.same; higher = low.higher }) c.requires.first at same
    (sym (c.keeps_place_at.ensures c.requires.nested) ∙ c.if-keeps_place_at.false) c.requires.written.once so.written.once so.grown so.inside (c.in_ok-push_inside.ensures r at)
