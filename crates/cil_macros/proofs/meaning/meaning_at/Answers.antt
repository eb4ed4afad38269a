use Rattle.std.proofs.Common.{◌∙◌, ap, arith, length, subst}
use Rattle.cil_base.specs.Places.{in_range, there_as}
use Rattle.cil_blocks.specs.Entries.{statement_at}
use Rattle.cil_blocks.specs.Places.{entries_in}
use Rattle.cil_blocks.proofs.EntryLemmas.{standings_length}
use Rattle.cil_macros.specs.Macros.{all_standing}
use Rattle.cil_macros.specs.Openings.{IsNumbered}
use Rattle.cil_macros.specs.Placed.{declares}
use Rattle.cil_macros.specs.Scene.{placed_of_scene}
use Rattle.cil_macros.specs.Walks.{written_in}
use Rattle.cil_macros.proofs.BodyMeaning.{argument_word, arguments_here, home_word, macro_below, macro_called, macro_here, number_below, place_word, standing_word}
use Rattle.cil_macros.proofs.CallLemmas.{placed_there, stands_by}
use Rattle.cil_macros.proofs.meaning.meaning_at.Goals as goal

pub returns-in_default-clause-says : goal.returns-in_default-clause-says
returns-in_default-clause-says c = λ p here.
    let l = ap length c.entries-standing.ensures.same in
    let below = c.in_default.ensures in
    c.itself.ensures.says (placed_of_scene c.args.scene.now) c.args.word.now.sign
    ∙ standing_word c.args.scene.now c.args.openings.now c.args.at c.requires p here c.args.word.now (omega (arith, l, below))

pub index-requires : goal.index-requires
index-requires c =
    let s = c.args.scene.now in
    let n = subst (λ k. IsNumbered s.brought.now.entries.items k c.args.at c.in-Some.number) (ap length c.entries-standing.ensures.same) c.in-Some.ensures in
    let here = placed_there s.spaces.now s.brought.now.entries.items c.args.at c.requires.within in
    let h = number_below s c.args.openings.now c.args.at c.requires here.0 here.1 c.in-Some.number n in
    let l = s.brought.now.bodies.ok.0 in
    omega (arith, h, l)

pub standing_statement-called-requires : goal.standing_statement-called-requires
standing_statement-called-requires c =
    let s = c.args.scene.now in
    let n = subst (λ k. IsNumbered s.brought.now.entries.items k c.args.at c.in-Some.number) (ap length c.entries-standing.ensures.same) c.in-Some.ensures in
    let here = placed_there s.spaces.now s.brought.now.entries.items c.args.at c.requires.within in
    let h = number_below s c.args.openings.now c.args.at c.requires here.0 here.1 c.in-Some.number n in
    let b = there_as s.brought.now.bodies.items c.in-Some.number c.index.result.now h c.index.ensures in
    let first = c.requires.first n.rank n.called n.behind n.is in
    let same = n.body in
    let o = there_as c.args.openings.now c.in-Some.number c.index-openings-number.result (omega (arith, first, same)) c.index-openings-number.is in
    let m = macro_here s c.args.openings.now c.args.at c.requires here.0 here.1 c.in-Some.number n c.index.result.now b c.index-openings-number.result o in
    let k = in_range (all_standing s.spaces.now) c.index.result.now.macro_rank _ m in
    let l = standings_length (written_in s.spaces.now) (entries_in s.spaces.now) in
    let e = ap length c.entries.ensures.same in
    omega (arith, k, l, e)

pub returns-in-Some-argument_for-clause-says : goal.returns-in-Some-argument_for-clause-says
returns-in-Some-argument_for-clause-says c = λ p here.
    let s = c.args.scene.now in
    let n = subst (λ k. IsNumbered s.brought.now.entries.items k c.args.at c.in-Some.number) (ap length c.entries-standing.ensures.same) c.in-Some.ensures in
    let h = number_below s c.args.openings.now c.args.at c.requires p here c.in-Some.number n in
    let b = there_as s.brought.now.bodies.items c.in-Some.number c.index.result.now h c.index.ensures in
    let first = c.requires.first n.rank n.called n.behind n.is in
    let same = n.body in
    let o = there_as c.args.openings.now c.in-Some.number c.index-openings-number.result (omega (arith, first, same)) c.index-openings-number.is in
    let called = c.standing_statement-called.result in
    let stated = stands_by s.spaces.now s.brought.now.entries.items c.entries.result.now c.index.result.now.macro_rank called c.entries.ensures.same c.standing_statement-called.ensures in
    let are = arguments_here s c.args.openings.now c.args.at c.requires p here c.in-Some.number n c.index.result.now b c.index-openings-number.result o called stated in
    let macro = macro_called s c.args.openings.now c.args.at c.requires p here c.in-Some.number n c.index.result.now b c.index-openings-number.result o called stated in
    let so = c.in-Some-argument_for.ensures (written_in s.spaces.now) (placed_of_scene s) p.bounds c.requires.scene.declared.parameters macro are in
    c.meaning.ensures.says (placed_of_scene s) c.args.word.now.sign
    ∙ argument_word s c.args.openings.now c.args.at c.requires p here c.in-Some.number n c.index.result.now b c.index-openings-number.result o called stated
    c.args.word.now c.in-Some-argument_for.argument.now so

pub returns-in-Some-argument_for-clause-whole : goal.returns-in-Some-argument_for-clause-whole
returns-in-Some-argument_for-clause-whole c =
    let s = c.args.scene.now in
    let n = subst (λ k. IsNumbered s.brought.now.entries.items k c.args.at c.in-Some.number) (ap length c.entries-standing.ensures.same) c.in-Some.ensures in
    let (p, here) = placed_there s.spaces.now s.brought.now.entries.items c.args.at c.requires.within in
    let h = number_below s c.args.openings.now c.args.at c.requires p here c.in-Some.number n in
    let b = there_as s.brought.now.bodies.items c.in-Some.number c.index.result.now h c.index.ensures in
    let first = c.requires.first n.rank n.called n.behind n.is in
    let same = n.body in
    let o = there_as c.args.openings.now c.in-Some.number c.index-openings-number.result (omega (arith, first, same)) c.index-openings-number.is in
    let called = c.standing_statement-called.result in
    let stated = stands_by s.spaces.now s.brought.now.entries.items c.entries.result.now c.index.result.now.macro_rank called c.entries.ensures.same c.standing_statement-called.ensures in
    let are = arguments_here s c.args.openings.now c.args.at c.requires p here c.in-Some.number n c.index.result.now b c.index-openings-number.result o called stated in
    let macro = macro_called s c.args.openings.now c.args.at c.requires p here c.in-Some.number n c.index.result.now b c.index-openings-number.result o called stated in
    let so = c.in-Some-argument_for.ensures (written_in s.spaces.now) (placed_of_scene s) p.bounds c.requires.scene.declared.parameters macro are in
    c.meaning.ensures.whole (placed_of_scene s) so.whole

pub returns-then-has-clause-says : goal.returns-then-has-clause-says
returns-then-has-clause-says c = λ p here.
    let s = c.args.scene.now in
    let n = subst (λ k. IsNumbered s.brought.now.entries.items k c.args.at c.in-Some.number) (ap length c.entries-standing.ensures.same) c.in-Some.ensures in
    let h = number_below s c.args.openings.now c.args.at c.requires p here c.in-Some.number n in
    let b = there_as s.brought.now.bodies.items c.in-Some.number c.index.result.now h c.index.ensures in
    let first = c.requires.first n.rank n.called n.behind n.is in
    let same = n.body in
    let o = there_as c.args.openings.now c.in-Some.number c.index-openings-number.result (omega (arith, first, same)) c.index-openings-number.is in
    let called = c.standing_statement-called.result in
    let stated = stands_by s.spaces.now s.brought.now.entries.items c.entries.result.now c.index.result.now.macro_rank called c.entries.ensures.same c.standing_statement-called.ensures in
    let are = arguments_here s c.args.openings.now c.args.at c.requires p here c.in-Some.number n c.index.result.now b c.index-openings-number.result o called stated in
    let macro = macro_called s c.args.openings.now c.args.at c.requires p here c.in-Some.number n c.index.result.now b c.index-openings-number.result o called stated in
    let so = c.in_default-argument_for.ensures (written_in s.spaces.now) (placed_of_scene s) p.bounds c.requires.scene.declared.parameters macro are in
    let below = macro_below s c.args.openings.now c.args.at c.requires p here c.in-Some.number n c.index.result.now b c.index-openings-number.result o called stated in
    c.itself-then-has.ensures.says (placed_of_scene s) c.args.word.now.sign
    ∙ home_word s c.args.openings.now c.args.at c.requires p here c.in-Some.number n c.index.result.now b c.index-openings-number.result o called stated
    c.args.word.now so
    (c.if-has.ensures (written_in s.spaces.now) c.requires.scene.declared below ∙ ap (λ bytes. declares (written_in s.spaces.now) (statement_at (written_in s.spaces.now) called) bytes c.args.word.now.sign) c.as_slice.ensures)

pub returns-clause-says : goal.returns-clause-says
returns-clause-says c = λ p here.
    let s = c.args.scene.now in
    let n = subst (λ k. IsNumbered s.brought.now.entries.items k c.args.at c.in-Some.number) (ap length c.entries-standing.ensures.same) c.in-Some.ensures in
    let h = number_below s c.args.openings.now c.args.at c.requires p here c.in-Some.number n in
    let b = there_as s.brought.now.bodies.items c.in-Some.number c.index.result.now h c.index.ensures in
    let first = c.requires.first n.rank n.called n.behind n.is in
    let same = n.body in
    let o = there_as c.args.openings.now c.in-Some.number c.index-openings-number.result (omega (arith, first, same)) c.index-openings-number.is in
    let called = c.standing_statement-called.result in
    let stated = stands_by s.spaces.now s.brought.now.entries.items c.entries.result.now c.index.result.now.macro_rank called c.entries.ensures.same c.standing_statement-called.ensures in
    let are = arguments_here s c.args.openings.now c.args.at c.requires p here c.in-Some.number n c.index.result.now b c.index-openings-number.result o called stated in
    let macro = macro_called s c.args.openings.now c.args.at c.requires p here c.in-Some.number n c.index.result.now b c.index-openings-number.result o called stated in
    let so = c.in_default-argument_for.ensures (written_in s.spaces.now) (placed_of_scene s) p.bounds c.requires.scene.declared.parameters macro are in
    let below = macro_below s c.args.openings.now c.args.at c.requires p here c.in-Some.number n c.index.result.now b c.index-openings-number.result o called stated in
    c.itself-2.ensures.says (placed_of_scene s) c.args.word.now.sign
    ∙ place_word s c.args.openings.now c.args.at c.requires p here c.in-Some.number n c.index.result.now b c.index-openings-number.result o called stated
    c.args.word.now so
    (c.if-has.ensures (written_in s.spaces.now) c.requires.scene.declared below ∙ ap (λ bytes. declares (written_in s.spaces.now) (statement_at (written_in s.spaces.now) called) bytes c.args.word.now.sign) c.as_slice.ensures)

pub returns-in_default-clause-whole : goal.returns-in_default-clause-whole
returns-in_default-clause-whole c = c.itself.ensures.whole (placed_of_scene c.args.scene.now)

pub returns-then-has-clause-whole : goal.returns-then-has-clause-whole
returns-then-has-clause-whole c = c.itself-then-has.ensures.whole (placed_of_scene c.args.scene.now)

pub returns-clause-whole : goal.returns-clause-whole
returns-clause-whole c = c.itself-2.ensures.whole (placed_of_scene c.args.scene.now)
