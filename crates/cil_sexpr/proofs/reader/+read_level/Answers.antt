use Rattle.std.proofs.Common.{arith, rules}
use Rattle.cil_sexpr.proofs.Clean.{clean_open}
use Rattle.cil_sexpr.proofs.FirstFault.{unclosed, stray_close, open_quote, bad_byte, too_deep, word_outside, string_outside}
use Rattle.cil_sexpr.proofs.Level.{read_blank, read_comment, read_word, read_string, read_list, level_of}
use Rattle.cil_sexpr.proofs.reader.+read_level.Goals as goal

pub loop-at-preserved-in-Blank : goal.loop-at-preserved-in-Blank
loop-at-preserved-in-Blank t c = read_blank _ c.loop-at.invariant c.loop-at-test.true c.in-Blank.ensures

pub loop-at-preserved-in-Semicolon : goal.loop-at-preserved-in-Semicolon
loop-at-preserved-in-Semicolon t c = read_comment _ _ c.loop-at.invariant c.comment_end-at.ensures

pub loop-at-preserved-in-Word : goal.loop-at-preserved-in-Word
loop-at-preserved-in-Word t c =
    read_word _ _ _ _ c.loop-at.invariant c.in_ok-push-in-Word.ensures.items (omega arith) c.word_end-end.ensures c.span.ensures.start c.span.ensures.end

pub loop-at-preserved-in-Quote : goal.loop-at-preserved-in-Quote
loop-at-preserved-in-Quote t c =
    read_string _ _ _ _ c.loop-at.invariant c.in_ok-push-in-Quote.ensures.items (omega arith) c.in-Some.ensures.string
    c.span-in-Quote.ensures.start c.span-in-Quote.ensures.end

pub read_level-requires : goal.read_level-requires
read_level-requires t c =
    let clean = clean_open c.loop-at.invariant.clean c.loop-at-test.true c.in-Open.ensures (omega arith) in
    (search rules, (clean, omega arith))

pub loop-at-preserved : goal.loop-at-preserved
loop-at-preserved t c =
    read_list _ _ _ _ _ c.loop-at.invariant c.in_ok-push-in-Open.ensures.items (omega arith) (c.loop-at-test.true, c.in-Open.ensures)
    c.in_ok-inner-in-Open.ensures.level c.span-in-Open.ensures.start c.span-in-Open.ensures.end

pub returns-in-Close-2-clause-level : goal.returns-in-Close-2-clause-level
returns-in-Close-2-clause-level t c =
    level_of _ c.loop-at.invariant record { top = λ e. absurd (omega arith); list = λ h. (c.loop-at-test.true, c.in-Close-2.ensures) }

pub returns-clause-level : goal.returns-clause-level
returns-clause-level t c =
    let within = c.loop-at.invariant.clean.within in
    level_of _ c.loop-at.invariant record { top = λ e. omega arith; list = λ h. absurd (omega arith) }

pub fault-requires : goal.fault-requires
fault-requires t c = word_outside c.loop-at.invariant.clean c.loop-at-test.true c.if-depth-eq0.true c.in-Word.ensures

pub fault-requires-in_default : goal.fault-requires-in_default
fault-requires-in_default t c = open_quote c.loop-at.invariant.clean c.loop-at-test.true c.in-Quote.ensures c.in_default.ensures.none

pub fault-requires-then-depth-eq0-2 : goal.fault-requires-then-depth-eq0-2
fault-requires-then-depth-eq0-2 t c =
    string_outside _ c.loop-at.invariant.clean c.loop-at-test.true c.if-depth-eq0-2.true c.in-Quote.ensures c.in-Some.ensures.string

pub fault-requires-then-depth-eq-DEEPEST : goal.fault-requires-then-depth-eq-DEEPEST
fault-requires-then-depth-eq-DEEPEST t c = too_deep c.loop-at.invariant.clean c.loop-at-test.true c.in-Open.ensures c.if-depth-eq-DEEPEST.true

pub fault-requires-in-Close : goal.fault-requires-in-Close
fault-requires-in-Close t c = stray_close c.loop-at.invariant.clean c.loop-at-test.true c.in-Close.ensures c.if-depth-eq0-3.true

pub fault-requires-in-Bad : goal.fault-requires-in-Bad
fault-requires-in-Bad t c = bad_byte c.loop-at.invariant.clean c.loop-at-test.true c.in-Bad.ensures

pub fault-requires-then-depth-gt0 : goal.fault-requires-then-depth-gt0
fault-requires-then-depth-gt0 t c = let within = c.loop-at.invariant.clean.within in unclosed c.loop-at.invariant.clean (omega arith) c.if-depth-gt0.true
