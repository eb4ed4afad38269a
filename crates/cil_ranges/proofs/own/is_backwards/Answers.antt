use Rattle.std.proofs.Common.{◌≡◌, ◌<◌, ◌≤◌, ℕ, arith, false, ltb, true}
use Rattle.std.proofs.lemmas.Bool.Decides.{nat_tests}
use Rattle.cil_ranges.proofs.OwnLemmas.{backwards, forwards, match_test, no_span}
use Rattle.cil_ranges.proofs.own.is_backwards.Goals as goal

pub returns-in_default : goal.returns-in_default
returns-in_default c = λ k g m f us more measures read. no_span k c.args.by.now g measures us (c.in_default.ensures k g m f us more measures read)

falls : (a b : ℕ) → ltb a b ≡ true → a < b
falls a b e = grind (arith, nat_tests)

rises : (a b : ℕ) → ltb a b ≡ false → b ≤ a
rises a b e = grind (arith, nat_tests)

pub returns : goal.returns
returns c = λ k g m f us more measures read.
    let p = c.in-Some.span in
    let says = c.in-Some.ensures k g m f us more measures read in
    match_test (ltb p.last p.first) (λ e. backwards k c.args.by.now g measures us p says (falls p.last p.first e)) (λ e. forwards k c.args.by.now g measures us p says (rises p.last p.first e))
