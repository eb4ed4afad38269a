use Rattle.std.specs.Prelude.{codes, ◌++◌}
use Rattle.std.proofs.Common.{sym, subst}
use Rattle.cil_sexpr.specs.Faults.{number_of as read_number}
use Rattle.cil_server.specs.Replies.{newline, of_bundle_fault, spaced}
use Rattle.cil_server.specs.Streams.{Tells}
use Rattle.cil_server.proofs.StreamLemmas.{tells_four, tells_three}
use Rattle.cil_server.proofs.replies.put_bundle_fault.Goals as goal

pub returns-in-BadModule : goal.returns-in-BadModule
returns-in-BadModule g c =
    let code = read_number c.in-BadModule.fault.code in
    let front = tells_four c.args.output.now c.put.new.self c.put_number.new.output c.put_number-in-BadModule.new.output c.put_number-in-BadModule-2.new.output
    (codes "ERR") (spaced 14) (spaced c.in-BadModule.index) (spaced code) c.put.ensures c.put_number.ensures c.put_number-in-BadModule.ensures
    (subst (λ n. Tells c.put_number-in-BadModule.new.output c.put_number-in-BadModule-2.new.output (spaced n)) c.number.ensures c.put_number-in-BadModule-2.ensures) in
    subst (λ f. Tells c.args.output.now c.put-in-BadModule.new.self (of_bundle_fault f)) (sym c.in-BadModule.is)
    (tells_three c.args.output.now c.put_number-in-BadModule-2.new.output c.put_number-in-BadModule-3.new.output c.put-in-BadModule.new.self
    (codes "ERR" ++ spaced 14 ++ spaced c.in-BadModule.index ++ spaced code) (spaced c.in-BadModule.fault.at) newline front c.put_number-in-BadModule-3.ensures c.put-in-BadModule.ensures)
