use Rattle.std.proofs.Common.{subst, sym}
use Rattle.cil_syntax.specs.Around.{space_of}
use Rattle.cil_syntax.specs.Told.{Tells}
use Rattle.cil_syntax.proofs.Unread.{string_text}
use Rattle.cil_syntax.proofs.reader.Reader.keep_text.Goals as goal

pub returns-in-Quoted : goal.returns-in-Quoted
returns-in-Quoted c faults =
    let m = c.args.self.now.number in
    subst (λ w. Tells m (space_of c.args.self.now.place.now) w faults faults c.keep_string.result) (sym (string_text m c.args.self.now.text.now c.args.node.now _ c.in-Quoted.is)) (c.keep_string.ensures faults)
